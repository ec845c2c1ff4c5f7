use Rattle.std.proofs.Common.{List, ℕ, take, sym, ◌∙◌, ap, arith}
use Rattle.std.specs.List.{list_all}
use Rattle.redo_html.specs.Laws.{is_plain}
use Rattle.redo_html.proofs.LineParts.{plain_in_line}
use Rattle.redo_html.proofs.symbol.verbatim_run.Goals as goal

pub returns-then-bytes-at-lt128-clause-verbatim : goal.returns-then-bytes-at-lt128-clause-verbatim
returns-then-bytes-at-lt128-clause-verbatim c = λ line more is.
    let run = c.ascii_run.result in
    plain_in_line line more run run (omega arith) (c.ascii_run.ensures.line line more is)
    (ap (λ (b : List ℕ). list_all is_plain (take run b)) (sym is) ∙ c.ascii_run.ensures.plain.1)
