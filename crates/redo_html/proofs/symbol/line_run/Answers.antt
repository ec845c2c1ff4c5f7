use Rattle.std.proofs.Common.{ℕ, List, take, sym, ◌∙◌, ap, arith}
use Rattle.std.specs.Prelude.{◌==◌, not}
use Rattle.std.specs.List.{list_all}
use Rattle.redo_html.proofs.LineParts.{before_feed}
use Rattle.redo_html.proofs.symbol.line_run.Goals as goal

pub returns-clause-line : goal.returns-clause-line
returns-clause-line c = λ line more is.
    let n = c.before_line_feed-before.result in
    let low = before_feed n line more
    (ap (λ (b : List ℕ). list_all (λ byte. not (byte == 10)) (take n b)) (sym is) ∙ c.before_line_feed-before.ensures.1) in
    let least = c.min.ensures in
    omega (arith, low, least)
