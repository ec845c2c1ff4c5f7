use Rattle.std.proofs.Common.{ℕ, List, take, sym, ◌∙◌, ap, arith}
use Rattle.std.specs.Prelude.{◌==◌, not}
use Rattle.std.specs.List.{list_all}
use Rattle.redo_html.proofs.LineParts.{before_feed}
use Rattle.redo_html.proofs.symbol.ascii_run.Goals as goal

pub returns-then-bytes-at-eq10-clause-line : goal.returns-then-bytes-at-eq10-clause-line
returns-then-bytes-at-eq10-clause-line c = λ line more is.
    let low = before_feed c.unbroken_run-run.result line more
    (ap (λ (b : List ℕ). list_all (λ byte. not (byte == 10)) (take c.unbroken_run-run.result b)) (sym is)
    ∙ c.unbroken_run-run.ensures.line.1) in
    omega (arith, low)

pub returns-else-run-lt-LANES-clause-line : goal.returns-else-run-lt-LANES-clause-line
returns-else-run-lt-LANES-clause-line c = λ line more is.
    let low = before_feed c.unbroken_run-run.result line more
    (ap (λ (b : List ℕ). list_all (λ byte. not (byte == 10)) (take c.unbroken_run-run.result b)) (sym is)
    ∙ c.unbroken_run-run.ensures.line.1) in
    omega (arith, low)
