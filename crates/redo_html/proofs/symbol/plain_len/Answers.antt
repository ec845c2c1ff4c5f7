use Rattle.std.proofs.Common.{◌≡◌, List, ℕ, true, take, drop, subst, arith}
use Rattle.std.specs.List.{list_all}
use Rattle.std.proofs.lemmas.List.{take_rest}
use Rattle.redo_html.specs.Laws.{is_plain}
use Rattle.redo_html.proofs.VerbatimLemmas.{plain_more}
use Rattle.redo_html.proofs.symbol.plain_len.Goals as goal

pub loop-len-preserved : goal.loop-len-preserved
loop-len-preserved c =
    let bytes = c.args.bytes.now in
    let len = c.loop-len.len in (
      omega (arith, c.loop-len-test.true, c.loop-len.invariant.0, c.plain_run-run.ensures.0),
      plain_more len c.plain_run-run.result bytes c.loop-len.invariant.1 c.plain_run-run.ensures.1,
    )

pub returns-then-run-lt-LANES-clause-plain : goal.returns-then-run-lt-LANES-clause-plain
returns-then-run-lt-LANES-clause-plain c =
    plain_more c.loop-len.len c.plain_run-run.result c.args.bytes.now c.loop-len.invariant.1 c.plain_run-run.ensures.1

pub returns-clause-plain : goal.returns-clause-plain
returns-clause-plain c =
    let bytes = c.args.bytes.now in
    let len = c.loop-len.len in
    let last : list_all is_plain (take c.plain_bytes_len.result (drop len bytes)) ≡ true =
    subst (λ (b : List ℕ). list_all is_plain (take c.plain_bytes_len.result b) ≡ true) (take_rest bytes len)
    c.plain_bytes_len.ensures.plain in
    plain_more len c.plain_bytes_len.result bytes c.loop-len.invariant.1 last
