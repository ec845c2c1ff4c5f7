use Rattle.std.proofs.Common.{◌≡◌, ◌∙◌, ◌+◌, ℕ, List, Err, ap, arith, sym, subst}
use Rattle.std.proofs.lemmas.Result.{err_from_is_err_and}
use Rattle.redo_compare.specs.Rounds.{picked}
use Rattle.redo_device.specs.Sink.{append_output}
use Rattle.redo_view.specs.Form.{FormWrites}
use Rattle.redo_new.specs.News.{diagnostic_lines}
use Rattle.redo_new.specs.Private.Sections.{new_among, new_text}
use Rattle.redo_new.proofs.FormLemmas.{begin, left_is, no_memory, part_failed, wrote_all, wrote_more}
use Rattle.redo_new.proofs.LineLemmas.{after_skipped, diagnostic_next, fewer_after, nothing_left, other_next}
use Rattle.redo_new.proofs.lines.write_flagged.Goals as goal

pub lines-init : goal.lines-init
lines-init g c = (
  begin _ _ _ (ap (λ (lines : List (List ℕ)). new_text c.target_at-target.result.now (new_among c.args.flags.now 0 lines))
      c.new-lines.ensures.left),
  omega arith,
)

pub returns-in_default : goal.returns-in_default
returns-in_default g c =
    subst (λ (target : List ℕ). g.W.Sink.written c.lines.out ≡ append_output (g.W.Sink.written c.args.out.now)
    (new_text target (picked c.args.flags.now (diagnostic_lines c.args.table.now c.args.number))) 0) c.target_at-target.ensures
    (wrote_all _ _ _ (left_is _ _ _ _ _
    (after_skipped c.target_at-target.result.now c.args.flags.now c.lines.next _ _ c.skip_others.ensures
    ∙ nothing_left c.target_at-target.result.now c.args.flags.now c.lines.next _ c.in_default.ensures.line) c.lines.invariant.0))

pub returns-in_err-is_diagnostic : goal.returns-in_err-is_diagnostic
returns-in_err-is_diagnostic g c =
    subst (λ (target : List ℕ). FormWrites (g.W.Sink.written c.args.out.now) (g.W.Sink.written c.lines.out)
    (new_text target (picked c.args.flags.now (diagnostic_lines c.args.table.now c.args.number))) c.from_residual.result)
    c.target_at-target.ensures (no_memory _ _ _ _ _ c.from_residual.ensures.1 c.lines.invariant.0)

pub returns-in_err-write_if_set : goal.returns-in_err-write_if_set
returns-in_err-write_if_set g c =
    let given = err_from_is_err_and c.from_residual-in_err-write_if_set.result c.from_residual-in_err-write_if_set.ensures.1 in
    rw (given.1, given.2) (subst (λ (target : List ℕ).
    FormWrites (g.W.Sink.written c.args.out.now) (g.W.Sink.written c.write_if_set.new.out)
    (new_text target (picked c.args.flags.now (diagnostic_lines c.args.table.now c.args.number))) (Err c.in_err-write_if_set.field-0.0))
    c.target_at-target.ensures
    (part_failed _ _ _ _ _
    (new_text c.target_at-target.result.now (new_among c.args.flags.now (c.lines.next + 1) c.next_line.new.self.left)) _
    (left_is _ _ _ _ _ (diagnostic_next c.target_at-target.result.now c.args.flags.now c.lines.next _ _ c.in-Some.line.now _
    c.skip_others.ensures c.in-Some.ensures.line (sym c.in_ok-is_diagnostic.ensures ∙ c.if-branch.true)) c.lines.invariant.0)
    c.in_err-write_if_set.ensures))

pub lines-smaller-then-branch : goal.lines-smaller-then-branch
lines-smaller-then-branch g c = fewer_after _ _ c.in-Some.line.now _ c.skip_others.ensures c.in-Some.ensures.line

pub lines-preserved-then-branch : goal.lines-preserved-then-branch
lines-preserved-then-branch g c =
    let low = c.lines.invariant.1 in
    let skipped = c.skip_others.ensures.done in
    let done = c.in-Some.ensures.done in (
      wrote_more _ _ _ _ _ _
          (left_is _ _ _ _ _ (diagnostic_next c.target_at-target.result.now c.args.flags.now c.lines.next _ _ c.in-Some.line.now _
          c.skip_others.ensures c.in-Some.ensures.line (sym c.in_ok-is_diagnostic.ensures ∙ c.if-branch.true))
          c.lines.invariant.0) c.in_ok-write_if_set.ensures,
      omega (arith, low, skipped, done),
    )

pub lines-smaller : goal.lines-smaller
lines-smaller g c = fewer_after _ _ c.in-Some.line.now _ c.skip_others.ensures c.in-Some.ensures.line

pub lines-preserved : goal.lines-preserved
lines-preserved g c =
    let low = c.lines.invariant.1 in
    let skipped = c.skip_others.ensures.done in
    let done = c.in-Some.ensures.done in (
      left_is _ _ _ _ _ (other_next c.target_at-target.result.now c.args.flags.now c.lines.next _ _ c.in-Some.line.now _
          c.skip_others.ensures c.in-Some.ensures.line (sym c.in_ok-is_diagnostic.ensures ∙ c.if-branch.false))
          c.lines.invariant.0,
      omega (arith, low, skipped, done),
    )
