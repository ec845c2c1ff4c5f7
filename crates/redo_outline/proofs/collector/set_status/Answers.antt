use Rattle.std.proofs.Common.{ℤ, Some, w32, ap, ◌∙◌}
use Rattle.std.specs.Prelude.{not, slice_set}
use Rattle.std.proofs.lemmas.Int.{to_z-of_z}
use Rattle.redo_outline.proofs.CollectingLemmas.{no_status, status_is_set, status_set}
use Rattle.redo_outline.proofs.collector.set_status.Goals.{else-number-statuses-via-then-number-statuses+else-is_none, else-number-statuses-via-else-number-statuses}
use Rattle.redo_outline.proofs.collector.set_status.Goals as goal

pub returns-then-is_none : goal.returns-then-is_none
returns-then-is_none c =
    ap (λ (status : ℤ). slice_set c.args.statuses.now c.args.number (Some status)) (to_z-of_z w32 c.args.status c.ranges.status)
    ∙ status_set c.args.number c.args.status c.args.statuses.now c.if-number-statuses.true (c.is_none.ensures ∙ ap not c.if-is_none.true)

pub returns-else-number-statuses : goal.returns-else-number-statuses
returns-else-number-statuses c = elim c.else-number-statuses.branch [
  | else-number-statuses-via-then-number-statuses+else-is_none w ↦ status_is_set c.args.number c.args.status c.args.statuses.now
      w.if-number-statuses.true (w.is_none.ensures ∙ ap not w.if-is_none.false)
  | else-number-statuses-via-else-number-statuses w ↦ no_status c.args.number c.args.status c.args.statuses.now w.if-number-statuses.false
]
