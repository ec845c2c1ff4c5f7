use Rattle.std.proofs.Common.{◌≡◌, count_by, take}
use Rattle.redo_compare.proofs.log_changes.count_set.Given as goal

abbrev pub invariant-loop-is_set : goal.invariant-loop-is_set
invariant-loop-is_set l = l.count ≡ count_by (λ is. is) (take l.is_set-index l.flags)
