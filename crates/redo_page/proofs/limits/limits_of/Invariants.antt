use Rattle.std.proofs.Common.{◌≡◌, ◌-◌, ◌++◌, length}
use Rattle.redo_page.proofs.LimitLemmas.{limits_from}
use Rattle.redo_page.specs.Private.Referring.{build_value}
use Rattle.redo_page.proofs.limits.limits_of.Given as goal

abbrev pub invariant-loop-number : goal.invariant-loop-number
invariant-loop-number l =
    l.limits.items ++ limits_from (build_value l.build) l.cap l.number (length l.build.table.now - l.number)
    ≡ limits_from (build_value l.build) l.cap 0 (length l.build.table.now)
