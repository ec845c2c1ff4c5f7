-- How targets ended, in the baseline and now.
use Rattle.std.specs.Prelude.{ℕ, ◌==◌, Bool, true, false, not, ◌&&◌, ℤ, pos, zero, List, Option, None, Some, option_and_then, option_map, position, slice_get}
use Rattle.redo_outline.specs.declared.node.Node.{Node}
use Rattle.redo_outline.specs.Facts.{is_failure}
use Rattle.redo_compare.specs.declared.outcome.Outcome.{Outcome}

-- Whether a target failed. One that isn't in a build didn't.
abbrev pub has_failed : Option Outcome → Bool
has_failed None = false
has_failed (Some outcome) = is_failure outcome.status

-- Whether a target failed without a failure below it.
abbrev pub is_root_failure : Option Outcome → Bool
is_root_failure None = false
is_root_failure (Some outcome) = is_failure outcome.status && not outcome.fails_below

abbrev pub is_success : Option ℤ → Bool
is_success None = false
is_success (Some (pos zero)) = true
is_success (Some status) = false

-- Whether it is known that a target succeeded.
abbrev pub has_succeeded : Option Outcome → Bool
has_succeeded None = false
has_succeeded (Some outcome) = is_success outcome.status

-- Whether a target failed without a failure below it, and didn't fail before.
abbrev pub newly_fails : Option Outcome → Option Outcome → Bool
newly_fails before now = is_root_failure now && not (has_failed before)

-- Whether a target that failed before, without a failure below it, succeeded.
abbrev pub is_fixed : Option Outcome → Option Outcome → Bool
is_fixed before now = is_root_failure before && has_succeeded now

abbrev pub outcome_of : Node → Outcome
outcome_of node = record { status = node.status; fails_below = node.fails_below }

-- How the target of a log ended, as the outline of its build says. There may be no log, or none in the outline.
abbrev pub outcome_in : List Node → Option ℕ → Option Outcome
outcome_in nodes None = None
outcome_in nodes (Some number) =
    option_map outcome_of (option_and_then (slice_get nodes) (position (λ (node : Node). node.number == number) nodes))
