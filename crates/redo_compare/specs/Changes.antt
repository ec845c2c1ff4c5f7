-- What is new in a target, and what is gone. A build that has no log of the target has no diagnostics of it.
use Rattle.std.specs.Prelude.{List, [], Option, None, Some}
use Rattle.redo_compare.specs.Occurrences.{OccurrenceValue}
use Rattle.redo_compare.specs.Rounds.{new_since}

abbrev pub all_or_none : Option (List OccurrenceValue) → List OccurrenceValue
all_or_none None = []
all_or_none (Some occurrences) = occurrences

-- The new diagnostics of a target.
abbrev pub new_in_target : Option (List OccurrenceValue) → Option (List OccurrenceValue) → List OccurrenceValue
new_in_target before now = new_since (all_or_none before) (all_or_none now)

-- The diagnostics of a target that are gone. Nothing is gone if the target has no log now, because it wasn't built.
abbrev pub gone_in_target : Option (List OccurrenceValue) → Option (List OccurrenceValue) → List OccurrenceValue
gone_in_target before None = []
gone_in_target before (Some now) = new_since now (all_or_none before)
