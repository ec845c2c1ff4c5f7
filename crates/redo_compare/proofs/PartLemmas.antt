-- What a round doesn't know is a part of what it is given, in order.
use Rattle.std.proofs.Common.{◌≤◌, Bool, true, false, cond, List, [], ◌∷◌, length, arith}
use Rattle.std.specs.Prelude.{filter}
use Rattle.redo_compare.specs.Laws.{IsPart}
use Rattle.redo_compare.specs.Laws.IsPart.{none, kept, dropped}
use Rattle.redo_compare.specs.Occurrences.{OccurrenceValue}
use Rattle.redo_compare.specs.Rounds.{left_after, new_since, occurs, same_key, same_source, unknown_in, without}
use Rattle.redo_compare.proofs.RoundLemmas.{filter-cons}

all-part : (all : List OccurrenceValue) → IsPart all all
all-part [] = none
all-part (one ∷ others) = kept one (all-part others)

unknown-part : (same : OccurrenceValue → OccurrenceValue → Bool) {some all : List OccurrenceValue} (left : List OccurrenceValue)
    → IsPart some all → IsPart (unknown_in same left some) all
unknown-part same left none = none
unknown-part same left (kept one {some} {all} part) =
    by (occurs same one left) (unknown-part same (without same one left) part) (unknown-part same left part)
  where
    by : (b : Bool) → IsPart (unknown_in same (without same one left) some) all → IsPart (unknown_in same left some) all
        → IsPart (cond b (unknown_in same (without same one left) some) (one ∷ unknown_in same left some)) (one ∷ all)
    by true known unknown = dropped one known
    by false known unknown = kept one unknown
unknown-part same left (dropped one part) = dropped one (unknown-part same left part)

pub new-of-unknown : (earlier now : List OccurrenceValue) → IsPart (new_since earlier now) (unknown_in same_source earlier now)
new-of-unknown earlier now =
    unknown-part same_key (left_after same_source earlier now) (all-part (unknown_in same_source earlier now))

pub new-part : (earlier now : List OccurrenceValue) → IsPart (new_since earlier now) now
new-part earlier now =
    unknown-part same_key (left_after same_source earlier now) (unknown-part same_source earlier (all-part now))

pub part-low : (test : OccurrenceValue → Bool) {some all : List OccurrenceValue} → IsPart some all
    → length (filter test some) ≤ length (filter test all)
part-low test none = omega arith
part-low test (kept one {some} {all} part) =
    let rest = part-low test part in
    omega (arith, rest, filter-cons test one some, filter-cons test one all)
part-low test (dropped one {some} {all} part) =
    let rest = part-low test part in
    omega (arith, rest, filter-cons test one all)
