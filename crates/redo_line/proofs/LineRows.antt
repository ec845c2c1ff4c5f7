-- Examples of lines and of the fault of a stream without records, computed.
use Rattle.std.proofs.Common.{◌≡◌, [], ◌∷◌, ◌++◌, true, false, None, Some, refl}
use Rattle.std.specs.Prelude.{codes}
use Rattle.redo_line.specs.declared.stream_fault.StreamFault.TheVariants.{TooLong, Read}
use Rattle.redo_line.specs.Fault.{end_fault}
use Rattle.redo_line.specs.Lines.{line_feed, with_line_feed, split_lines, ended, rest, all_lines}

no_bytes : all_lines [] ≡ []
unfolding split_lines ended rest
no_bytes = refl

one_line : all_lines (codes "hello" ++ line_feed ∷ []) ≡ codes "hello" ∷ []
unfolding split_lines ended rest
one_line = refl

an_unended_line : all_lines (codes "x") ≡ codes "x" ∷ []
unfolding split_lines ended rest
an_unended_line = refl

a_line_and_a_rest : (ended (codes "abc" ++ line_feed ∷ codes "d") ≡ codes "abc" ∷ [])
    × (rest (codes "abc" ++ line_feed ∷ codes "d") ≡ codes "d")
unfolding split_lines ended rest
a_line_and_a_rest = (refl, refl)

a_carriage_return_stays : all_lines (codes "a" ++ 13 ∷ line_feed ∷ []) ≡ (codes "a" ++ 13 ∷ []) ∷ []
unfolding split_lines ended rest
a_carriage_return_stays = refl

empty_lines : all_lines (line_feed ∷ line_feed ∷ codes " a " ++ line_feed ∷ codes " b") ≡ [] ∷ [] ∷ codes " a " ∷ codes " b" ∷ []
unfolding split_lines ended rest
empty_lines = refl

within_the_limit : end_fault 4 (record { bytes = codes "abc" ++ line_feed ∷ []; fails = false }) ≡ None
within_the_limit = refl

past_the_limit : end_fault 4 (record { bytes = codes "abc" ++ line_feed ∷ codes "d"; fails = true }) ≡ Some TooLong
past_the_limit = refl

a_failed_read : end_fault 4 (record { bytes = codes "x" ++ line_feed ∷ []; fails = true }) ≡ Some Read
a_failed_read = refl

as_it_stands : with_line_feed (codes "ab") ≡ 97 ∷ 98 ∷ 10 ∷ []
as_it_stands = refl
