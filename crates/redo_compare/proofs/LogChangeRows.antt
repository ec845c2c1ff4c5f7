-- Rows of what changed in the logs of a build.
use Rattle.std.proofs.Common.{◌≡◌, ℕ, true, false, List, [], ◌∷◌, None, Some, refl}
use Rattle.std.specs.Prelude.{codes, pos}
use Rattle.redo_line.specs.Decimal.{number}
use Rattle.redo_line.specs.Parts.{after_prefix, split_once}
use Rattle.redo_line.specs.declared.entry.Entry.{Entry}
use Rattle.redo_line.specs.declared.entry.Entry.TheVariants.{Text, Closing}
use Rattle.redo_logs.specs.Logs.{Log}
use Rattle.redo_logs.specs.declared.log_state.LogState.TheVariants.{Ended}
use Rattle.redo_html.specs.Symbols.{is_sequence, sequence_len}
use Rattle.redo_diagnostics.specs.declared.severity.Severity.TheVariants.{Error}
use Rattle.redo_diagnostics.specs.Diagnostic.{before_bracket, diagnostic_of, first_place, masked_after, place_of, split_flag}
use Rattle.redo_diagnostics.specs.Plain.{plain_after}
use Rattle.redo_compare.specs.Occurrences.{OccurrenceValue}
use Rattle.redo_compare.specs.Source.{source_of}
use Rattle.redo_compare.specs.LogChanges.{are_new, diagnostics_in, earlier_number, gone_in_log, new_in_log}

abbrev log : List ℕ → List Entry → Log
log target entries = record { target = target; entries = entries; state = Ended }

abbrev x : Entry
x = Text (codes "error: x")

abbrev y : Entry
y = Text (codes "error: y")

-- The targets `a`, `b` and `d` were built, and now `c`, `b` and `a`.
abbrev earlier : List Log
earlier = log (codes "a") (x ∷ y ∷ []) ∷ log (codes "b") (y ∷ Closing 7 (pos 1) ∷ x ∷ []) ∷ log (codes "d") [] ∷ []

abbrev logs : List Log
logs = log (codes "c") (x ∷ []) ∷ log (codes "b") (Text (codes "b") ∷ y ∷ y ∷ x ∷ []) ∷ log (codes "a") (Closing 7 (pos 0) ∷ y ∷ []) ∷ []

abbrev found_x : ℕ → OccurrenceValue
found_x line = record { line = line; severity = Error; key = codes ": error: x"; source = [] }

abbrev found_y : ℕ → OccurrenceValue
found_y line = record { line = line; severity = Error; key = codes ": error: y"; source = [] }

these_logs : (earlier_number earlier logs 0 ≡ None) × (earlier_number earlier logs 1 ≡ Some 1) × (earlier_number earlier logs 2 ≡ Some 0)
    × (earlier_number earlier logs 3 ≡ None)
these_logs = (refl, refl, refl, refl)

these_diagnostics : (diagnostics_in logs 1 ≡ found_y 1 ∷ found_y 2 ∷ found_x 3 ∷ [])
    × (diagnostics_in logs 2 ≡ found_y 0 ∷ []) × (diagnostics_in logs 3 ≡ [])
unfolding after_prefix split_once number is_sequence sequence_len plain_after first_place place_of before_bracket split_flag masked_after diagnostic_of source_of
these_diagnostics = (refl, refl, refl)

these_new_in_logs : (new_in_log earlier logs 0 ≡ found_x 0 ∷ []) × (new_in_log earlier logs 1 ≡ found_y 2 ∷ [])
    × (new_in_log earlier logs 2 ≡ []) × (new_in_log earlier logs 3 ≡ [])
unfolding after_prefix split_once number is_sequence sequence_len plain_after first_place place_of before_bracket split_flag masked_after diagnostic_of source_of
these_new_in_logs = (refl, refl, refl, refl)

these_gone : (gone_in_log earlier logs 0 ≡ []) × (gone_in_log earlier logs 1 ≡ [])
    × (gone_in_log earlier logs 2 ≡ found_x 0 ∷ [])
unfolding after_prefix split_once number is_sequence sequence_len plain_after first_place place_of before_bracket split_flag masked_after diagnostic_of source_of
these_gone = (refl, refl, refl)

these_flags : (are_new earlier logs 0 ≡ true ∷ []) × (are_new earlier logs 1 ≡ false ∷ true ∷ false ∷ [])
    × (are_new earlier logs 2 ≡ false ∷ []) × (are_new earlier logs 3 ≡ [])
unfolding after_prefix split_once number is_sequence sequence_len plain_after first_place place_of before_bracket split_flag masked_after diagnostic_of source_of
these_flags = (refl, refl, refl, refl)

-- A log that doesn't exist, in builds with and without logs.
these_of_none : (gone_in_log earlier logs 3 ≡ []) × (earlier_number earlier [] 0 ≡ None) × (are_new earlier [] 0 ≡ [])
    × (gone_in_log earlier [] 0 ≡ []) × (earlier_number earlier earlier 3 ≡ None) × (are_new earlier earlier 3 ≡ [])
    × (gone_in_log earlier earlier 3 ≡ []) × (earlier_number [] earlier 3 ≡ None) × (are_new [] earlier 3 ≡ [])
    × (gone_in_log [] earlier 3 ≡ []) × (earlier_number (log (codes "a") (x ∷ []) ∷ []) (log (codes "a") (y ∷ []) ∷ []) 1 ≡ None)
    × (are_new (log (codes "a") (x ∷ []) ∷ []) (log (codes "a") (y ∷ []) ∷ []) 1 ≡ [])
    × (gone_in_log (log (codes "a") (x ∷ []) ∷ []) (log (codes "a") (y ∷ []) ∷ []) 1 ≡ [])
unfolding after_prefix split_once number is_sequence sequence_len plain_after first_place place_of before_bracket split_flag masked_after diagnostic_of source_of
these_of_none = (refl, refl, refl, refl, refl, refl, refl, refl, refl, refl, refl, refl, refl)
