-- The laws about what is new since a baseline.
use Rattle.std.proofs.Common.{◌≡◌, ℕ, zero, suc, Bool, List, [], ◌∷◌, ◌++◌, Option, None, Some, length, map, option_map, slice_get, refl, ap, ◌∙◌}
use Rattle.std.specs.List.{AllByRecursion}
use Rattle.std.proofs.lemmas.List.{length-map}
use Rattle.redo_logs.specs.Logs.{Log}
use Rattle.redo_view.specs.Event.{Event}
use Rattle.redo_outline.specs.Contents.{Contents, contents_of}
use Rattle.redo_outline.specs.Contents.Contents.{Nothing, Shown, Opened}
use Rattle.redo_outline.specs.Facts.{entries_at, target_at, target_status, texts_of}
use Rattle.redo_outline.specs.Outline.{node_of}
use Rattle.redo_compare.specs.Baseline.{BaselineValue, target_changes}
use Rattle.redo_compare.specs.LogChanges.{are_new, diagnostics_in, is_new, new_in_log}
use Rattle.redo_compare.specs.Occurrences.{OccurrenceValue, first_source, occurrence_if, occurrences_from}
use Rattle.redo_diagnostics.specs.Counts.{times_of}
use Rattle.redo_diagnostics.specs.Diagnostic.{PartsValue, diagnostic_from, diagnostic_of, key_of, parts_of}
use Rattle.redo_json.specs.Build.{Request, build_events, build_values, values_in}
use Rattle.redo_json.specs.Diagnostics.{FlaggedDiagnostic, LogDiagnostic, diagnostics_of, flagged, numbered_from, placed_from, placed_if}
use Rattle.redo_json.specs.Laws.{flagged_by_line, is_new_line, unflagged}
use Rattle.redo_json.specs.Object.{LogValues}
use Rattle.redo_json.proofs.OpeningLemmas.{all-append}

-- ---- flags

-- The flag of each diagnostic is the one at its position.
pub flag_at : (flags : List Bool) (diagnostics : List LogDiagnostic) (position : ℕ)
    → slice_get (flagged (Some flags) diagnostics) position
    ≡ option_map (λ (one : LogDiagnostic). (one, slice_get flags position)) (slice_get diagnostics position)
flag_at flags [] position = refl
flag_at flags (one ∷ others) zero = refl
flag_at [] (one ∷ others) (suc position) = flag_at [] others position
flag_at (flag ∷ flags) (one ∷ others) (suc position) = flag_at flags others position

pub none_flagged : (diagnostics : List LogDiagnostic) → flagged None diagnostics ≡ map unflagged diagnostics
none_flagged [] = refl
none_flagged (one ∷ others) = ap (λ (l : List FlaggedDiagnostic). unflagged one ∷ l) (none_flagged others)

-- ---- the diagnostics of both crates

both_found : (keys : List (List ℕ)) (position : ℕ) (lines : List (List ℕ))
    → length (occurrences_from position lines) ≡ length (numbered_from keys (placed_from position lines))
unfolding diagnostic_of
both_found keys position [] = refl
both_found keys position (line ∷ lines) =
    by (parts_of line) (both_found keys (suc position) lines) (λ key. both_found (keys ++ key ∷ []) (suc position) lines)
  where
    by : (found : Option PartsValue)
        → length (occurrences_from (suc position) lines) ≡ length (numbered_from keys (placed_from (suc position) lines))
        → ((key : List ℕ) → length (occurrences_from (suc position) lines)
        ≡ length (numbered_from (keys ++ key ∷ []) (placed_from (suc position) lines)))
        → length (occurrence_if position found (first_source lines) (occurrences_from (suc position) lines))
        ≡ length (numbered_from keys (placed_if position (option_map diagnostic_from found) (placed_from (suc position) lines)))
    by None others after = others
    by (Some parts) others after = ap suc (after (key_of parts))

-- There is a flag for each diagnostic.
pub as_many : (earlier logs : List Log) (number : ℕ)
    → length (are_new earlier logs number) ≡ length (diagnostics_of (texts_of (entries_at number logs)))
as_many earlier logs number =
    length-map (diagnostics_in logs number) (is_new earlier logs number)
    ∙ both_found [] 0 (texts_of (entries_at number logs))

module _ (new : List OccurrenceValue) where
  abbrev in_new_line : OccurrenceValue → Bool
  in_new_line one = is_new_line new one.line

  by_lines : (keys : List (List ℕ)) (position : ℕ) (lines : List (List ℕ))
      → flagged (Some (map in_new_line (occurrences_from position lines))) (numbered_from keys (placed_from position lines))
      ≡ map (flagged_by_line new) (numbered_from keys (placed_from position lines))
  unfolding diagnostic_of
  by_lines keys position [] = refl
  by_lines keys position (line ∷ lines) =
      by (parts_of line) (by_lines keys (suc position) lines) (λ key. by_lines (keys ++ key ∷ []) (suc position) lines)
    where
      by : (found : Option PartsValue)
          → flagged (Some (map in_new_line (occurrences_from (suc position) lines))) (numbered_from keys (placed_from (suc position) lines))
          ≡ map (flagged_by_line new) (numbered_from keys (placed_from (suc position) lines))
          → ((key : List ℕ) → flagged (Some (map in_new_line (occurrences_from (suc position) lines)))
          (numbered_from (keys ++ key ∷ []) (placed_from (suc position) lines))
          ≡ map (flagged_by_line new) (numbered_from (keys ++ key ∷ []) (placed_from (suc position) lines)))
          → flagged (Some (map in_new_line (occurrence_if position found (first_source lines) (occurrences_from (suc position) lines))))
          (numbered_from keys (placed_if position (option_map diagnostic_from found) (placed_from (suc position) lines)))
          ≡ map (flagged_by_line new)
          (numbered_from keys (placed_if position (option_map diagnostic_from found) (placed_from (suc position) lines)))
      by None others after = others
      by (Some parts) others after =
          let key = key_of parts in
          let one : LogDiagnostic = record { line = position; value = diagnostic_from parts; nth = times_of key keys } in
          ap (λ (l : List FlaggedDiagnostic). flagged_by_line new one ∷ l) (after key)

pub in_new_lines : (earlier logs : List Log) (number : ℕ)
    → flagged (Some (are_new earlier logs number)) (diagnostics_of (texts_of (entries_at number logs)))
    ≡ map (flagged_by_line (new_in_log earlier logs number)) (diagnostics_of (texts_of (entries_at number logs)))
in_new_lines earlier logs number = by_lines (new_in_log earlier logs number) [] 0 (texts_of (entries_at number logs))

-- ---- without a baseline

module _ (request : Request) (logs : List Log) (events : List Event) (none : request.baseline ≡ None) where
  abbrev HasNoChanges : LogValues → Type 0
  HasNoChanges values = values.changes ≡ None

  no_changes : (parent : Option (List ℕ)) (contents : Contents)
      → AllByRecursion HasNoChanges (values_in request logs (target_status logs events) parent contents)
  no_changes parent Nothing = tt
  no_changes parent (Shown event rest) = no_changes parent rest
  no_changes parent (Opened event number inside rest) = (
    ap (option_map (λ (baseline : BaselineValue). target_changes baseline logs
        (node_of logs (target_status logs events) None number inside rest))) none,
    all-append HasNoChanges (values_in request logs (target_status logs events) (Some (target_at logs number)) inside)
        (values_in request logs (target_status logs events) parent rest)
        (no_changes (Some (target_at logs number)) inside) (no_changes parent rest),
  )

pub nothing_compared : (request : Request) (logs : List Log) (requested : List (List ℕ)) → request.baseline ≡ None
    → AllByRecursion (λ (values : LogValues). values.changes ≡ None) (build_values request logs requested)
nothing_compared request logs requested none =
    no_changes request logs (build_events request logs requested) none None (contents_of (build_events request logs requested))
