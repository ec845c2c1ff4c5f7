-- Flags of the diagnostics of a log.
use Rattle.std.proofs.Common.{◌≡◌, ℕ, zero, suc, ◌+◌, ◌<◌, ◌≤◌, Bool, true, false, cond, List, [], ◌∷◌, Option, None, Some, length, map, refl, sym, ap, ◌∙◌, inl, inr, nat_eq, slice_get, arith}
use Rattle.std.specs.Prelude.{⊤, ◌==◌, ◌||◌, count_by, option_and_then, option_map}
use Rattle.std.specs.List.{AllByRecursion, IsDistinct, list_any, position_from}
use Rattle.std.proofs.lemmas.Bool.Decides.{eqb_tells}
use Rattle.std.specs.Cmp.Lexicographic.{pointwise}
use Rattle.std.proofs.lemmas.Cmp.{nat_list_eq_equiv}
use Rattle.std.proofs.lemmas.Iterator.Adapters.{position_from-zero}
use Rattle.std.proofs.lemmas.List.Sums.{sum_by-cons}
use Rattle.std.proofs.lemmas.Option.{none-some, same_Some}
use Rattle.redo_diagnostics.specs.Diagnostic.{PartsValue, parts_of}
use Rattle.redo_line.specs.declared.entry.Entry.{Entry}
use Rattle.redo_logs.specs.Logs.{IsTable, Log, log_number, targets_of}
use Rattle.redo_outline.specs.Facts.{entries_at, texts_of}
use Rattle.redo_compare.specs.Changes.{all_or_none, gone_in_target, new_in_target}
use Rattle.redo_compare.specs.Laws.{IsPart}
use Rattle.redo_compare.specs.Laws.IsPart.{none, kept, dropped}
use Rattle.redo_compare.specs.Occurrences.{OccurrenceValue, first_source, occurrence_if, occurrences_from, occurrences_of}
use Rattle.redo_compare.specs.Rounds.{new_since, picked}
use Rattle.redo_compare.specs.LogChanges.{are_new, diagnostics_in, earlier_diagnostics, earlier_number, gone_in_log, new_in_log}
use Rattle.redo_compare.proofs.KindLemmas.{all-new, none-since-same}
use Rattle.redo_compare.proofs.PartLemmas.{new-part}

-- The lines of diagnostics ascend from `low` on.
abbrev Ascend : ℕ → List OccurrenceValue → Type 0
Ascend low [] = ⊤
Ascend low (one ∷ others) = (low ≤ one.line) × Ascend (suc one.line) others

lower : (low high : ℕ) (all : List OccurrenceValue) → low ≤ high → Ascend high all → Ascend low all
lower low high [] below ascend = tt
lower low high (one ∷ others) below ascend = let first = ascend.0 in (omega (arith, below, first), ascend.1)

pub lines-ascend : (position : ℕ) (lines : List (List ℕ)) → Ascend position (occurrences_from position lines)
lines-ascend position [] = tt
lines-ascend position (line ∷ lines) = by (parts_of line) (lines-ascend (suc position) lines)
  where
    by : (found : Option PartsValue) → Ascend (suc position) (occurrences_from (suc position) lines)
        → Ascend position (occurrence_if position found (first_source lines) (occurrences_from (suc position) lines))
    by None rest = lower position (suc position) (occurrences_from (suc position) lines) (omega arith) rest
    by (Some value) rest = (omega arith, rest)

-- Whether one of some diagnostics has this line.
abbrev pub has_line : ℕ → List OccurrenceValue → Bool
has_line line some = list_any (λ (one : OccurrenceValue). one.line == line) some

same-line : (line : ℕ) → (line == line) ≡ true
same-line line = elim (eqb_tells line line) [ inl is ↦ is.0 | inr differs ↦ absurd (differs.1 refl) ]

other-line : (line other : ℕ) → (line ≡ other → ⊥) → (line == other) ≡ false
other-line line other differ = elim (eqb_tells line other) [ inl is ↦ absurd (differ is.1) | inr differs ↦ differs.0 ]

either : (first second is : Bool) → first ≡ false → second ≡ is → (first || second) ≡ is
either first second is not_first same = (λ i. not_first i || second) ∙ same

-- A line before all lines.
absent : (line low : ℕ) (flags : List Bool) (all : List OccurrenceValue) → line < low → Ascend low all
    → has_line line (picked flags all) ≡ false
absent line low [] all below ascend = refl
absent line low (flag ∷ flags) [] below ascend = refl
absent line low (true ∷ flags) (one ∷ others) below ascend =
    let first = ascend.0 in
    either _ _ false (other-line one.line line (λ same. omega (arith, same, below, first)))
    (absent line (suc one.line) flags others (omega (arith, below, first)) ascend.1)
absent line low (false ∷ flags) (one ∷ others) below ascend =
    let first = ascend.0 in
    absent line (suc one.line) flags others (omega (arith, below, first)) ascend.1

-- The first one has none of the later lines.
skip-first : (one : OccurrenceValue) (some : List OccurrenceValue) (low : ℕ) (all : List OccurrenceValue) → one.line < low
    → Ascend low all
    → map (λ (other : OccurrenceValue). has_line other.line (one ∷ some)) all
    ≡ map (λ (other : OccurrenceValue). has_line other.line some) all
skip-first one some low [] below ascend = refl
skip-first one some low (other ∷ others) below ascend =
    let first = ascend.0 in
    λ i. either (one.line == other.line) (has_line other.line some) (has_line other.line some)
    (other-line one.line other.line (λ same. omega (arith, same, below, first))) refl i
    ∷ skip-first one some (suc other.line) others (omega (arith, below, first)) ascend.1 i

-- The flags by which some diagnostics are picked say of each whether its line is one of theirs.
pub flags-are : (low : ℕ) (flags : List Bool) (all : List OccurrenceValue) → length flags ≡ length all → Ascend low all
    → flags ≡ map (λ (one : OccurrenceValue). has_line one.line (picked flags all)) all
flags-are low [] [] same ascend = refl
flags-are low [] (one ∷ others) same ascend = absurd (omega (arith, same))
flags-are low (flag ∷ flags) [] same ascend = absurd (omega (arith, same))
flags-are low (true ∷ flags) (one ∷ others) same ascend =
    let rest = flags-are (suc one.line) flags others (omega (arith, same)) ascend.1
    ∙ sym (skip-first one (picked flags others) (suc one.line) others (omega arith) ascend.1) in
    λ i. sym (ap (λ (is : Bool). is || has_line one.line (picked flags others)) (same-line one.line)) i ∷ rest i
flags-are low (false ∷ flags) (one ∷ others) same ascend =
    let rest = flags-are (suc one.line) flags others (omega (arith, same)) ascend.1 in
    λ i. sym (absent one.line (suc one.line) flags others (omega arith) ascend.1) i ∷ rest i

pub count-picked : (flags : List Bool) (all : List OccurrenceValue) → length flags ≡ length all
    → count_by (λ is. is) flags ≡ length (picked flags all)
count-picked [] [] same = refl
count-picked [] (one ∷ others) same = absurd (omega (arith, same))
count-picked (flag ∷ flags) [] same = absurd (omega (arith, same))
count-picked (true ∷ flags) (one ∷ others) same =
    let rest = count-picked flags others (omega (arith, same)) in
    sum_by-cons (λ (is : Bool). cond is 1 0) true flags ∙ omega (arith, rest)
count-picked (false ∷ flags) (one ∷ others) same =
    let rest = count-picked flags others (omega (arith, same)) in
    sum_by-cons (λ (is : Bool). cond is 1 0) false flags ∙ omega (arith, rest)

-- A part is picked by some flags.
part-flags : {some all : List OccurrenceValue} → IsPart some all
    → (flags : List Bool) × (length flags ≡ length all) × (picked flags all ≡ some)
part-flags none = ([], refl, refl)
part-flags (kept one part) =
    let rest = part-flags part in
    (true ∷ rest.0, ap suc rest.1, ap (λ (l : List OccurrenceValue). one ∷ l) rest.2)
part-flags (dropped one part) = let rest = part-flags part in (false ∷ rest.0, ap suc rest.1, rest.2)

-- ---- a log

module _ (earlier logs : List Log) (number : ℕ) where
  abbrev now-is : List OccurrenceValue
  now-is = diagnostics_in logs number

  abbrev before-is : List OccurrenceValue
  before-is = all_or_none (earlier_diagnostics earlier logs number)

  pub new-flags : (before now : List OccurrenceValue) (flags : List Bool) → before ≡ before-is → now ≡ now-is → length flags ≡ length now
      → picked flags now ≡ new_since before now → flags ≡ are_new earlier logs number
  new-flags before now flags same_before same_now same new =
      flags-are 0 flags now-is (same ∙ ap length same_now) (lines-ascend 0 (texts_of (entries_at number logs)))
      ∙ ap (λ (some : List OccurrenceValue). map (λ (one : OccurrenceValue). has_line one.line some) now-is)
      (sym (ap (picked flags) same_now) ∙ new ∙ (λ i. new_since (same_before i) (same_now i)))

  pub gone-count : (before now : List OccurrenceValue) (flags : List Bool) → before ≡ before-is → now ≡ now-is
      → length flags ≡ length before → picked flags before ≡ new_since now before
      → count_by (λ is. is) flags ≡ length (gone_in_log earlier logs number)
  gone-count before now flags same_before same_now same gone =
      count-picked flags before same ∙ ap length (gone ∙ (λ i. new_since (same_now i) (same_before i)))

  -- ---- the laws

  pub picks-new : picked (are_new earlier logs number) (diagnostics_in logs number) ≡ new_in_log earlier logs number
  picks-new =
      let part = part-flags (new-part before-is now-is) in
      sym (ap (λ (flags : List Bool). picked flags now-is) (new-flags before-is now-is part.0 refl refl part.1 part.2)) ∙ part.2

  pub none-before : earlier_number earlier logs number ≡ None
      → (new_in_log earlier logs number ≡ diagnostics_in logs number) × (gone_in_log earlier logs number ≡ [])
  none-before missing = (
    ap (λ (other : Option ℕ). new_in_target (option_map (diagnostics_in earlier) other) (Some now-is)) missing ∙ all-new now-is,
    ap (λ (other : Option ℕ). gone_in_target (option_map (diagnostics_in earlier) other) (Some now-is)) missing,
  )

  same-before : before-is ≡ now-is → (new_in_log earlier logs number ≡ []) × (gone_in_log earlier logs number ≡ [])
  same-before same = (
    ap (λ (before : List OccurrenceValue). new_since before now-is) same ∙ none-since-same now-is,
    ap (λ (before : List OccurrenceValue). new_since now-is before) same ∙ none-since-same now-is,
  )

  pub same-lines : (other : ℕ) → earlier_number earlier logs number ≡ Some other
      → texts_of (entries_at other earlier) ≡ texts_of (entries_at number logs)
      → (new_in_log earlier logs number ≡ []) × (gone_in_log earlier logs number ≡ [])
  same-lines other is same =
      same-before (ap (λ (other : Option ℕ). all_or_none (option_map (diagnostics_in earlier) other)) is ∙ ap occurrences_of same)

-- ---- the same build

unlike : (first target : List ℕ) (names : List (List ℕ)) (k : ℕ) → AllByRecursion (λ other. pointwise nat_eq first other ≡ false) names
    → slice_get names k ≡ Some target → pointwise nat_eq target first ≡ false
unlike first target [] k differ there = absurd (none-some target there)
unlike first target (name ∷ names) zero differ there =
    ap (λ (n : List ℕ). pointwise nat_eq n first) (sym (same_Some name target there)) ∙ nat_list_eq_equiv.symm name first ∙ differ.0
unlike first target (name ∷ names) (suc k) differ there = unlike first target names k differ.1 there

own-from : (names : List (List ℕ)) (from k : ℕ) (target : List ℕ) → IsDistinct (pointwise nat_eq) names → slice_get names k ≡ Some target
    → position_from (pointwise nat_eq target) from names ≡ Some (from + k)
unfolding IsDistinct
own-from [] from k target differ there = absurd (none-some target there)
own-from (name ∷ names) from zero target differ there =
    let here : from ≡ from + 0 = omega arith in
    ap (λ (is : Bool). cond is (Some from) (position_from (pointwise nat_eq target) (from + 1) names))
    (ap (pointwise nat_eq target) (same_Some name target there) ∙ nat_list_eq_equiv.refl target) ∙ ap Some here
own-from (name ∷ names) from (suc k) target differ there =
    let here : from + 1 + k ≡ from + suc k = omega arith in
    ap (λ (is : Bool). cond is (Some from) (position_from (pointwise nat_eq target) (from + 1) names))
    (unlike name target names k differ.0 there) ∙ own-from names (from + 1) k target differ.1 there ∙ ap Some here

no-entries : (logs : List Log) (number : ℕ) → slice_get (targets_of logs) number ≡ None → entries_at number logs ≡ []
no-entries [] number missing = refl
no-entries (log ∷ logs) zero missing = absurd (none-some log.target (sym missing))
no-entries (log ∷ logs) (suc number) missing = no-entries logs number missing

pub same-build : (logs : List Log) → IsTable logs → (number : ℕ)
    → (new_in_log logs logs number ≡ []) × (gone_in_log logs logs number ≡ [])
same-build logs table number = same-before logs logs number (by (slice_get (targets_of logs) number) refl)
  where
    by : (found : Option (List ℕ)) → slice_get (targets_of logs) number ≡ found
        → all_or_none (option_map (diagnostics_in logs) (option_and_then (λ (target : List ℕ). log_number target logs) found))
        ≡ diagnostics_in logs number
    by None missing = sym (ap (λ (entries : List Entry). occurrences_of (texts_of entries)) (no-entries logs number missing))
    by (Some target) there =
        let here : 0 + number ≡ number = omega arith in
        ap (λ (other : Option ℕ). all_or_none (option_map (diagnostics_in logs) other))
        (position_from-zero (pointwise nat_eq target) (targets_of logs)
        ∙ own-from (targets_of logs) 0 number target table.targets_differ there ∙ ap Some here)
