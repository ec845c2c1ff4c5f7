-- The fault of lines is the fault of the first invalid one, index by index.
use Rattle.std.proofs.Common.{◌≡◌, ◌⊎◌, inl, inr, ℕ, zero, suc, ◌+◌, ◌<◌, Bool, true, false, List, [], ◌∷◌, ◌++◌, Option, None, Some, option_to_list, length, ltb, refl, sym, ◌∙◌, ap, subst, arith}
use Rattle.std.specs.List.{slice_get}
use Rattle.std.proofs.lemmas.Bool.{false≢true, ltb-true, ltb-false}
use Rattle.std.proofs.Math.Nat.{eq-or-lt_of_le}
use Rattle.redo_line.specs.declared.entry.Entry.{Entry}
use Rattle.redo_line.specs.declared.stream_fault.StreamFault.{StreamFault}
use Rattle.redo_line.specs.declared.stream_fault.StreamFault.TheVariants.{BadRecord, AfterClose}
use Rattle.redo_line.specs.Entry.{entry_of}
use Rattle.redo_line.specs.Lines.{ended, rest, unended}
use Rattle.redo_line.specs.Log.{closes, IsAfterClose, IsBadRecord, HasFault, IsFirstFault, line_entries, entries_of, first_fault, line_fault}
use Rattle.redo_line.proofs.FaultLemmas.{rest_entries}

-- The entry at this index directly follows an entry that closes the log; `closed` is whether such an entry is before the first one.
abbrev Late : List (Option Entry) → ℕ → Bool → Type 0
Late [] place closed = ⊥
Late (entry ∷ entries) zero closed = closed ≡ true
Late (entry ∷ entries) (suc place) closed = Late entries place (closes entry)

-- The line at this index has no entry.
abbrev Bad : List (Option Entry) → ℕ → Type 0
Bad [] place = ⊥
Bad (entry ∷ entries) zero = entry ≡ None
Bad (entry ∷ entries) (suc place) = Bad entries place

-- The line at this index is invalid with this fault; the first line has the number `line`.
abbrev AtFault : Bool → ℕ → List (Option Entry) → ℕ → StreamFault → Type 0
AtFault closed line entries place fault =
    (Late entries place closed × (fault ≡ AfterClose (line + place)))
    ⊎ ((Late entries place closed → ⊥) × Bad entries place × (fault ≡ BadRecord (line + place)))

-- The line at this index is valid.
abbrev Fine : Bool → List (Option Entry) → ℕ → Type 0
Fine closed entries place = (Late entries place closed → ⊥) × (Bad entries place → ⊥)

next_place : (line place : ℕ) (entry : Entry) (entries : List (Option Entry)) (fault : StreamFault)
    → AtFault (closes (Some entry)) (line + 1) entries place fault
    → AtFault false line (Some entry ∷ entries) (suc place) fault
next_place line place entry entries fault (inl is) = let e : line + 1 + place ≡ line + suc place = omega arith in
    inl (is.0, is.1 ∙ ap AfterClose e)
next_place line place entry entries fault (inr is) = let e : line + 1 + place ≡ line + suc place = omega arith in
    inr (is.0, is.1, is.2 ∙ ap BadRecord e)

first_fine : (entry : Entry) (entries : List (Option Entry)) → Fine false (Some entry ∷ entries) 0
first_fine entry entries = (λ is. absurd (false≢true is), λ is. absurd (cc))

-- The fault that is found is the fault of the first invalid line.
least_place : (closed : Bool) (line : ℕ) (entries : List (Option Entry)) (fault : StreamFault)
    → first_fault closed line entries ≡ Some fault
    → (place : ℕ) × AtFault closed line entries place fault × ((earlier : ℕ) → earlier < place → Fine closed entries earlier)
unfolding first_fault
least_place closed line [] fault some = absurd (cc)
least_place true line (entry ∷ entries) fault some =
    let e : line ≡ line + 0 = omega arith in
    let here : fault ≡ AfterClose line = cc in
    (0, inl (refl, here ∙ ap AfterClose e), λ earlier below. absurd (omega arith))
least_place false line (None ∷ entries) fault some =
    let e : line ≡ line + 0 = omega arith in
    let here : fault ≡ BadRecord line = cc in
    (0, inr ((λ is. absurd (false≢true is)), refl, here ∙ ap BadRecord e), λ earlier below. absurd (omega arith))
least_place false line (Some entry ∷ entries) fault some =
    let behind = least_place (closes (Some entry)) (line + 1) entries fault some in
    (suc behind.0, next_place line behind.0 entry entries fault behind.1, by behind.0 behind.2)
  where
    by : (place : ℕ) → ((earlier : ℕ) → earlier < place → Fine (closes (Some entry)) entries earlier) → (earlier : ℕ) → earlier < suc place
        → Fine false (Some entry ∷ entries) earlier
    by place before zero below = first_fine entry entries
    by place before (suc earlier) below = before earlier (omega arith)

-- If none is found, each line is valid.
each_fine : (closed : Bool) (line : ℕ) (entries : List (Option Entry)) → first_fault closed line entries ≡ None → (place : ℕ)
    → Fine closed entries place
unfolding first_fault
each_fine closed line [] is place = (λ late. late, λ bad. bad)
each_fine true line (entry ∷ entries) is place = absurd (cc)
each_fine false line (None ∷ entries) is place = absurd (cc)
each_fine false line (Some entry ∷ entries) is zero = first_fine entry entries
each_fine false line (Some entry ∷ entries) is (suc place) = each_fine (closes (Some entry)) (line + 1) entries is place

-- Among the entries of lines and of a remainder, a `Late` entry follows a line that closes the log, and a `Bad` entry is an ended
-- line's entry.
abbrev all_entries : List ℕ → List (List ℕ) → List ℕ → List (Option Entry)
all_entries target lines last = line_entries target lines ++ rest_entries target last

late_line : (target : List ℕ) (lines : List (List ℕ)) (last : List ℕ) (closed : Bool) (place : ℕ)
    → Late (all_entries target lines last) (suc place) closed
    → (closing : List ℕ) × (slice_get lines place ≡ Some closing) × (closes (entry_of target closing true) ≡ true)
    × (place + 1 < length (lines ++ option_to_list (unended last)))
late_line target [] [] closed place late = absurd late
late_line target [] (byte ∷ last) closed place late = absurd late
late_line target (line ∷ []) [] closed zero late = absurd late
late_line target (line ∷ []) (byte ∷ last) closed zero late = (line, refl, late, omega arith)
late_line target (line ∷ next ∷ lines) last closed zero late = (line, refl, late, omega arith)
late_line target (line ∷ lines) last closed (suc place) late =
    let behind = late_line target lines last (closes (entry_of target line true)) place late in
    (behind.0, behind.1, behind.2, let below = behind.3 in omega arith)

line_late : (target : List ℕ) (lines : List (List ℕ)) (last : List ℕ) (closed : Bool) (place : ℕ) (closing : List ℕ)
    → slice_get lines place ≡ Some closing
    → closes (entry_of target closing true) ≡ true → place + 1 < length (lines ++ option_to_list (unended last))
    → Late (all_entries target lines last) (suc place) closed
line_late target [] last closed place closing stands closes_it follows = absurd (cc)
line_late target (line ∷ []) [] closed zero closing stands closes_it follows = absurd (omega arith)
line_late target (line ∷ []) (byte ∷ last) closed zero closing stands closes_it follows =
    let same : line ≡ closing = cc in ap (λ l. closes (entry_of target l true)) same ∙ closes_it
line_late target (line ∷ next ∷ lines) last closed zero closing stands closes_it follows =
    let same : line ≡ closing = cc in ap (λ l. closes (entry_of target l true)) same ∙ closes_it
line_late target (line ∷ lines) last closed (suc place) closing stands closes_it follows =
    line_late target lines last (closes (entry_of target line true)) place closing stands closes_it (omega arith)

bad_line : (target : List ℕ) (lines : List (List ℕ)) (last : List ℕ) (place : ℕ) → Bad (all_entries target lines last) place
    → (text : List ℕ) × (slice_get lines place ≡ Some text) × (entry_of target text true ≡ None)
unfolding entry_of
bad_line target [] [] place bad = absurd bad
bad_line target [] (byte ∷ last) zero bad = absurd (cc)
bad_line target [] (byte ∷ last) (suc place) bad = absurd bad
bad_line target (line ∷ lines) last zero bad = (line, refl, bad)
bad_line target (line ∷ lines) last (suc place) bad = bad_line target lines last place bad

line_bad : (target : List ℕ) (lines : List (List ℕ)) (last : List ℕ) (place : ℕ) (text : List ℕ) → slice_get lines place ≡ Some text
    → entry_of target text true ≡ None → Bad (all_entries target lines last) place
line_bad target [] last place text stands has_none = absurd (cc)
line_bad target (line ∷ lines) last zero text stands has_none = let same : line ≡ text = cc in
    ap (λ l. entry_of target l true) same ∙ has_none
line_bad target (line ∷ lines) last (suc place) text stands has_none = line_bad target lines last place text stands has_none

not_first : (entries : List (Option Entry)) → Late entries 0 false → ⊥
not_first [] late = late
not_first (entry ∷ entries) late = false≢true late

-- Two numbers are equal, or one is less than the other.
compared : (m n : ℕ) → (m < n) ⊎ ((m ≡ n) ⊎ (n < m))
compared m n = by (ltb m n) refl
  where
    by : (less : Bool) → ltb m n ≡ less → (m < n) ⊎ ((m ≡ n) ⊎ (n < m))
    by true is = inl (ltb-true m n is)
    by false is = inr (apart (eq-or-lt_of_le (ltb-false m n is)))
      where
        apart : (n ≡ m) ⊎ (n < m) → (m ≡ n) ⊎ (n < m)
        apart (inl same) = inl (sym same)
        apart (inr more) = inr more

-- The lines at the indexes with `Late` and `Bad` are the lines of the bytes with `IsAfterClose` and `IsBadRecord`.
module _ (target bytes : List ℕ) where
  to_late : (place : ℕ) → Late (entries_of target bytes) place false → IsAfterClose target bytes (1 + place)
  to_late zero late = absurd (not_first (entries_of target bytes) late)
  to_late (suc place) late =
      let is = late_line target (ended bytes) (rest bytes) false place late in
      record { place = place; line_is = omega arith; closing = is.0; stands = is.1; closes_it = is.2; follows = is.3 }

  from_late : (line : ℕ) → IsAfterClose target bytes line → (place : ℕ) × (line ≡ 1 + place) × Late (entries_of target bytes) place false
  from_late line is =
      let number = is.line_is in
      (suc is.place, omega arith, line_late target (ended bytes) (rest bytes) false is.place is.closing is.stands is.closes_it is.follows)

  to_bad : (place : ℕ) → Bad (entries_of target bytes) place → IsBadRecord target bytes (1 + place)
  to_bad place bad =
      let is = bad_line target (ended bytes) (rest bytes) place bad in
      record { place = place; line_is = omega arith; text = is.0; stands = is.1; has_none = is.2 }

  from_bad : (line : ℕ) → IsBadRecord target bytes line → (place : ℕ) × (line ≡ 1 + place) × Bad (entries_of target bytes) place
  from_bad line is =
      let number = is.line_is in
      (is.place, omega arith, line_bad target (ended bytes) (rest bytes) is.place is.text is.stands is.has_none)

  not_at_fault : (line : ℕ) → ((place : ℕ) → line ≡ 1 + place → Fine false (entries_of target bytes) place)
      → (IsAfterClose target bytes line → ⊥) × (IsBadRecord target bytes line → ⊥)
  not_at_fault line fine = (
    λ late. let is = from_late line late in (fine is.0 is.1).0 is.2,
    λ bad. let is = from_bad line bad in (fine is.0 is.1).1 is.2,
  )

  at_fault : (place : ℕ) (fault : StreamFault) → AtFault false 1 (entries_of target bytes) place fault
      → HasFault target bytes (1 + place) fault
  at_fault place fault (inl is) = inl (to_late place is.0, is.1)
  at_fault place fault (inr is) = inr (
    λ late.
        let found = from_late (1 + place) late in
        let number = found.1 in
        let same : found.0 ≡ place = omega arith in
        is.0 (subst (λ p. Late (entries_of target bytes) p false) same found.2),
    to_bad place is.1,
    is.2,
  )

  pub least_line : (fault : StreamFault) → line_fault target bytes ≡ Some fault → IsFirstFault target bytes fault
  least_line fault some =
      let found = least_place false 1 (entries_of target bytes) fault some in
      record {
        line = 1 + found.0;
        at_fault = at_fault found.0 fault found.1;
        none_before = λ earlier below. not_at_fault earlier (λ place is. found.2 place (omega arith));
      }

  pub no_line : line_fault target bytes ≡ None → (line : ℕ) → (IsAfterClose target bytes line → ⊥) × (IsBadRecord target bytes line → ⊥)
  no_line is line = not_at_fault line (λ place number. each_fine false 1 (entries_of target bytes) is place)

  -- A line is invalid in only one way, and only one line is the first invalid one.
  same_way : (line : ℕ) (fault other : StreamFault) → HasFault target bytes line fault → HasFault target bytes line other → fault ≡ other
  same_way line fault other (inl late) (inl also) = late.1 ∙ sym also.1
  same_way line fault other (inl late) (inr bad) = absurd (bad.0 late.0)
  same_way line fault other (inr bad) (inl late) = absurd (bad.0 late.0)
  same_way line fault other (inr bad) (inr also) = bad.2 ∙ sym also.2

  is_late_or_bad : (line : ℕ) (fault : StreamFault) → HasFault target bytes line fault
      → ((IsAfterClose target bytes line → ⊥) × (IsBadRecord target bytes line → ⊥)) → ⊥
  is_late_or_bad line fault (inl late) never = never.0 late.0
  is_late_or_bad line fault (inr bad) never = never.1 bad.1

  one_least : (fault other : StreamFault) → IsFirstFault target bytes fault → IsFirstFault target bytes other → fault ≡ other
  one_least fault other a b = by (compared a.line b.line)
    where
      by : (a.line < b.line) ⊎ ((a.line ≡ b.line) ⊎ (b.line < a.line)) → fault ≡ other
      by (inl before) = absurd (is_late_or_bad a.line fault a.at_fault (b.none_before a.line before))
      by (inr (inl same)) = same_way b.line fault other (subst (λ n. HasFault target bytes n fault) same a.at_fault) b.at_fault
      by (inr (inr behind)) = absurd (is_late_or_bad b.line other b.at_fault (a.none_before b.line behind))

  pub only_least : (fault : StreamFault) → IsFirstFault target bytes fault → line_fault target bytes ≡ Some fault
  only_least fault least = by (line_fault target bytes) refl
    where
      by : (found : Option StreamFault) → line_fault target bytes ≡ found → line_fault target bytes ≡ Some fault
      by None is = absurd (is_late_or_bad least.line fault least.at_fault (no_line is least.line))
      by (Some other) is = is ∙ ap Some (one_least other fault (least_line other is) least)
