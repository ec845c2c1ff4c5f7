-- Properties of a log, and the part of it that the first bytes of a stream determine.
use Rattle.std.proofs.Common.{◌≡◌, inl, inr, ℕ, ◌+◌, ◌-◌, ◌≤◌, Bool, true, false, cond, ltb, List, [], ◌∷◌, ◌++◌, Option, None, Some, IfSome, length, map, take, refl, sym, ◌∙◌, ap, arith}
use Rattle.std.specs.List.{filter_map}
use Rattle.std.proofs.lemmas.List.{length-map}
use Rattle.std.proofs.lemmas.List.Elements.{filter_map-append}
use Rattle.std.proofs.Math.Seq.{take-append-add}
use Rattle.redo_line.specs.declared.entry.Entry.{Entry}
use Rattle.redo_line.specs.declared.stream_fault.StreamFault.{StreamFault}
use Rattle.redo_line.specs.declared.stream_fault.StreamFault.TheVariants.{BadRecord, AfterClose, TooLong, Read}
use Rattle.redo_line.specs.Entry.{entry_of}
use Rattle.redo_line.specs.Fault.{end_fault}
use Rattle.redo_device.specs.Feed.{Stream}
use Rattle.redo_line.specs.Laws.{IsPrefix, HasOneEntryPerLine, ClosesAtEnd}
use Rattle.redo_line.specs.Lines.{ended, rest}
use Rattle.redo_line.specs.Log.{stream_of, closes, line_entries, entries_of, first_fault, line_fault, or_else, fault_of, lines_before, entries_before_fault, unless_fault, log_of}
use Rattle.redo_line.specs.Private.Progress.{closed_by}
use Rattle.redo_line.specs.Scan.{so_far, entries_so_far, fault_so_far}
use Rattle.redo_line.proofs.EntryListLemmas.{first_fault-append-none, first_fault-front-none, IsFaultAt, fault_within, each_some}
use Rattle.redo_line.proofs.FaultLemmas.{rest_entries, entries_of-append, no_fault, an_entry_for_each_line}
use Rattle.redo_line.proofs.LineLemmas.{ended-append}
use Rattle.redo_line.proofs.ScanEnds.{each_found}
use Rattle.redo_line.proofs.ScanLemmas.{found, fine_part}

pub if_some : {A : Type 0} (o : Option A) (P : A → Type 0) → ((x : A) → o ≡ Some x → P x) → IfSome o P
if_some None P is = tt
if_some (Some x) P is = is x refl

pub entry_of_each_line : (target : List ℕ) (max_bytes : ℕ) (stream : Stream)
    → IfSome (log_of target max_bytes stream) (HasOneEntryPerLine target stream)
entry_of_each_line target max_bytes stream =
    if_some (log_of target max_bytes stream) (HasOneEntryPerLine target stream) (an_entry_for_each_line target max_bytes stream)

-- The next entry after one that closes the log has a fault.
closes_last : (closed : Bool) (line : ℕ) (before : List Entry) (entry : Entry) (after : List Entry)
    → first_fault closed line (map Some (before ++ entry ∷ after)) ≡ None
    → closes (Some entry) ≡ true → after ≡ []
unfolding first_fault
closes_last true line [] entry after none is = absurd (cc)
closes_last true line (first ∷ before) entry after none is = absurd (cc)
closes_last false line [] entry [] none is = refl
closes_last false line [] entry (next ∷ after) none is =
    let late : first_fault true (line + 1) (Some next ∷ map Some after) ≡ None =
    ap (λ c. first_fault c (line + 1) (Some next ∷ map Some after)) (sym is) ∙ none in
    absurd (cc)
closes_last false line (first ∷ before) entry after none is = closes_last (closes (Some first)) (line + 1) before entry after none is

pub closing_stands_last : (target : List ℕ) (max_bytes : ℕ) (stream : Stream) → IfSome (log_of target max_bytes stream) ClosesAtEnd
closing_stands_last target max_bytes stream = by (fault_of target max_bytes stream) refl
  where
    by : (fault : Option StreamFault) → fault_of target max_bytes stream ≡ fault
        → IfSome (unless_fault fault (filter_map (λ entry. entry) (entries_of target stream.bytes))) ClosesAtEnd
    by (Some fault) fault_is = tt
    by None fault_is =
        λ before entry after is closes_it.
        let none = (no_fault target max_bytes stream fault_is).0 in
        closes_last false 1 before entry after
        (ap (λ es. first_fault false 1 (map Some es)) (sym is)
        ∙ ap (first_fault false 1) (each_some false 1 (entries_of target stream.bytes) none) ∙ none)
        closes_it

-- All lines are before a fault at the end of a stream.
all_before : (over fails : Bool) (lines : List (List ℕ))
    → lines_before (cond over (Some TooLong) (cond fails (Some Read) None)) lines ≡ lines
all_before true fails lines = refl
all_before false true lines = refl
all_before false false lines = refl

-- Bytes without a fault, and the bytes after them in a stream.
module _ (target : List ℕ) (max_bytes : ℕ) (u more : List ℕ) (fails : Bool) (fine : fault_so_far target max_bytes u ≡ None) where
  abbrev stream : Stream
  stream = stream_of (u ++ more) fails

  abbrev within : List ℕ
  within = take (max_bytes - length u) more

  abbrev before : List (Option Entry)
  before = line_entries target (ended u)

  abbrev behind : List (List ℕ)
  behind = ended (rest u ++ within)

  fine_u : (line_fault target u ≡ None) × (length u ≤ max_bytes)
  fine_u = let none = no_fault target max_bytes (so_far u) fine in (none.0, none.1)

  front_is : take max_bytes (u ++ more) ≡ u ++ within
  front_is =
      let count : max_bytes ≡ length u + (max_bytes - length u) = let few = fine_u.1 in omega (arith, few) in
      ap (λ n. take n (u ++ more)) count ∙ take-append-add u more (max_bytes - length u)

  lines_are : ended (take max_bytes (u ++ more)) ≡ ended u ++ behind
  lines_are = ap ended front_is ∙ ended-append u within

  -- An invalid line is after the lines of the first bytes.
  at_behind : (fault : StreamFault) → line_fault target (u ++ within) ≡ Some fault
      → (place : ℕ) × IsFaultAt 1 (length (ended u) + place) fault
  at_behind fault some =
      let none = first_fault-front-none false 1 before (rest_entries target (rest u)) fine_u.0 in
      let goes_on = first_fault-append-none false 1 before (entries_of target (rest u ++ within)) none in
      let at = fault_within (closed_by false before) (1 + length before) (entries_of target (rest u ++ within)) fault
      (sym goes_on ∙ ap (first_fault false 1) (sym (entries_of-append target u within)) ∙ some) in
      let number : 1 + length before + at.0 ≡ 1 + (length (ended u) + at.0) =
      omega (arith, length-map (ended u) (λ line. entry_of target line true)) in
      (at.0, placed at.0 fault number at.2)
    where
      placed : (place : ℕ) (fault : StreamFault) → 1 + length before + place ≡ 1 + (length (ended u) + place)
          → IsFaultAt (1 + length before) place fault → IsFaultAt 1 (length (ended u) + place) fault
      placed place fault number (inl is) = inl (is ∙ ap AfterClose number)
      placed place fault number (inr is) = inr (is ∙ ap BadRecord number)

  -- All these lines are before the fault.
  lines_lead : (others : List (List ℕ))
      × (lines_before (fault_of target max_bytes stream) (ended (take max_bytes stream.bytes)) ≡ ended u ++ others)
  lines_lead = by (line_fault target (u ++ within)) refl
    where
      fault_is : (line : Option StreamFault) → line_fault target (u ++ within) ≡ line
          → fault_of target max_bytes stream ≡ or_else line (end_fault max_bytes stream)
      fault_is line is = ap (λ o. or_else o (end_fault max_bytes stream)) (ap (line_fault target) front_is ∙ is)

      taken : (place : ℕ) (fault : StreamFault) → IsFaultAt 1 (length (ended u) + place) fault
          → lines_before (Some fault) (ended u ++ behind) ≡ ended u ++ take place behind
      taken place fault (inl is) =
          let count : 1 + (length (ended u) + place) - 1 ≡ length (ended u) + place = omega arith in
          ap (λ f. lines_before (Some f) (ended u ++ behind)) is ∙ ap (λ n. take n (ended u ++ behind)) count
          ∙ take-append-add (ended u) behind place
      taken place fault (inr is) =
          let count : 1 + (length (ended u) + place) - 1 ≡ length (ended u) + place = omega arith in
          ap (λ f. lines_before (Some f) (ended u ++ behind)) is ∙ ap (λ n. take n (ended u ++ behind)) count
          ∙ take-append-add (ended u) behind place

      by : (line : Option StreamFault) → line_fault target (u ++ within) ≡ line
          → (others : List (List ℕ)) × (lines_before (fault_of target max_bytes stream) (ended (take max_bytes stream.bytes))
          ≡ ended u ++ others)
      by (Some fault) is =
          let at = at_behind fault is in (
            take at.0 behind,
            ap (λ o. lines_before o (ended (take max_bytes (u ++ more)))) (fault_is (Some fault) is)
                ∙ ap (lines_before (Some fault)) lines_are ∙ taken at.0 fault at.1,
          )
      by None is = (
        behind,
        ap (λ o. lines_before o (ended (take max_bytes (u ++ more)))) (fault_is None is)
            ∙ all_before (ltb max_bytes (length (u ++ more))) fails (ended (take max_bytes (u ++ more))) ∙ lines_are,
      )

  lead_part : IsPrefix (found target (ended u))
      (found target (lines_before (fault_of target max_bytes stream) (ended (take max_bytes stream.bytes))))
  lead_part = (
    found target lines_lead.0,
    ap (found target) lines_lead.1
        ∙ filter_map-append (λ line. entry_of target line true) (ended u) lines_lead.0,
  )

  lead_log : IfSome (log_of target max_bytes stream) (IsPrefix (found target (ended u)))
  lead_log = by (fault_of target max_bytes stream)
    where
      by : (fault : Option StreamFault) → IfSome (unless_fault fault (filter_map (λ entry. entry) (entries_of target (u ++ more))))
          (IsPrefix (found target (ended u)))
      by (Some fault) = tt
      by None = (
        filter_map (λ entry. entry) (entries_of target (rest u ++ more)),
        ap (filter_map (λ entry. entry)) (entries_of-append target u more)
            ∙ filter_map-append (λ entry. entry) (line_entries target (ended u)) (entries_of target (rest u ++ more))
            ∙ ap (λ es. es ++ filter_map (λ entry. entry) (entries_of target (rest u ++ more))) (each_found target (ended u)),
      )

pub entries_lead_part : (target : List ℕ) (max_bytes : ℕ) (bytes more : List ℕ) (fails : Bool) → fault_so_far target max_bytes bytes ≡ None
    → IsPrefix (entries_so_far target max_bytes bytes) (entries_before_fault target max_bytes (stream_of (bytes ++ more) fails))
entries_lead_part target max_bytes bytes more fails fine =
    rw (fine_part target max_bytes bytes fine (fine_u target max_bytes bytes more fails fine).1)
    (lead_part target max_bytes bytes more fails fine)

pub entries_lead_log : (target : List ℕ) (max_bytes : ℕ) (bytes more : List ℕ) (fails : Bool) → fault_so_far target max_bytes bytes ≡ None
    → IfSome (log_of target max_bytes (stream_of (bytes ++ more) fails)) (IsPrefix (entries_so_far target max_bytes bytes))
entries_lead_log target max_bytes bytes more fails fine =
    rw (fine_part target max_bytes bytes fine (fine_u target max_bytes bytes more fails fine).1)
    (lead_log target max_bytes bytes more fails fine)
