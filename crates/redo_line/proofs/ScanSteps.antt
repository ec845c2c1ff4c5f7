-- The result of one step of a scan, by the line that was found in the bytes of a chunk within the limit.
use Rattle.std.proofs.Common.{◌≡◌, ◌⊎◌, inl, inr, ℕ, zero, suc, ◌+◌, ◌-◌, ◌<◌, ◌≤◌, Bool, true, false, List, [], ◌∷◌, ◌++◌, None, Some, length, map, get_or, nat_eq, take, drop, refl, sym, ◌∙◌, ap, subst, arith}
use Rattle.std.specs.List.{AllByRecursion, slice_range, starts_with}
use Rattle.std.proofs.lemmas.List.{append-nil, length-map, length-take, take_all, take-append-le, take-append-drop, take-take}
use Rattle.std.proofs.Math.Seq.{take-nil}
use Rattle.std.proofs.lemmas.Option.{same_Some}
use Rattle.redo_line.specs.declared.entry.Entry.{Entry}
use Rattle.redo_line.specs.declared.entry.Entry.TheVariants.{Text}
use Rattle.redo_line.specs.declared.stream_fault.StreamFault.{StreamFault}
use Rattle.redo_line.specs.declared.stream_fault.StreamFault.TheVariants.{BadRecord, AfterClose, TooLong, OutOfMemory}
use Rattle.redo_line.specs.Entry.{entry_of}
use Rattle.redo_line.specs.Lines.{ended, rest}
use Rattle.redo_line.specs.Log.{closes, first_fault, line_entries}
use Rattle.redo_line.specs.Scan.{Scanned, EndLines, EndsOneLine, FindsEntry as FindsOne, FindsEntries, entries_so_far}
use Rattle.redo_line.specs.Private.Progress.{Progress, IsAfter, AdvancesBy, ConsumesAll, FailsWith, byte_fault, closed_by, first_byte_fault}
use Rattle.redo_line.specs.Private.CutLine.{AreTextLines, Cuts}
use Rattle.redo_line.specs.Record.{record_prefix}
use Rattle.redo_line.proofs.ScanLemmas.{late_refuses, bad_refuses, after_lines, end_lines, long_refuses, after_rest, ends_none, one_fine}
use Rattle.redo_line.proofs.EntryListLemmas.{first_fault-fine, first_fault-nil}
use Rattle.redo_line.proofs.LineLemmas.{ended-append, few_lines, rest-append}
use Rattle.redo_line.proofs.ReadingLemmas.{is_text}

-- A line without an entry has a fault, unless memory ran out.
pub no_entry : (given : StreamFault) (number : ℕ) (none : Type 0) (P : StreamFault → Type 0)
    → (given ≡ OutOfMemory) ⊎ ((given ≡ BadRecord number) × none) → (none → P (BadRecord number)) → (given ≡ OutOfMemory) ⊎ P given
no_entry given number none P (inl memory) bad = inl memory
no_entry given number none P (inr is) bad = inr (subst P (sym is.0) (bad is.1))

-- No bytes end no line.
cuts_nothing : (kept a : List ℕ) → a ≡ [] → Cuts kept a [] kept
cuts_nothing kept a none taken is = (
  ap (λ (b : List ℕ). ended (taken ++ b)) none ∙ ap ended (append-nil taken) ∙ sym (append-nil (ended taken)),
  ap (λ (b : List ℕ). rest (taken ++ b)) none ∙ ap rest (append-nil taken) ∙ is,
)

-- `now` is the state as it is modelled, `p` the same state as its fields have it, `u` the bytes consumed before, `left` the chunk
-- from an offset on, and `a` the bytes of `left` within the limit.
module _ (now p : Progress) (same : p ≡ now) (u : List ℕ) (after_now : IsAfter now u) (chunk left a : List ℕ) (from : ℕ)
    (left_is : left ≡ drop from chunk)
    (a_is : a ≡ take (p.max_bytes - p.taken) left) where
  after : IsAfter p u
  after = subst (λ q. IsAfter q u) (sym same) after_now

  refuses : (fault : StreamFault) → FailsWith p u left fault → FailsWith now u (drop from chunk) fault
  refuses fault is = subst (λ (l : List ℕ). FailsWith now u l fault) left_is (subst (λ q. FailsWith q u left fault) same is)

  -- The fault of the first byte.
  first_is : (byte : ℕ) (bytes : List ℕ) (room : ℕ) (closed : Bool) → left ≡ byte ∷ bytes → p.max_bytes - p.taken ≡ room → p.closed ≡ closed
      → first_byte_fault p left ≡ byte_fault room p.lines closed
  first_is byte bytes room closed some room_is closed_is =
      ap (first_byte_fault p) some ∙ ap (λ n. byte_fault n p.lines p.closed) room_is ∙ ap (byte_fault room p.lines) closed_is

  a_at : (room : ℕ) (bytes : List ℕ) → p.max_bytes - p.taken ≡ room → left ≡ bytes → a ≡ take room bytes
  a_at room bytes room_is some = a_is ∙ ap (λ n. take n left) room_is ∙ ap (take room) some

  -- The first byte has a fault by its position.
  pub refuses_first : (fault : StreamFault) → first_byte_fault now left ≡ Some fault → FailsWith now u (drop from chunk) fault
  refuses_first fault now_is = refuses fault (by left (p.max_bytes - p.taken) p.closed refl refl refl)
    where
      is : first_byte_fault p left ≡ Some fault
      is = ap (λ q. first_byte_fault q left) same ∙ now_is

      by : (bytes : List ℕ) (room : ℕ) (closed : Bool) → left ≡ bytes → p.max_bytes - p.taken ≡ room → p.closed ≡ closed
          → FailsWith p u left fault
      by [] room closed none room_is closed_is = absurd (let same = ap (first_byte_fault p) none in cc)
      by (byte ∷ bytes) zero closed some room_is closed_is =
          let told : Some TooLong ≡ Some fault = sym (first_is byte bytes zero closed some room_is closed_is) ∙ is in
          let none : a ≡ [] = a_at zero (byte ∷ bytes) room_is some in
          let fewer : length a < length left = omega (arith, ap length none, ap length some) in
          subst (FailsWith p u left) (same_Some TooLong fault told)
          (long_refuses p u after left a a_is p.kept (cuts_nothing p.kept a none) (inr none) fewer)
      by (byte ∷ bytes) (suc room) true some room_is closed_is =
          let told : Some (AfterClose (p.lines + 1)) ≡ Some fault = sym (first_is byte bytes (suc room) true some room_is closed_is) ∙ is in
          subst (FailsWith p u left) (same_Some (AfterClose (p.lines + 1)) fault told)
          (late_refuses p u after left a a_is closed_is byte (take room bytes) (a_at (suc room) (byte ∷ bytes) room_is some))
      by (byte ∷ bytes) (suc room) false some room_is closed_is =
          absurd (let told = sym (first_is byte bytes (suc room) false some room_is closed_is) ∙ is in cc)

  -- The first byte has no fault by its position.
  module _ (now_is : first_byte_fault now left ≡ None) where
    is : first_byte_fault p left ≡ None
    is = ap (λ q. first_byte_fault q left) same ∙ now_is

    open_or_none : (p.closed ≡ false) ⊎ (a ≡ [])
    open_or_none = by left (p.max_bytes - p.taken) p.closed refl refl refl
      where
        by : (bytes : List ℕ) (room : ℕ) (closed : Bool) → left ≡ bytes → p.max_bytes - p.taken ≡ room → p.closed ≡ closed
            → (p.closed ≡ false) ⊎ (a ≡ [])
        by [] room closed none room_is closed_is = inr (a_at room [] room_is none ∙ take-nil room)
        by (byte ∷ bytes) zero closed some room_is closed_is =
            absurd (let told = sym (first_is byte bytes zero closed some room_is closed_is) ∙ is in cc)
        by (byte ∷ bytes) (suc room) true some room_is closed_is =
            absurd (let told = sym (first_is byte bytes (suc room) true some room_is closed_is) ∙ is in cc)
        by (byte ∷ bytes) (suc room) false some room_is closed_is = inl closed_is

    module _ (line : List ℕ) (upto : ℕ) (place : (0 < upto) × (upto ≤ length a)) (cut : Cuts p.kept (take upto a) (line ∷ []) []) where
      slice_is : slice_range chunk from (from + upto) ≡ take upto a
      slice_is =
          let count : from + upto - from ≡ upto = omega arith in
          let behind = drop (p.max_bytes - p.taken) left in
          let parts : left ≡ a ++ behind = sym (take-append-drop (p.max_bytes - p.taken) left)
          ∙ ap (λ (b : List ℕ). b ++ behind) (sym a_is) in
          ap (λ n. take n (drop from chunk)) count ∙ ap (take upto) (sym left_is ∙ parts) ∙ take-append-le upto a behind place.1

      open_log : p.closed ≡ false
      open_log = by open_or_none
        where
          by : (p.closed ≡ false) ⊎ (a ≡ []) → p.closed ≡ false
          by (inl closed) = closed
          by (inr none) = let size = ap length none in let low = place.0 in let high = place.1 in absurd (omega (arith, size, low, high))

      pub refuses_bad : entry_of p.target line true ≡ None → FailsWith now u (drop from chunk) (BadRecord (p.lines + 1))
      refuses_bad none =
          refuses (BadRecord (p.lines + 1))
          (bad_refuses p u after left a a_is (take upto a) (drop upto a) (line ∷ []) cut
          (sym (take-append-drop upto a)) line refl open_log none)

      pub line_found : (entry : Entry) (kept : List ℕ) (closed : Bool) → entry_of p.target line true ≡ Some entry → kept ≡ []
          → closed ≡ closes (Some entry)
          → AdvancesBy now (record {
            target = p.target;
            max_bytes = p.max_bytes;
            kept = kept;
            taken = p.taken + upto;
            lines = p.lines + 1;
            closed = closed;
          }) u (slice_range chunk from (from + upto)) (entry ∷ [])
      line_found entry kept closed entry_is none closed_is =
          let size : length (take upto a) ≡ upto = let few = length-take upto a in let within = place.1 in omega (arith, few, within) in
          let parts = sym (take-append-drop upto a) in
          let are : line_entries p.target (line ∷ []) ≡ map Some (entry ∷ []) = ap (λ e. e ∷ []) entry_is in
          let fine = one_fine p.closed (p.lines + 1) entry open_log in
          let behind = after_lines p u after left a a_is (take upto a) (drop upto a) (line ∷ []) cut parts (entry ∷ []) are fine kept
          (p.taken + upto) (p.lines + 1) closed none (ap (λ n. p.taken + n) (sym size)) refl closed_is in
          let ends = end_lines p u after left a a_is (take upto a) (drop upto a) (line ∷ []) cut parts (entry ∷ []) are fine in
          let then : Progress = record {
            target = p.target;
            max_bytes = p.max_bytes;
            kept = kept;
            taken = p.taken + upto;
            lines = p.lines + 1;
            closed = closed;
          } in
          let finds : AdvancesBy p then u (take upto a) (entry ∷ []) = record { after = behind; ends = ends } in
          subst (λ (s : List ℕ). AdvancesBy now then u s (entry ∷ [])) (sym slice_is)
          (subst (λ (q : Progress). AdvancesBy q then u (take upto a) (entry ∷ [])) same finds)

    module _ (kept : List ℕ) (cut : Cuts p.kept a [] kept) where
      pub refuses_long : length a < length left → FailsWith now u (drop from chunk) TooLong
      refuses_long fewer = refuses TooLong (long_refuses p u after left a a_is kept cut open_or_none fewer)

      pub all_taken : length left ≤ length a
          → ConsumesAll now (record {
            target = p.target;
            max_bytes = p.max_bytes;
            kept = kept;
            taken = p.taken + length left;
            lines = p.lines;
            closed = p.closed;
          }) u (drop from chunk)
      all_taken fits =
          let few = ap length a_is ∙ length-take (p.max_bytes - p.taken) left in
          let all : left ≡ a = sym (a_is ∙ take_all (p.max_bytes - p.taken) left (omega (arith, few, fits))) in
          let behind = after_rest p u after left a a_is kept cut open_or_none all (p.taken + length left) refl in
          let ends = ends_none p u after left a a_is kept cut open_or_none all in
          let then : Progress = record {
            target = p.target;
            max_bytes = p.max_bytes;
            kept = kept;
            taken = p.taken + length left;
            lines = p.lines;
            closed = p.closed;
          } in
          let takes : ConsumesAll p then u left = record { after = behind; ends = ends } in
          subst (λ (l : List ℕ). ConsumesAll now then u l) left_is (subst (λ (q : Progress). ConsumesAll q then u left) same takes)

-- ---- text lines

module _ (target : List ℕ) where
  texts_are : (lines : List (List ℕ)) → AllByRecursion (λ line. starts_with nat_eq line record_prefix ≡ false) lines
      → line_entries target lines ≡ map Some (map Text lines)
  texts_are [] all = refl
  texts_are (line ∷ lines) all = λ i. is_text target line line true refl all.0 i ∷ texts_are lines all.1 i

texts_fine : (line : ℕ) (lines : List (List ℕ)) → first_fault false line (map Some (map Text lines)) ≡ None
texts_fine line [] = first_fault-nil false line
texts_fine line (first ∷ lines) = first_fault-fine line (Text first) (map Some (map Text lines)) ∙ texts_fine (line + 1) lines

texts_close_none : (lines : List (List ℕ)) → closed_by false (map Some (map Text lines)) ≡ false
texts_close_none [] = refl
texts_close_none (line ∷ lines) = texts_close_none lines

-- From an offset of a chunk on, `upto` bytes are text lines, no line has begun, and no entry closed the log.
module _ (now p : Progress) (same : p ≡ now) (u : List ℕ) (after_now : IsAfter now u) (chunk left : List ℕ) (from : ℕ)
    (left_is : left ≡ drop from chunk)
    (upto count : ℕ) (are : AreTextLines (take upto left) count) (within : upto ≤ length left) (room_now : now.taken + upto ≤ now.max_bytes)
    (some : 0 < count) (none_now : now.kept ≡ []) (open_now : now.closed ≡ false) where
  room : p.taken + upto ≤ p.max_bytes
  room = subst (λ (q : Progress). q.taken + upto ≤ q.max_bytes) (sym same) room_now

  none_kept : p.kept ≡ []
  none_kept = ap (λ (q : Progress). q.kept) same ∙ none_now

  not_closed : p.closed ≡ false
  not_closed = ap (λ (q : Progress). q.closed) same ∙ open_now

  -- The text lines have bytes.
  pub texts_bytes : 0 < upto
  texts_bytes = let few = few_lines (take upto left) in let size = length-take upto left in omega (arith, are.count_is, some, few, size)

  pub texts_count : length (map Text (ended (take upto left))) ≡ count
  texts_count = length-map (ended (take upto left)) Text ∙ are.count_is

  abbrev pub text_entries : List Entry
  text_entries = map Text (ended (take upto left))

  pub texts_found : AdvancesBy now (record
      { target = p.target; max_bytes = p.max_bytes; kept = p.kept; taken = p.taken + upto; lines = p.lines + count; closed = p.closed }) u
      (slice_range chunk from (from + upto)) text_entries
  texts_found =
      let slice = take upto left in
      let lines = ended slice in
      let a = take (p.max_bytes - p.taken) left in
      let after : IsAfter p u = subst (λ q. IsAfter q u) (sym same) after_now in
      let front : take upto a ≡ slice = take-take upto (p.max_bytes - p.taken) left (let fits = room in omega (arith, fits)) in
      let parts : a ≡ slice ++ drop upto a = sym (take-append-drop upto a) ∙ ap (λ (b : List ℕ). b ++ drop upto a) front in
      let cut : Cuts p.kept slice lines [] = λ taken is. (
        ended-append taken slice ∙ ap (λ (k : List ℕ). ended taken ++ ended (k ++ slice)) (is ∙ none_kept),
        rest-append taken slice ∙ ap (λ (k : List ℕ). rest (k ++ slice)) (is ∙ none_kept) ∙ are.no_rest,
      ) in
      let entries_are = texts_are p.target lines are.texts in
      let fine : first_fault p.closed (p.lines + 1) (map Some text_entries) ≡ None =
      ap (λ c. first_fault c (p.lines + 1) (map Some text_entries)) not_closed ∙ texts_fine (p.lines + 1) lines in
      let size : length slice ≡ upto = omega (arith, length-take upto left, within) in
      let closed_is : p.closed ≡ closed_by p.closed (map Some text_entries) =
      not_closed ∙ sym (texts_close_none lines) ∙ ap (λ c. closed_by c (map Some text_entries)) (sym not_closed) in
      let then : Progress = record {
        target = p.target;
        max_bytes = p.max_bytes;
        kept = p.kept;
        taken = p.taken + upto;
        lines = p.lines + count;
        closed = p.closed;
      } in
      let finds : AdvancesBy p then u slice text_entries = record {
        after = after_lines p u after left a refl slice (drop upto a) lines cut parts text_entries entries_are fine p.kept (p.taken + upto)
            (p.lines + count) p.closed none_kept
            (ap (λ n. p.taken + n) (sym size)) (ap (λ n. p.lines + n) (sym are.count_is)) closed_is;
        ends = end_lines p u after left a refl slice (drop upto a) lines cut parts text_entries entries_are fine;
      } in
      let slice_is : slice_range chunk from (from + upto) ≡ slice =
      let whole : from + upto - from ≡ upto = omega arith in
      ap (λ n. take n (drop from chunk)) whole ∙ ap (take upto) (sym left_is) in
      subst (λ (s : List ℕ). AdvancesBy now then u s text_entries) (sym slice_is)
      (subst (λ (q : Progress). AdvancesBy q then u slice text_entries) same finds)

  -- The first byte of the text lines has no fault by its position.
  pub texts_at_once : first_byte_fault now (drop from chunk) ≡ None
  texts_at_once = ap (first_byte_fault now) (sym left_is) ∙ ap (λ q. first_byte_fault q left) (sym same)
      ∙ by left (p.max_bytes - p.taken) refl refl
    where
      by : (bytes : List ℕ) (left_room : ℕ) → left ≡ bytes → p.max_bytes - p.taken ≡ left_room → first_byte_fault p left ≡ None
      by [] left_room none room_is = ap (first_byte_fault p) none
      by (byte ∷ bytes) zero some_left room_is = absurd (let none = texts_bytes in let fits = room in omega (arith, none, fits, room_is))
      by (byte ∷ bytes) (suc left_room) some_left room_is =
          ap (first_byte_fault p) some_left ∙ ap (λ n. byte_fault n p.lines p.closed) room_is
          ∙ ap (byte_fault (suc left_room) p.lines) not_closed

-- ---- a single line

-- Lines with only this entry are one line.
pub one_ends : (target : List ℕ) (max_bytes : ℕ) (before bytes : List ℕ) (more : List Entry) (entry : Entry) → more ≡ entry ∷ []
    → EndLines target max_bytes before bytes more → EndsOneLine target max_bytes before bytes entry
one_ends target max_bytes before bytes more entry one ends = by ends.lines refl
  where
    by : (lines : List (List ℕ)) → ends.lines ≡ lines → EndsOneLine target max_bytes before bytes entry
    by [] is = absurd (let are = sym (ap (line_entries target) is) ∙ ends.entries_are ∙ ap (map Some) one in cc)
    by (first ∷ second ∷ lines) is = absurd (let are = sym (ap (line_entries target) is) ∙ ends.entries_are ∙ ap (map Some) one in cc)
    by (line ∷ []) is = record {
      no_fault = ends.no_fault;
      line = line;
      lines_are = ends.lines_are ∙ ap (λ ls. ended before ++ ls) is;
      no_rest = ends.no_rest;
      entry_is = ap (λ es. get_or es 0 None) (sym (ap (line_entries target) is) ∙ ends.entries_are ∙ ap (map Some) one);
      entries = ends.entries ∙ ap (λ es. entries_so_far target max_bytes before ++ es) one;
    }

pub one_found : (old new : Scanned) (bytes : List ℕ) (first all : List Entry) (entry : Entry) → first ≡ [] → all ≡ entry ∷ []
    → FindsEntries old new bytes 1 first all → FindsOne old new bytes entry
one_found old new bytes first all entry none is found = (
  found.taken,
  one_ends old.target old.max_bytes old.bytes bytes found.more entry
      (ap (λ es. es ++ found.more) (sym none) ∙ sym found.put ∙ is) found.ends,
)
