-- Stored entries stay the same when more are stored.
use Rattle.std.proofs.Common.{◌≡◌, ◌≢◌, ℕ, zero, suc, ◌+◌, ◌-◌, ◌≤◌, ◌<◌, Bool, true, false, if◌then◌else◌, List, [], ◌∷◌, ◌++◌, Option, None, Some, nat_eq, length, map, take, drop, get_or, slice_get, slice_range, Vec, Global, refl, sym, ap, ◌∙◌, subst, arith}
use Rattle.std.specs.Cmp.Lexicographic.{pointwise, same_text}
use Rattle.std.specs.List.{AllByRecursion, IsDistinct, flat_map, list_any}
use Rattle.std.proofs.lemmas.List.{drop-append-le, take-append-le, get_or_append_left, get_or-map, length-append, length-map, length-drop, take_all, append_assoc, append-nil}
use Rattle.std.proofs.Math.Seq.{drop-append_seam}
use Rattle.std.proofs.lemmas.Bool.{or_parts}
use Rattle.std.proofs.lemmas.List.Folds.{list_any-append}
use Rattle.std.proofs.lemmas.Cmp.{nat_list_eq_equiv}
use Rattle.std.proofs.lemmas.Map.Keys.{IsDistinct-push}
use Rattle.std.proofs.lemmas.Option.{slice_get_within, get_or_from_slice_get}
use Rattle.redo_line.specs.Lines.{AreCompleteLines, ended}
use Rattle.redo_line.specs.declared.entry.Entry.TheVariants as entry
use Rattle.redo_logs.specs.declared.store.NoteSpan.{NoteSpan}
use Rattle.redo_logs.specs.declared.store.PackedEntries.{PackedEntries}
use Rattle.redo_logs.specs.declared.store.PackedEntries.TheVariants.{Texts, Mention, Done, Closing, Note}
use Rattle.redo_logs.specs.Numbering.{name_at}
use Rattle.redo_logs.specs.Private.Store.{Parts, IsPrefix, NamesExtend, Extends, HasNumber, block_of, note_value, denotes, IsNoteWithin, Within}

-- ---- growing

pub front_none : {A : Type 0} (xs : List A) → IsPrefix xs xs
front_none xs = record { more = []; is = sym (append-nil xs) }

pub front_front : {A : Type 0} (xs ys zs : List A) → IsPrefix xs ys → IsPrefix ys zs → IsPrefix xs zs
front_front xs ys zs first second = record {
  more = first.more ++ second.more;
  is = second.is ∙ ap (λ front. front ++ second.more) first.is ∙ append_assoc xs first.more second.more;
}

-- A prefix isn't longer than the whole.
pub front_length : {A : Type 0} (xs ys : List A) → IsPrefix xs ys → length xs ≤ length ys
front_length xs ys front = omega (arith, ap length front.is, length-append xs front.more)

-- ---- denoted entries

-- A range within a prefix.
range_front : (xs more : List ℕ) (start end : ℕ) → start ≤ end → end ≤ length xs
    → slice_range (xs ++ more) start end ≡ slice_range xs start end
range_front xs more start end order within =
    ap (take (end - start)) (drop-append-le start xs more (omega (arith, order, within)))
    ∙ take-append-le (end - start) (drop start xs) more (omega (arith, order, within, length-drop start xs))

range_grown : (xs ys : List ℕ) (start end : ℕ) → IsPrefix xs ys → start ≤ end → end ≤ length xs
    → slice_range ys start end ≡ slice_range xs start end
range_grown xs ys start end front order within =
    ap (λ bytes. slice_range bytes start end) front.is ∙ range_front xs front.more start end order within

-- The element at a position in a prefix.
pub get_front : {A : Type 0} (xs more : List A) (number : ℕ) → number < length xs → slice_get (xs ++ more) number ≡ slice_get xs number
get_front [] more number within = absurd (omega (arith, within))
get_front (x ∷ xs) more zero within = refl
get_front (x ∷ xs) more (suc number) within = get_front xs more number (omega (arith, within))

-- A number keeps its name.
pub name_grown : (old new : List (List ℕ)) (number : ℕ) → NamesExtend old new → number < length old
    → name_at new number ≡ name_at old number
name_grown old new number grows within =
    ap (λ names. name_at names number) grows.front.is ∙ get_or_append_left old grows.front.more [] number within

-- A block only grows at its end.
block_grown : (old new : Parts) (number : ℕ) → Extends old new → IsPrefix (block_of old number) (block_of new number)
block_grown old new zero grows = grows.bytes
block_grown old new (suc number) grows =
    subst (λ (blocks : List (List ℕ)). IsPrefix (get_or old.taken number []) (get_or blocks number [])) (sym grows.taken.is)
    (by old.taken number)
  where
    by : (blocks : List (List ℕ)) (number : ℕ) → IsPrefix (get_or blocks number []) (get_or (blocks ++ grows.taken.more) number [])
    by [] number = record { more = get_or grows.taken.more number []; is = refl }
    by (block ∷ blocks) zero = front_none block
    by (block ∷ blocks) (suc number) = by blocks number

-- A block still exists.
block_there : (old new : Parts) (number : ℕ) → Extends old new → number ≤ length old.taken → number ≤ length new.taken
block_there old new number grows there = omega (arith, there, front_length old.taken new.taken grows.taken)

note_grown : (old new : Parts) (at : Option NoteSpan) → Extends old new → IsNoteWithin old at → note_value new at ≡ note_value old at
note_grown old new None grows within = absurd within
note_grown old new (Some at) grows within =
    let front = block_grown old new at.block grows in
    let kind = range_grown (block_of old at.block) (block_of new at.block) at.start at.middle front within.0
    (omega (arith, within.1, within.2)) in
    let text = range_grown (block_of old at.block) (block_of new at.block) at.middle at.end front within.1 within.2 in
    λ i. entry.Note at.pid (kind i) (text i)

note_at_grown : (old new : List NoteSpan) (parts : Parts) (note : ℕ) → IsPrefix old new → IsNoteWithin parts (slice_get old note)
    → slice_get new note ≡ slice_get old note
note_at_grown old new parts note front within =
    ap (λ notes. slice_get notes note) front.is ∙ get_front old front.more note (there (slice_get old note) refl within)
  where
    there : (at : Option NoteSpan) → slice_get old note ≡ at → IsNoteWithin parts at → note < length old
    there None is within = absurd within
    there (Some at) is within = slice_get_within old note at is

-- A `PackedEntries` denotes the same entries.
pub seen_grown : (old new : Parts) (record' : PackedEntries) → Extends old new → Within old record'
    → denotes new record' ≡ denotes old record'
seen_grown old new (Texts lines block start end) grows within =
    ap (λ bytes. map entry.Text (ended bytes))
    (range_grown (block_of old block) (block_of new block) start end (block_grown old new block grows) within.0 within.1)
seen_grown old new (Mention pid how name) grows within =
    ap (λ n. entry.Mention pid how n ∷ []) (name_grown old.names new.names name grows.names within)
seen_grown old new (Done pid status name) grows within =
    ap (λ n. entry.Done pid status n ∷ []) (name_grown old.names new.names name grows.names within)
seen_grown old new (Closing pid status) grows within = refl
seen_grown old new (Note note) grows within =
    ap (λ e. e ∷ []) (ap (note_value new) (note_at_grown old.notes new.notes old note grows.notes within)
    ∙ note_grown old new (slice_get old.notes note) grows within)

-- The parts that a `PackedEntries` refers to still exist.
pub within_grown : (old new : Parts) (record' : PackedEntries) → Extends old new → Within old record' → Within new record'
within_grown old new (Texts lines block start end) grows within =
    let front = block_grown old new block grows in (
      within.0,
      omega (arith, within.1, front_length (block_of old block) (block_of new block) front),
      block_there old new block grows within.2,
      subst (λ bytes. AreCompleteLines bytes lines)
          (sym (range_grown (block_of old block) (block_of new block) start end front within.0 within.1)) within.3,
    )
within_grown old new (Mention pid how name) grows within = omega (arith, within, front_length old.names new.names grows.names.front)
within_grown old new (Done pid status name) grows within = omega (arith, within, front_length old.names new.names grows.names.front)
within_grown old new (Closing pid status) grows within = within
within_grown old new (Note note) grows within =
    subst (IsNoteWithin new) (sym (note_at_grown old.notes new.notes old note grows.notes within)) (more (slice_get old.notes note) within)
  where
    more : (at : Option NoteSpan) → IsNoteWithin old at → IsNoteWithin new at
    more None within = within
    more (Some at) within = (
      within.0,
      within.1,
      omega (arith, within.2, front_length (block_of old at.block) (block_of new at.block) (block_grown old new at.block grows)),
      block_there old new at.block grows within.3,
    )

pub all_seen_grown : (old new : Parts) (records : List PackedEntries) → Extends old new → AllByRecursion (Within old) records
    → flat_map (denotes new) records ≡ flat_map (denotes old) records
all_seen_grown old new [] grows within = refl
all_seen_grown old new (one ∷ records) grows within =
    λ i. seen_grown old new one grows within.0 i ++ all_seen_grown old new records grows within.1 i

pub all_within_grown : (old new : Parts) (records : List PackedEntries) → Extends old new → AllByRecursion (Within old) records
    → AllByRecursion (Within new) records
all_within_grown old new [] grows within = within
all_within_grown old new (one ∷ records) grows within =
    (within_grown old new one grows within.0, all_within_grown old new records grows within.1)

-- ---- steps

names_none : (names : List (List ℕ)) → NamesExtend names names
names_none names = record { front = record { more = []; is = sym (append-nil names) }; differ = tt; distinct = λ distinct. distinct }

-- Nothing more is stored.
pub grows_none : (parts : Parts) → Extends parts parts
grows_none parts = record {
  bytes = front_none parts.bytes;
  taken = front_none parts.taken;
  notes = front_none parts.notes;
  names = names_none parts.names;
}

-- An item that isn't in a list isn't in a prefix of it.
none_in_front : (p : List ℕ → Bool) (front more : List (List ℕ)) → list_any p (front ++ more) ≡ false → list_any p front ≡ false
none_in_front p front more none = (or_parts (list_any p front) (list_any p more) (sym (list_any-append p front more) ∙ none)).0

all_differ : (old mid first second : List (List ℕ)) → mid ≡ old ++ first
    → AllByRecursion (λ name. list_any (pointwise nat_eq name) old ≡ false) first
    → AllByRecursion (λ name. list_any (pointwise nat_eq name) mid ≡ false) second
    → AllByRecursion (λ name. list_any (pointwise nat_eq name) old ≡ false) (first ++ second)
all_differ old mid first second is one two = by first one
  where
    later : (names : List (List ℕ)) → AllByRecursion (λ name. list_any (pointwise nat_eq name) mid ≡ false) names
        → AllByRecursion (λ name. list_any (pointwise nat_eq name) old ≡ false) names
    later [] all = all
    later (name ∷ names) all =
        (none_in_front (pointwise nat_eq name) old first (ap (list_any (pointwise nat_eq name)) (sym is) ∙ all.0), later names all.1)

    by : (names : List (List ℕ)) → AllByRecursion (λ name. list_any (pointwise nat_eq name) old ≡ false) names
        → AllByRecursion (λ name. list_any (pointwise nat_eq name) old ≡ false) (names ++ second)
    by [] all = later second two
    by (name ∷ names) all = (all.0, by names all.1)

-- More is stored, and then more again.
pub grows_more : (old mid new : Parts) → Extends old mid → Extends mid new → Extends old new
unfolding front_front
grows_more old mid new first second = record {
  bytes = front_front old.bytes mid.bytes new.bytes first.bytes second.bytes;
  taken = front_front old.taken mid.taken new.taken first.taken second.taken;
  notes = front_front old.notes mid.notes new.notes first.notes second.notes;
  names = record {
    front = front_front old.names mid.names new.names first.names.front second.names.front;
    differ = all_differ old.names mid.names first.names.front.more second.names.front.more first.names.front.is first.names.differ
        second.names.differ;
    distinct = λ distinct. second.names.distinct (first.names.distinct distinct);
  };
}

-- A name is stored.
pub names_grow : (names : List (List ℕ)) (name : List ℕ) (new : List (List ℕ))
    → new ≡ (if list_any (pointwise nat_eq name) names then names else names ++ name ∷ []) → NamesExtend names new
names_grow names name new is = by (list_any (pointwise nat_eq name) names) refl is
  where
    by : (known : Bool) → list_any (pointwise nat_eq name) names ≡ known → new ≡ (if known then names else names ++ name ∷ [])
        → NamesExtend names new
    by true known is =
        let same = is ∙ refl in
        record {
          front = record { more = []; is = same ∙ sym (append-nil names) };
          differ = tt;
          distinct = subst (IsDistinct (pointwise nat_eq)) (sym same);
        }
    by false known is = record {
      front = record { more = name ∷ []; is = is };
      differ = (known, tt);
      distinct = λ distinct. subst (IsDistinct (pointwise nat_eq)) (sym is) (IsDistinct-push nat_list_eq_equiv names name distinct known);
    }

-- Only texts are stored.
pub bytes_grow : (old new : Parts) → IsPrefix old.bytes new.bytes → IsPrefix old.taken new.taken → new.notes ≡ old.notes
    → new.names ≡ old.names → Extends old new
bytes_grow old new front taken notes names = record {
  bytes = front;
  taken = taken;
  notes = subst (IsPrefix old.notes) (sym notes) (front_none old.notes);
  names = subst (NamesExtend old.names) (sym names) (names_none old.names);
}

-- A note and its texts are stored.
pub note_grows : (old new : Parts) (at : NoteSpan) → IsPrefix old.bytes new.bytes → IsPrefix old.taken new.taken
    → new.notes ≡ old.notes ++ at ∷ [] → new.names ≡ old.names → Extends old new
note_grows old new at front taken notes names = record {
  bytes = front;
  taken = taken;
  notes = record { more = at ∷ []; is = notes };
  names = subst (NamesExtend old.names) (sym names) (names_none old.names);
}

-- Only a name is stored.
pub name_grows : (old new : Parts) (name : List ℕ) → new.bytes ≡ old.bytes → new.taken ≡ old.taken → new.notes ≡ old.notes
    → new.names ≡ (if list_any (pointwise nat_eq name) old.names then old.names else old.names ++ name ∷ []) → Extends old new
name_grows old new name bytes taken notes names = record {
  bytes = subst (IsPrefix old.bytes) (sym bytes) (front_none old.bytes);
  taken = subst (IsPrefix old.taken) (sym taken) (front_none old.taken);
  notes = subst (IsPrefix old.notes) (sym notes) (front_none old.notes);
  names = names_grow old.names name new.names names;
}

-- A block that the table took ownership of.
pub block_taken : (parts : Parts) (taken : List (Vec ℕ Global)) (number : ℕ) (there : Vec ℕ Global)
    → map (λ block. block.items) taken ≡ parts.taken → number ≤ length parts.taken → number ≢ 0
    → there ≡ get_or taken (number - 1) there → there.items ≡ block_of parts number
block_taken parts taken zero there are within differs is = absurd (differs refl)
block_taken parts taken (suc number) there are within differs is =
    let before : suc number - 1 ≡ number = omega arith in
    ap (λ (block : Vec ℕ Global). block.items) (is ∙ ap (λ n. get_or taken n there) before)
    ∙ sym (get_or-map (λ (block : Vec ℕ Global). block.items) taken number there []
    (omega (arith, within, ap length are, length-map taken (λ (block : Vec ℕ Global). block.items))))
    ∙ ap (λ (blocks : List (List ℕ)). get_or blocks number []) are

-- Blocks stay the same if no text is stored.
pub block_same : (old new : Parts) (number : ℕ) → (new.bytes ≡ old.bytes) × (new.taken ≡ old.taken)
    → block_of new number ≡ block_of old number
block_same old new zero same = same.0
block_same old new (suc number) same = ap (λ (blocks : List (List ℕ)). get_or blocks number []) same.1

pub front_same : {A : Type 0} (old new : List A) → new ≡ old → IsPrefix old new
front_same old new same = record { more = []; is = same ∙ sym (append-nil old) }

-- A name that is found at a position has this position as its number.
pub named : (names : List (List ℕ)) (number : ℕ) (name there : List ℕ) → slice_get names number ≡ Some there
    → pointwise nat_eq name there ≡ true → HasNumber names number name
named names number name there at same = record {
  below = slice_get_within names number there at;
  is = get_or_from_slice_get names number there [] at ∙ sym (same_text name there (sym same));
}

-- The range of the appended items, if more follow.
range_put : (xs ys more : List ℕ) → slice_range ((xs ++ ys) ++ more) (length xs) (length (xs ++ ys)) ≡ ys
range_put xs ys more =
    range_front (xs ++ ys) more (length xs) (length (xs ++ ys)) (omega (arith, length-append xs ys)) (omega arith)
    ∙ ap (take (length (xs ++ ys) - length xs)) (drop-append_seam xs ys)
    ∙ take_all (length (xs ++ ys) - length xs) ys (omega (arith, length-append xs ys))

-- The element that was appended.
get_put : {A : Type 0} (xs : List A) (x : A) → slice_get (xs ++ x ∷ []) (length xs) ≡ Some x
get_put [] x = refl
get_put (y ∷ xs) x = get_put xs x

pub get_last : {A : Type 0} (xs : List A) (x : A) (ys : List A) (at : ℕ) → ys ≡ xs ++ x ∷ [] → at ≡ length xs → slice_get ys at ≡ Some x
get_last xs x ys at is place = (λ i. slice_get (is i) (place i)) ∙ get_put xs x

module _ (old new : Parts) (note : ℕ) (at : NoteSpan) (last : slice_get new.notes note ≡ Some at)
    (same : (new.bytes ≡ old.bytes) × (new.taken ≡ old.taken)) where
  -- An appended note refers to parts that existed before.
  pub note_last_within : IsNoteWithin old (Some at) → IsNoteWithin new (slice_get new.notes note)
  note_last_within within =
      subst (IsNoteWithin new) (sym last) (
        within.0,
        within.1,
        subst (λ (b : List ℕ). at.end ≤ length b) (sym (block_same old new at.block same)) within.2,
        subst
            (λ (blocks : List (List ℕ)). at.block ≤ length blocks) (sym same.1) within.3,
      )

  -- It denotes the same note.
  pub note_last_seen : note_value new (slice_get new.notes note) ≡ note_value old (Some at)
  note_last_seen =
      let block = block_same old new at.block same in
      ap (note_value new) last ∙ (λ i. entry.Note at.pid (slice_range (block i) at.start at.middle)
      (slice_range (block i) at.middle at.end))

-- A note whose kind and text were appended to block 0.
pub note_put : (pid : ℕ) (bytes kind text first second : List ℕ) → first ≡ bytes ++ kind → second ≡ first ++ text
    → (start middle end : ℕ) → start ≡ length bytes → middle ≡ length first → end ≡ length second
    → entry.Note pid (slice_range second start middle) (slice_range second middle end) ≡ entry.Note pid kind text
note_put pid bytes kind text first second first_is second_is start middle end start_is middle_is end_is =
    (λ i. entry.Note pid (slice_range second (start_is i) (middle_is i)) (slice_range second (middle_is i) (end_is i)))
    ∙ (λ i. entry.Note pid (slice_range (second_is i) (length bytes) (length first))
    (slice_range (second_is i) (length first) (length (second_is i))))
    ∙ (λ i. entry.Note pid (slice_range (first_is i ++ text) (length bytes) (length (first_is i)))
    (slice_range (first_is i ++ text) (length (first_is i)) (length (first_is i ++ text))))
    ∙ (λ i. entry.Note pid (range_put bytes kind text i) (range_last (bytes ++ kind) text i))
  where
    range_last : (xs ys : List ℕ) → slice_range (xs ++ ys) (length xs) (length (xs ++ ys)) ≡ ys
    range_last xs ys = ap (λ bs. slice_range bs (length xs) (length (xs ++ ys))) (sym (append-nil (xs ++ ys))) ∙ range_put xs ys []

-- The end of the appended items.
pub end_of : (end : ℕ) (xs ys new : List ℕ) → end ≡ length xs + length ys → new ≡ xs ++ ys → end ≡ length new
end_of end xs ys new is new_is = is ∙ sym (length-append xs ys) ∙ ap length (sym new_is)
