-- How entries are stored: texts in blocks, each name once, and `PackedEntries` values that refer to texts and names.
use Rattle.std.specs.Prelude.{◌≡◌, ℕ, zero, suc, ◌≤◌, ◌<◌, false, List, [], ◌∷◌, ◌++◌, Option, None, Some, nat_eq, length, map, drop, slice_get, slice_index_or, slice_range, ⊤}
use Rattle.std.specs.List.{AllByRecursion, IsDistinct, flat_map, list_any}
use Rattle.std.specs.Cmp.Lexicographic.{pointwise}
use Rattle.redo_line.specs.declared.entry.Entry.{Entry}
use Rattle.redo_line.specs.declared.entry.Entry.TheVariants as entry
use Rattle.redo_line.specs.Lines.{AreCompleteLines, HasNoLineFeed, ended, with_line_feed}
use Rattle.redo_logs.specs.declared.store.NoteSpan.{NoteSpan}
use Rattle.redo_logs.specs.declared.store.PackedEntries.{PackedEntries}
use Rattle.redo_logs.specs.declared.store.PackedEntries.TheVariants.{Texts, Mention, Done, Closing, Note}
use Rattle.redo_logs.specs.Numbering.{name_at}

pub record Parts : Type 0 where
  pub bytes : List ℕ
  pub taken : List (List ℕ)
  pub notes : List NoteSpan
  pub names : List (List ℕ)

abbrev pub no_parts : Parts
no_parts = record { bytes = []; taken = []; notes = []; names = [] }

-- A block: block 0 is the table's own, and the others are buffers that it took ownership of.
abbrev pub block_of : Parts → ℕ → List ℕ
block_of parts zero = parts.bytes
block_of parts (suc number) = slice_index_or parts.taken number []

-- Whether `front` is a prefix of `whole`.
pub record IsPrefix {A : Type 0} (front whole : List A) : Type 0 where
  pub more : List A
  pub is : whole ≡ front ++ more

-- Whether `new` is `old` followed by names that are not in `old`. If the names in `old` are distinct, so are the names in
-- `new`.
pub record NamesExtend (old new : List (List ℕ)) : Type 0 where
  pub front : IsPrefix old new
  pub differ : AllByRecursion (λ name. list_any (pointwise nat_eq name) old ≡ false) front.more
  pub distinct : IsDistinct (pointwise nat_eq) old → IsDistinct (pointwise nat_eq) new

-- Whether everything that was stored in `old` is unchanged in `new`.
pub record Extends (old new : Parts) : Type 0 where
  pub bytes : IsPrefix old.bytes new.bytes
  pub taken : IsPrefix old.taken new.taken
  pub notes : IsPrefix old.notes new.notes
  pub names : NamesExtend old.names new.names

-- Whether `number` is the number of this name.
pub record HasNumber (names : List (List ℕ)) (number : ℕ) (name : List ℕ) : Type 0 where
  pub below : number < length names
  pub is : name_at names number ≡ name

abbrev pub note_value : Parts → Option NoteSpan → Entry
note_value parts None = entry.Note 0 [] []
note_value parts (Some at) = entry.Note at.pid (slice_range (block_of parts at.block) at.start at.middle) (slice_range (block_of parts at.block) at.middle at.end)

-- The entries that a `PackedEntries` denotes: the texts of its lines, or one entry.
abbrev pub denotes : Parts → PackedEntries → List Entry
denotes parts (Texts lines block start end) = map entry.Text (ended (slice_range (block_of parts block) start end))
denotes parts (Mention pid how name) = entry.Mention pid how (name_at parts.names name) ∷ []
denotes parts (Done pid status name) = entry.Done pid status (name_at parts.names name) ∷ []
denotes parts (Closing pid status) = entry.Closing pid status ∷ []
denotes parts (Note note) = note_value parts (slice_get parts.notes note) ∷ []

abbrev pub IsNoteWithin : Parts → Option NoteSpan → Type 0
IsNoteWithin parts None = ⊥
IsNoteWithin parts (Some at) =
    (at.start ≤ at.middle) × (at.middle ≤ at.end) × (at.end ≤ length (block_of parts at.block)) × (at.block ≤ length parts.taken)

-- Whether everything that a `PackedEntries` refers to exists, and its texts are as many whole lines as it states.
abbrev pub Within : Parts → PackedEntries → Type 0
Within parts (Texts lines block start end) =
    (start ≤ end) × (end ≤ length (block_of parts block)) × (block ≤ length parts.taken) × AreCompleteLines (slice_range (block_of parts block) start end) lines
Within parts (Mention pid how name) = name < length parts.names
Within parts (Done pid status name) = name < length parts.names
Within parts (Closing pid status) = ⊤
Within parts (Note note) = IsNoteWithin parts (slice_get parts.notes note)

-- The number of entries in a `PackedEntries`.
abbrev pub count_in : PackedEntries → ℕ
count_in (Texts lines block start end) = lines
count_in (Mention pid how name) = 1
count_in (Done pid status name) = 1
count_in (Closing pid status) = 1
count_in (Note note) = 1

-- Whether `bytes` are the lines of `count` texts, with which the entries of a `PackedEntries` from position `place` on begin.
pub record AreLinesOf (parts : Parts) (one : PackedEntries) (place : ℕ) (bytes : List ℕ) (count : ℕ) : Type 0 where
  pub texts : List (List ℕ)
  pub are : IsPrefix (map entry.Text texts) (drop place (denotes parts one))
  pub count_is : length texts ≡ count
  pub no_line_feeds : AllByRecursion HasNoLineFeed texts
  pub bytes_are : bytes ≡ flat_map with_line_feed texts

abbrev pub IsTexts : PackedEntries → Type 0
IsTexts (Texts lines block start end) = ⊤
IsTexts (Mention pid how name) = ⊥
IsTexts (Done pid status name) = ⊥
IsTexts (Closing pid status) = ⊥
IsTexts (Note note) = ⊥
