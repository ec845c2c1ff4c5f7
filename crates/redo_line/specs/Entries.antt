-- How entries share a few buffers: the offsets of the texts of each entry, or of its name.
use Rattle.std.specs.Prelude.{◌≡◌, ℕ, ◌≤◌, List, [], ◌∷◌, ⊤, length, map, slice_range}
use Rattle.std.specs.List.{AllByRecursion, flat_map}
use Rattle.redo_line.specs.declared.entries.EntryAt.{EntryAt}
use Rattle.redo_line.specs.declared.entries.EntryAt.TheVariants.{Texts, Mention, Done, Closing, Note}
use Rattle.redo_line.specs.declared.entries.Layout.{Layout}
use Rattle.redo_line.specs.declared.entry.Entry.{Entry}
use Rattle.redo_line.specs.declared.entry.Entry.TheVariants as entry
use Rattle.redo_line.specs.Lines.{AreCompleteLines, HasNoLineFeed, ended}
use Rattle.redo_name.specs.Names.{IsNormal}

module _ (bytes names : List ℕ) where
  -- The entries at a place: one for each of its text lines, or one other entry.
  abbrev pub entries_at_place : EntryAt → List Entry
  entries_at_place (Texts lines start end) = map entry.Text (ended (slice_range bytes start end))
  entries_at_place (Mention pid how start end) = entry.Mention pid how (slice_range names start end) ∷ []
  entries_at_place (Done pid status start end) = entry.Done pid status (slice_range names start end) ∷ []
  entries_at_place (Closing pid status) = entry.Closing pid status ∷ []
  entries_at_place (Note pid start middle end) = entry.Note pid (slice_range bytes start middle) (slice_range bytes middle end) ∷ []

  -- The range is within `names` and holds a normal form.
  abbrev pub IsNameAt : ℕ → ℕ → Type 0
  IsNameAt start end = (start ≤ end) × (end ≤ length names) × IsNormal (slice_range names start end)

  -- Whether a place is valid: its offsets are in order and within the buffers, its text lines are ended and `lines` in number, the
  -- kind and the text of a note have no line feed, and a name is a normal form.
  abbrev pub IsWithin : EntryAt → Type 0
  IsWithin (Texts lines start end) = (start ≤ end) × (end ≤ length bytes) × AreCompleteLines (slice_range bytes start end) lines
  IsWithin (Mention pid how start end) = IsNameAt start end
  IsWithin (Done pid status start end) = IsNameAt start end
  IsWithin (Closing pid status) = ⊤
  IsWithin (Note pid start middle end) =
      (start ≤ middle) × (middle ≤ end) × (end ≤ length bytes) × HasNoLineFeed (slice_range bytes start middle) × HasNoLineFeed (slice_range bytes middle end)

  abbrev pub entries_at : List EntryAt → List Entry
  entries_at places = flat_map entries_at_place places

  abbrev pub AreWithin : List EntryAt → Type 0
  AreWithin places = AllByRecursion IsWithin places

-- The places are valid, and these are the entries at them.
pub record AreStoredAt (bytes names : List ℕ) (places : List EntryAt) (entries : List Entry) : Type 0 where
  pub are : entries_at bytes names places ≡ entries
  pub within : AreWithin bytes names places

-- The layout has these entries.
abbrev pub IsLayout : Layout → List Entry → Type 0
IsLayout layout entries = AreStoredAt layout.bytes.now layout.names.now layout.places.now entries
