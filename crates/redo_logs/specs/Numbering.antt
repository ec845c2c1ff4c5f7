-- A table whose names have numbers: its logs, and its names in the order of these numbers.
use Rattle.std.specs.Prelude.{◌≡◌, ℕ, ◌+◌, ◌<◌, List, [], ◌∷◌, Some, length, slice_index_or, ⊤}
use Rattle.std.specs.List.{AllByRecursion, flat_map}
use Rattle.redo_line.specs.Lines.{HasNoLineFeed, with_line_feed}
use Rattle.redo_line.specs.declared.entry.Entry.{Entry}
use Rattle.redo_line.specs.declared.entry.Entry.TheVariants as entry
use Rattle.redo_logs.specs.declared.numbered.NumberedEntry.{NumberedEntry}
use Rattle.redo_logs.specs.declared.numbered.NumberedEntry.TheVariants.{Mention, Other}
use Rattle.redo_logs.specs.EntryRef.{entry_value}
use Rattle.redo_logs.specs.Logs.{Log, entry_at}

pub record Numbering : Type 0 where
  pub logs : List Log
  pub names : List (List ℕ)

-- The name with this number; the empty name if there is none.
abbrev pub name_at : List (List ℕ) → ℕ → List ℕ
name_at names number = slice_index_or names number []

-- The entry that a `NumberedEntry` is modelled as.
abbrev pub numbered_value : List (List ℕ) → NumberedEntry → Entry
numbered_value names (Mention pid how name) = entry.Mention pid how (name_at names name)
numbered_value names (Other other) = entry_value other

-- Whether an entry is no mention.
abbrev pub HasNoMention : Entry → Type 0
HasNoMention (entry.Text line) = ⊤
HasNoMention (entry.Mention pid how name) = ⊥
HasNoMention (entry.Done pid status name) = ⊤
HasNoMention (entry.Closing pid status) = ⊤
HasNoMention (entry.Note pid kind text) = ⊤

-- Whether a mention has the number of a name, and `Other` holds no mention.
abbrev pub IsNumbered : List (List ℕ) → NumberedEntry → Type 0
IsNumbered names (Mention pid how name) = name < length names
IsNumbered names (Other other) = HasNoMention (entry_value other)

-- Whether the entries of log `i` from entry `k` on begin with these texts.
abbrev pub AreTexts : List Log → ℕ → ℕ → List (List ℕ) → Type 0
AreTexts logs i k [] = ⊤
AreTexts logs i k (text ∷ texts) = (entry_at i k logs ≡ Some (entry.Text text)) × AreTexts logs i (k + 1) texts

-- Whether `bytes` are the lines of `count` such texts, each with its line feed.
pub record AreLinesAt (logs : List Log) (i k : ℕ) (bytes : List ℕ) (count : ℕ) : Type 0 where
  pub texts : List (List ℕ)
  pub are : AreTexts logs i k texts
  pub count_is : length texts ≡ count
  pub no_line_feeds : AllByRecursion HasNoLineFeed texts
  pub bytes_are : bytes ≡ flat_map with_line_feed texts

-- Whether entry `k` of log `i` is a text line.
abbrev pub HasText : List Log → ℕ → ℕ → Type 0
HasText logs i k = (text : List ℕ) × (entry_at i k logs ≡ Some (entry.Text text))
