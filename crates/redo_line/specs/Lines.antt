-- How bytes are split into lines and a rest.
use Rattle.std.specs.Prelude.{◌≡◌, ◌≢◌, ℕ, ◌<◌, length, List, [], ◌∷◌, ◌++◌, Option, None, Some, option_to_list, ◌==◌, if◌then◌else◌}
use Rattle.std.specs.List.{AllByRecursion, flat_map}

-- The byte that ends a line and is not part of it.
abbrev pub line_feed : ℕ
line_feed = 10

-- Whether the bytes contain no line feed.
abbrev pub HasNoLineFeed : List ℕ → Type 0
HasNoLineFeed bytes = AllByRecursion (λ byte. byte ≢ line_feed) bytes

-- A line followed by its line feed.
abbrev pub with_line_feed : List ℕ → List ℕ
with_line_feed line = line ++ line_feed ∷ []

-- The bytes are these lines, each followed by a line feed, and then the rest `last`. Neither a line nor the rest contains a line
-- feed.
pub record AreLines (bytes : List ℕ) (lines : List (List ℕ)) (last : List ℕ) : Type 0 where
  pub whole : bytes ≡ flat_map with_line_feed lines ++ last
  pub lines_hold_none : AllByRecursion HasNoLineFeed lines
  pub rest_holds_none : HasNoLineFeed last

-- Ended lines, and the bytes after the last line feed.
pub record SplitLines : Type 0 where
  pub lines : List (List ℕ)
  pub last : List ℕ

-- Puts a byte before bytes that were split: before the first line, or before the rest if there is no line.
abbrev pub prepend_byte : ℕ → List (List ℕ) → List ℕ → SplitLines
prepend_byte byte [] last = record { lines = []; last = byte ∷ last }
prepend_byte byte (line ∷ lines) last = record { lines = (byte ∷ line) ∷ lines; last = last }

-- The split of these bytes. It is the only one for which `AreLines` holds (law `splitting_is_unique`).
unfoldable pub split_lines : List ℕ → SplitLines
split_lines [] = record { lines = []; last = [] }
split_lines (byte ∷ bytes) = let after = split_lines bytes in
    if byte == line_feed then record { lines = [] ∷ after.lines; last = after.last } else prepend_byte byte after.lines after.last

-- The ended lines of these bytes.
unfoldable pub ended : List ℕ → List (List ℕ)
ended bytes = (split_lines bytes).lines

-- The rest: the bytes after the last line feed.
unfoldable pub rest : List ℕ → List ℕ
rest bytes = (split_lines bytes).last

-- The bytes are `count` lines, at least one, and no byte follows the last line feed.
pub record AreCompleteLines (bytes : List ℕ) (count : ℕ) : Type 0 where
  pub count_is : length (ended bytes) ≡ count
  pub some : 0 < count
  pub no_rest : rest bytes ≡ []

-- The unended line, from the rest. An empty rest is not a line.
abbrev pub unended : List ℕ → Option (List ℕ)
unended [] = None
unended (byte ∷ bytes) = Some (byte ∷ bytes)

-- All lines: the ended lines, and the unended line if there is one.
abbrev pub all_lines : List ℕ → List (List ℕ)
all_lines bytes = ended bytes ++ option_to_list (unended (rest bytes))
