-- The text lines of a log, as they are iterated over.
use Rattle.std.specs.Prelude.{◌≡◌, ℕ, ◌+◌, ◌<◌, List, [], ◌++◌, length}
use Rattle.redo_line.specs.Lines.{HasNoLineFeed, ended, rest, with_line_feed}

-- Lines that are left. `stretch` has the first of them, with their line feeds, as far as they are stored together with the line before
-- them. `done` is the number of lines before them.
pub record LinesLeft : Type 0 where
  pub left : List (List ℕ)
  pub stretch : List ℕ
  pub done : ℕ

-- These bytes are one line, with its line feed.
pub record IsWholeLine (bytes : List ℕ) : Type 0 where
  pub line : List ℕ
  pub bytes_are : bytes ≡ with_line_feed line
  pub no_line_feed : HasNoLineFeed line

-- These bytes are lines with their line feeds, at least one.
pub record IsStretch (bytes : List ℕ) : Type 0 where
  pub complete : rest bytes ≡ []
  pub some : 0 < length (ended bytes)

-- The lines left in `before` are the lines in `bytes`, and those left in `after`.
pub record AreNextLines (bytes : List ℕ) (before after : LinesLeft) : Type 0 where
  pub lines : before.left ≡ ended bytes ++ after.left
  pub done : after.done ≡ before.done + length (ended bytes)
