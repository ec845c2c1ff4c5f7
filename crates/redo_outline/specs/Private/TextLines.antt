-- The text lines of a log, by the numbers of entries.
use Rattle.std.specs.Prelude.{◌≡◌, ℕ, ◌+◌, ◌≤◌, List, [], ◌++◌, drop, length}
use Rattle.redo_line.specs.Lines.{ended, rest}
use Rattle.redo_logs.specs.Logs.{Log}
use Rattle.redo_outline.specs.Facts.{entries_at, texts_of}

-- The text lines of log `number` from entry `next` on.
abbrev pub texts_from : List Log → ℕ → ℕ → List (List ℕ)
texts_from logs number next = texts_of (drop next (entries_at number logs))

-- The text lines from entry `next` on begin with these lines, which end before entry `after`. If they are none, no text line is left.
pub record IsNextStretch (logs : List Log) (number next : ℕ) (lines : List ℕ) (after : ℕ) : Type 0 where
  pub complete : rest lines ≡ []
  pub split : texts_from logs number next ≡ ended lines ++ texts_from logs number after
  pub count : next + length (ended lines) ≤ after
  pub none : lines ≡ [] → texts_from logs number next ≡ []

-- The lines left in `lines` and from entry `after` on are the lines that were left in `stretch` and from entry `next` on. If `lines` are
-- none, no line is left.
pub record IsRefilled (logs : List Log) (number : ℕ) (stretch : List ℕ) (next : ℕ) (lines : List ℕ) (after : ℕ) : Type 0 where
  pub complete : rest lines ≡ []
  pub left : ended stretch ++ texts_from logs number next ≡ ended lines ++ texts_from logs number after
  pub count : next + length (ended lines) ≤ after + length (ended stretch)
  pub none : lines ≡ [] → ended stretch ++ texts_from logs number next ≡ []
