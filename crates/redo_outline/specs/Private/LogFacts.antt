-- Facts of a single log.
use Rattle.std.specs.Prelude.{ℕ, ◌==◌, Bool, List, [], ◌∷◌, length, count_by, if◌then◌else◌}
use Rattle.redo_line.specs.declared.entry.Entry.{Entry}
use Rattle.redo_line.specs.Lines.{line_feed}
use Rattle.redo_outline.specs.declared.facts.LogFacts.{LogFacts}
use Rattle.redo_outline.specs.Facts.{is_warning, saturated, status_in_log, text_size, texts_of}

-- The number of warnings in a log's output, or 0 if they aren't counted.
abbrev pub warnings_if : Bool → List (List ℕ) → ℕ
warnings_if counted texts = if counted then count_by is_warning texts else 0

abbrev pub facts_of : Bool → List Entry → LogFacts
facts_of with_warnings entries = record {
  lines = saturated (length (texts_of entries));
  bytes = saturated (text_size (texts_of entries));
  warnings = saturated (warnings_if with_warnings (texts_of entries));
  status = status_in_log entries;
}

-- The bytes after the first line feed; none if there is no line feed.
abbrev pub after_line : List ℕ → List ℕ
after_line [] = []
after_line (byte ∷ bytes) = if byte == line_feed then bytes else after_line bytes
