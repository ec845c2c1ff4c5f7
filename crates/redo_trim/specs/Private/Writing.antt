-- Text lines, one by one and many at once.
use Rattle.std.specs.Prelude.{◌≡◌, ℕ, ◌<◌, ◌≤◌, ◌^◌, ⊤, Bool, true, List, [], ◌∷◌, ◌++◌, Option, length, take, nat_le}
use Rattle.redo_device.specs.Sink.{Output, append_output}
use Rattle.redo_line.specs.Lines.{ended, rest}
use Rattle.redo_view.specs.Event.{Event}
use Rattle.redo_view.specs.Form.{text_events}
use Rattle.redo_trim.specs.declared.limit.Gauge.{Gauge}
use Rattle.redo_trim.specs.declared.limit.Showing.{Showing}
use Rattle.redo_trim.specs.declared.limit.Showing.TheVariants as showing
use Rattle.redo_trim.specs.Trim.{line_size, marker}

-- Whether no line is left out any more in the innermost log.
abbrev pub keeps_all : List Gauge → Bool
keeps_all [] = true
keeps_all (gauge ∷ outer) = nat_le gauge.limit.tail gauge.seen

-- Whether the tail of the innermost log begins within 2^64 bytes.
abbrev pub TailFits : List Gauge → Type 0
TailFits [] = ⊤
TailFits (gauge ∷ outer) = gauge.limit.tail < 2 ^ 64

-- The events of lines that are all shown in this way.
abbrev pub lines_shown : Showing → ℕ → List (List ℕ) → List Event
lines_shown showing.Whole depth lines = text_events depth lines
lines_shown showing.Marker depth lines = marker depth ∷ []
lines_shown showing.Nothing depth lines = []

-- The bytes are one line with its line feed.
pub record IsOneLine (bytes : List ℕ) : Type 0 where
  pub complete : rest bytes ≡ []
  pub line : List ℕ
  pub is : ended bytes ≡ line ∷ []
  pub size_is : line_size line ≡ length bytes

-- The first `size` bytes are one line with its line feed.
pub record IsFirstLine (bytes : List ℕ) (size : ℕ) : Type 0 where
  pub within : size ≤ length bytes
  pub is_line : IsOneLine (take size bytes)
  pub size_is : length (take size bytes) ≡ size

-- Everything of a text except `left` was written, and no write failed.
pub record WroteUpTo (before after : Option Output) (text left : List ℕ) : Type 0 where
  pub prefix : List ℕ
  pub wrote : after ≡ append_output before prefix 0
  pub splits : prefix ++ left ≡ text
