-- The postconditions of writers to a buffer.
use Rattle.std.specs.Prelude.{◌≡◌, ℕ, ◌<◌, ◌≤◌, List, [], ◌∷◌, ◌++◌, Option, length, take, drop, Result, Ok, Err}
use Rattle.redo_device.specs.declared.feed.Broken.{Broken}
use Rattle.redo_device.specs.Sink.{Output, Writes}
use Rattle.redo_html.specs.declared.buffer.Buffer.{Buffer}
use Rattle.redo_html.specs.declared.look.Look.{Look}
use Rattle.redo_html.specs.declared.style.Style.{Style}
use Rattle.redo_html.specs.declared.text_kind.TextKind.TheVariants.{Log}
use Rattle.redo_line.specs.Lines.{ended, rest, with_line_feed}
use Rattle.redo_html.specs.Lines.{lines_html, style_after_lines}
use Rattle.redo_html.specs.Passage.{passage_html}
use Rattle.redo_html.specs.Private.Highlighting.{html_from}
use Rattle.redo_html.specs.Private.Writing.{WroteUpTo, style_in}

-- The bytes that are in a buffer.
abbrev pub held : Buffer → List ℕ
held buffer = take buffer.len buffer.bytes

-- A text was written up to the bytes that are in the buffer after it. The bytes `old` were in the buffer before it. Or a write failed.
abbrev pub Puts : Option Output → Option Output → List ℕ → List ℕ → List ℕ → Result (Unit {0}) Broken → Type 0
Puts before after old text now (Ok done) = WroteUpTo before after (old ++ text) now
Puts before after old text now (Err broken) = Writes before after (old ++ text) (Err broken)

-- The first `len` bytes are this text, and there are as many as are tested at once.
pub record IsPadded (bytes : List ℕ) (len : ℕ) (text : List ℕ) : Type 0 where
  pub few : len ≤ 16
  pub room : 16 ≤ length bytes
  pub text_is : take len bytes ≡ text

-- The first `count` bytes, at least one, were written as a part of a log's passage, and then the look is `next`.
pub record PutSome (before after : Option Output) (old : List ℕ) (look : Look) (bytes now : List ℕ) (next : Look) (count : ℕ) : Type 0 where
  pub some : 0 < count
  pub within : count ≤ length bytes
  pub wrote : WroteUpTo before after (old ++ html_from Log look bytes) (now ++ html_from Log next (drop count bytes))
  pub style : style_in Log next.wanted (drop count bytes) ≡ style_in Log look.wanted bytes

-- Some of a passage was written, or a write failed.
abbrev pub PutSomeOrFailed : Option Output → Option Output → List ℕ → Look → List ℕ → List ℕ → Look → Result ℕ Broken → Type 0
PutSomeOrFailed before after old look bytes now next (Ok count) = PutSome before after old look bytes now next count
PutSomeOrFailed before after old look bytes now next (Err broken) = Writes before after (old ++ html_from Log look bytes) (Err broken)

-- Some of the first line was written, or a write failed.
abbrev pub PutSomeOfLine : Option Output → Option Output → List ℕ → Look → List ℕ → List ℕ → Look → Result ℕ Broken → Type 0
PutSomeOfLine before after old look bytes now next result =
    (line : List ℕ) (lines : List (List ℕ)) → ended bytes ≡ line ∷ lines → PutSomeOrFailed before after old look (with_line_feed line) now next result

-- A log's passage was written, and at its end the style is `last`, or a write failed.
abbrev pub PutPassage : Option Output → Option Output → List ℕ → Style → List ℕ → List ℕ → Result Style Broken → Type 0
PutPassage before after old style bytes now (Ok last) = WroteUpTo before after (old ++ passage_html Log style bytes) now × (last ≡ style_in Log style bytes)
PutPassage before after old style bytes now (Err broken) = Writes before after (old ++ passage_html Log style bytes) (Err broken)

-- The HTML of lines, if the look is this before the first of them. Of that line, some may be written already.
abbrev pub html_left : Look → List (List ℕ) → List ℕ
html_left look [] = html_from Log look []
html_left look (line ∷ lines) = html_from Log look (with_line_feed line) ++ lines_html (style_in Log look.wanted (with_line_feed line)) lines

-- The first `count` bytes, one line or more, were written, and the style after them is `last`.
pub record PutSomeLines (before after : Option Output) (old : List ℕ) (style : Style) (bytes now : List ℕ) (last : Style) (count : ℕ) : Type 0 where
  pub some : 0 < count
  pub within : count ≤ length bytes
  pub complete : rest (drop count bytes) ≡ []
  pub wrote : WroteUpTo before after (old ++ lines_html style (ended bytes)) (now ++ lines_html last (ended (drop count bytes)))
  pub style_left : style_after_lines last (ended (drop count bytes)) ≡ style_after_lines style (ended bytes)

-- Some lines were written, or a write failed.
abbrev pub PutLines : Option Output → Option Output → List ℕ → Style → List ℕ → List ℕ → Result (Style × ℕ) Broken → Type 0
PutLines before after old style bytes now (Ok result) = PutSomeLines before after old style bytes now result.0 result.1
PutLines before after old style bytes now (Err broken) = Writes before after (old ++ lines_html style (ended bytes)) (Err broken)
