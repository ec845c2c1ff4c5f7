-- The postconditions of writers in parts.
use Rattle.std.specs.Prelude.{◌≡◌, ⊤, ℕ, ◌+◌, ◌-◌, fold, ◌<◌, ◌≤◌, Bool, true, false, ◌==◌, ◌||◌, ◌&&◌, not, encode_utf8, List, [], ◌∷◌, ◌++◌, map, Option, None, Some, length, take, drop, replicate, slice_index, Result, Ok, Err, if◌then◌else◌}
use Rattle.std.specs.Int.{w64, trailing_zeros}
use Rattle.std.specs.List.{flat_map, list_all}
use Rattle.redo_device.specs.declared.feed.Broken.{Broken}
use Rattle.redo_device.specs.Sink.{Output, append_output, Writes}
use Rattle.redo_html.specs.declared.text_kind.TextKind.{TextKind}
use Rattle.redo_html.specs.declared.look.Look.{Look}
use Rattle.redo_html.specs.declared.text_kind.TextKind.TheVariants.{Log}
use Rattle.redo_html.specs.declared.style.Style.{Style}
use Rattle.redo_html.specs.Laws.{is_plain}
use Rattle.redo_html.specs.Lines.{style_after_symbol, style_after, style_after_lines, lines_html}
use Rattle.redo_html.specs.Passage.{has_highlights, passage_html}
use Rattle.redo_html.specs.Private.Highlighting.{html_from, with_wanted}
use Rattle.redo_line.specs.Lines.{ended, rest}
use Rattle.redo_html.specs.declared.style.Setting.{Setting}
use Rattle.redo_html.specs.Shown.{is_unprintable}
use Rattle.redo_html.specs.Style.{setting_after, restyled}
use Rattle.redo_html.specs.Symbols.{Symbol, symbols, sequence_len, sequence_numbers, numbers_from}
use Rattle.redo_html.specs.Symbols.Symbol.{CodePoint, Sequence}

-- Everything of a text except `rest` was written, and no write failed.
pub record WroteUpTo (before after : Option Output) (text rest : List ℕ) : Type 0 where
  pub prefix : List ℕ
  pub wrote : after ≡ append_output before prefix 0
  pub splits : prefix ++ rest ≡ text

-- The style at the end of a text of any kind.
abbrev pub style_in : TextKind → Style → List ℕ → Style
style_in kind style bytes = fold style_after_symbol style (symbols kind bytes)

-- The first `count` bytes, at least one, were written as a part of a passage, and then the look is `next`.
pub record WroteSome (before after : Option Output) (kind : TextKind) (look : Look) (bytes : List ℕ) (next : Look) (count : ℕ) : Type 0 where
  pub some : 0 < count
  pub within : count ≤ length bytes
  pub wrote : WroteUpTo before after (html_from kind look bytes) (html_from kind next (drop count bytes))
  pub style : style_in kind next.wanted (drop count bytes) ≡ style_in kind look.wanted bytes

-- Some of a passage was written, or a write failed.
abbrev pub WroteSomeOrFailed : Option Output → Option Output → TextKind → Look → List ℕ → Look → Result ℕ Broken → Type 0
WroteSomeOrFailed before after kind look bytes next (Ok count) = WroteSome before after kind look bytes next count
WroteSomeOrFailed before after kind look bytes next (Err broken) = Writes before after (html_from kind look bytes) (Err broken)

-- A passage was written, and at its end the style is `last`, or a write failed.
abbrev pub WrotePassage : Option Output → Option Output → TextKind → Style → List ℕ → Result Style Broken → Type 0
WrotePassage before after kind style bytes (Ok last) = (after ≡ append_output before (passage_html kind style bytes) 0) × (last ≡ style_in kind style bytes)
WrotePassage before after kind style bytes (Err broken) = Writes before after (passage_html kind style bytes) (Err broken)

-- The first `len` bytes are one line or more, and are written as one passage.
pub record BeginsPassage (style : Style) (bytes : List ℕ) (len : ℕ) : Type 0 where
  pub some : 0 < len
  pub within : len ≤ length bytes
  pub complete : rest (drop len bytes) ≡ []
  pub html : passage_html Log style (take len bytes) ++ lines_html (style_after style (take len bytes)) (ended (drop len bytes)) ≡ lines_html style (ended bytes)
  pub style_after_them : style_after_lines (style_after style (take len bytes)) (ended (drop len bytes)) ≡ style_after_lines style (ended bytes)

-- Whether a code point is written as it is.
abbrev pub is_verbatim : ℕ → Bool
is_verbatim code_point = not (is_unprintable code_point) && (not (code_point == 38) && (not (code_point == 60) && not (code_point == 62)))

-- The first `len` bytes are code points that are written as they are.
pub record IsVerbatim (bytes : List ℕ) (len : ℕ) : Type 0 where
  pub within : len ≤ length bytes
  pub code_points : List ℕ
  pub verbatim : list_all is_verbatim code_points ≡ true
  pub bytes_are : take len bytes ≡ flat_map encode_utf8 code_points
  pub symbols_are : (kind : TextKind) → symbols kind bytes ≡ map CodePoint code_points ++ symbols kind (drop len bytes)

-- The code point that a symbol is, if it is one.
abbrev pub symbol_code_point : Symbol → Option ℕ
symbol_code_point (CodePoint code_point) = Some code_point
symbol_code_point (Sequence numbers) = None

-- Whether symbols don't begin with this code point.
abbrev pub BeginsOther : ℕ → List Symbol → Type 0
BeginsOther code_point [] = ⊤
BeginsOther code_point (Sequence numbers ∷ symbols) = ⊤
BeginsOther code_point (CodePoint other ∷ symbols) = (code_point == other) ≡ false

-- The symbols of some bytes begin with a code point that occurs `count` times in a row, and no more often. These are the first `len` bytes.
pub record IsRepeated (kind : TextKind) (code_point : ℕ) (bytes : List ℕ) (count len : ℕ) : Type 0 where
  pub some : 0 < count
  pub bytes_taken : 0 < len
  pub within : len ≤ length bytes
  pub repeated : symbols kind bytes ≡ replicate count (CodePoint code_point) ++ symbols kind (drop len bytes)
  pub other : BeginsOther code_point (symbols kind (drop len bytes))

-- A highlight, if it is wanted and this kind of text has highlights.
abbrev pub optional_highlight : TextKind → Bool → List ℕ → List ℕ
optional_highlight kind wanted html = if wanted && has_highlights kind then html else []

-- A sequence is at the start of some bytes, and has `len` bytes. It sets a style if it begins with `ESC [` and ends with `m`.
pub record IsSequence (bytes : List ℕ) (len : ℕ) : Type 0 where
  pub some : 3 ≤ len
  pub within : len ≤ length bytes
  pub numbers : sequence_numbers bytes ≡ (if slice_index bytes 1 == 91 && slice_index bytes (len - 1) == 109 then numbers_from 0 (take (len - 3) (drop 2 bytes)) else [])

-- A sequence of `len` bytes is at the start of some bytes, and the style after it is `next`; or `len` is 0.
abbrev pub ReadsSequence : Style → List ℕ → Style → ℕ → Type 0
ReadsSequence style bytes next len = 0 < len → (len ≡ sequence_len bytes) × (next ≡ restyled style (sequence_numbers bytes))

-- An `m` is at this index, and `ESC [ K` after it.
abbrev pub IsBeforeErase : List ℕ → ℕ → Type 0
IsBeforeErase bytes at =
    (slice_index bytes at ≡ 109) × (slice_index bytes (at + 1) ≡ 27) × (slice_index bytes (at + 2) ≡ 91) × (slice_index bytes (at + 3) ≡ 75)

-- Two sequences of `len` bytes are at the start of some bytes, the second is `ESC [ K`, and the style after both is `next`.
pub record ReadsPair (style : Style) (bytes : List ℕ) (next : Style) (len : ℕ) : Type 0 where
  pub first : ℕ
  pub some : 0 < first
  pub both : len ≡ first + 3
  pub read : ReadsSequence style bytes next first
  pub escape : slice_index bytes first ≡ 27
  pub erase : ReadsSequence next (drop first bytes) next 3

-- The first `len` bytes of a log's text are sequences, after which the style is `next`.
pub record SkipsSequences (style : Style) (bytes : List ℕ) (next : Style) (len : ℕ) : Type 0 where
  pub within : len ≤ length bytes
  pub html : (look : Look) → look.wanted ≡ style → html_from Log (with_wanted look next) (drop len bytes) ≡ html_from Log look bytes
  pub style_left : style_in Log next (drop len bytes) ≡ style_in Log style bytes

-- Reading a byte of parameters in this state leads to the other state, before any bytes.
pub record ReadsParameter (before after : Setting) (value byte next : ℕ) : Type 0 where
  pub bound : next ≤ 999
  pub same : (rest : List ℕ) → fold setting_after after (numbers_from next rest) ≡ fold setting_after before (numbers_from value (byte ∷ rest))

-- The first `run` of the `count` bytes from `at` on are plain.
abbrev pub ArePlain : List ℕ → ℕ → ℕ → ℕ → Type 0
ArePlain bytes at count run = (run ≤ count) × (list_all is_plain (take run (drop at bytes)) ≡ true)

-- The first `run` of the `count` bytes from `at` on are no line feeds.
abbrev pub HaveNoLineFeed : List ℕ → ℕ → ℕ → ℕ → Type 0
HaveNoLineFeed bytes at count run = (run ≤ count) × (list_all (λ byte. not (byte == 10)) (take run (drop at bytes)) ≡ true)

-- U+2018 or U+2019 is at this index.
abbrev pub IsQuote : List ℕ → ℕ → Type 0
IsQuote bytes at =
    (slice_index bytes at ≡ 0xE2) × (slice_index bytes (at + 1) ≡ 0x80) × ((slice_index bytes (at + 2) == 0x98 || slice_index bytes (at + 2) == 0x99) ≡ true)

-- The place of the lowest bit that is set, or `count` if none is.
abbrev pub first_set : ℕ → ℕ → ℕ
first_set mask count = if mask == 0 then count else trailing_zeros w64 mask
