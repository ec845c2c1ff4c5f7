-- The symbols of a text: code points, and the sequences by which compilers set colours.
use Rattle.std.specs.Prelude.{ℕ, zero, suc, ◌+◌, ◌-◌, ◌*◌, min, Bool, true, false, ◌==◌, ◌||◌, ◌&&◌, nat_le, nat_lt, List, [], ◌∷◌, take, drop, Option, None, Some, slice_index, if◌then◌else◌}
use Rattle.std.specs.List.{list_any, prefix_len}
use Rattle.bstr.specs.Utf8.{decoded}
use Rattle.redo_html.specs.declared.text_kind.TextKind.{TextKind}
use Rattle.redo_html.specs.declared.text_kind.TextKind.TheVariants.{Log, Monochrome, Title}

-- A code point is a character of valid UTF-8, by its number. A byte that is no part of such a character is a code point of its own: its number is
-- U+DC00 plus the byte, which is the number of no character. (Python's `surrogateescape` does the same.)
--
-- A sequence is `ESC [`, parameters, and `m` or `K`, or it is a link. It has the numbers of an SGR sequence (`m`), or none (`K`, which erases a line, and
-- a link).
pub data Symbol : Type 0 where
  CodePoint : ℕ → Symbol
  Sequence : List ℕ → Symbol

abbrev pub code_point_of : Option ℕ → ℕ → ℕ
code_point_of None byte = 0xDC00 + byte
code_point_of (Some character) byte = character

abbrev pub size_of : Option ℕ → ℕ → ℕ
size_of None size = 1
size_of (Some character) size = size

-- The code point at the start of some bytes, and the number of its bytes. Table 3-7 of the Unicode Standard defines which bytes are a character.
unfoldable pub first_code_point : List ℕ → ℕ
first_code_point bytes = code_point_of (decoded bytes).char (slice_index bytes 0)

unfoldable pub code_point_len : List ℕ → ℕ
code_point_len bytes = size_of (decoded bytes).char (decoded bytes).size

-- Parameters are digits and semicolons.
abbrev pub is_parameter : ℕ → Bool
is_parameter byte = (nat_le 48 byte && nat_le byte 57) || byte == 59

abbrev pub parameter_count : List ℕ → ℕ
parameter_count bytes = prefix_len is_parameter (drop 2 bytes)

-- The byte after the parameters, or 0 if there is none.
abbrev pub final_byte : List ℕ → ℕ
final_byte bytes = slice_index bytes (2 + parameter_count bytes)

abbrev pub begins_sequence : List ℕ → Bool
begins_sequence bytes = slice_index bytes 0 == 27 && slice_index bytes 1 == 91 && (final_byte bytes == 109 || final_byte bytes == 75)

-- A link (OSC 8) is `ESC ] 8 ;`, a text, and BEL or `ESC \`. The text is printable ASCII without spaces: parameters, a semicolon, and a URL. Compilers
-- write a link before the words that lead to its URL, and one without parameters and URL after them.
abbrev pub is_link_byte : ℕ → Bool
is_link_byte byte = nat_lt 32 byte && nat_lt byte 127

abbrev pub link_text_len : List ℕ → ℕ
link_text_len bytes = prefix_len is_link_byte (drop 4 bytes)

abbrev pub link_text : List ℕ → List ℕ
link_text bytes = take (link_text_len bytes) (drop 4 bytes)

-- The number of bytes that end a link, if these two are the first after its text: BEL is one byte, and `ESC \` are two.
abbrev pub end_len : ℕ → ℕ → ℕ
end_len byte next = if byte == 7 then 1 else if byte == 27 && next == 92 then 2 else 0

abbrev pub link_end_len : List ℕ → ℕ
link_end_len bytes = end_len (slice_index bytes (4 + link_text_len bytes)) (slice_index bytes (5 + link_text_len bytes))

-- Whether bytes begin with `ESC ] 8 ;`.
abbrev pub begins_link_text : List ℕ → Bool
begins_link_text bytes = slice_index bytes 0 == 27 && slice_index bytes 1 == 93 && slice_index bytes 2 == 56 && slice_index bytes 3 == 59

abbrev pub begins_link : List ℕ → Bool
begins_link bytes = begins_link_text bytes && list_any (λ byte. byte == 59) (link_text bytes) && nat_lt 0 (link_end_len bytes)

-- The number of bytes of the link at the start of some bytes, or 0 if there is none.
abbrev pub link_len : List ℕ → ℕ
link_len bytes = if begins_link bytes then 4 + link_text_len bytes + link_end_len bytes else 0

-- The number of bytes of the sequence at the start of some bytes, or 0 if there is none.
unfoldable pub sequence_len : List ℕ → ℕ
sequence_len bytes = if begins_sequence bytes then 3 + parameter_count bytes else link_len bytes

-- The numbers of parameters. The digits before them have the value `value`. A missing number is 0. A number above 999 counts as 999, which
-- means nothing.
abbrev pub numbers_from : ℕ → List ℕ → List ℕ
numbers_from value [] = value ∷ []
numbers_from value (byte ∷ bytes) = if byte == 59 then value ∷ numbers_from 0 bytes else numbers_from (min 999 (10 * value + (byte - 48))) bytes

unfoldable pub sequence_numbers : List ℕ → List ℕ
sequence_numbers bytes = if slice_index bytes 1 == 91 && final_byte bytes == 109 then numbers_from 0 (take (parameter_count bytes) (drop 2 bytes)) else []

-- Only the text of a log has colours and links. In a name, each ESC is a code point.
abbrev pub has_colours : TextKind → Bool
has_colours Log = true
has_colours Monochrome = false
has_colours Title = false

-- Whether a sequence is at the start of some bytes.
unfoldable pub is_sequence : TextKind → List ℕ → Bool
is_sequence kind bytes = has_colours kind && nat_lt 0 (sequence_len bytes)

-- The first symbol of some bytes, and the number of its bytes.
unfoldable pub first_symbol : TextKind → List ℕ → Symbol
first_symbol kind bytes = if is_sequence kind bytes then Sequence (sequence_numbers bytes) else CodePoint (first_code_point bytes)

unfoldable pub symbol_len : TextKind → List ℕ → ℕ
symbol_len kind bytes = if is_sequence kind bytes then sequence_len bytes else code_point_len bytes

-- The symbols of some bytes, without the first `skipped` bytes, which belong to the symbol before them.
unfoldable pub symbols_after : TextKind → ℕ → List ℕ → List Symbol
symbols_after kind skipped [] = []
symbols_after kind zero (byte ∷ bytes) = first_symbol kind (byte ∷ bytes) ∷ symbols_after kind (symbol_len kind (byte ∷ bytes) - 1) bytes
symbols_after kind (suc skipped) (byte ∷ bytes) = symbols_after kind skipped bytes

-- The symbols of a text.
abbrev pub symbols : TextKind → List ℕ → List Symbol
symbols kind bytes = symbols_after kind 0 bytes
