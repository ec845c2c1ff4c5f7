-- The text that a reader sees.
use Rattle.std.specs.Prelude.{ℕ, suc, ◌+◌, ◌-◌, ◌/◌, ◌%◌, Bool, true, false, ◌==◌, ◌||◌, ◌&&◌, not, nat_le, nat_lt, List, [], ◌∷◌, ◌++◌, codes, decimal, encode_utf8, if◌then◌else◌}
use Rattle.std.specs.Fmt.{digit_glyph}
use Rattle.std.specs.List.{flat_map, list_all, list_any, repeat}
use Rattle.redo_html.specs.declared.text_kind.TextKind.{TextKind}
use Rattle.redo_html.specs.declared.text_kind.TextKind.TheVariants.{Monochrome}
use Rattle.redo_html.specs.Symbols.{Symbol, symbols}
use Rattle.redo_html.specs.Symbols.Symbol.{CodePoint, Sequence}

-- Characters that can't be seen, or that change the direction of others, by their first and last numbers; characters that a browser rejects
-- (U+FDD0 to U+FDEF); and the numbers of bytes that are no part of a character, which are among the surrogates.
--
-- All characters with Unicode's property `Default_Ignorable_Code_Point` are here, except U+200C, U+200D and U+FE0F: words of some languages
-- need the two joiners, and emoji need U+200D and U+FE0F. The others are control characters (U+0080 to U+009F), the separators U+2028 and
-- U+2029, and the annotation characters U+FFF9 to U+FFFB.
abbrev pub unseen_ranges : List (ℕ × ℕ)
unseen_ranges =
    (0x80, 0x9F) ∷ (0xAD, 0xAD) ∷ (0x34F, 0x34F) ∷ (0x61C, 0x61C) ∷ (0x115F, 0x1160) ∷ (0x17B4, 0x17B5) ∷ (0x180B, 0x180F) ∷ (0x200B, 0x200B) ∷ (0x200E, 0x200F) ∷ (0x2028, 0x202E) ∷ (0x2060, 0x206F) ∷ (0x3164, 0x3164)
    ∷ (0xD800, 0xDFFF) ∷ (0xFDD0, 0xFDEF) ∷ (0xFE00, 0xFE0E) ∷ (0xFEFF, 0xFEFF) ∷ (0xFFA0, 0xFFA0) ∷ (0xFFF0, 0xFFFB) ∷ (0x1BCA0, 0x1BCA3) ∷ (0x1D173, 0x1D17A) ∷ (0xE0000, 0xE0FFF) ∷ []

abbrev pub is_between : ℕ → ℕ × ℕ → Bool
is_between code_point range = nat_le range.0 code_point && nat_le code_point range.1

-- A control character other than a tab or a line feed.
abbrev pub is_control : ℕ → Bool
is_control code_point = (nat_lt code_point 32 && not (code_point == 9) && not (code_point == 10)) || code_point == 127

-- The last two code points of each plane, U+FFFE and U+FFFF to U+10FFFE and U+10FFFF: a browser rejects them.
abbrev pub ends_plane : ℕ → Bool
ends_plane code_point = nat_le 0xFFFE (code_point % 0x10000)

-- Whether a notation is shown instead of a code point.
unfoldable pub is_unprintable : ℕ → Bool
is_unprintable code_point = is_control code_point || (ends_plane code_point || list_any (is_between code_point) unseen_ranges)

abbrev pub lower_hex : ℕ → ℕ
lower_hex digit = digit_glyph false (digit % 16)

abbrev pub upper_hex : ℕ → ℕ
upper_hex digit = digit_glyph true (digit % 16)

-- The notation of a byte that is no part of a character: `\xff`.
abbrev pub byte_notation : ℕ → List ℕ
byte_notation byte = 92 ∷ 120 ∷ lower_hex (byte / 16) ∷ lower_hex byte ∷ []

-- The notation of a character by its number, in four digits or as many as it has: `[U+202E]`.
abbrev pub code_point_notation : ℕ → List ℕ
code_point_notation code_point =
    if nat_lt code_point 0x10000 then 91 ∷ 85 ∷ 43 ∷ upper_hex (code_point / 4096) ∷ upper_hex (code_point / 256) ∷ upper_hex (code_point / 16) ∷ upper_hex code_point ∷ 93 ∷ []
    else if nat_lt code_point 0x100000 then 91 ∷ 85 ∷ 43 ∷ upper_hex (code_point / 65536) ∷ upper_hex (code_point / 4096) ∷ upper_hex (code_point / 256) ∷ upper_hex (code_point / 16) ∷ upper_hex code_point ∷ 93 ∷ []
    else 91 ∷ 85 ∷ 43 ∷ upper_hex (code_point / 0x100000) ∷ upper_hex (code_point / 65536) ∷ upper_hex (code_point / 4096) ∷ upper_hex (code_point / 256) ∷ upper_hex (code_point / 16) ∷ upper_hex code_point ∷ 93 ∷ []

-- The notation of an unprintable code point. The notation of a control character is a caret and the letter 64 places after it: `^M`.
unfoldable pub notation : ℕ → List ℕ
notation code_point =
    if nat_lt code_point 32 then 94 ∷ (code_point + 64) ∷ []
    else if code_point == 127 then codes "^?"
    else if is_between code_point (0xDC00, 0xDCFF) then byte_notation (code_point - 0xDC00)
    else code_point_notation code_point

-- A number in the text of a page, or in a tag. None is larger than 2^64 - 1.
unfoldable pub number_text : ℕ → List ℕ
number_text number = if nat_lt number 0x10000000000000000 then decimal number else []

-- The notation of an unprintable code point that occurs `count` times in a row: repeated, or, from five on, followed by `×` and the count.
unfoldable pub unprintable_text : ℕ → ℕ → List ℕ
unprintable_text code_point count = if nat_lt count 5 then repeat count (notation code_point) else notation code_point ++ (0xC3 ∷ 0x97 ∷ []) ++ number_text count ++ codes " "

-- A run of symbols: a code point with the number of times it occurs in a row, which is 1 unless it is unprintable; or the numbers of a sequence.
pub data Run : Type 0 where
  CodePoints : ℕ → ℕ → Run
  Restyle : List ℕ → Run

abbrev pub with_code_point : ℕ → List Run → List Run
with_code_point code_point [] = CodePoints code_point 1 ∷ []
with_code_point code_point (Restyle numbers ∷ runs) = CodePoints code_point 1 ∷ Restyle numbers ∷ runs
with_code_point code_point (CodePoints next count ∷ runs) = if is_unprintable code_point && code_point == next then CodePoints next (suc count) ∷ runs else CodePoints code_point 1 ∷ CodePoints next count ∷ runs

abbrev pub with_symbol : Symbol → List Run → List Run
with_symbol (CodePoint code_point) runs = with_code_point code_point runs
with_symbol (Sequence numbers) runs = Restyle numbers ∷ runs

-- The runs of a text.
abbrev pub runs_of : List Symbol → List Run
runs_of [] = []
runs_of (symbol ∷ symbols) = with_symbol symbol (runs_of symbols)

-- The text that a run shows. A sequence shows nothing.
abbrev pub code_points_text : ℕ → ℕ → List ℕ
code_points_text code_point count = if is_unprintable code_point then unprintable_text code_point count else encode_utf8 code_point

abbrev pub run_text : Run → List ℕ
run_text (CodePoints code_point count) = code_points_text code_point count
run_text (Restyle numbers) = []

-- The text that a reader sees of another one.
abbrev pub shown_text : TextKind → List ℕ → List ℕ
shown_text kind bytes = flat_map run_text (runs_of (symbols kind bytes))

-- Whether a reader sees a symbol of a name as it is.
abbrev pub is_visible : Symbol → Bool
is_visible (CodePoint code_point) = not (is_unprintable code_point)
is_visible (Sequence numbers) = false

-- Whether no notation is shown in a name, instead of one of its characters.
abbrev pub is_printable : List ℕ → Bool
is_printable name = list_all is_visible (symbols Monochrome name)
