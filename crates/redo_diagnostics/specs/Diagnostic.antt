-- The diagnostic in a line.
use Rattle.std.specs.Prelude.{ℕ, zero, suc, ◌+◌, ◌-◌, ◌==◌, Bool, ◌&&◌, ◌||◌, List, [], ◌∷◌, ◌++◌, Option, None, Some, option_and_then, option_map, is_some, length, get_or, take, drop, codes, if◌then◌else◌}
use Rattle.std.specs.Char.{is_ascii_alphanumeric}
use Rattle.std.specs.List.{list_all}
use Rattle.std.specs.Str.{bytes_eq}
use Rattle.memchr.specs.Find.{OccursAt, occurs_at}
use Rattle.redo_line.specs.Decimal.{number_of}
use Rattle.redo_line.specs.Parts.{after_prefix, split_once}
use Rattle.redo_line.specs.Record.{colon, period, space}
use Rattle.redo_name.specs.Names.{slash}
use Rattle.redo_diagnostics.specs.declared.severity.Severity.{Severity}
use Rattle.redo_diagnostics.specs.declared.severity.Severity.TheVariants.{Warning, Error, FatalError}
use Rattle.redo_diagnostics.specs.Plain.{plain_line}

-- ---- the word

abbrev pub word_of : Severity → List ℕ
word_of Warning = codes "warning:"
word_of Error = codes "error:"
word_of FatalError = codes "fatal error:"

-- Whether a word is at this place of a plain line: it begins the line or follows a space, and ends the line or is before a space.
abbrev pub is_word_at : List ℕ → Severity → ℕ → Bool
is_word_at plain severity place =
    let behind = place + length (word_of severity) in
    occurs_at plain (word_of severity) place && (place == 0 || get_or plain (place - 1) 0 == space)
    && (behind == length plain || get_or plain behind 0 == space)

-- The first of these severities whose word is at this place.
abbrev pub severity_in : List Severity → List ℕ → ℕ → Option Severity
severity_in [] plain place = None
severity_in (severity ∷ others) plain place = if is_word_at plain severity place then Some severity else severity_in others plain place

-- The severity of the word at this place.
abbrev pub severity_at : List ℕ → ℕ → Option Severity
severity_at plain place = severity_in (Warning ∷ Error ∷ FatalError ∷ []) plain place

-- The first of `count` places, from this one on, that passes a test.
unfoldable pub first_place : (ℕ → Bool) → ℕ → ℕ → Option ℕ
first_place test place zero = None
first_place test place (suc count) = if test place then Some place else first_place test (place + 1) count

-- The place of the first word of a plain line.
abbrev pub word_place : List ℕ → Option ℕ
word_place plain = first_place (λ place. is_some (severity_at plain place)) 0 (length plain)

-- ---- the place

-- The place that a diagnostic is about: a file, a row and a column.
pub record PlaceValue : Type 0 where
  pub file : List ℕ
  pub row : ℕ
  pub column : Option ℕ

abbrev pub max_digits : ℕ
max_digits = 9

-- The row, and the column if there is one.
abbrev pub row_alone : Option ℕ → Option (ℕ × Option ℕ)
row_alone row = option_map (λ value. (value, None)) row

abbrev pub row_with : Option ℕ → Option ℕ → Option (ℕ × Option ℕ)
row_with row None = None
row_with row (Some column) = option_map (λ value. (value, Some column)) row

abbrev pub number_in : List ℕ → Option ℕ
number_in digits = number_of max_digits digits

abbrev pub column_from : Option (List ℕ × List ℕ) → Option ℕ
column_from None = None
column_from (Some parts) = if bytes_eq parts.1 (space ∷ []) then number_in parts.0 else None

-- `C` of `C: `.
abbrev pub column_in : List ℕ → Option ℕ
column_in bytes = column_from (split_once colon bytes)

-- `R` of `R: `, or `R` and `C` of `R:C: `, from the bytes before and after its first colon.
abbrev pub row_and_column : List ℕ × List ℕ → Option (ℕ × Option ℕ)
row_and_column parts =
    if bytes_eq parts.1 (space ∷ []) then row_alone (number_in parts.0) else row_with (number_in parts.0) (column_in parts.1)

abbrev pub place_from : List ℕ → Option (ℕ × Option ℕ) → Option PlaceValue
place_from [] numbers = None
place_from (byte ∷ bytes) numbers = option_map (λ both. record { file = byte ∷ bytes; row = both.0; column = both.1 }) numbers

-- The place in the bytes before a word: `F:R: ` or `F:R:C: `.
unfoldable pub place_of : List ℕ → Option PlaceValue
place_of head =
    option_and_then (λ (file : List ℕ × List ℕ). place_from file.0
    (option_and_then (λ (row : List ℕ × List ℕ). row_and_column row) (split_once colon file.1))) (split_once colon head)

-- ---- the flag

abbrev pub open_bracket : ℕ
open_bracket = 91

abbrev pub close_bracket : ℕ
close_bracket = 93

abbrev pub nothing_if_empty : List ℕ → Option (List ℕ)
nothing_if_empty [] = Some []
nothing_if_empty (byte ∷ bytes) = None

-- The bytes before a closing bracket that ends them, if they have no other bracket.
unfoldable pub before_bracket : List ℕ → Option (List ℕ)
before_bracket [] = None
before_bracket (byte ∷ bytes) =
    if byte == close_bracket then nothing_if_empty bytes
    else if byte == open_bracket then None else option_map (λ others. byte ∷ others) (before_bracket bytes)

abbrev pub if_some_bytes : Option (List ℕ) → Option (List ℕ)
if_some_bytes None = None
if_some_bytes (Some []) = None
if_some_bytes (Some (byte ∷ bytes)) = Some (byte ∷ bytes)

-- The flag, if these bytes are a space and a flag in brackets.
abbrev pub flag_here : List ℕ → Option (List ℕ)
flag_here bytes =
    if_some_bytes (option_and_then (λ (others : List ℕ). before_bracket others) (after_prefix (space ∷ open_bracket ∷ []) bytes))

abbrev pub flag_or : Option (List ℕ) → ℕ → Option (List ℕ × List ℕ) → Option (List ℕ × List ℕ)
flag_or None byte found = option_map (λ parts. (byte ∷ parts.0, parts.1)) found
flag_or (Some flag) byte found = Some ([], flag)

-- The bytes before the flag at the end of a text, and the flag: `M` and `G` of `M [G]`.
unfoldable pub split_flag : List ℕ → Option (List ℕ × List ℕ)
split_flag [] = None
split_flag (byte ∷ bytes) = flag_or (flag_here (byte ∷ bytes)) byte (split_flag bytes)

-- ---- the key

-- Whether these bytes, which follow a slash, begin with the name of a temporary file of GCC: `cc`, six letters or digits, and a period.
abbrev pub begins_temporary : List ℕ → Bool
begins_temporary bytes =
    bytes_eq (take 2 bytes) (codes "cc") && list_all is_ascii_alphanumeric (take 6 (drop 2 bytes)) && get_or bytes 8 0 == period

-- Text in which the random part of each temporary file's name is `*`. The first `skipped` bytes belong to such a name.
unfoldable pub masked_after : ℕ → List ℕ → List ℕ
masked_after skipped [] = []
masked_after (suc skipped) (byte ∷ bytes) = masked_after skipped bytes
masked_after zero (byte ∷ bytes) =
    if byte == slash && begins_temporary bytes then codes "/cc*" ++ masked_after 8 bytes else byte ∷ masked_after 0 bytes

-- Text without the random parts of the names of temporary files, which differ in each build.
abbrev pub masked : List ℕ → List ℕ
masked text = masked_after 0 text

-- Text with no slash before `cc`, so that it has no name of a temporary file.
abbrev pub HasNoTemporary : List ℕ → Type 0
HasNoTemporary text = (place : ℕ) → ¬ OccursAt text (codes "/cc") place

abbrev pub origin_from : Option (List ℕ × List ℕ) → List ℕ
origin_from None = []
origin_from (Some parts) = parts.0

-- The file or the program that the bytes before a word name: what precedes their first colon. Without a colon they name none,
-- and don't count: they may be the number of a step or of a row, which changes from build to build.
abbrev pub origin_of : List ℕ → List ℕ
origin_of head = origin_from (split_once colon head)

-- ---- the diagnostic

-- A plain line with a word, in parts: the bytes before its first word, the severity of this word, and the bytes from it on.
pub record PartsValue : Type 0 where
  pub head : List ℕ
  pub severity : Severity
  pub tail : List ℕ

abbrev pub parts_at : List ℕ → ℕ → Option PartsValue
parts_at plain place =
    option_map (λ severity. record { head = take place plain; severity = severity; tail = drop place plain }) (severity_at plain place)

abbrev pub parts_in : List ℕ → Option PartsValue
parts_in plain = option_and_then (λ (place : ℕ). parts_at plain place) (word_place plain)

-- The parts of a line, if it has a word.
abbrev pub parts_of : List ℕ → Option PartsValue
parts_of line = parts_in (plain_line line)

-- The text of a diagnostic: what follows the word and one space.
abbrev pub text_of : PartsValue → List ℕ
text_of parts = drop (length (word_of parts.severity) + 1) parts.tail

-- The key of a diagnostic. It always has a colon after its origin, so that nothing else can be read as an origin.
abbrev pub key_of : PartsValue → List ℕ
key_of parts = masked (origin_of parts.head ++ codes ": " ++ parts.tail)

abbrev pub message_in : List ℕ → Option (List ℕ × List ℕ) → List ℕ
message_in text None = text
message_in text (Some parts) = parts.0

abbrev pub flag_in : Option (List ℕ × List ℕ) → Option (List ℕ)
flag_in None = None
flag_in (Some parts) = Some parts.1

pub record DiagnosticValue : Type 0 where
  pub severity : Severity
  pub place : Option PlaceValue
  pub message : List ℕ
  pub flag : Option (List ℕ)
  pub key : List ℕ

abbrev pub diagnostic_from : PartsValue → DiagnosticValue
diagnostic_from parts = record {
  severity = parts.severity;
  place = place_of parts.head;
  message = message_in (text_of parts) (split_flag (text_of parts));
  flag = flag_in (split_flag (text_of parts));
  key = key_of parts;
}

-- The diagnostic of a line, if it has a word.
unfoldable pub diagnostic_of : List ℕ → Option DiagnosticValue
diagnostic_of line = option_map diagnostic_from (parts_of line)

-- A diagnostic and its key.
abbrev pub with_key : DiagnosticValue → DiagnosticValue × List ℕ
with_key value = (value, value.key)
