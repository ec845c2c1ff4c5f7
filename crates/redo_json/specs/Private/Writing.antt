-- The postconditions of writers in parts.
use Rattle.std.specs.Prelude.{◌≡◌, ℕ, ◌≤◌, ◌<◌, ◌==◌, Bool, ◌&&◌, ◌||◌, true, List, ◌++◌, length, nat_lt, take, Option, if◌then◌else◌}
use Rattle.std.specs.List.{list_all}
use Rattle.std.specs.Str.{is_utf8}
use Rattle.std.specs.Str.Lossy.{replacement_bytes, utf8_lossy}
use Rattle.json.specs.Print.{escape, escape_byte}
use Rattle.json.specs.Run.{is_plain}
use Rattle.redo_device.specs.Sink.{Output, append_output}
use Rattle.redo_line.specs.Lines.{line_feed}

-- Of a text, everything except `rest` was written, and no write failed.
pub record WroteUpTo (before after : Option Output) (text rest : List ℕ) : Type 0 where
  pub prefix : List ℕ
  pub wrote : after ≡ append_output before prefix 0
  pub splits : prefix ++ rest ≡ text

-- The first `len` bytes are written as they are.
pub record ArePlain (bytes : List ℕ) (len : ℕ) : Type 0 where
  pub within : len ≤ length bytes
  pub plain : list_all is_plain (take len bytes) ≡ true

-- 0 if bytes are plain, and 1 otherwise.
abbrev pub special_bit_if : Bool → ℕ
special_bit_if plain = if plain then 0 else 1

-- Whether a byte is plain or a line feed.
abbrev pub is_plain_or_feed : ℕ → Bool
is_plain_or_feed byte = is_plain byte || byte == line_feed

-- Whether a byte is ASCII that is written as it is.
abbrev pub is_verbatim_byte : ℕ → Bool
is_verbatim_byte byte = is_plain byte && nat_lt byte 128

-- Whether a byte is ASCII that is written as it is, or a line feed.
abbrev pub is_verbatim_or_feed : ℕ → Bool
is_verbatim_or_feed byte = is_verbatim_byte byte || byte == line_feed

-- A string has these bytes as they are.
pub record IsVerbatim (bytes : List ℕ) : Type 0 where
  pub utf8 : is_utf8 bytes ≡ true
  pub escaped : escape bytes ≡ bytes

-- Bytes were appended.
pub record IsAppended (before after appended : List ℕ) : Type 0 where
  pub is : after ≡ before ++ appended

-- A text is `plain`, which is written as it is, then a byte, and then `behind`.
pub record HasEscape (text plain : List ℕ) (byte : ℕ) (behind : List ℕ) : Type 0 where
  pub less : length behind < length text
  pub escaped : escape text ≡ plain ++ (escape_byte byte ++ escape behind)

-- Bytes are `valid` text, then a piece that is no character, and then `behind`.
pub record HasInvalid (bytes valid behind : List ℕ) : Type 0 where
  pub less : length behind < length bytes
  pub text : utf8_lossy bytes ≡ valid ++ (replacement_bytes ++ utf8_lossy behind)

-- Bytes are a chunk, which is encoded in Base64 without padding, and then `behind`.
pub record HasChunk (bytes chunk behind : List ℕ) : Type 0 where
  pub less : length behind < length bytes
  pub splits : chunk ++ behind ≡ bytes
  pub size : length chunk ≡ 768
