-- The postconditions of functions that test many bytes for letters.
use Rattle.std.specs.Prelude.{◌≡◌, ℕ, ◌+◌, ◌-◌, ◌<◌, Bool, true, false, ◌==◌, ◌||◌, ◌&&◌, not, nat_le, List, slice_index, if◌then◌else◌}
use Rattle.bstr.specs.Utf8.{continues}
use Rattle.redo_html.specs.Laws.{is_plain}

-- Whether a byte is the first of a letter of U+00C0 to U+07FF or of U+3000 to U+CFFF, except in the blocks of 64 or 4096 that have
-- unprintable code points. The block of `E3 85` has one.
abbrev pub is_lead : ℕ → Bool
is_lead byte = nat_le 0xC3 byte && (nat_le byte 0xEC && (not (byte == 0xCD) && (not (byte == 0xD8) && not (nat_le 0xE0 byte && nat_le byte 0xE2))))

-- Whether a letter goes on after two bytes.
abbrev pub is_open : ℕ → ℕ → Bool
is_open before last = nat_le 0xE0 before || nat_le 0xC0 last

-- Whether a byte may be next after two bytes of a text of plain bytes and of such letters.
abbrev pub follows : ℕ → ℕ → ℕ → Bool
follows before last byte =
    (is_open before last && (continues byte && not (last == 0xE3 && byte == 0x85)))
    || (not (is_open before last) && (is_plain byte || is_lead byte))

-- No letter goes on at `at`, and the `count` bytes from there on are plain or bytes of such letters.
pub record AreLetters (bytes : List ℕ) (at count : ℕ) : Type 0 where
  pub closed : is_open (slice_index bytes (at - 2)) (slice_index bytes (at - 1)) ≡ false
  pub follow : (k : ℕ) → k < count → follows (slice_index bytes (at + k - 2)) (slice_index bytes (at + k - 1)) (slice_index bytes (at + k)) ≡ true

-- The number of bytes of a letter that goes on after two bytes.
abbrev pub open_len : ℕ → ℕ → ℕ
open_len before last = if nat_le 0xC0 last then 1 else if nat_le 0xE0 before then 2 else 0
