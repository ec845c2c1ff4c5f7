-- Texts of bytes.
use Rattle.std.proofs.Common.{◌≡◌, ℕ, zero, suc, ◌+◌, ◌<◌, ◌≤◌, Bool, true, false, List, [], ◌∷◌, Some, None, length, drop, length-drop, IsUtf8, encode_utf8_all, refl, sym, ap, subst, arith, ⊎_elim}
use Rattle.std.specs.Prelude.{if◌then◌else◌}
use Rattle.std.specs.Char.{encode_utf8}
use Rattle.std.specs.Result.{result_ok}
use Rattle.std.specs.Str.{IsValidUpTo, is_utf8}
use Rattle.std.specs.Str.Lossy.{after_first_chunk, replacement_bytes, utf8_invalid_len, utf8_lossy, utf8_valid_len}
use Rattle.std.proofs.lemmas.Str.{IsUtf8-append, IsUtf8-from_ascii, IsUtf8-from_is_utf8, utf8_lossy-IsUtf8, utf8_lossy_step}
use Rattle.base64.specs.Engines.{standard}
use Rattle.base64.specs.GeneralPurpose.{IsBytes}
use Rattle.base64.proofs.EngineFacts.{IsAscii-encode_of, decode_of-encode_of}
use Rattle.bstr.specs.Utf8.{lossy_chars}
use Rattle.bstr.proofs.lemmas.LossyLemmas.{lossy_chars-utf8_lossy, utf8_invalid_len-decoded, utf8_valid_len-cases}
use Rattle.bstr.proofs.lemmas.PieceLemmas.{piece-bounds}
use Rattle.bstr.proofs.lemmas.UnicodeLemmas.{none_after_valid}
use Rattle.json.specs.Print.{quoted}
use Rattle.json.proofs.Printed.Utf8.{IsUtf8-quoted}
use Rattle.redo_json.specs.Text.{base64_of, bytes_from, exact_of, text_of}

text_if : (test : Bool) (bytes : List ℕ) → is_utf8 bytes ≡ test
    → (if test then bytes else encode_utf8_all (lossy_chars bytes)) ≡ utf8_lossy bytes
text_if true bytes is = sym (utf8_lossy-IsUtf8 bytes (IsUtf8-from_is_utf8 bytes is))
text_if false bytes is = lossy_chars-utf8_lossy bytes

-- The text is what std makes of bytes that may not be UTF-8.
pub text_is_lossy : (bytes : List ℕ) → text_of bytes ≡ utf8_lossy bytes
text_is_lossy bytes = text_if (is_utf8 bytes) bytes refl

recovered_if : (test : Bool) (bytes lossy : List ℕ) → IsBytes bytes
    → bytes_from (if test then bytes else lossy) (if test then None else Some (base64_of bytes)) ≡ Some bytes
recovered_if true bytes lossy are = refl
recovered_if false bytes lossy are = ap result_ok (decode_of-encode_of standard bytes refl are)

pub recovered : (bytes : List ℕ) → IsBytes bytes → bytes_from (text_of bytes) (exact_of bytes) ≡ Some bytes
recovered bytes are = recovered_if (is_utf8 bytes) bytes (encode_utf8_all (lossy_chars bytes)) are

-- The bytes after a piece that is no character are fewer.
pub after_less : (bytes : List ℕ) → IsValidUpTo bytes (utf8_valid_len bytes) → length (after_first_chunk bytes) < length bytes
after_less bytes valid =
    let len = utf8_valid_len bytes in
    let rest = drop len bytes in
    let left = length-drop len bytes in
    let some : 0 < length rest = omega (arith, valid.short, left) in
    let size = utf8_invalid_len-decoded rest (none_after_valid bytes len valid) in
    let bound = (piece-bounds rest some).0 in
    let after = length-drop (len + utf8_invalid_len rest) bytes in
    omega (arith, after, size, bound, valid.short)

replacement_utf8 : IsUtf8 replacement_bytes
unfolding encode_utf8
replacement_utf8 = (0xFFFD ∷ [], (refl, refl))

lossy_within : (fuel : ℕ) (bytes : List ℕ) → length bytes ≤ fuel → IsUtf8 (utf8_lossy bytes)
lossy_within zero bytes small = ⊎_elim
    (λ utf8. subst IsUtf8 (sym (utf8_lossy-IsUtf8 bytes utf8)) utf8)
    (λ valid. absurd (omega (arith, valid.short, small)))
    (utf8_valid_len-cases bytes)
lossy_within (suc fuel) bytes small = ⊎_elim
    (λ utf8. subst IsUtf8 (sym (utf8_lossy-IsUtf8 bytes utf8)) utf8)
    (λ valid.
    let faulty : ¬ (utf8_valid_len bytes ≡ length bytes) = λ all. omega (arith, valid.short, all) in
    let less = after_less bytes valid in
    subst IsUtf8 (sym (utf8_lossy_step bytes faulty))
    (IsUtf8-append _ _ valid.front
    (IsUtf8-append _ _ replacement_utf8 (lossy_within fuel (after_first_chunk bytes) (omega (arith, less, small))))))
    (utf8_valid_len-cases bytes)

pub text_utf8 : (bytes : List ℕ) → IsUtf8 (text_of bytes)
text_utf8 bytes = subst IsUtf8 (sym (text_is_lossy bytes)) (lossy_within (length bytes) bytes (omega arith))

pub string_utf8 : (bytes : List ℕ) → IsUtf8 (quoted (text_of bytes))
string_utf8 bytes = IsUtf8-quoted (text_of bytes) (text_utf8 bytes)

pub base64_utf8 : (bytes : List ℕ) → IsUtf8 (quoted (base64_of bytes))
base64_utf8 bytes = IsUtf8-quoted (base64_of bytes) (IsUtf8-from_ascii (base64_of bytes) (IsAscii-encode_of standard bytes))
