-- Bytes in JSON: a string has their text, and another one has the bytes in Base64 if the text doesn't determine them.
use Rattle.std.specs.Prelude.{ℕ, List, Option, None, Some, encode_utf8_all, if◌then◌else◌}
use Rattle.std.specs.Result.{result_ok}
use Rattle.std.specs.Str.{is_utf8}
use Rattle.base64.specs.Engines.{standard}
use Rattle.base64.specs.GeneralPurpose.{decode_of, encode_of}
use Rattle.bstr.specs.Utf8.{lossy_chars}

-- The text of bytes: the bytes if they are UTF-8. Otherwise the characters in them, with U+FFFD for each piece that is no character.
abbrev pub text_of : List ℕ → List ℕ
text_of bytes = if is_utf8 bytes then bytes else encode_utf8_all (lossy_chars bytes)

-- The bytes in Base64 (RFC 4648, section 4), with padding.
abbrev pub base64_of : List ℕ → List ℕ
base64_of bytes = encode_of standard bytes

-- The exact bytes in Base64. They are given only if the text of the bytes doesn't have them.
abbrev pub exact_of : List ℕ → Option (List ℕ)
exact_of bytes = if is_utf8 bytes then None else Some (base64_of bytes)

-- The bytes that a text and exact bytes give together: the exact bytes if there are any, otherwise the bytes of the text.
abbrev pub bytes_from : List ℕ → Option (List ℕ) → Option (List ℕ)
bytes_from text None = Some text
bytes_from text (Some exact) = result_ok (decode_of standard exact)
