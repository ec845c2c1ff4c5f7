-- Escapes of a text in parts.
use Rattle.std.proofs.Common.{◌≡◌, ℕ, ◌+◌, ◌-◌, ◌<◌, ◌≤◌, ◌%◌, ◌==◌, ◌||◌, Bool, true, List, [], ◌∷◌, ◌++◌, length, take, drop, get_or, refl, sym, ap, ap₂, ◌∙◌, arith, subst, append_assoc, length-drop, take-append-drop}
use Rattle.std.specs.List.{list_all}
use Rattle.std.specs.Str.Lossy.{replacement_bytes, utf8_lossy}
use Rattle.std.proofs.lemmas.Bool.{and_from, and_parts, eqb-false, ltb-false, not-true, or_parts}
use Rattle.std.proofs.lemmas.List.{drop_more, take-take, take_all}
use Rattle.std.proofs.lemmas.List.Folds.{list_all-append}
use Rattle.std.proofs.Math.Seq.{take-add}
use Rattle.base64.specs.Engines.{standard}
use Rattle.base64.proofs.EngineFacts.{encode_of-append}
use Rattle.json.specs.Print.{escape, escape_byte}
use Rattle.json.specs.Run.{is_plain}
use Rattle.json.proofs.Printed.Strings.{escape_byte_plain}
use Rattle.redo_json.specs.Text.{base64_of}
use Rattle.redo_json.specs.Private.Writing.{ArePlain, HasChunk, HasEscape, HasInvalid}

pub escape-append : (xs ys : List ℕ) → escape (xs ++ ys) ≡ escape xs ++ escape ys
escape-append [] ys = refl
escape-append (x ∷ xs) ys = ap (λ l. escape_byte x ++ l) (escape-append xs ys) ∙ sym (append_assoc (escape_byte x) _ _)

plain_byte : (x : ℕ) → is_plain x ≡ true → escape_byte x ≡ x ∷ []
plain_byte x plain =
    let none = or_parts ((x == 34) || (x == 92)) _ (not-true _ plain) in
    let tests = or_parts (x == 34) _ none.0 in
    escape_byte_plain x (eqb-false x 34 tests.0) (eqb-false x 92 tests.1) (ltb-false x 32 none.1)

pub escape_plain : (xs : List ℕ) → list_all is_plain xs ≡ true → escape xs ≡ xs
escape_plain [] plain = refl
escape_plain (x ∷ xs) plain =
    let both = and_parts (is_plain x) (list_all is_plain xs) plain in
    ap₂ (λ (a b : List ℕ). a ++ b) (plain_byte x both.0) (escape_plain xs both.1)

-- Bytes that pass a test, and bytes after them that do.
pub pass_more : (test : ℕ → Bool) (bytes : List ℕ) (len more : ℕ) → list_all test (take len bytes) ≡ true
    → list_all test (take more (drop len bytes)) ≡ true → list_all test (take (len + more) bytes) ≡ true
pass_more test bytes len more first next =
    ap (list_all test) (take-add len more bytes) ∙ list_all-append test (take len bytes) (take more (drop len bytes))
    ∙ and_from (list_all test (take len bytes)) (list_all test (take more (drop len bytes))) first next

-- Bytes that pass a test up to the end, from some byte on before which all do.
pub pass_to_end : (test : ℕ → Bool) (bytes : List ℕ) (start len : ℕ) → start ≤ len → len ≤ length bytes
    → list_all test (take len bytes) ≡ true → list_all test (take (length bytes - start) (drop start bytes)) ≡ true
    → list_all test bytes ≡ true
pass_to_end test bytes start len low within first last =
    let all : start + (length bytes - start) ≡ length bytes = omega (arith, low, within) in
    let both = list_all-append test (take start bytes) (drop start (take len bytes)) in
    let front : take start bytes ++ drop start (take len bytes) ≡ take len bytes =
    ap (λ (l : List ℕ). l ++ drop start (take len bytes)) (sym (take-take start len bytes low)) ∙ take-append-drop start (take len bytes) in
    ap (list_all test) (sym (take_all (length bytes) bytes (omega arith)))
    ∙ subst (λ (n : ℕ). list_all test (take n bytes) ≡ true) all (pass_more test bytes start (length bytes - start)
    (and_parts (list_all test (take start bytes)) (list_all test (drop start (take len bytes)))
    (sym both ∙ ap (list_all test) front ∙ first)).0 last)

-- Plain bytes, and plain bytes after them.
pub plain_more : (bytes : List ℕ) (len more : ℕ) → ArePlain bytes len → ArePlain (drop len bytes) more → ArePlain bytes (len + more)
plain_more bytes len more first next =
    let size = length-drop len bytes in
    record {
      within = omega (arith, first.within, next.within, size);
      plain = pass_more is_plain bytes len more first.plain next.plain;
    }

-- Plain bytes up to the end, from some byte on before which all are plain.
pub plain_to_end : (bytes : List ℕ) (start len : ℕ) → start ≤ len → ArePlain bytes len
    → list_all is_plain (take (length bytes - start) (drop start bytes)) ≡ true → ArePlain bytes (length bytes)
plain_to_end bytes start len low first last = record {
  within = omega arith;
  plain = ap (list_all is_plain) (take_all (length bytes) bytes (omega arith))
      ∙ pass_to_end is_plain bytes start len low first.within first.plain last;
}

pub all_plain : (text : List ℕ) (len : ℕ) → ArePlain text len → len ≡ length text → escape text ≡ text
all_plain text len plain all =
    escape_plain text (ap (list_all is_plain) (sym (take_all len text (omega (arith, all)))) ∙ plain.plain)

pub has_escape : (text : List ℕ) (len : ℕ) → ArePlain text len → len < length text
    → HasEscape text (take len text) (get_or text len 0) (drop (len + 1) text)
has_escape text len plain below =
    let size = length-drop (len + 1) text in
    record {
      less = omega (arith, below, size);
      escaped = ap escape (sym (take-append-drop len text)) ∙ escape-append (take len text) (drop len text)
          ∙ ap₂ (λ (a b : List ℕ). a ++ b) (escape_plain (take len text) plain.plain) (ap escape (drop_more text len 0 below));
    }

escape_replacement : escape replacement_bytes ≡ replacement_bytes
unfolding escape_byte
escape_replacement = refl

-- The escapes of a text with a piece that is no character.
pub invalid_escape : (bytes valid behind : List ℕ) → HasInvalid bytes valid behind
    → escape (utf8_lossy bytes) ≡ escape valid ++ (replacement_bytes ++ escape (utf8_lossy behind))
invalid_escape bytes valid behind has =
    ap escape has.text ∙ escape-append valid (replacement_bytes ++ utf8_lossy behind)
    ∙ ap (λ (l : List ℕ). escape valid ++ l) (escape-append replacement_bytes (utf8_lossy behind)
    ∙ ap (λ (l : List ℕ). l ++ escape (utf8_lossy behind)) escape_replacement)

-- The escapes of bytes in Base64 that have more than a chunk.
pub chunk_escape : (bytes chunk behind : List ℕ) → HasChunk bytes chunk behind
    → escape (base64_of bytes) ≡ escape (base64_of chunk) ++ escape (base64_of behind)
chunk_escape bytes chunk behind has =
    ap (λ (b : List ℕ). escape (base64_of b)) (sym has.splits)
    ∙ ap escape (encode_of-append standard chunk behind (ap (λ (n : ℕ). n % 3) has.size))
    ∙ escape-append (base64_of chunk) (base64_of behind)
