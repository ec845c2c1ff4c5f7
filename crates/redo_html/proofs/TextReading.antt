-- How text is read: code points, notations and numbers have no byte that ends or begins something else, except the three that are escaped.
use Rattle.std.proofs.Common.{◌≡◌, ℕ, zero, suc, ◌+◌, ◌-◌, ◌/◌, ◌%◌, ◌^◌, ◌<◌, ◌≤◌, Bool, true, false, List, [], ◌∷◌, ◌++◌, map, refl, sym, ◌∙◌, ap, subst, arith, ⊎_elim, inl, inr, ◌⊎◌}
use Rattle.std.specs.Char.{encode_utf8}
use Rattle.std.specs.Prelude.{⊤, ◌==◌, ◌||◌, ◌&&◌, not, nat_lt, nat_le, codes, decimal}
use Rattle.std.specs.Fmt.{digit_glyph}
use Rattle.std.specs.List.{flat_map, list_all, repeat}
use Rattle.std.proofs.lemmas.Bool.{agree_below_at, cases_lt, lt-ltb, and_parts, and_from, cond_both, cond-true, eqb-true, ne_eqb, le-leb, le-ltb, leb-true, ltb-true, not-true, or_cases, or_parts}
use Rattle.std.proofs.lemmas.Fmt.{decimal_by_steps}
use Rattle.std.proofs.lemmas.List.{append_assoc}
use Rattle.std.proofs.lemmas.List.Folds.{list_all-append}
use Rattle.redo_html.specs.Passage.{escaped, escaped_byte}
use Rattle.redo_html.specs.Html.{Context, Token, DataState, Normal, Rcdata, Rawtext, Svg, is_rejected, is_digit, read_from}
use Rattle.redo_html.specs.Html.Token.{Character}
use Rattle.redo_html.specs.Shown.{is_between, is_unprintable, lower_hex, upper_hex, notation, number_text, unprintable_text, code_points_text}

-- Bytes that are in text in this context are read as these tokens, before any bytes.
abbrev pub ReadsIn : Context → List ℕ → List Token → Type 0
ReadsIn context bytes tokens = (behind : List ℕ)
    → read_from (DataState context) (bytes ++ behind) ≡ tokens ++ read_from (DataState context) behind

-- Bytes after others.
pub append_reads : (context : Context) (a b : List ℕ) (s t : List Token) → ReadsIn context a s → ReadsIn context b t
    → ReadsIn context (a ++ b) (s ++ t)
append_reads context a b s t first second behind =
    ap (read_from (DataState context)) (append_assoc a b behind) ∙ first (b ++ behind) ∙ ap (λ r. s ++ r) (second behind)
    ∙ sym (append_assoc s t (read_from (DataState context) behind))

-- The bytes of each of some things.
pub each_reads : {X : Type 0} (context : Context) (bytes : X → List ℕ) (tokens : X → List Token)
    → ((x : X) → ReadsIn context (bytes x) (tokens x)) → (xs : List X) → ReadsIn context (flat_map bytes xs) (flat_map tokens xs)
each_reads context bytes tokens reads [] = λ behind. refl
each_reads context bytes tokens reads (x ∷ xs) =
    append_reads context (bytes x) (flat_map bytes xs) (tokens x) (flat_map tokens xs) (reads x) (each_reads context bytes tokens reads xs)

-- ---- classes of bytes

abbrev pub is_clean : ℕ → Bool
is_clean byte = not (is_rejected byte)

-- Bytes that are read as they are.
abbrev pub is_safe : ℕ → Bool
is_safe byte = is_clean byte && not (byte == 38 || byte == 60 || byte == 62)

pub all_weaker : (p q : ℕ → Bool) → ((n : ℕ) → p n ≡ true → q n ≡ true) → (xs : List ℕ) → list_all p xs ≡ true → list_all q xs ≡ true
all_weaker p q weaker [] all = refl
all_weaker p q weaker (x ∷ xs) all = let parts = and_parts (p x) (list_all p xs) all in
    and_from (q x) (list_all q xs) (weaker x parts.0) (all_weaker p q weaker xs parts.1)

pub all_append : (p : ℕ → Bool) (xs ys : List ℕ) → list_all p xs ≡ true → list_all p ys ≡ true → list_all p (xs ++ ys) ≡ true
all_append p xs ys first second = list_all-append p xs ys ∙ and_from (list_all p xs) (list_all p ys) first second

pub safe_clean : (byte : ℕ) → is_safe byte ≡ true → is_clean byte ≡ true
safe_clean byte safe = (and_parts (is_clean byte) (not (byte == 38 || byte == 60 || byte == 62)) safe).0

far : (byte n : ℕ) → n < 63 → 63 ≤ byte → (byte == n) ≡ false
far byte n low high = ne_eqb byte n (λ same. omega (arith, low, high, same))

pub high_safe : (byte : ℕ) → 63 ≤ byte → is_safe byte ≡ true
high_safe byte high = rw (
  far byte 0 (omega arith) high,
  far byte 13 (omega arith) high,
  far byte 38 (omega arith) high,
  far byte 60
      (omega arith) high,
  far byte 62 (omega arith) high,
) refl

-- ---- escaping

pub safe_escaped : (bytes : List ℕ) → list_all is_safe bytes ≡ true → escaped bytes ≡ bytes
safe_escaped [] safe = refl
safe_escaped (byte ∷ bytes) safe =
    let parts = and_parts (is_safe byte) (list_all is_safe bytes) safe in
    let others = or_parts (byte == 38 || byte == 60) (byte == 62)
    (not-true (byte == 38 || byte == 60 || byte == 62)
    (and_parts (is_clean byte) (not (byte == 38 || byte == 60 || byte == 62)) parts.0).1) in
    let two = or_parts (byte == 38) (byte == 60) others.0 in
    let amp = two.0 in
    let lt = two.1 in
    let gt = others.1 in
    let one : escaped_byte byte ≡ byte ∷ [] = rw (amp, lt, gt) refl in
    ap (λ (b : List ℕ). b ++ escaped bytes) one ∙ ap (λ (b : List ℕ). byte ∷ b) (safe_escaped bytes parts.1)

-- Text that may have references: normal text, text in an `svg`, and the text of a `title`.
abbrev pub HasReferences : Context → Type 0
HasReferences Normal = ⊤
HasReferences Rcdata = ⊤
HasReferences Rawtext = ⊥
HasReferences (Svg inner outer) = ⊤

byte_reads : (context : Context) → HasReferences context → (byte : ℕ) → (byte == 60) ≡ false → (byte == 38) ≡ false
    → is_rejected byte ≡ false → ReadsIn context (byte ∷ []) (Character byte ∷ [])
byte_reads Normal has byte lt amp clean behind = rw (lt, amp, clean) refl
byte_reads Rcdata has byte lt amp clean behind = rw (lt, amp, clean) refl
byte_reads Rawtext has byte lt amp clean behind = absurd has
byte_reads (Svg inner outer) has byte lt amp clean behind = rw (lt, amp, clean) refl

reference_reads : (context : Context) → HasReferences context → (byte : ℕ) → ((byte ≡ 38) ⊎ (byte ≡ 60)) ⊎ (byte ≡ 62)
    → ReadsIn context (escaped_byte byte) (Character byte ∷ [])
reference_reads context has byte which =
    ⊎_elim (λ two. ⊎_elim (λ is. at 38 is (amp context has)) (λ is. at 60 is (lt context has)) two) (λ is. at 62 is (gt context has)) which
  where
    at : (it : ℕ) → byte ≡ it → ReadsIn context (escaped_byte it) (Character it ∷ [])
        → ReadsIn context (escaped_byte byte) (Character byte ∷ [])
    at it is reads = subst (λ n. ReadsIn context (escaped_byte n) (Character n ∷ [])) (sym is) reads

    amp : (p : Context) → HasReferences p → ReadsIn p (escaped_byte 38) (Character 38 ∷ [])
    amp Normal has behind = refl
    amp Rcdata has behind = refl
    amp Rawtext has behind = absurd has
    amp (Svg inner outer) has behind = refl

    lt : (p : Context) → HasReferences p → ReadsIn p (escaped_byte 60) (Character 60 ∷ [])
    lt Normal has behind = refl
    lt Rcdata has behind = refl
    lt Rawtext has behind = absurd has
    lt (Svg inner outer) has behind = refl

    gt : (p : Context) → HasReferences p → ReadsIn p (escaped_byte 62) (Character 62 ∷ [])
    gt Normal has behind = refl
    gt Rcdata has behind = refl
    gt Rawtext has behind = absurd has
    gt (Svg inner outer) has behind = refl

escaped_byte_reads : (context : Context) → HasReferences context → (byte : ℕ) → is_clean byte ≡ true
    → ReadsIn context (escaped_byte byte) (Character byte ∷ [])
escaped_byte_reads context has byte clean = amp (byte == 38) refl
  where
    gt : (byte == 38) ≡ false → (byte == 60) ≡ false → (is : Bool) → (byte == 62) ≡ is
        → ReadsIn context (escaped_byte byte) (Character byte ∷ [])
    gt a l true is = reference_reads context has byte (inr (eqb-true byte 62 is))
    gt a l false is = rw (a, l, is) (byte_reads context has byte l a (not-true (is_rejected byte) clean))

    lt : (byte == 38) ≡ false → (is : Bool) → (byte == 60) ≡ is → ReadsIn context (escaped_byte byte) (Character byte ∷ [])
    lt a true is = reference_reads context has byte (inl (inr (eqb-true byte 60 is)))
    lt a false is = gt a is (byte == 62) refl

    amp : (is : Bool) → (byte == 38) ≡ is → ReadsIn context (escaped_byte byte) (Character byte ∷ [])
    amp true is = reference_reads context has byte (inl (inl (eqb-true byte 38 is)))
    amp false is = lt is (byte == 60) refl

pub escaped_reads : (context : Context) → HasReferences context → (text : List ℕ) → list_all is_clean text ≡ true
    → ReadsIn context (escaped text) (map Character text)
escaped_reads context has [] clean = λ behind. refl
escaped_reads context has (byte ∷ text) clean =
    let parts = and_parts (is_clean byte) (list_all is_clean text) clean in
    append_reads context (escaped_byte byte) (escaped text) (Character byte ∷ []) (map Character text)
    (escaped_byte_reads context has byte parts.0) (escaped_reads context has text parts.1)

-- The text of a style sheet.
abbrev pub is_raw : ℕ → Bool
is_raw byte = is_clean byte && not (byte == 60)

pub raw_reads : (text : List ℕ) → list_all is_raw text ≡ true → ReadsIn Rawtext text (map Character text)
raw_reads [] raw = λ behind. refl
raw_reads (byte ∷ text) raw =
    let parts = and_parts (is_raw byte) (list_all is_raw text) raw in
    let one = and_parts (is_clean byte) (not (byte == 60)) parts.0 in
    let lt = not-true (byte == 60) one.1 in
    let clean = not-true (is_rejected byte) one.0 in
    append_reads Rawtext (byte ∷ []) text (Character byte ∷ []) (map Character text) (λ behind. rw (lt, clean) refl)
    (raw_reads text parts.1)

-- ---- numbers

one_digit : (n : ℕ) → n < 10 → list_all is_digit ((48 + n) ∷ []) ≡ true
one_digit n below = and_from (is_digit (48 + n)) true
    (and_from (nat_le 48 (48 + n)) (nat_le (48 + n) 57) (le-leb 48 (48 + n) (omega arith)) (le-leb (48 + n) 57 (omega arith))) refl

decimal_digits : (n : ℕ) → n < 2 ^ 64 → list_all is_digit (decimal n) ≡ true
decimal_digits n below =
    decimal_by_steps (λ m digits. list_all is_digit digits ≡ true) one_digit
    (λ m digits large are. all_append is_digit digits ((48 + m % 10) ∷ []) are (one_digit (m % 10) (omega arith))) n below

pub number_digits : (n : ℕ) → list_all is_digit (number_text n) ≡ true
unfolding number_text
number_digits n = cond_both (nat_lt n 0x10000000000000000) (decimal n) [] (λ ds. list_all is_digit ds ≡ true)
    (λ is. decimal_digits n (ltb-true n 0x10000000000000000 is)) (λ is. refl)

digit_safe : (byte : ℕ) → is_digit byte ≡ true → is_safe byte ≡ true
digit_safe byte is =
    let parts = and_parts (nat_le 48 byte) (nat_le byte 57) is in
    let high = leb-true byte 57 parts.1 in
    ⊎_elim (λ no. absurd (let e : true ≡ false = sym is ∙ not-true (is_digit byte) no in cc)) (λ safe. safe)
    (or_cases (not (is_digit byte)) (is_safe byte)
    (agree_below_at (λ b. not (is_digit b) || is_safe b) (λ b. true) 58 byte refl (omega (arith, high))))

pub number_safe : (n : ℕ) → list_all is_safe (number_text n) ≡ true
number_safe n = all_weaker is_digit is_safe digit_safe (number_text n) (number_digits n)

-- ---- notations

lower_safe : (n : ℕ) → is_safe (lower_hex n) ≡ true
lower_safe n = agree_below_at (λ d. is_safe (digit_glyph false d)) (λ d. true) 16 (n % 16) refl (omega arith)

upper_safe : (n : ℕ) → is_safe (upper_hex n) ≡ true
upper_safe n = agree_below_at (λ d. is_safe (digit_glyph true d)) (λ d. true) 16 (n % 16) refl (omega arith)

pub notation_safe : (code_point : ℕ) → list_all is_safe (notation code_point) ≡ true
unfolding notation
notation_safe code_point =
    let Safe : List ℕ → Type 0 = λ bytes. list_all is_safe bytes ≡ true in
    let four : Safe (upper_hex (code_point / 4096) ∷ upper_hex (code_point / 256) ∷ upper_hex (code_point / 16) ∷ upper_hex code_point
    ∷ 93 ∷ []) =
    and_from _ _ (upper_safe (code_point / 4096))
    (and_from _ _ (upper_safe (code_point / 256))
    (and_from _ _ (upper_safe (code_point / 16)) (and_from _ _ (upper_safe code_point) refl))) in
    let five = and_from _ _ (upper_safe (code_point / 65536)) four in
    cond_both (nat_lt code_point 32) _ _ Safe
    (λ is. and_from (is_safe (code_point + 64)) true (high_safe (code_point + 64) (omega arith)) refl)
    (λ not_low. cond_both (code_point == 127) _ _ Safe (λ is. refl)
    (λ not_delete. cond_both (is_between code_point (0xDC00, 0xDCFF)) _ _ Safe
    (λ is. and_from _ _ (lower_safe ((code_point - 0xDC00) / 16)) (and_from _ _ (lower_safe (code_point - 0xDC00)) refl))
    (λ not_byte. cond_both (nat_lt code_point 0x10000) _ _ Safe
    (λ is. four)
    (λ large. cond_both (nat_lt code_point 0x100000) _ _ Safe (λ is. five)
    (λ last. and_from _ _ (upper_safe (code_point / 0x100000)) five)))))

repeat_safe : (count : ℕ) (bytes : List ℕ) → list_all is_safe bytes ≡ true → list_all is_safe (repeat count bytes) ≡ true
repeat_safe zero bytes safe = refl
repeat_safe (suc count) bytes safe = all_append is_safe bytes (repeat count bytes) safe (repeat_safe count bytes safe)

pub unprintable_safe : (code_point count : ℕ) → list_all is_safe (unprintable_text code_point count) ≡ true
unfolding unprintable_text
unprintable_safe code_point count =
    cond_both (nat_lt count 5) _ _ (λ bytes. list_all is_safe bytes ≡ true)
    (λ few. repeat_safe count (notation code_point) (notation_safe code_point))
    (λ many. all_append is_safe ((notation code_point ++ (0xC3 ∷ 0x97 ∷ [])) ++ number_text count) (codes " ")
    (all_append is_safe (notation code_point ++ (0xC3 ∷ 0x97 ∷ [])) (number_text count)
    (all_append is_safe (notation code_point) (0xC3 ∷ 0x97 ∷ []) (notation_safe code_point) refl) (number_safe count)) refl)

-- ---- code points

-- From U+0080 on, the UTF-8 of a code point has no ASCII byte.
encoded_safe : (code_point : ℕ) → 128 ≤ code_point → list_all is_safe (encode_utf8 code_point) ≡ true
unfolding encode_utf8
encoded_safe code_point high =
    let Safe : List ℕ → Type 0 = λ bytes. list_all is_safe bytes ≡ true in
    rw (le-ltb code_point 128 high) (cond_both (nat_lt code_point 2048) _ _ Safe
    (λ two. and_from _ _ (high_safe (192 + code_point / 64) (omega arith))
    (and_from _ _ (high_safe (128 + code_point % 64) (omega arith)) refl))
    (λ more. cond_both (nat_lt code_point 65536) _ _ Safe
    (λ three. and_from _ _ (high_safe (224 + code_point / 4096) (omega arith))
    (and_from _ _ (high_safe (128 + (code_point / 64) % 64) (omega arith))
    (and_from _ _ (high_safe (128 + code_point % 64) (omega arith)) refl)))
    (λ four. and_from _ _ (high_safe (240 + code_point / 262144) (omega arith))
    (and_from _ _ (high_safe (128 + (code_point / 4096) % 64) (omega arith))
    (and_from _ _ (high_safe (128 + (code_point / 64) % 64) (omega arith))
    (and_from _ _ (high_safe (128 + code_point % 64) (omega arith)) refl))))))

low_clean : (code_point : ℕ) → code_point < 128 → is_unprintable code_point ≡ false → is_clean code_point ≡ true
unfolding is_unprintable
low_clean code_point low visible =
    ⊎_elim (λ unprintable. absurd (let e : true ≡ false = sym unprintable ∙ visible in cc)) (λ clean. clean)
    (or_cases (is_unprintable code_point) (is_clean code_point)
    (agree_below_at (λ b. is_unprintable b || is_clean b) (λ b. true) 128 code_point refl low))

encoded_clean : (code_point : ℕ) → is_unprintable code_point ≡ false → list_all is_clean (encode_utf8 code_point) ≡ true
unfolding encode_utf8
encoded_clean code_point visible =
    ⊎_elim (λ low. subst (λ bytes. list_all is_clean bytes ≡ true) (sym (cond-true _ _ _ (lt-ltb code_point 128 low)))
    (and_from (is_clean code_point) true (low_clean code_point low visible) refl))
    (λ high. all_weaker is_safe is_clean safe_clean (encode_utf8 code_point) (encoded_safe code_point high)) (cases_lt code_point 128)

-- The text of a visible code point other than the three that are escaped is written as it is.
pub encoded_escaped : (code_point : ℕ) → (code_point == 38) ≡ false → (code_point == 60) ≡ false → (code_point == 62) ≡ false
    → escaped (encode_utf8 code_point) ≡ encode_utf8 code_point
unfolding encode_utf8
encoded_escaped code_point amp lt gt =
    ⊎_elim (λ low. subst (λ bytes. escaped bytes ≡ bytes) (sym (cond-true _ _ _ (lt-ltb code_point 128 low)))
    (let one : escaped_byte code_point ≡ code_point ∷ [] = rw (amp, lt, gt) refl in ap (λ (b : List ℕ). b ++ []) one))
    (λ high. safe_escaped (encode_utf8 code_point) (encoded_safe code_point high)) (cases_lt code_point 128)

pub code_points_clean : (code_point count : ℕ) → list_all is_clean (code_points_text code_point count) ≡ true
code_points_clean code_point count =
    cond_both (is_unprintable code_point) (unprintable_text code_point count) (encode_utf8 code_point)
    (λ bytes. list_all is_clean bytes ≡ true)
    (λ unprintable. all_weaker is_safe is_clean safe_clean (unprintable_text code_point count) (unprintable_safe code_point count))
    (λ visible. encoded_clean code_point visible)
