-- The parts that two equal keys have in common.
use Rattle.std.proofs.Common.{◌≡◌, ◌⊎◌, inl, inr, ℕ, zero, suc, ◌+◌, ◌≤◌, ◌==◌, Bool, true, false, cond, not, ◌&&◌, List, [], ◌∷◌, ◌++◌, Option, None, Some, length, take, drop, get_or, refl, sym, ◌∙◌, ap, subst, arith}
use Rattle.std.specs.Prelude.{codes}
use Rattle.std.specs.Char.{is_ascii_alphanumeric}
use Rattle.std.specs.List.{list_all}
use Rattle.std.specs.Str.{bytes_eq}
use Rattle.std.proofs.lemmas.Bool.{and_left, and_right, and_parts, eqb-false, false≢true, not-true}
use Rattle.std.proofs.lemmas.List.{append_assoc}
use Rattle.std.proofs.lemmas.Option.{some_pair_parts}
use Rattle.redo_line.specs.Parts.{split_once}
use Rattle.redo_line.specs.Record.{colon, period, space}
use Rattle.redo_line.proofs.PartLemmas.{HasNo, are_parts, parted_at}
use Rattle.redo_name.specs.Names.{slash}
use Rattle.redo_diagnostics.specs.declared.severity.Severity.{Severity}
use Rattle.redo_diagnostics.specs.declared.severity.Severity.TheVariants.{Warning, Error, FatalError}
use Rattle.redo_diagnostics.specs.Diagnostic.{PartsValue, begins_temporary, key_of, masked, masked_after, origin_from, origin_of, word_of}
use Rattle.redo_diagnostics.specs.Laws.{SaySame}
use Rattle.redo_diagnostics.proofs.KeyLemmas.{masked-free}

-- ---- names of temporary files have no colon

all_false : (xs ys : List ℕ) (y : ℕ) → is_ascii_alphanumeric y ≡ false → list_all is_ascii_alphanumeric (xs ++ y ∷ ys) ≡ false
all_false [] ys y is = and_left (is_ascii_alphanumeric y) (list_all is_ascii_alphanumeric ys) is
all_false (x ∷ xs) ys y is =
    and_right (is_ascii_alphanumeric x) (list_all is_ascii_alphanumeric (xs ++ y ∷ ys)) (all_false xs ys y is)

abbrev letters : List ℕ → Bool
letters bytes = bytes_eq (take 2 bytes) (codes "cc")

abbrev random : List ℕ → Bool
random bytes = list_all is_ascii_alphanumeric (take 6 (drop 2 bytes))

by_letters : (bytes : List ℕ) → letters bytes ≡ false → begins_temporary bytes ≡ false
by_letters bytes is =
    and_left (letters bytes && random bytes) (get_or bytes 8 0 == period) (and_left (letters bytes) (random bytes) is)

by_random : (bytes : List ℕ) → random bytes ≡ false → begins_temporary bytes ≡ false
by_random bytes is =
    and_left (letters bytes && random bytes) (get_or bytes 8 0 == period) (and_right (letters bytes) (random bytes) is)

by_end : (bytes : List ℕ) → get_or bytes 8 0 == period ≡ false → begins_temporary bytes ≡ false
by_end bytes is = and_right (letters bytes && random bytes) (get_or bytes 8 0 == period) is

-- No name of a temporary file goes past a colon.
temporary-colon : (a b : List ℕ) → begins_temporary (a ++ colon ∷ b) ≡ begins_temporary a
temporary-colon [] b = refl
temporary-colon (x1 ∷ []) b =
    by_letters (x1 ∷ colon ∷ b) (and_right (x1 == 99) false refl) ∙ sym (by_end (x1 ∷ []) refl)
temporary-colon (x1 ∷ x2 ∷ []) b =
    by_random (x1 ∷ x2 ∷ colon ∷ b) (all_false [] (take 5 b) colon refl) ∙ sym (by_end (x1 ∷ x2 ∷ []) refl)
temporary-colon (x1 ∷ x2 ∷ x3 ∷ []) b =
    by_random (x1 ∷ x2 ∷ x3 ∷ colon ∷ b) (all_false (x3 ∷ []) (take 4 b) colon refl) ∙ sym (by_end (x1 ∷ x2 ∷ x3 ∷ []) refl)
temporary-colon (x1 ∷ x2 ∷ x3 ∷ x4 ∷ []) b =
    by_random (x1 ∷ x2 ∷ x3 ∷ x4 ∷ colon ∷ b) (all_false (x3 ∷ x4 ∷ []) (take 3 b) colon refl)
    ∙ sym (by_end (x1 ∷ x2 ∷ x3 ∷ x4 ∷ []) refl)
temporary-colon (x1 ∷ x2 ∷ x3 ∷ x4 ∷ x5 ∷ []) b =
    by_random (x1 ∷ x2 ∷ x3 ∷ x4 ∷ x5 ∷ colon ∷ b) (all_false (x3 ∷ x4 ∷ x5 ∷ []) (take 2 b) colon refl)
    ∙ sym (by_end (x1 ∷ x2 ∷ x3 ∷ x4 ∷ x5 ∷ []) refl)
temporary-colon (x1 ∷ x2 ∷ x3 ∷ x4 ∷ x5 ∷ x6 ∷ []) b =
    by_random (x1 ∷ x2 ∷ x3 ∷ x4 ∷ x5 ∷ x6 ∷ colon ∷ b) (all_false (x3 ∷ x4 ∷ x5 ∷ x6 ∷ []) (take 1 b) colon refl)
    ∙ sym (by_end (x1 ∷ x2 ∷ x3 ∷ x4 ∷ x5 ∷ x6 ∷ []) refl)
temporary-colon (x1 ∷ x2 ∷ x3 ∷ x4 ∷ x5 ∷ x6 ∷ x7 ∷ []) b =
    by_random (x1 ∷ x2 ∷ x3 ∷ x4 ∷ x5 ∷ x6 ∷ x7 ∷ colon ∷ b) (all_false (x3 ∷ x4 ∷ x5 ∷ x6 ∷ x7 ∷ []) [] colon refl)
    ∙ sym (by_end (x1 ∷ x2 ∷ x3 ∷ x4 ∷ x5 ∷ x6 ∷ x7 ∷ []) refl)
temporary-colon (x1 ∷ x2 ∷ x3 ∷ x4 ∷ x5 ∷ x6 ∷ x7 ∷ x8 ∷ []) b =
    by_end (x1 ∷ x2 ∷ x3 ∷ x4 ∷ x5 ∷ x6 ∷ x7 ∷ x8 ∷ colon ∷ b) refl ∙ sym (by_end (x1 ∷ x2 ∷ x3 ∷ x4 ∷ x5 ∷ x6 ∷ x7 ∷ x8 ∷ []) refl)
temporary-colon (x1 ∷ x2 ∷ x3 ∷ x4 ∷ x5 ∷ x6 ∷ x7 ∷ x8 ∷ x9 ∷ a) b = refl

-- Such a name has nine bytes or more.
pub temporary-long : (bytes : List ℕ) → begins_temporary bytes ≡ true → 8 ≤ length bytes
temporary-long (x1 ∷ x2 ∷ x3 ∷ x4 ∷ x5 ∷ x6 ∷ x7 ∷ x8 ∷ bytes) is = omega arith
temporary-long [] is = absurd (false≢true is)
temporary-long (x1 ∷ []) is = absurd (false≢true (sym (by_end (x1 ∷ []) refl) ∙ is))
temporary-long (x1 ∷ x2 ∷ []) is = absurd (false≢true (sym (by_end (x1 ∷ x2 ∷ []) refl) ∙ is))
temporary-long (x1 ∷ x2 ∷ x3 ∷ []) is = absurd (false≢true (sym (by_end (x1 ∷ x2 ∷ x3 ∷ []) refl) ∙ is))
temporary-long (x1 ∷ x2 ∷ x3 ∷ x4 ∷ []) is = absurd (false≢true (sym (by_end (x1 ∷ x2 ∷ x3 ∷ x4 ∷ []) refl) ∙ is))
temporary-long (x1 ∷ x2 ∷ x3 ∷ x4 ∷ x5 ∷ []) is = absurd (false≢true (sym (by_end (x1 ∷ x2 ∷ x3 ∷ x4 ∷ x5 ∷ []) refl) ∙ is))
temporary-long (x1 ∷ x2 ∷ x3 ∷ x4 ∷ x5 ∷ x6 ∷ []) is = absurd (false≢true (sym (by_end (x1 ∷ x2 ∷ x3 ∷ x4 ∷ x5 ∷ x6 ∷ []) refl) ∙ is))
temporary-long (x1 ∷ x2 ∷ x3 ∷ x4 ∷ x5 ∷ x6 ∷ x7 ∷ []) is =
    absurd (false≢true (sym (by_end (x1 ∷ x2 ∷ x3 ∷ x4 ∷ x5 ∷ x6 ∷ x7 ∷ []) refl) ∙ is))

abbrev mask_step : Bool → ℕ → List ℕ → List ℕ
mask_step is byte bytes = cond is (codes "/cc*" ++ masked_after 8 bytes) (byte ∷ masked_after 0 bytes)

-- The bytes before a colon and the bytes after it are masked by themselves.
pub masked-colon : (n : ℕ) (a b : List ℕ) → n ≤ length a → masked_after n (a ++ colon ∷ b) ≡ masked_after n a ++ colon ∷ masked b
unfolding masked_after
masked-colon zero [] b few = refl
masked-colon (suc n) [] b few = absurd (omega (arith, few))
masked-colon (suc n) (byte ∷ a) b few = masked-colon n a b (omega (arith, few))
masked-colon zero (byte ∷ a) b few =
    ap (λ is. mask_step (byte == slash && is) byte (a ++ colon ∷ b)) (temporary-colon a b)
    ∙ by (byte == slash) (begins_temporary a) (λ is. masked-colon 8 a b (temporary-long a is)) (masked-colon zero a b (omega arith))
  where
    by : (first is : Bool)
        → (is ≡ true → masked_after 8 (a ++ colon ∷ b) ≡ masked_after 8 a ++ colon ∷ masked b)
        → masked_after 0 (a ++ colon ∷ b) ≡ masked_after 0 a ++ colon ∷ masked b
        → mask_step (first && is) byte (a ++ colon ∷ b) ≡ mask_step (first && is) byte a ++ colon ∷ masked b
    by true true named free = ap (λ (bytes : List ℕ). codes "/cc*" ++ bytes) (named refl)
    by true false named free = ap (λ (bytes : List ℕ). byte ∷ bytes) free
    by false is named free = ap (λ (bytes : List ℕ). byte ∷ bytes) free

-- Text without a colon has none when it is masked.
pub masked-free-of-colon : (n : ℕ) (a : List ℕ) → HasNo colon a → HasNo colon (masked_after n a)
unfolding masked_after
masked-free-of-colon n [] free = tt
masked-free-of-colon (suc n) (byte ∷ a) free = masked-free-of-colon n a free.1
masked-free-of-colon zero (byte ∷ a) free =
    by (byte == slash && begins_temporary a) (masked-free-of-colon 8 a free.1) (masked-free-of-colon 0 a free.1)
  where
    by : (is : Bool) → HasNo colon (masked_after 8 a) → HasNo colon (masked_after 0 a) → HasNo colon (mask_step is byte a)
    by true named other =
        (eqb-false 47 colon refl, (eqb-false 99 colon refl, (eqb-false 99 colon refl, (eqb-false 42 colon refl, named))))
    by false named other = (free.0, other)

-- ---- the parts of a key

-- Text that begins with one word doesn't begin with another, and what follows is the same.
abbrev first_of : List ℕ → ℕ
first_of bytes = get_or bytes 0 0

pub words_tell : (one other : Severity) (a b : List ℕ) → word_of one ++ a ≡ word_of other ++ b → (one ≡ other) × (a ≡ b)
words_tell Warning Warning a b same = (refl, ap (λ (bytes : List ℕ). drop 8 bytes) same)
words_tell Warning Error a b same = absurd (eqb-false 119 101 refl (ap first_of same))
words_tell Warning FatalError a b same = absurd (eqb-false 119 102 refl (ap first_of same))
words_tell Error Warning a b same = absurd (eqb-false 101 119 refl (ap first_of same))
words_tell Error Error a b same = (refl, ap (λ (bytes : List ℕ). drop 6 bytes) same)
words_tell Error FatalError a b same = absurd (eqb-false 101 102 refl (ap first_of same))
words_tell FatalError Warning a b same = absurd (eqb-false 102 119 refl (ap first_of same))
words_tell FatalError Error a b same = absurd (eqb-false 102 101 refl (ap first_of same))
words_tell FatalError FatalError a b same = (refl, ap (λ (bytes : List ℕ). drop 12 bytes) same)

-- A test of each byte.
pub free_by_test : (at : ℕ) (bytes : List ℕ) → list_all (λ byte. not (byte == at)) bytes ≡ true → HasNo at bytes
free_by_test at [] is = tt
free_by_test at (byte ∷ bytes) is =
    let parts = and_parts (not (byte == at)) (list_all (λ byte. not (byte == at)) bytes) is in
    (eqb-false byte at (not-true (byte == at) parts.0), free_by_test at bytes parts.1)

word-no-slash : (severity : Severity) → HasNo slash (word_of severity)
word-no-slash Warning = free_by_test slash (word_of Warning) refl
word-no-slash Error = free_by_test slash (word_of Error) refl
word-no-slash FatalError = free_by_test slash (word_of FatalError) refl

pub origin_free : (head : List ℕ) → HasNo colon (origin_of head)
origin_free head = by (split_once colon head) refl
  where
    by : (found : Option (List ℕ × List ℕ)) → split_once colon head ≡ found → HasNo colon (origin_of head)
    by None is = subst (HasNo colon) (sym (ap origin_from is)) tt
    by (Some parts) is =
        subst (HasNo colon) (sym (ap origin_from is)) (are_parts colon head parts is).free

-- The bytes after a word: none, or a space and a text.
abbrev pub Follows : List ℕ → Type 0
Follows after = (after ≡ []) ⊎ ((text : List ℕ) × (after ≡ space ∷ text))

abbrev whole_key : List ℕ → Severity → List ℕ → List ℕ
whole_key origin severity after = masked origin ++ colon ∷ space ∷ (word_of severity ++ masked after)

key_is : (one : PartsValue) (after : List ℕ) → one.tail ≡ word_of one.severity ++ after
    → key_of one ≡ whole_key (origin_of one.head) one.severity after
unfolding masked_after
key_is one after is =
    ap masked (append_assoc (origin_of one.head) (codes ": ") one.tail)
    ∙ masked-colon 0 (origin_of one.head) (space ∷ one.tail) (omega arith)
    ∙ ap (λ (bytes : List ℕ). masked (origin_of one.head) ++ colon ∷ space ∷ bytes)
    (ap masked is ∙ masked-free (word_of one.severity) after (word-no-slash one.severity))

pub colon_apart : (a b c d : List ℕ) → HasNo colon a → HasNo colon c → a ++ colon ∷ b ≡ c ++ colon ∷ d → (a ≡ c) × (b ≡ d)
colon_apart a b c d first other same =
    let both = sym (parted_at colon a b first) ∙ ap (split_once colon) same ∙ parted_at colon c d other in
    some_pair_parts a c b d both

text_is : (severity : Severity) (after : List ℕ) → drop (length (word_of severity) + 1) (word_of severity ++ after) ≡ drop 1 after
text_is Warning after = refl
text_is Error after = refl
text_is FatalError after = refl

after_space : (a b : List ℕ) → Follows a → Follows b → masked a ≡ masked b → masked (drop 1 a) ≡ masked (drop 1 b)
unfolding masked_after
after_space a b (inl first) (inl other) same = ap (λ (bytes : List ℕ). masked (drop 1 bytes)) (first ∙ sym other)
after_space a b (inl first) (inr other) same =
    let none = sym (ap masked first) ∙ same ∙ ap masked other.1 in absurd (cc)
after_space a b (inr first) (inl other) same =
    let none = sym (ap masked first.1) ∙ same ∙ ap masked other in absurd (cc)
after_space a b (inr first) (inr other) same =
    let both = sym (ap masked first.1) ∙ same ∙ ap masked other.1 in
    ap (λ (bytes : List ℕ). masked (drop 1 bytes)) first.1 ∙ drop_first both
    ∙ sym (ap (λ (bytes : List ℕ). masked (drop 1 bytes)) other.1)
  where
    drop_first : space ∷ masked first.0 ≡ space ∷ masked other.0 → masked first.0 ≡ masked other.0
    drop_first both = ap (λ (bytes : List ℕ). drop 1 bytes) both

pub keys_apart : (one two : PartsValue) (first other : List ℕ)
    → one.tail ≡ word_of one.severity ++ first → Follows first → two.tail ≡ word_of two.severity ++ other → Follows other
    → key_of one ≡ key_of two → SaySame one two
keys_apart one two first other one_is first_follows two_is other_follows same =
    let keys = sym (key_is one first one_is) ∙ same ∙ key_is two other two_is in
    let parts = colon_apart (masked (origin_of one.head)) (space ∷ (word_of one.severity ++ masked first))
    (masked (origin_of two.head)) (space ∷ (word_of two.severity ++ masked other))
    (masked-free-of-colon 0 (origin_of one.head) (origin_free one.head))
    (masked-free-of-colon 0 (origin_of two.head) (origin_free two.head)) keys in
    let tails : word_of one.severity ++ masked first ≡ word_of two.severity ++ masked other =
    ap (λ (bytes : List ℕ). drop 1 bytes) parts.1 in
    let words = words_tell one.severity two.severity (masked first) (masked other) tails in
    record {
      origin = parts.0;
      severity = words.0;
      text = ap masked (ap (drop (length (word_of one.severity) + 1)) one_is ∙ text_is one.severity first)
          ∙ after_space first other first_follows other_follows words.1
          ∙ sym (ap masked (ap (drop (length (word_of two.severity) + 1)) two_is ∙ text_is two.severity other));
    }
