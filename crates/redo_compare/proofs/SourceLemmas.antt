-- Bytes without the spaces at their end, what follows a bar, and lines without escape bytes.
use Rattle.std.proofs.Common.{◌≡◌, ◌≢◌, ℕ, Bool, true, false, cond, List, [], ◌∷◌, ◌++◌, Option, None, Some, length, take, drop, refl, sym, ap, ◌∙◌, eqb-true}
use Rattle.std.specs.Prelude.{◌&&◌, codes, is_some, nat_eq}
use Rattle.std.specs.List.{list_all}
use Rattle.std.specs.Str.{bytes_eq}
use Rattle.std.proofs.lemmas.Bool.{and_right}
use Rattle.std.proofs.lemmas.Cmp.{nat_eq_equiv}
use Rattle.memchr.specs.Find.{IsFirstByte, is_byte}
use Rattle.redo_line.specs.Parts.{after_prefix}
use Rattle.redo_line.specs.Record.{space}
use Rattle.redo_line.proofs.PartLemmas.{parted_free}
use Rattle.redo_diagnostics.specs.Plain.{plain_line}
use Rattle.redo_diagnostics.proofs.FlagLemmas.{byte_nowhere}
use Rattle.redo_diagnostics.proofs.PlainLemmas.{escape, plain-rest}
use Rattle.redo_compare.specs.Source.{after_those, before_spaces, is_space, source_of, text_after_bar, text_after_row, trimmed, trimmed_if_some}

all-push : (bytes : List ℕ) → list_all is_space (bytes ++ space ∷ []) ≡ list_all is_space bytes
all-push [] = refl
all-push (byte ∷ bytes) = ap (λ (is : Bool). is_space byte && is) (all-push bytes)

pub before-space : (bytes : List ℕ) → before_spaces (bytes ++ space ∷ []) ≡ before_spaces bytes
before-space [] = refl
before-space (byte ∷ bytes) = λ i. cond (is_space byte && all-push bytes i) [] (byte ∷ before-space bytes i)

not-all : (bytes : List ℕ) (last : ℕ) → is_space last ≡ false → list_all is_space (bytes ++ last ∷ []) ≡ false
not-all [] last isn't = ap (λ (is : Bool). is && true) isn't
not-all (byte ∷ bytes) last isn't = and_right (is_space byte) (list_all is_space (bytes ++ last ∷ [])) (not-all bytes last isn't)

before-other : (bytes : List ℕ) (last : ℕ) → is_space last ≡ false → before_spaces (bytes ++ last ∷ []) ≡ bytes ++ last ∷ []
before-other [] last isn't = ap (λ (is : Bool). cond (is && true) [] (last ∷ [])) isn't
before-other (byte ∷ bytes) last isn't =
    ap (λ (is : Bool). cond is [] (byte ∷ before_spaces (bytes ++ last ∷ []))) (not-all (byte ∷ bytes) last isn't)
    ∙ ap (λ (l : List ℕ). byte ∷ l) (before-other bytes last isn't)

-- Bytes before their last one.
record IsLast (bytes : List ℕ) : Type 0 where
  front : List ℕ
  last : ℕ
  whole : bytes ≡ front ++ last ∷ []

has-last : (byte : ℕ) (bytes : List ℕ) → IsLast (byte ∷ bytes)
has-last byte [] = record { front = []; last = byte; whole = refl }
has-last byte (next ∷ bytes) =
    let rest = has-last next bytes in
    record { front = byte ∷ rest.front; last = rest.last; whole = ap (λ (l : List ℕ). byte ∷ l) rest.whole }

-- Bytes that don't end with a space.
pub before-none : (bytes : List ℕ) → ((front : List ℕ) → bytes ≢ front ++ space ∷ []) → before_spaces bytes ≡ bytes
before-none [] none = refl
before-none (byte ∷ bytes) none =
    let parts = has-last byte bytes in
    by (is_space parts.last) refl
  where
    by : (is : Bool) → is_space (has-last byte bytes).last ≡ is → before_spaces (byte ∷ bytes) ≡ byte ∷ bytes
    by true is =
        let parts = has-last byte bytes in
        absurd (none parts.front (parts.whole ∙ ap (λ (last : ℕ). parts.front ++ last ∷ []) (eqb-true parts.last space is)))
    by false isn't =
        let parts = has-last byte bytes in
        ap before_spaces parts.whole ∙ before-other parts.front parts.last isn't ∙ sym parts.whole

-- ---- after a bar

pub after-bar : (bytes : List ℕ)
    → after_prefix (codes " |") bytes ≡ cond (bytes_eq (take 2 bytes) (codes " |")) (Some (drop 2 bytes)) None
unfolding after_prefix
after-bar [] = refl
after-bar (first ∷ []) = by (nat_eq space first) (nat_eq first space)
  where
    by : (is also : Bool) → cond is None None ≡ cond (also && false) (Some (drop 2 (first ∷ []))) None
    by true true = refl
    by true false = refl
    by false true = refl
    by false false = refl
after-bar (first ∷ second ∷ bytes) =
    (λ i. cond (nat_eq_equiv.symm space first i) (cond (nat_eq_equiv.symm 124 second i) (Some bytes) None) None)
    ∙ by (nat_eq first space) (nat_eq second 124)
  where
    by : (is also : Bool) → cond is (cond also (Some bytes) None) None ≡ cond (is && (also && true)) (Some bytes) None
    by true true = refl
    by true false = refl
    by false also = refl

module _ (bytes prefix : List ℕ) (is_bar : prefix ≡ codes " |") where
  begins : (is : Bool) → bytes_eq (take (length prefix) bytes) prefix ≡ is → bytes_eq (take 2 bytes) (codes " |") ≡ is
  begins is same = ap (λ (p : List ℕ). bytes_eq (take (length p) bytes) p) (sym is_bar) ∙ same

  pub bar-some : (text : List ℕ) → bytes_eq (take (length prefix) bytes) prefix ≡ true → text ≡ drop (length prefix) bytes
      → trimmed text ≡ text_after_bar bytes
  bar-some text same rest =
      ap trimmed (rest ∙ ap (λ (p : List ℕ). drop (length p) bytes) is_bar)
      ∙ sym (ap trimmed_if_some (after-bar bytes ∙ ap (λ (is : Bool). cond is (Some (drop 2 bytes)) None) (begins true same)))

  pub bar-none : bytes_eq (take (length prefix) bytes) prefix ≡ false → [] ≡ text_after_bar bytes
  bar-none differs =
      sym (ap trimmed_if_some (after-bar bytes ∙ ap (λ (is : Bool). cond is (Some (drop 2 bytes)) None) (begins false differs)))

-- ---- lines

pub of-plain : (line : List ℕ) → text_after_row (after_those is_space (plain_line line)) ≡ source_of line
unfolding source_of
of-plain line = refl

-- A line without escape bytes is plain.
pub of-line : (line : List ℕ) (found : Option ℕ) → IsFirstByte (is_byte escape) line found → is_some found ≡ false
    → text_after_row (after_those is_space line) ≡ source_of line
of-line line found first is =
    ap (λ (bytes : List ℕ). text_after_row (after_those is_space bytes))
    (sym (plain-rest line (parted_free escape line (byte_nowhere escape line found first is))))
    ∙ of-plain line
