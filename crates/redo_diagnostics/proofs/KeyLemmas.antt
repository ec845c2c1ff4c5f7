-- Text with and without names of temporary files.
use Rattle.std.proofs.Common.{◌≡◌, ℕ, zero, suc, ◌<◌, ◌≤◌, ◌==◌, Bool, true, false, cond, ◌&&◌, List, [], ◌∷◌, ◌++◌, Option, None, Some, length, take, drop, get_or, refl, sym, ◌∙◌, ap, arith}
use Rattle.std.specs.Prelude.{codes}
use Rattle.std.specs.Char.{is_ascii_alphanumeric}
use Rattle.std.specs.List.{list_all}
use Rattle.std.specs.Str.{bytes_eq}
use Rattle.std.proofs.lemmas.Bool.{and_right, eqb-false, ne_eqb}
use Rattle.std.proofs.lemmas.List.{append-nil, append_assoc, get_or_past, length-append}
use Rattle.std.proofs.lemmas.Option.{none-some}
use Rattle.redo_line.specs.Parts.{split_once}
use Rattle.redo_line.specs.Record.{period}
use Rattle.redo_line.proofs.PartLemmas.{HasNo, are_parts, cut_by, onto, split_once-cons}
use Rattle.redo_name.specs.Names.{slash}
use Rattle.redo_diagnostics.specs.Diagnostic.{begins_temporary, masked, masked_after}

-- ---- parts

-- Without parts, no byte is the separator.
pub no_parts : (at : ℕ) (bytes : List ℕ) → split_once at bytes ≡ None → HasNo at bytes
no_parts at [] is = tt
no_parts at (byte ∷ bytes) is =
    by (byte == at) refl (split_once at bytes) (sym (split_once-cons at byte bytes (byte == at) refl) ∙ is) (no_parts at bytes)
  where
    by : (here : Bool) → byte == at ≡ here → (found : Option (List ℕ × List ℕ)) → cut_by here byte bytes found ≡ None
        → (found ≡ None → HasNo at bytes) → HasNo at (byte ∷ bytes)
    by true here found is free = absurd (none-some ([], bytes) (sym is))
    by false here None is free = (eqb-false byte at here, free refl)
    by false here (Some parts) is free = absurd (none-some (onto byte parts) (sym is))

pub shorter : (at : ℕ) (bytes : List ℕ) (parts : List ℕ × List ℕ) → split_once at bytes ≡ Some parts → length parts.1 < length bytes
shorter at bytes parts is =
    let size = ap length (are_parts at bytes parts is).whole ∙ length-append parts.0 (at ∷ parts.1) in omega (arith, size)

-- Bytes after one or two appends.
pub appended_once : (k k1 front rest m whole : List ℕ) → k1 ≡ k ++ front → m ≡ front ++ rest → k ++ m ≡ whole → k1 ++ rest ≡ whole
appended_once k k1 front rest m whole first is so_far =
    ap (λ (bytes : List ℕ). bytes ++ rest) first ∙ append_assoc k front rest ∙ ap (λ (bytes : List ℕ). k ++ bytes) (sym is) ∙ so_far

pub appended : (k k1 k2 front x rest m whole : List ℕ) → k1 ≡ k ++ front → k2 ≡ k1 ++ x → m ≡ front ++ (x ++ rest) → k ++ m ≡ whole
    → k2 ++ rest ≡ whole
appended k k1 k2 front x rest m whole first second is so_far =
    ap (λ (bytes : List ℕ). bytes ++ rest) (second ∙ ap (λ (bytes : List ℕ). bytes ++ x) first)
    ∙ append_assoc (k ++ front) x rest ∙ append_assoc k front (x ++ rest) ∙ ap (λ (bytes : List ℕ). k ++ bytes) (sym is) ∙ so_far

-- ---- masked text

masked-skip : (n : ℕ) (bytes : List ℕ) → masked_after n bytes ≡ masked (drop n bytes)
unfolding masked_after
masked-skip zero bytes = refl
masked-skip (suc n) [] = refl
masked-skip (suc n) (byte ∷ bytes) = masked-skip n bytes

pub masked-free : (front others : List ℕ) → HasNo slash front → masked (front ++ others) ≡ front ++ masked others
unfolding masked_after
masked-free [] others free = refl
masked-free (byte ∷ front) others free = rw (ne_eqb byte slash free.0) (ap (λ (bs : List ℕ). byte ∷ bs) (masked-free front others free.1))

masked-nil : masked [] ≡ []
unfolding masked_after
masked-nil = refl

pub masked-rest : (left : List ℕ) → split_once slash left ≡ None → masked left ≡ left
masked-rest left is =
    ap masked (sym (append-nil left)) ∙ masked-free left [] (no_parts slash left is) ∙ ap (λ (bs : List ℕ). left ++ bs) masked-nil
    ∙ append-nil left

module _ (left front behind : List ℕ) (parts : split_once slash left ≡ Some (front, behind)) where
  abbrev step : Bool → List ℕ
  step is = cond is (codes "/cc*" ++ masked_after 8 behind) (slash ∷ masked_after 0 behind)

  masked-step : masked left ≡ front ++ step (begins_temporary behind)
  unfolding masked_after
  masked-step =
      let whole = are_parts slash left (front, behind) parts in
      ap masked whole.whole ∙ masked-free front (slash ∷ behind) whole.free

  pub masked-name : begins_temporary behind ≡ true → masked left ≡ front ++ (codes "/cc*" ++ masked (drop 8 behind))
  masked-name is = masked-step ∙ ap (λ is. front ++ step is) is
      ∙ ap (λ (bs : List ℕ). front ++ (codes "/cc*" ++ bs)) (masked-skip 8 behind)

  pub masked-slash : begins_temporary behind ≡ false → masked left ≡ front ++ slash ∷ masked behind
  masked-slash is = masked-step ∙ ap (λ is. front ++ step is) is

  -- If nothing is replaced after the slash, nothing is replaced at all.
  pub kept-slash : begins_temporary behind ≡ false → masked behind ≡ behind → masked left ≡ left
  kept-slash is same =
      masked-slash is ∙ ap (λ (bs : List ℕ). front ++ slash ∷ bs) same ∙ sym (are_parts slash left (front, behind) parts).whole

-- Short bytes don't begin with such a name.
pub short_is_none : (bytes : List ℕ) → length bytes ≤ 8 → begins_temporary bytes ≡ false
short_is_none bytes short = and_right _ _ (ap (λ (byte : ℕ). byte == period) (get_or_past bytes 8 0 short))

pub all_hold : (bytes : List ℕ) → bytes_eq (take 2 bytes) (codes "cc") ≡ true
    → list_all is_ascii_alphanumeric (take 6 (drop 2 bytes)) ≡ true
    → get_or bytes 8 0 == period ≡ begins_temporary bytes
all_hold bytes letters random = by _ _ (get_or bytes 8 0 == period) letters random
  where
    by : (a b c : Bool) → a ≡ true → b ≡ true → c ≡ (a && b && c)
    by true true c first second = refl
    by false b c first second = absurd (cc)
    by true false c first second = absurd (cc)
