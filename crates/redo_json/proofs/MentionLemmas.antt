-- How often a name is among the needs.
use Rattle.std.proofs.Common.{◌≡◌, ◌≢◌, ℕ, zero, suc, ◌+◌, min, Bool, true, false, List, [], ◌∷◌, ◌++◌, filter, length, refl, sym, ap, ◌∙◌, arith}
use Rattle.std.specs.Prelude.{◌==◌, if◌then◌else◌}
use Rattle.std.specs.Str.{bytes_eq}
use Rattle.std.specs.Cmp.Lexicographic.{same_text}
use Rattle.std.proofs.lemmas.Bool.{ne_eqb}
use Rattle.std.proofs.lemmas.Cmp.{nat_list_eq_equiv}
use Rattle.redo_diagnostics.specs.Counts.{times_of}
use Rattle.redo_line.specs.declared.entry.Entry.{Entry}
use Rattle.redo_json.specs.Build.{mentions_in, name_if_new, needs_of, new_names}

abbrev one_if : Bool → ℕ
one_if same = if same then 1 else 0

module _ (name : List ℕ) where
  abbrev times : List (List ℕ) → ℕ
  times names = times_of name names

  times-cons : (other : List ℕ) (names : List (List ℕ)) → times (other ∷ names) ≡ one_if (bytes_eq other name) + times names
  times-cons other names = by (bytes_eq other name)
    where
      by : (same : Bool) → length (if same then other ∷ filter (λ (o : List ℕ). bytes_eq o name) names
          else filter (λ (o : List ℕ). bytes_eq o name) names) ≡ one_if same + times names
      by true = omega arith
      by false = omega arith

  times-append : (names others : List (List ℕ)) → times (names ++ others) ≡ times names + times others
  times-append [] others = omega arith
  times-append (other ∷ names) others =
      omega (arith, times-cons other (names ++ others), times-append names others, times-cons other names)

  -- How often the name is among those names that don't occur before, if it occurs this often before.
  abbrev new_times : ℕ → ℕ → ℕ
  new_times zero later = min later 1
  new_times (suc before) later = 0

  first_times : (other : List ℕ) (before : List (List ℕ)) (same : Bool) → bytes_eq other name ≡ same
      → times (name_if_new other before) ≡ (if same then one_if (times before == 0) else 0)
  first_times other before true is =
      ap (λ (o : List ℕ). times (name_if_new o before)) (same_text other name (sym is)) ∙ itself (times before == 0)
    where
      itself : (new : Bool) → times (if new then name ∷ [] else []) ≡ one_if new
      itself true = times-cons name []
          ∙ ap (λ (same : Bool). one_if same + 0) (ap (λ (o : List ℕ). bytes_eq o name) (sym (same_text other name (sym is))) ∙ is)
      itself false = refl
  first_times other before false is = by (times_of other before == 0)
    where
      by : (new : Bool) → times (if new then other ∷ [] else []) ≡ 0
      by true = times-cons other [] ∙ ap (λ (same : Bool). one_if same + 0) is
      by false = refl

  both_times : (before later first : ℕ) (same : Bool) → first ≡ (if same then one_if (before == 0) else 0)
      → first + new_times (before + one_if same) later ≡ new_times before (one_if same + later)
  both_times zero later first true is = omega (arith, is)
  both_times zero later first false is = omega (arith, is)
  both_times (suc before) later first true is =
      let none : first ≡ 0 = is ∙ ap one_if (ne_eqb (suc before) 0 (λ e. omega (arith, e))) in
      let same : suc before + 1 ≡ suc (before + 1) = omega arith in
      let next : new_times (suc before + 1) later ≡ 0 = ap (λ (n : ℕ). new_times n later) same in
      omega (arith, none, next)
  both_times (suc before) later first false is =
      let none : first ≡ 0 = is in
      let same : suc before + 0 ≡ suc before = omega arith in
      let next : new_times (suc before + 0) later ≡ 0 = ap (λ (n : ℕ). new_times n later) same in
      omega (arith, none, next)

  names_times : (before names : List (List ℕ)) → times (new_names before names) ≡ new_times (times before) (times names)
  names_times before [] = by (times before)
    where
      by : (n : ℕ) → 0 ≡ new_times n 0
      by zero = omega arith
      by (suc n) = refl
  names_times before (other ∷ names) =
      times-append (name_if_new other before) (new_names (before ++ other ∷ []) names)
      ∙ ap (λ (n : ℕ). times (name_if_new other before) + n) (names_times (before ++ other ∷ []) names)
      ∙ ap (λ (n : ℕ). times (name_if_new other before) + new_times n (times names)) before_is
      ∙ both_times (times before) (times names) (times (name_if_new other before)) (bytes_eq other name)
      (first_times other before (bytes_eq other name) refl)
      ∙ ap (new_times (times before)) (sym (times-cons other names))
    where
      before_is : times (before ++ other ∷ []) ≡ times before + one_if (bytes_eq other name)
      before_is = omega (arith, times-append before (other ∷ []), times-cons other [])

pub needs_times : (target : List ℕ) (entries : List Entry) (name : List ℕ) → name ≢ target
    → times_of name (needs_of target entries) ≡ min (times_of name (mentions_in entries)) 1
needs_times target entries name other =
    names_times name (target ∷ []) (mentions_in entries)
    ∙ ap (λ (n : ℕ). new_times name n (times_of name (mentions_in entries))) (by (bytes_eq target name) refl)
  where
    by : (same : Bool) → bytes_eq target name ≡ same → times_of name (target ∷ []) ≡ 0
    by true is = absurd (other (sym (same_text target name (sym is))))
    by false is = times-cons name target [] ∙ ap (λ (same : Bool). one_if same + 0) is

pub own_times : (target : List ℕ) (entries : List Entry) → times_of target (needs_of target entries) ≡ 0
own_times target entries =
    names_times target (target ∷ []) (mentions_in entries)
    ∙ ap (λ (n : ℕ). new_times target n (times_of target (mentions_in entries)))
    (times-cons target target [] ∙ ap (λ (same : Bool). one_if same + 0) (nat_list_eq_equiv.refl target))
