-- Names among others, and the number of logs that are left to open.
use Rattle.std.proofs.Common.{◌≡◌, ◌⊎◌, ℕ, ◌+◌, ◌<◌, ◌≤◌, Bool, true, false, inl, inr, List, [], ◌∷◌, ◌++◌, refl, sym, ap, ◌∙◌, arith}
use Rattle.std.specs.Prelude.{◌||◌, nat_eq, if◌then◌else◌}
use Rattle.std.specs.Cmp.Lexicographic.{pointwise, same_text}
use Rattle.std.proofs.lemmas.Bool.{or_cases, or_left, or_right}
use Rattle.std.proofs.lemmas.Cmp.{nat_list_eq_equiv}
use Rattle.std.proofs.lemmas.List.Folds.{list_any-append}
use Rattle.redo_logs.specs.Logs.{Log, targets_of}
use Rattle.redo_view.specs.Expansion.{insert_name, is_among}

-- ---- names among others

-- Whether each of `names` is among `more`.
abbrev pub Keeps : List (List ℕ) → List (List ℕ) → Type 0
Keeps names more = (name : List ℕ) → is_among name names ≡ true → is_among name more ≡ true

-- A name in front keeps the others, and is among them.
pub front-keeps : (name : List ℕ) (names : List (List ℕ)) → Keeps names (name ∷ names)
front-keeps name names other among = or_right (pointwise nat_eq other name) (is_among other names) among

pub front-has : (name : List ℕ) (names : List (List ℕ)) → is_among name (name ∷ names) ≡ true
front-has name names = or_left (pointwise nat_eq name name) (is_among name names) (nat_list_eq_equiv.refl name)

-- So does a name at the end. No other name is new.
pub more-keeps : (name : List ℕ) (names : List (List ℕ)) → Keeps names (names ++ name ∷ [])
more-keeps name names other among = list_any-append (pointwise nat_eq other) names (name ∷ [])
    ∙ or_left (is_among other names) (is_among other (name ∷ [])) among

pub more-has : (name : List ℕ) (names : List (List ℕ)) → is_among name (names ++ name ∷ []) ≡ true
more-has name names = list_any-append (pointwise nat_eq name) names (name ∷ [])
    ∙ or_right (is_among name names) (is_among name (name ∷ [])) (front-has name [])

more-only : (other name : List ℕ) (names : List (List ℕ)) → is_among other (names ++ name ∷ []) ≡ true
    → (is_among other names ≡ true) ⊎ (other ≡ name)
more-only other name names among =
    elim (or_cases (is_among other names) (is_among other (name ∷ []))
    (sym (list_any-append (pointwise nat_eq other) names (name ∷ [])) ∙ among)) [ inl old ↦ inl old | inr new ↦ one new ]
  where
    one : (pointwise nat_eq other name || false) ≡ true → (is_among other names ≡ true) ⊎ (other ≡ name)
    one is = elim (or_cases (pointwise nat_eq other name) false is)
        [ inl same ↦ inr (same_text other name (sym same)) | inr none ↦ absurd (cc) ]

-- The same of a name that is appended unless it is there already.
pub insert-keeps : (name : List ℕ) (names : List (List ℕ)) → Keeps names (insert_name name names)
insert-keeps name names other among = by (is_among name names)
  where
    by : (there : Bool) → is_among other (if there then names else names ++ name ∷ []) ≡ true
    by true = among
    by false = more-keeps name names other among

pub insert-only : (other name : List ℕ) (names : List (List ℕ)) → is_among other (insert_name name names) ≡ true
    → (is_among other names ≡ true) ⊎ (other ≡ name)
insert-only other name names = by (is_among name names)
  where
    by : (there : Bool) → is_among other (if there then names else names ++ name ∷ []) ≡ true
        → (is_among other names ≡ true) ⊎ (other ≡ name)
    by true among = inl among
    by false among = more-only other name names among

-- ---- the number of logs that are left

abbrev one_unless : Bool → ℕ
one_unless true = 0
one_unless false = 1

-- The number of names that are not among others.
abbrev not_among : List (List ℕ) → List (List ℕ) → ℕ
not_among others [] = 0
not_among others (name ∷ names) = one_unless (is_among name others) + not_among others names

one-le : (before after : Bool) → (before ≡ true → after ≡ true) → one_unless after ≤ one_unless before
one-le true after keeps = let is = ap one_unless (keeps refl) in omega (arith, is)
one-le false true keeps = omega arith
one-le false false keeps = omega arith

-- It doesn't grow if there are more others. It decreases if one of the names is new among them.
not_among-le : (names before after : List (List ℕ)) → Keeps before after → not_among after names ≤ not_among before names
not_among-le [] before after keeps = omega arith
not_among-le (name ∷ names) before after keeps =
    omega (arith, one-le (is_among name before) (is_among name after) (keeps name), not_among-le names before after keeps)

not_among-lt : (new : List ℕ) (names before after : List (List ℕ)) → Keeps before after → is_among new names ≡ true
    → is_among new before ≡ false → is_among new after ≡ true → not_among after names < not_among before names
not_among-lt new [] before after keeps listed was is = absurd (cc)
not_among-lt new (name ∷ names) before after keeps listed was is =
    elim (or_cases (pointwise nat_eq new name) (is_among new names) listed) [
      | inl here ↦
          let same : new ≡ name = same_text new name (sym here) in
          let old : is_among name before ≡ false = ap (λ n. is_among n before) (sym same) ∙ was in
          let now : is_among name after ≡ true = ap (λ n. is_among n after) (sym same) ∙ is in
          omega (arith, ap one_unless old, ap one_unless now, not_among-le names before after keeps)
      | inr there ↦
          omega (
            arith,
            one-le (is_among name before) (is_among name after) (keeps name),
            not_among-lt new names before after keeps there was is,
          )
    ]

-- The number of logs that are not opened yet.
abbrev pub left : List Log → List (List ℕ) → ℕ
left logs opened = not_among opened (targets_of logs)

pub left-le : (logs : List Log) (before after : List (List ℕ)) → Keeps before after → left logs after ≤ left logs before
left-le logs before after keeps = not_among-le (targets_of logs) before after keeps

pub left-lt : (logs : List Log) (name : List ℕ) (opened : List (List ℕ)) → is_among name (targets_of logs) ≡ true
    → is_among name opened ≡ false → left logs (opened ++ name ∷ []) < left logs opened
left-lt logs name opened listed was =
    not_among-lt name (targets_of logs) opened (opened ++ name ∷ []) (more-keeps name opened) listed was (more-has name opened)
