-- Flags, one for each number: whether its end was met.
use Rattle.std.proofs.Common.{◌≡◌, ◌⊎◌, inl, inr, ◌↔◌, ℕ, zero, suc, ◌<◌, Bool, true, false, List, [], ◌∷◌, Some, length, slice_get, slice_set, refl, sym, ◌∙◌, arith}
use Rattle.std.specs.List.{list_all}
use Rattle.redo_wire.specs.Mailbox.{IsMet, Met}

abbrev IsSet : List Bool → ℕ → Type 0
IsSet flags number = slice_get flags number ≡ Some true

set_more : (flags : List Bool) (at number : ℕ) → at < length flags
    → IsSet (slice_set flags at true) number ↔ ((at ≡ number) ⊎ IsSet flags number)
set_more [] at number within = absurd (omega (arith, within))
set_more (flag ∷ flags) zero zero within = (λ is. inl refl, λ either. refl)
set_more (flag ∷ flags) zero (suc number) within = (
  λ is. inr is,
  λ either. elim either [
    | inl same ↦ absurd (omega (arith, same))
    | inr is ↦ is
  ],
)
set_more (flag ∷ flags) (suc at) zero within = (
  λ is. inr is,
  λ either. elim either [
    | inl same ↦ absurd (omega (arith, same))
    | inr is ↦ is
  ],
)
set_more (flag ∷ flags) (suc at) (suc number) within =
    let behind = set_more flags at number (omega (arith, within)) in (
      λ is. elim (behind.0 is) [
        | inl same ↦ inl (omega (arith, same))
        | inr set ↦ inr set
      ],
      λ either. elim either [
        | inl same ↦ behind.1 (inl (omega (arith, same)))
        | inr set ↦ behind.1 (inr set)
      ],
    )

-- The flags say which ends were met.
abbrev pub Tell : ℕ → List Bool → List Met → Type 0
Tell senders flags met = (number : ℕ) → number < senders → IsSet flags number ↔ IsMet number met

pub none_set : (senders : ℕ) (flags : List Bool) → ((number : ℕ) → number < senders → slice_get flags number ≡ Some false)
    → Tell senders flags []
none_set senders flags none number below = (λ is. same (sym (none number below) ∙ is), λ among. absurd among)
  where
    same : Some false ≡ Some true → IsMet number []
    same is = cc

pub one_set : (senders : ℕ) (flags : List Bool) (met : List Met) (end : Met) → length flags ≡ senders → end.0 < senders
    → Tell senders flags met → Tell senders (slice_set flags end.0 true) (end ∷ met)
one_set senders flags met end count within tell number below =
    let more = set_more flags end.0 number (omega (arith, count, within)) in
    let before = tell number below in (
      λ is. elim (more.0 is) [
        | inl same ↦ inl same
        | inr set ↦ inr (before.0 set)
      ],
      λ either. elim either [
        | inl same ↦ more.1 (inl same)
        | inr among ↦ more.1 (inr (before.1 among))
      ],
    )

all_set : (flags : List Bool) → list_all (λ flag. flag) flags ≡ true ↔ ((number : ℕ) → number < length flags → IsSet flags number)
all_set [] = (λ is number below. absurd (omega (arith, below)), λ all. refl)
all_set (true ∷ flags) =
    let behind = all_set flags in (
      λ is number. by (behind.0 is) number,
      λ all. behind.1 (λ number below. all (suc number) (omega (arith, below))),
    )
  where
    by : ((number : ℕ) → number < length flags → IsSet flags number) → (number : ℕ) → number < length (true ∷ flags)
        → IsSet (true ∷ flags) number
    by all zero below = refl
    by all (suc number) below = all number (omega (arith, below))
all_set (false ∷ flags) = (λ is. absurd (no is), λ all. same (all zero (omega arith)))
  where
    no : false ≡ true → ⊥
    no is = cc

    same : Some false ≡ Some true → false ≡ true
    same is = cc

pub all_are_met : (senders : ℕ) (flags : List Bool) (met : List Met) → length flags ≡ senders → Tell senders flags met
    → list_all (λ flag. flag) flags ≡ true ↔ ((number : ℕ) → number < senders → IsMet number met)
all_are_met senders flags met count tell =
    let all = all_set flags in (
      λ is number below. (tell number below).0 (all.0 is number (omega (arith, count, below))),
      λ among. all.1 (λ number within. let below : number < senders = omega (arith, count, within) in
          (tell number below).1 (among number below)),
    )
