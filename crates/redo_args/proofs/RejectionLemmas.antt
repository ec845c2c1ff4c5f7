-- The rejected argument, found from the last argument on, and the kind of a fault.
use Rattle.std.proofs.Common.{◌≡◌, ◌≤◌, ◌∙◌, ℕ, suc, Bool, true, false, List, [], ◌∷◌, length, take, inl, inr, ap, sym, arith}
use Rattle.std.specs.Prelude.{if◌then◌else◌}
use Rattle.std.specs.Str.{bytes_eq}
use Rattle.clap.specs.Faults.{fault_of}
use Rattle.clap.specs.Kinds.{HasKind, IsAmong, Kinds}
use Rattle.clap.specs.Simple.{App}
use Rattle.clap.specs.Values.{kind_of}
use Rattle.clap.specs.Walk.{Text}
use Rattle.clap.specs.declared.error.Error.{Error}
use Rattle.clap.specs.declared.error.kind.ErrorKind.{ErrorKind}
use Rattle.clap.specs.declared.error.kind.ErrorKind.TheVariants as kind
use Rattle.redo_args.specs.Rejection.{fails_alike, kind_name, rejected_within}

one_is : (kinds : Kinds) (k : ErrorKind) → length kinds ≤ 1 → IsAmong k kinds → k ∷ [] ≡ kinds
one_is [] k one among = absurd among
one_is (x ∷ []) k one (inl is) = ap (λ k. k ∷ []) is
one_is (x ∷ []) k one (inr none) = absurd none
one_is (x ∷ y ∷ xs) k one among = absurd (omega arith)

-- If there is at most one kind of fault, an error has this kind, unless memory ran out.
pub kind_is : (kinds : Kinds) (e : Error) → length kinds ≤ 1 → (kind_of e ≡ kind.OutOfMemory → ⊥) → HasKind kinds e
    → kind_of e ∷ [] ≡ kinds
kind_is kinds e one not (inl memory) = absurd (not memory)
kind_is kinds e one not (inr among) = one_is kinds (kind_of e) one among

module _ (app : App) (words : List Text) where
  -- The result of a comparison of kinds, for the first `n` arguments.
  pub alike_is : (n : ℕ) (before whole : Kinds) (is : Bool) → is ≡ bytes_eq (kind_name before) (kind_name whole)
      → before ≡ fault_of app (take n words) → whole ≡ fault_of app words
      → is ≡ fails_alike app words n
  alike_is n before whole is compared earlier all =
      compared ∙ ap (λ (kinds : Kinds). bytes_eq (kind_name kinds) (kind_name whole)) earlier
      ∙ ap (λ (kinds : Kinds). bytes_eq (kind_name (fault_of app (take n words))) (kind_name kinds)) all

  -- The last one of the first `n` arguments is not the rejected one, or it is.
  pub within_earlier : (n m : ℕ) → n ≡ suc m → fails_alike app words m ≡ true → rejected_within app words n ≡ rejected_within app words m
  unfolding rejected_within
  within_earlier n m is alike =
      ap (rejected_within app words) is ∙ ap (λ (alike : Bool). if alike then rejected_within app words m else suc m) alike

  pub within_all : (n m : ℕ) → n ≡ suc m → fails_alike app words m ≡ false → rejected_within app words n ≡ n
  unfolding rejected_within
  within_all n m is differs =
      ap (rejected_within app words) is ∙ ap (λ (alike : Bool). if alike then rejected_within app words m else suc m) differs ∙ sym is

  pub within_none : (n : ℕ) → n ≡ 0 → rejected_within app words n ≡ 0
  unfolding rejected_within
  within_none n none = ap (rejected_within app words) none
