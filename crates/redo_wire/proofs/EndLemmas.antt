-- Lemmas about the ends of a mailbox, for callers.
use Rattle.std.proofs.Common.{◌≡◌, ℕ, zero, suc, List, [], ◌∷◌, Some, slice_get, refl, ap}
use Rattle.std.specs.List.{AllByRecursion}
use Rattle.redo_wire.specs.Mailbox.{AreEndsOf, Mailbox, PostEndState}

all_by_place : {X : Type 0} (P : X → Type 0) (xs : List X) → ((k : ℕ) (x : X) → slice_get xs k ≡ Some x → P x) → AllByRecursion P xs
all_by_place P [] each = tt
all_by_place P (x ∷ xs) each = (each zero x refl, all_by_place P xs (λ k other is. each (suc k) other is))

-- All the ends of a mailbox have this mailbox.
pub ends_of_one : (mailbox : Mailbox) (ends : List PostEndState) → AreEndsOf mailbox ends
    → AllByRecursion (λ (end : PostEndState). end.mailbox ≡ mailbox) ends
ends_of_one mailbox ends are = all_by_place (λ (end : PostEndState). end.mailbox ≡ mailbox) ends
    (λ k end is. ap (λ e. e.mailbox) (are.each k end is))
