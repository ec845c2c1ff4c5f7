-- How streams are distributed to senders.
use Rattle.std.specs.Prelude.{◌≡◌, ℕ, suc, ◌%◌, nat_eq, Bool, List, [], ◌∷◌, Option, Some, cond, length, map, replicate, slice_get}
use Rattle.redo_device.specs.Feed.{Stream}
use Rattle.redo_wire.specs.Mailbox.{PostEndState}
use Rattle.redo_gather.specs.Expected.{KnownSource}
use Rattle.redo_gather.specs.Sending.{NumberedSource, numbered_source}

-- The share of a sender: the streams, numbered from `number` on, whose number modulo `senders` is `sender`.
abbrev pub share_of : ℕ → ℕ → ℕ → List KnownSource → List NumberedSource
share_of senders sender number [] = []
share_of senders sender number (given ∷ others) =
    let rest = share_of senders sender (suc number) others in
    cond (nat_eq (number % senders) sender) ((number, given) ∷ rest) rest

-- Every sender has a share without streams.
abbrev pub AreEmpty : {A : Type 0} → ℕ → List (List A) → Type 0
AreEmpty {A} senders shares = shares ≡ replicate senders []

-- Every sender has its share.
abbrev pub AreDistributed : {A : Type 0} → (A → Option Stream) → ℕ → List KnownSource → List (List (ℕ × List ℕ × Bool × A)) → Type 0
AreDistributed {A} contents senders given shares =
    (length shares ≡ senders)
    × ((sender : ℕ) (share : List (ℕ × List ℕ × Bool × A)) → slice_get shares sender ≡ Some share → map (numbered_source contents) share ≡ share_of senders sender 0 given)

-- Ends and shares at the same indexes: each end has the number of its index, and has posted nothing so far.
pub record AreReady {A : Type 0} (contents : A → Option Stream) (senders : ℕ) (given : List KnownSource) (ends : List PostEndState) (shares : List (List (ℕ × List ℕ × Bool × A))) : Type 0 where
  pub count : length ends ≡ length shares
  pub fresh : (index : ℕ) (end : PostEndState) → slice_get ends index ≡ Some end → (end.number ≡ index) × (end.posted ≡ [])
  pub distributed : (sender : ℕ) (share : List (ℕ × List ℕ × Bool × A)) → slice_get shares sender ≡ Some share → map (numbered_source contents) share ≡ share_of senders sender 0 given
