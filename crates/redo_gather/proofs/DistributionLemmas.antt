-- How streams are distributed.
use Rattle.std.proofs.Common.{◌≡◌, ◌≢◌, ◌⊎◌, inl, inr, ℕ, zero, suc, ◌+◌, ◌%◌, ◌<◌, nat_eq, Bool, true, false, cond, List, [], ◌∷◌, ◌++◌, Option, Some, length, map, replicate, slice_get, slice_set, get_or, refl, sym, ap, ◌∙◌, arith}
use Rattle.std.proofs.lemmas.Bool.{eq-eqb}
use Rattle.std.proofs.lemmas.Bool.Decides.{eqb_tells}
use Rattle.std.proofs.lemmas.List.{append-nil, length-replicate, length-set, map_push}
use Rattle.redo_line.specs.Source.{source, sources}
use Rattle.redo_device.specs.Feed.{Stream}
use Rattle.redo_gather.specs.Expected.{KnownSource}
use Rattle.redo_gather.specs.Private.Distribution.{AreDistributed, AreEmpty, share_of}
use Rattle.redo_gather.specs.Sending.{NumberedSource, numbered_source}
use Rattle.redo_gather.specs.Streams.{KnownInput}

-- One more stream, which goes to one of the senders.
pub one_more : (senders sender number : ℕ) (given : List KnownSource) (one : KnownSource)
    → share_of senders sender number (given ++ one ∷ [])
    ≡ share_of senders sender number given
    ++ cond (nat_eq ((number + length given) % senders) sender) ((number + length given, one) ∷ []) []
one_more senders sender number [] one = ap (λ n. cond (nat_eq (n % senders) sender) ((n, one) ∷ []) []) (omega arith)
one_more senders sender number (first ∷ given) one =
    let number_is : suc number + length given ≡ number + suc (length given) = omega arith in
    by (nat_eq (number % senders) sender) _ _ _ (one_more senders sender (suc number) given one)
    ∙ ap (λ n. cond (nat_eq (number % senders) sender) ((number, first) ∷ share_of senders sender (suc number) given)
    (share_of senders sender (suc number) given)
    ++ cond (nat_eq (n % senders) sender) ((n, one) ∷ []) []) number_is
  where
    by : (here : Bool) (all prefix last : List NumberedSource) → all ≡ prefix ++ last
        → cond here ((number, first) ∷ all) all ≡ cond here ((number, first) ∷ prefix) prefix ++ last
    by true all prefix last is = ap (λ share. (number, first) ∷ share) is
    by false all prefix last is = is

-- The first streams of a sender, if the first number is 0.
first_more : (senders sender : ℕ) (given : List KnownSource) (one : KnownSource)
    → share_of senders sender 0 (given ++ one ∷ [])
    ≡ share_of senders sender 0 given ++ cond (nat_eq (length given % senders) sender) ((length given, one) ∷ []) []
first_more senders sender given one =
    let from_0 : 0 + length given ≡ length given = omega arith in
    one_more senders sender 0 given one
    ∙ ap (λ n. share_of senders sender 0 given ++ cond (nat_eq (n % senders) sender) ((n, one) ∷ []) []) from_0

-- ---- distributing

-- If none is left, all were distributed.
pub all_distributed : {A : Type 0} (all distributed left : List A) → all ≡ distributed ++ left → length left ≡ 0 → distributed ≡ all
all_distributed all distributed [] is none = sym (is ∙ append-nil distributed)
all_distributed all distributed (x ∷ left) is none = absurd (omega (arith, none))

pub sources-none : (targets : List (List ℕ)) (none : List KnownInput) → none ≡ [] → sources targets none ≡ []
sources-none [] none is = refl
sources-none (target ∷ targets) [] is = refl
sources-none (target ∷ targets) (stream ∷ none) is = absurd (cc)

-- One more stream, for the next target.
pub sources-push : (targets : List (List ℕ)) (streams : List KnownInput) (target : List ℕ) (stream : KnownInput)
    → slice_get targets (length streams) ≡ Some target
    → (sources targets (streams ++ stream ∷ []) ≡ sources targets streams ++ source target stream.must_close stream.stream ∷ [])
    × (length (sources targets streams) ≡ length streams)
sources-push [] streams target stream here = absurd (cc)
sources-push (first ∷ targets) [] target stream here =
    (let same : first ≡ target = cc in λ i. source (same i) stream.must_close stream.stream ∷ sources-none targets [] refl i, refl)
sources-push (first ∷ targets) (other ∷ streams) target stream here =
    let rest = sources-push targets streams target stream here in
    (ap (λ others. source first other.must_close other.stream ∷ others) rest.0, ap suc rest.1)

-- The element at an index of a list in which one element was replaced.
pub replaced : {X : Type 0} (xs : List X) (at k : ℕ) (new there : X) → slice_get (slice_set xs at new) k ≡ Some there
    → ((k ≢ at) × (slice_get xs k ≡ Some there)) ⊎ ((k ≡ at) × (there ≡ new))
replaced [] at k new there is = absurd (cc)
replaced (x ∷ xs) zero zero new there is = inr (refl, (let same : Some new ≡ Some there = is in cc))
replaced (x ∷ xs) zero (suc k) new there is = inl ((λ e. absurd (cc)), is)
replaced (x ∷ xs) (suc at) zero new there is = inl ((λ e. absurd (cc)), is)
replaced (x ∷ xs) (suc at) (suc k) new there is = elim (replaced xs at k new there is) [
  | inl elsewhere ↦ inl ((λ e. elsewhere.0 (omega (arith, e))), elsewhere.1)
  | inr here ↦ inr (ap suc here.0, here.1)
]

one_of_none : {X : Type 0} (n k : ℕ) (none there : X) → slice_get (replicate n none) k ≡ Some there → there ≡ none
one_of_none zero k none there is = absurd (cc)
one_of_none (suc n) zero none there is = let same : Some none ≡ Some there = is in cc
one_of_none (suc n) (suc k) none there is = one_of_none n k none there is

-- The element at an index that exists.
pub at_index : {X : Type 0} (xs : List X) (k : ℕ) (there : X) → k < length xs → there ≡ get_or xs k there → slice_get xs k ≡ Some there
at_index [] k there within is = absurd (omega (arith, within))
at_index (x ∷ xs) zero there within is = ap Some (sym is)
at_index (x ∷ xs) (suc k) there within is = at_index xs k there (omega (arith, within)) is

module _ {A : Type 0} (contents : A → Option Stream) (senders : ℕ) where
  pub none_distributed : (shares : List (List (ℕ × List ℕ × Bool × A))) → AreEmpty senders shares
      → AreDistributed contents senders [] shares
  none_distributed shares empty = (
    ap length empty ∙ length-replicate senders [],
    λ sender share here. ap (map (numbered_source contents))
        (one_of_none senders sender [] share (ap (λ s. slice_get s sender) (sym empty) ∙ here)),
  )

  pub one_distributed : (given : List KnownSource) (shares : List (List (ℕ × List ℕ × Bool × A))) (one : KnownSource)
      (item : ℕ × List ℕ × Bool × A) (old new : List (ℕ × List ℕ × Bool × A))
      → numbered_source contents item ≡ (length given, one) → slice_get shares (length given % senders) ≡ Some old → new ≡ old ++ item ∷ []
      → AreDistributed contents senders given shares
      → AreDistributed contents senders (given ++ one ∷ []) (slice_set shares (length given % senders) new)
  one_distributed given shares one item old new is there new_is distributed = (
    length-set shares (length given % senders) new ∙ distributed.0,
    λ sender share here. elim (replaced shares (length given % senders) sender new share here) [
      | inl elsewhere ↦
          distributed.1 sender share elsewhere.1 ∙ sym (append-nil (share_of senders sender 0 given))
          ∙ ap (λ b. share_of senders sender 0 given ++ cond b ((length given, one) ∷ []) []) (sym (apart sender elsewhere.0))
          ∙ sym (first_more senders sender given one)
      | inr here ↦
          ap (map (numbered_source contents)) (here.1 ∙ new_is) ∙ map_push (numbered_source contents) old item
          ∙ ap (λ s. s ++ numbered_source contents item ∷ []) (distributed.1 sender old (ap (slice_get shares) here.0 ∙ there))
          ∙ ap (λ n. share_of senders sender 0 given ++ n ∷ []) is
          ∙ ap (λ b. share_of senders sender 0 given ++ cond b ((length given, one) ∷ []) [])
          (sym (eq-eqb (length given % senders) sender (sym here.0)))
          ∙ sym (first_more senders sender given one)
    ],
  )
    where
      apart : (sender : ℕ) → sender ≢ length given % senders → nat_eq (length given % senders) sender ≡ false
      apart sender differ = elim (eqb_tells (length given % senders) sender) [
        | inl same ↦ absurd (differ (sym same.1))
        | inr other ↦ other.0
      ]
