-- The items taken of each stream, after all that is expected for the shares was taken.
use Rattle.std.proofs.Common.{◌≡◌, inl, inr, ℕ, zero, suc, ◌+◌, ◌%◌, ◌<◌, nat_eq, Bool, true, false, cond, List, [], ◌∷◌, ◌++◌, Option, Some, map, slice_get, refl, sym, ap, ◌∙◌, subst, arith}
use Rattle.std.specs.List.{AllByRecursion}
use Rattle.std.proofs.lemmas.Bool.{eq-eqb}
use Rattle.std.proofs.lemmas.Bool.Decides.{eqb_tells}
use Rattle.std.proofs.lemmas.List.{append-nil}
use Rattle.std.proofs.lemmas.Option.{none-some}
use Rattle.redo_line.specs.declared.entry.Entry.{Entry}
use Rattle.redo_line.specs.declared.stream_fault.StreamFault.{StreamFault}
use Rattle.redo_wire.specs.declared.item.Item.{Item}
use Rattle.redo_wire.specs.declared.item.What.{What}
use Rattle.redo_wire.specs.declared.item.What.TheVariants.{Line}
use Rattle.redo_wire.specs.Machine.{items_of}
use Rattle.redo_gather.specs.Expected.{KnownSource, IsExpectedFor}
use Rattle.redo_gather.specs.Private.Distribution.{share_of}
use Rattle.redo_gather.specs.Sending.{AreExpected, item_of, final_what, entry_item, stream_items}
use Rattle.redo_gather.proofs.InterleavingLemmas.{on, on-append, on-other, items_elsewhere, items_here}

-- These are entries and an end or a fault as expected for a stream.
abbrev pub IsExpectedSequence : ℕ → KnownSource → List What → Type 0
IsExpectedSequence max_bytes given whats = (entries : List Entry) × (fault : Option StreamFault)
    × (whats ≡ map Line entries ++ final_what fault ∷ []) × IsExpectedFor max_bytes given entries fault

all-append : {X : Type 0} (P : X → Type 0) (prefix suffix : List X) → AllByRecursion P prefix → AllByRecursion P suffix
    → AllByRecursion P (prefix ++ suffix)
all-append P [] suffix one two = two
all-append P (item ∷ prefix) suffix one two = (one.0, all-append P prefix suffix one.1 two)

module _ (max_bytes senders : ℕ) where
  -- The items of a share of the streams from `from` on have none of an earlier stream.
  none_before : (sender from stream : ℕ) (given : List KnownSource) (items : List Item) → stream < from
      → AreExpected max_bytes sender (share_of senders sender from given) items → on stream items ≡ []
  none_before sender from stream [] items before are = ap (on stream) are
  none_before sender from stream (one ∷ given) items before are =
      by (λ items are. none_before sender (suc from) stream given items (omega (arith, before)) are) (nat_eq (from % senders) sender) are
    where
      by : ((items : List Item) → AreExpected max_bytes sender (share_of senders sender (suc from) given) items → on stream items ≡ [])
          → (own : Bool) → AreExpected max_bytes sender
          (cond own ((from, one) ∷ share_of senders sender (suc from) given) (share_of senders sender (suc from) given)) items
          → on stream items ≡ []
      by others true (entries, fault, suffix, is, expected, rest) =
          ap (on stream) is ∙ on-append stream (stream_items sender from entries fault) suffix
          ∙ (λ i. items_elsewhere sender from stream entries fault (λ same. omega (arith, same, before)) i ++ others suffix rest i)
      by others false are = others items are

  -- The items of the stream at index `index` of a list, whose number is `from + index`.
  pub sequence_at : (sender from index : ℕ) (given : List KnownSource) (one : KnownSource) (items : List Item)
      → slice_get given index ≡ Some one → (from + index) % senders ≡ sender
      → AreExpected max_bytes sender (share_of senders sender from given) items → IsExpectedSequence max_bytes one (on (from + index) items)
  sequence_at sender from index [] one items there own are = absurd (none-some one there)
  sequence_at sender from zero (first ∷ given) one items there own are = by (nat_eq (from % senders) sender) refl are
    where
      here : from + 0 ≡ from
      here = omega arith

      same : Some first ≡ Some one → first ≡ one
      same is = cc

      mine : nat_eq (from % senders) sender ≡ true
      mine = eq-eqb (from % senders) sender (ap (λ n. n % senders) (sym here) ∙ own)

      by : (test : Bool) → nat_eq (from % senders) sender ≡ test
          → AreExpected max_bytes sender (cond test ((from, first) ∷ share_of senders sender (suc from) given)
          (share_of senders sender (suc from) given)) items → IsExpectedSequence max_bytes one (on (from + 0) items)
      by true is (entries, fault, suffix, items_are, expected, rest) = (
        entries,
        fault,
        ap (λ n. on n items) here ∙ ap (on from) items_are ∙ on-append from (stream_items sender from entries fault) suffix
            ∙ (λ i. items_here sender from entries fault i ++ none_before sender (suc from) from given suffix (omega arith) rest i)
            ∙ append-nil (map Line entries ++ final_what fault ∷ []),
        subst (λ g. IsExpectedFor max_bytes g entries fault) (same there) expected,
      )
      by false is are = absurd (let no : true ≡ false = sym mine ∙ is in cc)
  sequence_at sender from (suc index) (first ∷ given) one items there own are =
      by (λ items are. sequence_at sender (suc from) index given one items there (ap (λ n. n % senders) (sym further) ∙ own) are)
      (nat_eq (from % senders) sender) are
    where
      further : from + suc index ≡ suc from + index
      further = omega arith

      by : ((items : List Item) → AreExpected max_bytes sender (share_of senders sender (suc from) given) items
          → IsExpectedSequence max_bytes one (on (suc from + index) items))
          → (test : Bool) → AreExpected max_bytes sender
          (cond test ((from, first) ∷ share_of senders sender (suc from) given) (share_of senders sender (suc from) given)) items
          → IsExpectedSequence max_bytes one (on (from + suc index) items)
      by others true (entries, fault, suffix, items_are, expected, rest) =
          subst (IsExpectedSequence max_bytes one)
          (sym (ap (λ n. on n items) further ∙ ap (on (suc from + index)) items_are
          ∙ on-append (suc from + index) (stream_items sender from entries fault) suffix
          ∙ (λ i. items_elsewhere sender from (suc from + index) entries fault (λ same. omega (arith, same)) i
          ++ on (suc from + index) suffix)))
          (others suffix rest)
      by others false are = subst (λ n. IsExpectedSequence max_bytes one (on n items)) (sym further) (others items are)

  -- ---- whose items these are

  abbrev IsOwn : ℕ → Item → Type 0
  IsOwn sender item = item.stream % senders ≡ sender

  lines_own : (sender stream : ℕ) (entries : List Entry) → stream % senders ≡ sender
      → AllByRecursion (IsOwn sender) (map (entry_item sender stream) entries)
  lines_own sender stream [] own = tt
  lines_own sender stream (entry ∷ entries) own = (own, lines_own sender stream entries own)

  are_own : (sender from : ℕ) (given : List KnownSource) (items : List Item)
      → AreExpected max_bytes sender (share_of senders sender from given) items → AllByRecursion (IsOwn sender) items
  are_own sender from [] items are = subst (AllByRecursion (IsOwn sender)) (sym are) tt
  are_own sender from (one ∷ given) items are = by (are_own sender (suc from) given) (nat_eq (from % senders) sender) refl are
    where
      own_if : nat_eq (from % senders) sender ≡ true → from % senders ≡ sender
      own_if is = elim (eqb_tells (from % senders) sender) [
        | inl same ↦ same.1
        | inr apart ↦ absurd (let no : true ≡ false = sym is ∙ apart.0 in cc)
      ]

      by : ((items : List Item) → AreExpected max_bytes sender (share_of senders sender (suc from) given) items
          → AllByRecursion (IsOwn sender) items)
          → (test : Bool) → nat_eq (from % senders) sender ≡ test
          → AreExpected max_bytes sender (cond test ((from, one) ∷ share_of senders sender (suc from) given)
          (share_of senders sender (suc from) given)) items → AllByRecursion (IsOwn sender) items
      by others true is (entries, fault, suffix, items_are, expected, rest) =
          subst (AllByRecursion (IsOwn sender)) (sym items_are)
          (all-append (IsOwn sender) (stream_items sender from entries fault) suffix
          (all-append (IsOwn sender) (map (entry_item sender from) entries) (item_of sender from (final_what fault) ∷ [])
          (lines_own sender from entries (own_if is)) (own_if is, tt)) (others suffix rest))
      by others false is are = others items are

  abbrev IsDistributed : Item → Type 0
  IsDistributed item = item.stream % senders ≡ item.sender

  -- If each sender posted items of its own streams only, each item is of the sender to which its stream was distributed.
  all_distributed : (items : List Item) → AllByRecursion (λ (item : Item). item.sender < senders) items
      → ((sender : ℕ) → sender < senders → AllByRecursion (IsOwn sender) (items_of sender items)) → AllByRecursion IsDistributed items
  all_distributed [] below each = tt
  all_distributed (item ∷ items) below each =
      (first, all_distributed items below.1 (λ sender is. suffix (nat_eq item.sender sender) sender (each sender is)))
    where
      first : IsDistributed item
      first = by (nat_eq item.sender item.sender) (eq-eqb item.sender item.sender refl) (each item.sender below.0)
        where
          by : (own : Bool) → own ≡ true → AllByRecursion (IsOwn item.sender)
              (cond own (item ∷ items_of item.sender items) (items_of item.sender items)) → IsDistributed item
          by true is all = all.0
          by false is all = absurd (cc)

      suffix : (own : Bool) (sender : ℕ) → AllByRecursion (IsOwn sender) (cond own (item ∷ items_of sender items) (items_of sender items))
          → AllByRecursion (IsOwn sender) (items_of sender items)
      suffix true sender all = all.1
      suffix false sender all = all

  -- All items of a stream are of its sender.
  on_sender : (items : List Item) (stream : ℕ) → AllByRecursion IsDistributed items
      → on stream items ≡ on stream (items_of (stream % senders) items)
  on_sender [] stream distributed = refl
  on_sender (item ∷ items) stream distributed = elim (eqb_tells item.sender (stream % senders)) [
    | inl same ↦ by (on_sender items stream distributed.1) (nat_eq item.stream stream)
        ∙ ap (on stream) (sym (ap (λ b. cond b (item ∷ items_of (stream % senders) items) (items_of (stream % senders) items))
        (eq-eqb item.sender (stream % senders) same.1)))
    | inr apart ↦
        on-other stream item items (λ is. apart.1 (sym distributed.0 ∙ ap (λ n. n % senders) is)) ∙ on_sender items stream distributed.1
        ∙ ap (on stream) (sym (ap (λ b. cond b (item ∷ items_of (stream % senders) items) (items_of (stream % senders) items)) apart.0))
  ]
    where
      by : on stream items ≡ on stream (items_of (stream % senders) items)
          → (own : Bool) → cond own (item.what ∷ on stream items) (on stream items)
          ≡ cond own (item.what ∷ on stream (items_of (stream % senders) items)) (on stream (items_of (stream % senders) items))
      by suffix true = ap (λ whats. item.what ∷ whats) suffix
      by suffix false = suffix

  -- ---- all streams

  pub sequence_of_each : (given : List KnownSource) (items : List Item) → 0 < senders
      → AllByRecursion (λ (item : Item). item.sender < senders) items
      → ((sender : ℕ) → sender < senders → AreExpected max_bytes sender (share_of senders sender 0 given) (items_of sender items))
      → (index : ℕ) (one : KnownSource) → slice_get given index ≡ Some one → IsExpectedSequence max_bytes one (on index items)
  sequence_of_each given items some below each index one there =
      let own = sequence_at (index % senders) 0 index given one (items_of (index % senders) items) there (ap (λ n. n % senders) here)
      (each (index % senders) (omega (arith, some))) in
      subst (IsExpectedSequence max_bytes one)
      (ap (λ n. on n (items_of (index % senders) items)) here
      ∙ sym (on_sender items index (all_distributed items below
      (λ sender is. are_own sender 0 given (items_of sender items) (each sender is)))))
      own
    where
      here : 0 + index ≡ index
      here = omega arith
