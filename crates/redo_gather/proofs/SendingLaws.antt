-- The laws of how entries, ends and faults are grouped into items.
use Rattle.std.proofs.Common.{◌≡◌, ℕ, ◌*◌, ◌≤◌, List, [], ◌∷◌, ◌++◌, Option, None, Some, length, map, refl, sym, ap, subst, arith}
use Rattle.std.specs.List.{AllByRecursion}
use Rattle.std.proofs.lemmas.List.{append-nil, length-append, length-map}
use Rattle.redo_line.specs.declared.entry.Entry.{Entry}
use Rattle.redo_line.specs.declared.stream_fault.StreamFault.{StreamFault}
use Rattle.redo_wire.specs.declared.item.Item.{Item}
use Rattle.redo_wire.specs.declared.item.What.{What}
use Rattle.redo_wire.specs.declared.item.What.TheVariants.{End, Fail, Line, Lines}
use Rattle.redo_wire.specs.Mailbox.{PostEndState}
use Rattle.redo_gather.specs.Laws.{AreSingles, SingleIsUnwrapped, ItemCountIsBounded, PostsOwnItems, StandsForEach}
use Rattle.redo_gather.specs.Sending.{AreExpected, AreWellSized, IsWellSized, NumberedSource, item_of, entry_item, posted_since, singles, singles_in, stream_items}

pub are_singles : (sender stream : ℕ) (entries : List Entry) (fault : Option StreamFault) → AreSingles sender stream entries fault
are_singles sender stream [] None = refl
are_singles sender stream [] (Some fault) = refl
are_singles sender stream (entry ∷ entries) fault =
    ap (λ items. entry_item sender stream entry ∷ items) (are_singles sender stream entries fault)

pub stands_for_each : (sender stream : ℕ) (entries : List Entry) → StandsForEach sender stream entries
stands_for_each sender stream entries = append-nil (map (entry_item sender stream) entries)

pub never_alone : (item one : Item) → SingleIsUnwrapped item one
never_alone item one = by item.sender item.stream item.what one
  where
    by : (sender stream : ℕ) (what : What) (one : Item) → SingleIsUnwrapped (item_of sender stream what) one
    by sender stream (Line entry) one filled is = cc
    by sender stream (Lines []) one filled is = absurd (omega (arith, filled.0))
    by sender stream (Lines (entry ∷ [])) one filled is = absurd (omega (arith, filled.0))
    by sender stream (Lines (entry ∷ next ∷ entries)) one filled is = absurd (cc)
    by sender stream End one filled is = cc
    by sender stream (Fail fault) one filled is = cc

-- ---- senders

abbrev AreOf : ℕ → List Item → Type 0
AreOf sender items = AllByRecursion (λ (item : Item). item.sender ≡ sender) items

prefix_of : (sender : ℕ) (prefix suffix : List Item) → AreOf sender (prefix ++ suffix) → AreOf sender prefix
prefix_of sender [] suffix all = tt
prefix_of sender (item ∷ prefix) suffix all = (all.0, prefix_of sender prefix suffix all.1)

suffix_of : (sender : ℕ) (prefix suffix : List Item) → AreOf sender (prefix ++ suffix) → AreOf sender suffix
suffix_of sender [] suffix all = all
suffix_of sender (item ∷ prefix) suffix all = suffix_of sender prefix suffix all.1

both_of : (sender : ℕ) (prefix suffix : List Item) → AreOf sender prefix → AreOf sender suffix → AreOf sender (prefix ++ suffix)
both_of sender [] suffix first second = second
both_of sender (item ∷ prefix) suffix first second = (first.0, both_of sender prefix suffix first.1 second)

known_own : (sender stream : ℕ) (entries : List Entry) (fault : Option StreamFault)
    → AreOf sender (stream_items sender stream entries fault)
known_own sender stream [] fault = (refl, tt)
known_own sender stream (entry ∷ entries) fault = (refl, known_own sender stream entries fault)

expected_own : (max_bytes sender : ℕ) (share : List NumberedSource) (items : List Item) → AreExpected max_bytes sender share items
    → AreOf sender items
expected_own max_bytes sender [] items none = subst (AreOf sender) (sym none) tt
expected_own max_bytes sender (stream ∷ share) items (entries, fault, suffix, is, expected, more) =
    subst (AreOf sender) (sym is) (both_of sender (stream_items sender stream.0 entries fault) suffix
    (known_own sender stream.0 entries fault) (expected_own max_bytes sender share suffix more))

own_item : (own sender stream : ℕ) (what : What) → IsWellSized what → AreOf own (singles_in sender stream what) → sender ≡ own
own_item own sender stream (Line entry) filled all = all.0
own_item own sender stream (Lines []) filled all = absurd (omega (arith, filled.0))
own_item own sender stream (Lines (entry ∷ entries)) filled all = all.0
own_item own sender stream End filled all = all.0
own_item own sender stream (Fail fault) filled all = all.0

own_items : (own : ℕ) (items : List Item) → AreWellSized items → AreOf own (singles items) → AreOf own items
own_items own [] filled all = tt
own_items own (item ∷ items) filled all =
    let first = singles_in item.sender item.stream item.what in (
      own_item own item.sender item.stream item.what filled.0 (prefix_of own first (singles items) all),
      own_items own items filled.1 (suffix_of own first (singles items) all),
    )

pub posts_its_own : (max_bytes : ℕ) (share : List NumberedSource) (before after : PostEndState) → PostsOwnItems max_bytes share before after
posts_its_own max_bytes share before after sent =
    let items = posted_since before after in
    own_items before.number items sent.well_sized (expected_own max_bytes before.number share (singles items) sent.expected)

-- ---- counts

count_in : (sender stream : ℕ) (what : What) → IsWellSized what
    → (1 ≤ length (singles_in sender stream what)) × (length (singles_in sender stream what) ≤ 1024)
count_in sender stream (Line entry) filled = (omega arith, omega arith)
count_in sender stream (Lines entries) filled =
    let count = length-map entries (entry_item sender stream) in
    (omega (arith, count, filled.0), omega (arith, count, filled.1))
count_in sender stream End filled = (omega arith, omega arith)
count_in sender stream (Fail fault) filled = (omega arith, omega arith)

counts : (items : List Item) → AreWellSized items → (length items ≤ length (singles items)) × (length (singles items) ≤ 1024 * length items)
counts [] filled = (omega arith, omega arith)
counts (item ∷ items) filled =
    let one = count_in item.sender item.stream item.what filled.0 in
    let others = counts items filled.1 in
    let all = length-append (singles_in item.sender item.stream item.what) (singles items) in
    (omega (arith, one.0, others.0, all), omega (arith, one.1, others.1, all))

pub posts_few : (items : List Item) → ItemCountIsBounded items
posts_few items filled = counts items filled
