-- The statements of the laws about the items that senders are expected to post, and those that they post.
use Rattle.std.specs.Prelude.{◌≡◌, ◌≢◌, ◌↔◌, ℕ, ◌*◌, ◌≤◌, List, [], ◌∷◌, ◌++◌, Option, None, Some, length, map}
use Rattle.std.specs.List.{AllByRecursion}
use Rattle.redo_line.specs.declared.entry.Entry.{Entry}
use Rattle.redo_line.specs.declared.stream_fault.StreamFault.{StreamFault}
use Rattle.redo_line.specs.declared.stream_fault.StreamFault.TheVariants.{OutOfMemory}
use Rattle.redo_device.specs.Feed.{Stream}
use Rattle.redo_line.specs.Laws.{IsPrefix}
use Rattle.redo_line.specs.Source.{Source, source_fault, source_log, source_entries_before_fault}
use Rattle.redo_wire.specs.declared.item.Item.{Item}
use Rattle.redo_wire.specs.declared.item.What.TheVariants.{Lines}
use Rattle.redo_wire.specs.Mailbox.{PostEndState}
use Rattle.redo_gather.specs.Expected.{KnownSource, IsExpected, IsExpectedFor, reported_entries}
use Rattle.redo_gather.specs.Sending.{AreExpected, AreWellSized, HasSent, IsWellSized, NumberedSource, entry_item, posted_since, singles, stream_items}

-- ---- the items expected for a stream

module _ (max_bytes : ℕ) (source : Source Stream) where
  -- Entries that are as expected are a prefix of the stream's entries.
  abbrev pub ExpectsInOrder : Type 0
  ExpectsInOrder = (entries : List Entry) (fault : Option StreamFault) → IsExpected max_bytes source entries fault → IsPrefix entries (reported_entries max_bytes source)

  -- If they are as expected without a fault, they are the stream's log.
  abbrev pub ExpectsLog : Type 0
  ExpectsLog = (entries : List Entry) → IsExpected max_bytes source entries None → source_log max_bytes source ≡ Some entries

  -- If they are as expected with a fault other than `OutOfMemory`, it is the stream's fault, and they are all entries before it.
  abbrev pub ExpectsFault : Type 0
  ExpectsFault =
      (entries : List Entry) (fault : StreamFault) → fault ≢ OutOfMemory → IsExpected max_bytes source entries (Some fault)
      → (source_fault max_bytes source ≡ Some fault) × (entries ≡ source_entries_before_fault max_bytes source)

  -- All entries of the stream, with its fault if it has one, are as expected.
  abbrev pub MayExpectAll : Type 0
  MayExpectAll = IsExpected max_bytes source (reported_entries max_bytes source) (source_fault max_bytes source)

  -- Any prefix of the stream's entries, with the fault `OutOfMemory`, is as expected.
  abbrev pub MayExpectPrefix : Type 0
  MayExpectPrefix = (prefix : List Entry) → IsPrefix prefix (reported_entries max_bytes source) → IsExpected max_bytes source prefix (Some OutOfMemory)

-- ---- the items expected for a share

module _ (max_bytes sender : ℕ) where
  -- For no streams, items are as expected exactly if there are none.
  abbrev pub ExpectsNothing : Type 0
  ExpectsNothing = (items : List Item) → AreExpected max_bytes sender [] items ↔ (items ≡ [])

  -- For one stream, its items are as expected exactly if its entries and its fault are.
  abbrev pub ExpectsOne : Type 0
  ExpectsOne =
      (stream : ℕ) (given : KnownSource) (entries : List Entry) (fault : Option StreamFault)
      → AreExpected max_bytes sender ((stream, given) ∷ []) (stream_items sender stream entries fault) ↔ IsExpectedFor max_bytes given entries fault

  -- The items are as expected for `first`, up to some item, and as expected for `others` from there on.
  abbrev pub AreConcatenated : List NumberedSource → List NumberedSource → List Item → Type 0
  AreConcatenated first others items =
      (prefix suffix : List Item) × (items ≡ prefix ++ suffix) × AreExpected max_bytes sender first prefix × AreExpected max_bytes sender others suffix

  -- For some streams followed by others, exactly such items are as expected.
  abbrev pub ExpectsConcatenation : Type 0
  ExpectsConcatenation = (first others : List NumberedSource) (items : List Item) → AreExpected max_bytes sender (first ++ others) items ↔ AreConcatenated first others items

-- ---- the posted items

-- The items of a stream, one for each entry and one for the end or the fault, are already single items.
abbrev pub AreSingles : ℕ → ℕ → List Entry → Option StreamFault → Type 0
AreSingles sender stream entries fault = singles (stream_items sender stream entries fault) ≡ stream_items sender stream entries fault

-- An item of several entries is equivalent to one item for each of them, in order.
abbrev pub StandsForEach : ℕ → ℕ → List Entry → Type 0
StandsForEach sender stream entries = singles (record { sender = sender; stream = stream; what = Lines entries } ∷ []) ≡ map (entry_item sender stream) entries

-- An item that is equivalent to a single item is that item.
abbrev pub SingleIsUnwrapped : Item → Item → Type 0
SingleIsUnwrapped item one = IsWellSized item.what → singles (item ∷ []) ≡ one ∷ [] → item ≡ one

-- An end at which a share is sent posts only items of its own sender.
abbrev pub PostsOwnItems : ℕ → List NumberedSource → PostEndState → PostEndState → Type 0
PostsOwnItems max_bytes share before after =
    HasSent max_bytes share before after → AllByRecursion (λ (item : Item). item.sender ≡ before.number) (posted_since before after)

-- There are at most as many items as entries, ends and faults, and at least a 1024th of them.
abbrev pub ItemCountIsBounded : List Item → Type 0
ItemCountIsBounded items = AreWellSized items → (length items ≤ length (singles items)) × (length (singles items) ≤ 1024 * length items)
