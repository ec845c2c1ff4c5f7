-- The items that a sender posts for the streams of its share.
use Rattle.std.specs.Prelude.{◌≡◌, ⊤, ℕ, ◌≤◌, Bool, List, [], ◌∷◌, ◌++◌, Option, None, Some, drop, length, map}
use Rattle.std.specs.List.{AllByRecursion}
use Rattle.redo_line.specs.declared.entry.Entry.{Entry}
use Rattle.redo_line.specs.declared.stream_fault.StreamFault.{StreamFault}
use Rattle.redo_line.specs.Source.{source}
use Rattle.redo_device.specs.Feed.{Stream}
use Rattle.redo_wire.specs.declared.item.Item.{Item}
use Rattle.redo_wire.specs.declared.item.What.{What}
use Rattle.redo_wire.specs.declared.item.What.TheVariants.{End, Fail, Line, Lines}
use Rattle.redo_wire.specs.Mailbox.{PostEndState}
use Rattle.redo_gather.specs.Expected.{KnownSource, IsExpectedFor}

-- ---- items of single entries

abbrev pub item_of : ℕ → ℕ → What → Item
item_of sender stream what = record { sender = sender; stream = stream; what = what }

abbrev pub entry_item : ℕ → ℕ → Entry → Item
entry_item sender stream entry = item_of sender stream (Line entry)

abbrev pub singles_in : ℕ → ℕ → What → List Item
singles_in sender stream (Line entry) = entry_item sender stream entry ∷ []
singles_in sender stream (Lines entries) = map (entry_item sender stream) entries
singles_in sender stream End = item_of sender stream End ∷ []
singles_in sender stream (Fail fault) = item_of sender stream (Fail fault) ∷ []

-- The items, with one item for each entry instead of items of several entries, in order.
abbrev pub singles : List Item → List Item
singles [] = []
singles (item ∷ items) = singles_in item.sender item.stream item.what ++ singles items

-- ---- the expected items

abbrev pub final_what : Option StreamFault → What
final_what None = End
final_what (Some fault) = Fail fault

-- An item for each entry, and then one for the end or the fault.
abbrev pub stream_items : ℕ → ℕ → List Entry → Option StreamFault → List Item
stream_items sender stream entries fault = map (entry_item sender stream) entries ++ item_of sender stream (final_what fault) ∷ []

-- A stream's number, with its target, its must-close flag and the known stream of its reader.
abbrev pub NumberedSource : Type 0
NumberedSource = ℕ × KnownSource

-- The known source of a stream of a share. `item` has its number, its target, its must-close flag and its reader.
abbrev pub numbered_source : {A : Type 0} → (A → Option Stream) → ℕ × List ℕ × Bool × A → NumberedSource
numbered_source contents item = (item.0, source item.1 item.2 (contents item.3))

-- The items are as expected for the streams of a share, one stream after another.
abbrev pub AreExpected : ℕ → ℕ → List NumberedSource → List Item → Type 0
AreExpected max_bytes sender [] items = items ≡ []
AreExpected max_bytes sender (stream ∷ share) items =
    (entries : List Entry) × (fault : Option StreamFault) × (suffix : List Item)
    × (items ≡ stream_items sender stream.0 entries fault ++ suffix) × IsExpectedFor max_bytes stream.1 entries fault × AreExpected max_bytes sender share suffix

-- ---- the items of an end

-- An item of several entries has at least two of them, and at most this many.
abbrev pub max_entries : ℕ
max_entries = 1024

abbrev pub IsWellSized : What → Type 0
IsWellSized (Line entry) = ⊤
IsWellSized (Lines entries) = (2 ≤ length entries) × (length entries ≤ max_entries)
IsWellSized End = ⊤
IsWellSized (Fail fault) = ⊤

abbrev pub AreWellSized : List Item → Type 0
AreWellSized items = AllByRecursion (λ (item : Item). IsWellSized item.what) items

-- The items that an end posted since it was `before`.
abbrev pub posted_since : PostEndState → PostEndState → List Item
posted_since before after = drop (length before.posted) after.posted

-- It is the same end, and since `before` it posted what is expected for a share, however the entries were grouped into items.
pub record HasSent (max_bytes : ℕ) (share : List NumberedSource) (before after : PostEndState) : Type 0 where
  pub unchanged : (after.mailbox ≡ before.mailbox) × (after.number ≡ before.number)
  pub posted : after.posted ≡ before.posted ++ posted_since before after
  pub expected : AreExpected max_bytes before.number share (singles (posted_since before after))
  pub well_sized : AreWellSized (posted_since before after)
