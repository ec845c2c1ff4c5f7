-- How one stream is posted.
use Rattle.std.specs.Prelude.{◌≡◌, ℕ, List, ◌++◌, Option}
use Rattle.redo_line.specs.declared.entry.Entry.{Entry}
use Rattle.redo_line.specs.declared.stream_fault.StreamFault.{StreamFault}
use Rattle.redo_wire.specs.declared.item.Item.{Item}
use Rattle.redo_wire.specs.Mailbox.{PostEndState}
use Rattle.redo_gather.specs.Expected.{KnownSource, IsExpectedFor}
use Rattle.redo_gather.specs.Sending.{AreExpected, AreWellSized, NumberedSource, singles, stream_items}

-- It is the same end, and since `before` it posted these entries, ends and faults, however they were grouped into items.
pub record HasPosted (before after : PostEndState) (single_items : List Item) : Type 0 where
  pub mailbox : after.mailbox ≡ before.mailbox
  pub number : after.number ≡ before.number
  pub items : List Item
  pub posted : after.posted ≡ before.posted ++ items
  pub well_sized : AreWellSized items
  pub singles_are : singles items ≡ single_items

-- All that is expected for a stream was posted.
pub record IsStreamPosted (max_bytes stream : ℕ) (given : KnownSource) (before after : PostEndState) : Type 0 where
  pub entries : List Entry
  pub fault : Option StreamFault
  pub posted : HasPosted before after (stream_items before.number stream entries fault)
  pub expected : IsExpectedFor max_bytes given entries fault

-- All that is expected for a share was posted.
abbrev pub IsSharePosted : ℕ → List NumberedSource → PostEndState → PostEndState → Type 0
IsSharePosted max_bytes share before after = (single_items : List Item) × HasPosted before after single_items × AreExpected max_bytes before.number share single_items
