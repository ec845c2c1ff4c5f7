-- The representation of an end: an end of the channel, and a pass whose view agrees with the end's model.
use Rattle.std.specs.Prelude.{◌≡◌, ℕ, ◌<◌, ◌↔◌, Bool, true, List, [], Some, length, slice_get}
use Rattle.crossbeam_channel.specs.declared.flavors.array.Doing.{Doing}
use Rattle.crossbeam_channel.specs.declared.flavors.array.Key.{Key}
use Rattle.crossbeam_channel.specs.declared.flavors.array.Rows.{Rows}
use Rattle.crossbeam_channel.specs.declared.flavors.array.ruled.Receiving.{Receiving}
use Rattle.crossbeam_channel.specs.declared.flavors.array.ruled.Sending.{Sending}
use Rattle.crossbeam_channel.specs.Claims.{IsSeatAt, Pass, view}
use Rattle.crossbeam_channel.specs.Ends.{receives_on, ruled_capacity, sends_on}
use Rattle.atomic_table.specs.declared.badge.Badge.{Badge}
use Rattle.redo_wire.specs.declared.item.Item.{Item}
use Rattle.redo_wire.specs.declared.rule.View.{View}
use Rattle.redo_wire.specs.declared.rule.View.TheVariants.{Idle, Posting, Starting, Taking}
use Rattle.redo_wire.specs.Mailbox.{TakeEndState, IsMet, Mailbox, Met, PostEndState}

-- ---- the parts of a view

abbrev pub capacity_in : View → ℕ
capacity_in Idle = 0
capacity_in Starting = 0
capacity_in (Posting capacity senders number put) = capacity
capacity_in (Taking capacity senders made got met) = capacity

abbrev pub senders_in : View → ℕ
senders_in Idle = 0
senders_in Starting = 0
senders_in (Posting capacity senders number put) = senders
senders_in (Taking capacity senders made got met) = senders

abbrev pub number_in : View → ℕ
number_in Idle = 0
number_in Starting = 0
number_in (Posting capacity senders number put) = number
number_in (Taking capacity senders made got met) = 0

abbrev pub items_in : View → List Item
items_in Idle = []
items_in Starting = []
items_in (Posting capacity senders number put) = put
items_in (Taking capacity senders made got met) = got

abbrev pub met_in : View → List Met
met_in Idle = []
met_in Starting = []
met_in (Posting capacity senders number put) = []
met_in (Taking capacity senders made got met) = met

-- ---- the models of the ends, made from a pass

abbrev pub mailbox_of : Pass Item View → Mailbox
mailbox_of pass = record { table = pass.table_id; key = pass.me.0.of; capacity = capacity_in (view pass); senders = senders_in (view pass) }

abbrev pub poster_of : Pass Item View → ℕ → PostEndState
poster_of pass number = record { mailbox = mailbox_of pass; number = number; posted = items_in (view pass) }

abbrev pub collector_of : Pass Item View → TakeEndState
collector_of pass = record { mailbox = mailbox_of pass; taken = items_in (view pass); met = met_in (view pass) }

-- ---- the ends

module _ {Q M L A B : Type 0} where
  -- A post end with this number.
  pub record IsPoster (sender : Sending (Rows (Badge (Key Item)) (Doing Item View) Q M (Key Item) L A) B) (pass : Pass Item View) (number : ℕ) : Type 0 where
    pub seat : IsSeatAt (sends_on sender) pass
    pub view_is : view pass ≡ Posting (ruled_capacity (sends_on sender)) (senders_in (view pass)) number (items_in (view pass))
    pub below : number < senders_in (view pass)

  -- The take end, with a flag for each number: whether its end was met.
  pub record IsCollector (receiver : Receiving (Rows (Badge (Key Item)) (Doing Item View) Q M (Key Item) L A) B) (pass : Pass Item View) (flags : List Bool) : Type 0 where
    pub seat : IsSeatAt (receives_on receiver) pass
    pub view_is : view pass ≡ Taking (capacity_in (view pass)) (senders_in (view pass)) (senders_in (view pass)) (items_in (view pass)) (met_in (view pass))
    pub count : length flags ≡ senders_in (view pass)
    pub flags_are : (number : ℕ) → number < senders_in (view pass) → (slice_get flags number ≡ Some true) ↔ IsMet number (met_in (view pass))
