-- Examples of expected and posted items, computed.
use Rattle.std.proofs.Common.{◌≡◌, inl, inr, ℕ, true, false, List, [], ◌∷◌, ◌++◌, Option, None, Some, pos, map, replicate, refl, ap, arith}
use Rattle.std.specs.Prelude.{codes}
use Rattle.redo_line.specs.declared.entry.Entry.{Entry}
use Rattle.redo_line.specs.declared.entry.Entry.TheVariants.{Closing, Text}
use Rattle.redo_line.specs.declared.stream_fault.StreamFault.TheVariants.{TooLong}
use Rattle.redo_line.specs.Decimal.{number}
use Rattle.redo_line.specs.Entry.{record_entry, entry_of}
use Rattle.redo_device.specs.Feed.{Stream}
use Rattle.redo_line.specs.Lines.{line_feed, split_lines, ended, rest}
use Rattle.redo_line.specs.Log.{stream_of, first_fault}
use Rattle.redo_line.specs.Parts.{split_once, after_prefix}
use Rattle.redo_line.specs.Record.{fields_of, status_of}
use Rattle.redo_line.specs.Source.{source}
use Rattle.redo_name.specs.Names.{reduce_suffix, normal}
use Rattle.redo_wire.specs.declared.item.Item.{Item}
use Rattle.redo_wire.specs.declared.item.What.{What}
use Rattle.redo_wire.specs.declared.item.What.TheVariants.{End, Fail, Line, Lines}
use Rattle.redo_wire.specs.Mailbox.{Mailbox, PostEndState}
use Rattle.redo_gather.specs.Expected.{IsExpectedFor, reported_entries}
use Rattle.redo_gather.specs.Sending.{HasSent, IsWellSized, NumberedSource, numbered_source, singles, stream_items}

abbrev a : Entry
a = Text (codes "a")

abbrev b : Entry
b = Closing 7 (pos 0)

-- An item of the sender 3 and the stream 5.
abbrev item : What → Item
item what = record { sender = 3; stream = 5; what = what }

items_of_log : stream_items 3 5 (a ∷ b ∷ []) None ≡ item (Line a) ∷ item (Line b) ∷ item End ∷ []
items_of_log = refl

items_at_fault : stream_items 3 5 (a ∷ []) (Some TooLong) ≡ item (Line a) ∷ item (Fail TooLong) ∷ []
items_at_fault = refl

items_of_empty_log : stream_items 3 5 [] None ≡ item End ∷ []
items_of_empty_log = refl

in_singles : singles (item (Lines (a ∷ b ∷ [])) ∷ item (Line a) ∷ item (Fail TooLong) ∷ item End ∷ [])
    ≡ item (Line a) ∷ item (Line b) ∷ item (Line a) ∷ item (Fail TooLong) ∷ item End ∷ []
in_singles = refl

abbrev stream : Stream
stream = stream_of (codes "x" ++ line_feed ∷ codes "y") false

of_an_item : numbered_source (λ (known : Option Stream). known) (5, codes "d", true, Some stream)
    ≡ (5, source (codes "d") true (Some stream))
of_an_item = refl

-- The unended line is an entry of the log, but not an entry before a fault.
whole_entries : reported_entries 10 (source (codes "d") false stream) ≡ Text (codes "x") ∷ Text (codes "y") ∷ []
unfolding split_lines ended rest first_fault entry_of record_entry fields_of status_of split_once after_prefix number normal reduce_suffix
whole_entries = refl

entries_before_a_fault : reported_entries 2 (source (codes "d") false stream) ≡ Text (codes "x") ∷ []
unfolding split_lines ended rest first_fault entry_of record_entry fields_of status_of split_once after_prefix number normal reduce_suffix
entries_before_a_fault = refl

-- If a reader's stream is known, its entries are as expected; if the reader is opaque, the entries of some stream are.
expected_for_known : IsExpectedFor 10 (source (codes "d") false (Some stream)) (Text (codes "x") ∷ Text (codes "y") ∷ []) None
unfolding split_lines ended rest first_fault entry_of record_entry fields_of status_of split_once after_prefix number normal reduce_suffix
expected_for_known = inl (refl, refl)

expected_for_opaque : IsExpectedFor 10 (source (codes "d") false None) (Text (codes "x") ∷ Text (codes "y") ∷ []) None
unfolding split_lines ended rest first_fault entry_of record_entry fields_of status_of split_once after_prefix number normal reduce_suffix
expected_for_opaque = (stream, inl (refl, refl))

not_expected_for_known : IsExpectedFor 10 (source (codes "d") false (Some stream)) [] None → ⊥
unfolding split_lines ended rest first_fault entry_of record_entry fields_of status_of split_once after_prefix number normal reduce_suffix
not_expected_for_known (inl whole) = let same = whole.0 in cc
not_expected_for_known (inr short) = let same = short.1 in cc

-- A stream that must be closed, and isn't, has a fault.
not_expected_open : IsExpectedFor 10 (source (codes "d") true (Some stream)) (Text (codes "x") ∷ Text (codes "y") ∷ []) None → ⊥
unfolding split_lines ended rest first_fault entry_of record_entry fields_of status_of split_once after_prefix number normal reduce_suffix
not_expected_open (inl whole) = let same = whole.1 in cc
not_expected_open (inr short) = let same = short.1 in cc

are_filled : IsWellSized (Line a) × IsWellSized (Lines (a ∷ b ∷ [])) × IsWellSized (Lines (replicate 1024 a)) × IsWellSized End
    × IsWellSized (Fail TooLong)
are_filled = (tt, (omega arith, omega arith), (omega arith, omega arith), tt, tt)

-- A post end of a mailbox of this capacity.
abbrev end : ℕ → ℕ → List Item → PostEndState
end capacity number posted =
    record {
      mailbox = record {
        table = record { words = 0; slots = 0; views_name = 0; atom = 0; block = 0; offset = 0; slot_names = [] };
        key = record {
          marker = record {};
          table_id = record { words = 0; slots = 0; views_name = 0; atom = 0; block = 0; offset = 0; slot_names = [] };
          id = 0;
          views = [];
        };
        capacity = capacity;
        senders = 4;
      };
      number = number;
      posted = posted;
    }

-- A share of one stream, without bytes.
abbrev empty : List NumberedSource
empty = (5, source (codes "d") false (Some (stream_of [] false))) ∷ []

-- The items that an end posted before stay, and aren't part of those that it sent.
has_sent : HasSent 10 ((5, source (codes "d") false (Some stream)) ∷ []) (end 1 3 (item (Line a) ∷ []))
    (end 1 3 (item (Line a) ∷ item (Lines (Text (codes "x") ∷ Text (codes "y") ∷ [])) ∷ item End ∷ []))
unfolding split_lines ended rest first_fault entry_of record_entry fields_of status_of split_once after_prefix number normal reduce_suffix
has_sent = record {
  unchanged = (refl, refl);
  posted = refl;
  expected = (Text (codes "x") ∷ Text (codes "y") ∷ [], None, [], refl, inl (refl, refl), refl);
  well_sized = ((omega arith, omega arith), (tt, tt));
}

first_sent : HasSent 10 empty (end 1 3 []) (end 1 3 (item End ∷ []))
unfolding split_lines ended rest first_fault entry_of record_entry fields_of status_of split_once after_prefix number normal reduce_suffix
first_sent = record {
  unchanged = (refl, refl);
  posted = refl;
  expected = ([], None, [], refl, inl (refl, refl), refl);
  well_sized = (tt, tt);
}

nothing_sent : HasSent 10 [] (end 1 3 (item (Line a) ∷ [])) (end 1 3 (item (Line a) ∷ []))
nothing_sent = record { unchanged = (refl, refl); posted = refl; expected = refl; well_sized = tt }

not_sent_elsewhere : HasSent 10 [] (end 1 3 []) (end 2 3 []) → ⊥
not_sent_elsewhere has = omega (arith, ap (λ (mailbox : Mailbox). mailbox.capacity) has.unchanged.0)

not_sent_by_another : HasSent 10 [] (end 1 3 []) (end 1 2 []) → ⊥
not_sent_by_another has = let number = has.unchanged.1 in omega (arith, number)

not_sent_more : HasSent 10 [] (end 1 3 []) (end 1 3 (item End ∷ [])) → ⊥
not_sent_more has = let same : item End ∷ [] ≡ [] = has.expected in cc

abbrev whats : List Item → List What
whats items = map (λ (item : Item). item.what) items

-- An item in the index of one that was posted before.
not_sent_in_its_place : HasSent 10 [] (end 1 3 (item (Line a) ∷ [])) (end 1 3 (item End ∷ [])) → ⊥
not_sent_in_its_place has = let same : End ∷ [] ≡ Line a ∷ [] = ap whats has.posted in cc

-- An item without an entry, before or after another item.
not_sent_unfilled :
    (HasSent 10 empty (end 1 3 []) (end 1 3 (item (Lines []) ∷ item End ∷ [])) → ⊥)
    × (HasSent 10 empty (end 1 3 []) (end 1 3 (item End ∷ item (Lines []) ∷ [])) → ⊥)
unfolding split_lines ended rest first_fault entry_of record_entry fields_of status_of split_once after_prefix number normal reduce_suffix
not_sent_unfilled = ((λ has. omega (arith, has.well_sized.0.0)), (λ has. omega (arith, has.well_sized.1.0.0)))
