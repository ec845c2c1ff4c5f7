-- How the list of the items that an end posted grows.
use Rattle.std.proofs.Common.{◌≡◌, ℕ, List, [], ◌∷◌, ◌++◌, Option, None, Some, drop, drop_at, length, map, refl, sym, ap, ◌∙◌, subst}
use Rattle.std.proofs.lemmas.List.{append_assoc, append-nil, map-append}
use Rattle.redo_line.specs.declared.entry.Entry.{Entry}
use Rattle.redo_line.specs.declared.stream_fault.StreamFault.{StreamFault}
use Rattle.redo_wire.specs.declared.item.Item.{Item}
use Rattle.redo_wire.specs.Mailbox.{PostEndState, after_post}
use Rattle.redo_gather.specs.Expected.{KnownSource, IsExpectedFor}
use Rattle.redo_gather.specs.Private.Posting.{HasPosted, IsSharePosted, IsStreamPosted}
use Rattle.redo_gather.specs.Sending.{AreExpected, AreWellSized, HasSent, IsWellSized, NumberedSource, item_of, final_what, entry_item, posted_since, singles, singles_in, stream_items}

pub singles-append : (prefix suffix : List Item) → singles (prefix ++ suffix) ≡ singles prefix ++ singles suffix
singles-append [] suffix = refl
singles-append (item ∷ prefix) suffix =
    ap (λ items. singles_in item.sender item.stream item.what ++ items) (singles-append prefix suffix)
    ∙ sym (append_assoc (singles_in item.sender item.stream item.what) (singles prefix) (singles suffix))

well_sized-append : (prefix suffix : List Item) → AreWellSized prefix → AreWellSized suffix → AreWellSized (prefix ++ suffix)
well_sized-append [] suffix first second = second
well_sized-append (item ∷ prefix) suffix first second = (first.0, well_sized-append prefix suffix first.1 second)

pub nothing_posted : (end : PostEndState) → HasPosted end end []
nothing_posted end = record {
  mailbox = refl;
  number = refl;
  items = [];
  posted = sym (append-nil end.posted);
  well_sized = tt;
  singles_are = refl;
}

pub then_posted : (before between after : PostEndState) (first second : List Item) → HasPosted before between first
    → HasPosted between after second → HasPosted before after (first ++ second)
then_posted before between after first second one two = record {
  mailbox = two.mailbox ∙ one.mailbox;
  number = two.number ∙ one.number;
  items = one.items ++ two.items;
  posted = two.posted ∙ ap (λ items. items ++ two.items) one.posted ∙ append_assoc before.posted one.items two.items;
  well_sized = well_sized-append one.items two.items one.well_sized two.well_sized;
  singles_are = singles-append one.items two.items ∙ (λ i. one.singles_are i ++ two.singles_are i);
}

pub one_posted : (before after : PostEndState) (item : Item) → after ≡ after_post item before → IsWellSized item.what
    → HasPosted before after (singles_in item.sender item.stream item.what)
one_posted before after item is size = record {
  mailbox = ap (λ end. end.mailbox) is;
  number = ap (λ end. end.number) is;
  items = item ∷ [];
  posted = ap (λ end. end.posted) is;
  well_sized = (size, tt);
  singles_are = append-nil (singles_in item.sender item.stream item.what);
}

-- Further entries of one stream.
pub lines_posted : (stream : ℕ) (before between after : PostEndState) (first second : List Entry)
    → HasPosted before between (map (entry_item before.number stream) first)
    → HasPosted between after (map (entry_item between.number stream) second)
    → HasPosted before after (map (entry_item before.number stream) (first ++ second))
lines_posted stream before between after first second one two =
    subst (HasPosted before after)
    (ap (λ n. map (entry_item before.number stream) first ++ map (entry_item n stream) second) one.number
    ∙ sym (map-append (entry_item before.number stream) first second))
    (then_posted before between after _ _ one two)

-- Entries that were posted for a stream whose number is known to be the same.
pub entries_posted : (stream same : ℕ) (before between after : PostEndState) (first second : List Entry) → same ≡ stream
    → HasPosted before between (map (entry_item before.number stream) first)
    → HasPosted between after (map (entry_item between.number same) second)
    → HasPosted before after (map (entry_item before.number stream) (first ++ second))
entries_posted stream same before between after first second is one two =
    lines_posted stream before between after first second one
    (subst (λ n. HasPosted between after (map (entry_item between.number n) second)) is two)

-- The end of a stream and its fault are no items of several entries.
pub last_well_sized : (fault : Option StreamFault) → IsWellSized (final_what fault)
last_well_sized None = tt
last_well_sized (Some fault) = tt

last_single : (sender stream : ℕ) (fault : Option StreamFault)
    → singles_in sender stream (final_what fault) ≡ item_of sender stream (final_what fault) ∷ []
last_single sender stream None = refl
last_single sender stream (Some fault) = refl

-- The end of a stream, or its fault, after its entries.
pub last_posted : (stream : ℕ) (before between after : PostEndState) (entries : List Entry) (fault : Option StreamFault)
    → HasPosted before between (map (entry_item before.number stream) entries)
    → HasPosted between after (singles_in between.number stream (final_what fault))
    → HasPosted before after (stream_items before.number stream entries fault)
last_posted stream before between after entries fault one two =
    subst (HasPosted before after)
    (ap (λ n. map (entry_item before.number stream) entries ++ singles_in n stream (final_what fault)) one.number
    ∙ ap (λ items. map (entry_item before.number stream) entries ++ items) (last_single before.number stream fault))
    (then_posted before between after _ _ one two)

-- ---- one more stream

module _ (max_bytes sender : ℕ) where
  expected-more : (share : List NumberedSource) (items : List Item) (stream : NumberedSource) (entries : List Entry)
      (fault : Option StreamFault) → AreExpected max_bytes sender share items
      → IsExpectedFor max_bytes stream.1 entries fault
      → AreExpected max_bytes sender (share ++ stream ∷ []) (items ++ stream_items sender stream.0 entries fault)
  expected-more [] items stream entries fault are is = (
    entries,
    fault,
    [],
    ap (λ list. list ++ stream_items sender stream.0 entries fault) are
        ∙ sym (append-nil (stream_items sender stream.0 entries fault)),
    is,
    refl,
  )
  expected-more (first ∷ share) items stream entries fault (own, how, suffix, items_are, expected, rest) is = (
    own,
    how,
    suffix ++ stream_items sender stream.0 entries fault,
    ap (λ list. list ++ stream_items sender stream.0 entries fault) items_are
        ∙ append_assoc (stream_items sender first.0 own how) suffix (stream_items sender stream.0 entries fault),
    expected,
    expected-more share suffix stream entries fault rest is,
  )

pub none_sent : (max_bytes : ℕ) (end : PostEndState) → IsSharePosted max_bytes [] end end
none_sent max_bytes end = ([], nothing_posted end, refl)

pub one_sent : (max_bytes : ℕ) (share : List NumberedSource) (stream : ℕ) (given : KnownSource) (before between after : PostEndState)
    → IsSharePosted max_bytes share before between
    → IsStreamPosted max_bytes stream given between after → IsSharePosted max_bytes (share ++ (stream, given) ∷ []) before after
one_sent max_bytes share stream given before between after (lines, posted, expected) one = (
  lines ++ stream_items before.number stream one.entries one.fault,
  then_posted before between after lines (stream_items before.number stream one.entries one.fault) posted
      (subst (λ n. HasPosted between after (stream_items n stream one.entries one.fault)) posted.number one.posted),
  expected-more max_bytes before.number share lines (stream, given) one.entries one.fault expected one.expected,
)

-- The posted items are the items since then.
pub since_is : (before after : PostEndState) (lines : List Item) (posted : HasPosted before after lines)
    → posted_since before after ≡ posted.items
since_is before after lines posted =
    ap (drop (length before.posted)) posted.posted ∙ drop_at before.posted posted.items (length before.posted) refl

pub all_sent : (max_bytes : ℕ) (share : List NumberedSource) (before after : PostEndState) → IsSharePosted max_bytes share before after
    → HasSent max_bytes share before after
all_sent max_bytes share before after (lines, posted, expected) =
    let since = since_is before after lines posted in record {
      unchanged = (posted.mailbox, posted.number);
      posted = posted.posted ∙ ap (λ items. before.posted ++ items) (sym since);
      expected = subst (AreExpected max_bytes before.number share) (sym posted.singles_are ∙ ap singles (sym since)) expected;
      well_sized = subst AreWellSized (sym since) posted.well_sized;
    }
