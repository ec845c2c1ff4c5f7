-- The logs of a table in which all that is expected of the senders was stored.
use Rattle.std.proofs.Common.{◌≡◌, ◌≢◌, inl, inr, ℕ, zero, suc, ◌<◌, nat_eq, Bool, true, false, cond, List, [], ◌∷◌, ◌++◌, Some, length, map, slice_get, refl, sym, ap, ◌∙◌, subst, arith}
use Rattle.std.specs.Option.{option_map}
use Rattle.std.specs.List.{AllByRecursion}
use Rattle.std.proofs.lemmas.List.{append_assoc, append-nil, length-map}
use Rattle.std.proofs.lemmas.Option.{none-some, slice_get-map}
use Rattle.redo_line.specs.declared.entry.Entry.{Entry}
use Rattle.redo_line.specs.declared.stream_fault.StreamFault.TheVariants.{OutOfMemory}
use Rattle.redo_line.specs.Source.{source, sources, with_stream}
use Rattle.redo_device.proofs.GaveLemmas.{weaker}
use Rattle.redo_logs.specs.declared.log_state.LogState.{LogState}
use Rattle.redo_logs.specs.declared.log_state.LogState.TheVariants.{Ended, Failed, Running}
use Rattle.redo_logs.specs.Logs.{Log, update_log, new_log, with_entries}
use Rattle.redo_wire.specs.declared.item.Item.{Item}
use Rattle.redo_wire.specs.declared.item.What.{What}
use Rattle.redo_wire.specs.declared.item.What.TheVariants.{End, Fail, Line, Lines}
use Rattle.redo_wire.specs.Machine.{items_of}
use Rattle.redo_wire.specs.Mailbox.{IsMet, Met}
use Rattle.redo_gather.specs.declared.collector.LogCollector.{LogCollector}
use Rattle.redo_gather.specs.Expected.{KnownSource, IsComplete}
use Rattle.redo_gather.specs.Private.Collecting.{AllTaken, StoresAllTaken, IsNotOutOfMemory, NoneOutOfMemory, PostedExpected, changed_by, step, stored}
use Rattle.redo_gather.specs.Private.Distribution.{share_of}
use Rattle.redo_gather.specs.Private.Storing.{state_after}
use Rattle.redo_gather.specs.Sending.{AreExpected, item_of, entry_item, singles, singles_in}
use Rattle.redo_gather.specs.Streams.{KnownInput}
use Rattle.redo_gather.proofs.InterleavingLemmas.{interleaved, length-stored, none-on, none_in_known, on, ran_known, run, stored-append}
use Rattle.redo_gather.proofs.ExpectedLemmas.{is_whole}
use Rattle.redo_gather.proofs.PostedLemmas.{singles-append}
use Rattle.redo_gather.proofs.SettledLemmas.{AreSettled, IsSettled, log_after}
use Rattle.redo_gather.proofs.SharesLemmas.{sequence_of_each}

-- ---- one more item

abbrev with_lines : LogState → List Entry → Log → Log
with_lines Running entries log = with_entries entries log
with_lines Ended entries log = log
with_lines (Failed fault) entries log = log

update_log-same : (number : ℕ) (change other : Log → Log) → ((log : Log) → change log ≡ other log) → (table : List Log)
    → update_log number change table ≡ update_log number other table
update_log-same number change other same [] = refl
update_log-same zero change other same (log ∷ table) = ap (λ l. l ∷ table) (same log)
update_log-same (suc number) change other same (log ∷ table) = ap (λ logs. log ∷ logs) (update_log-same number change other same table)

update_log-twice : (number : ℕ) (first second : Log → Log) (table : List Log)
    → update_log number second (update_log number first table) ≡ update_log number (λ log. second (first log)) table
update_log-twice number first second [] = refl
update_log-twice zero first second (log ∷ table) = refl
update_log-twice (suc number) first second (log ∷ table) = ap (λ logs. log ∷ logs) (update_log-twice number first second table)

unchanged : (number : ℕ) (table : List Log) → update_log number (λ log. log) table ≡ table
unchanged number [] = refl
unchanged zero (log ∷ table) = refl
unchanged (suc number) (log ∷ table) = ap (λ logs. log ∷ logs) (unchanged number table)

no_line : (target : List ℕ) (entries : List Entry) (state : LogState)
    → with_lines state [] (record { target = target; entries = entries; state = state })
    ≡ record { target = target; entries = entries; state = state }
no_line target entries Running = ap (λ (es : List Entry). record { target = target; entries = es; state = Running }) (append-nil entries)
no_line target entries Ended = refl
no_line target entries (Failed fault) = refl

one_line : (target : List ℕ) (entries : List Entry) (entry : Entry) (others : List Entry) (state : LogState)
    → (let log : Log = changed_by state (Line entry) (record { target = target; entries = entries; state = state }) in
    with_lines log.state others log)
    ≡ with_lines state (entry ∷ others) (record { target = target; entries = entries; state = state })
one_line target entries entry others Running =
    ap (λ (es : List Entry). record { target = target; entries = es; state = Running }) (append_assoc entries (entry ∷ []) others)
one_line target entries entry others Ended = refl
one_line target entries entry others (Failed fault) = refl

stored_lines : (sender stream : ℕ) (entries : List Entry) (table : List Log)
    → stored (map (entry_item sender stream) entries) table ≡ update_log stream (λ log. with_lines log.state entries log) table
stored_lines sender stream [] table =
    sym (update_log-same stream (λ log. with_lines log.state [] log) (λ log. log) (λ log. no_line log.target log.entries log.state) table
    ∙ unchanged stream table)
stored_lines sender stream (entry ∷ entries) table =
    stored_lines sender stream entries (update_log stream (step (Line entry)) table)
    ∙ update_log-twice stream (step (Line entry)) (λ log. with_lines log.state entries log) table
    ∙ update_log-same stream _ (λ log. with_lines log.state (entry ∷ entries) log)
    (λ log. one_line log.target log.entries entry entries log.state) table

stored_one : (sender stream : ℕ) (what : What) (table : List Log)
    → stored (singles_in sender stream what) table ≡ update_log stream (step what) table
stored_one sender stream (Line entry) table = refl
stored_one sender stream (Lines entries) table =
    stored_lines sender stream entries table
    ∙ update_log-same stream _ (step (Lines entries)) (λ log. by log.target log.entries log.state) table
  where
    by : (target : List ℕ) (so_far : List Entry) (state : LogState)
        → with_lines state entries (record { target = target; entries = so_far; state = state })
        ≡ changed_by state (Lines entries) (record { target = target; entries = so_far; state = state })
    by target so_far Running = refl
    by target so_far Ended = refl
    by target so_far (Failed fault) = refl
stored_one sender stream End table = refl
stored_one sender stream (Fail fault) table = refl

none_lines : (sender stream : ℕ) (entries : List Entry) → NoneOutOfMemory (map (entry_item sender stream) entries)
none_lines sender stream [] = tt
none_lines sender stream (entry ∷ entries) = ((λ is. absurd (cc)), none_lines sender stream entries)

none_one : (sender stream : ℕ) (what : What) → what ≢ Fail OutOfMemory → NoneOutOfMemory (singles_in sender stream what)
none_one sender stream (Line entry) had = ((λ is. absurd (cc)), tt)
none_one sender stream (Lines entries) had = none_lines sender stream entries
none_one sender stream End had = ((λ is. absurd (cc)), tt)
none_one sender stream (Fail fault) had = (had, tt)

none-append : (prefix suffix : List Item) → NoneOutOfMemory prefix → NoneOutOfMemory suffix → NoneOutOfMemory (prefix ++ suffix)
none-append [] suffix one two = two
none-append (item ∷ prefix) suffix one two = (one.0, none-append prefix suffix one.1 two)

singles_more : (before : List Item) (item : Item)
    → singles (before ++ item ∷ []) ≡ singles before ++ singles_in item.sender item.stream item.what
singles_more before item = singles-append before (item ∷ [])
    ∙ ap (λ items. singles before ++ items) (append-nil (singles_in item.sender item.stream item.what))

pub holds_more : (names : List (List ℕ)) (before : List Item) (item : Item) (table after : List Log) (refused : Bool) → refused ≡ false
    → StoresAllTaken names before table refused
    → after ≡ update_log item.stream (step item.what) table → item.what ≢ Fail OutOfMemory
    → StoresAllTaken names (before ++ item ∷ []) after refused
holds_more names before item table after refused fine holds after_is had _ =
    let was = holds fine in (
      after_is ∙ ap (update_log item.stream (step item.what)) was.0
          ∙ sym (stored_one item.sender item.stream item.what (stored (singles before) (map new_log names)))
          ∙ sym (stored-append (singles before) (singles_in item.sender item.stream item.what) (map new_log names))
          ∙ ap (λ items. stored items (map new_log names)) (sym (singles_more before item)),
      subst NoneOutOfMemory (sym (singles_more before item))
          (none-append (singles before) (singles_in item.sender item.stream item.what) was.1
          (none_one item.sender item.stream item.what had)),
    )

-- ---- single items of each sender

items_of-lines : (own : Bool) (sender number stream : ℕ) (entries : List Entry) → nat_eq number sender ≡ own
    → items_of sender (map (entry_item number stream) entries) ≡ cond own (map (entry_item number stream) entries) []
items_of-lines true sender number stream [] is = refl
items_of-lines false sender number stream [] is = refl
items_of-lines true sender number stream (entry ∷ entries) is =
    ap (λ b. cond b (entry_item number stream entry ∷ items_of sender (map (entry_item number stream) entries))
    (items_of sender (map (entry_item number stream) entries))) is
    ∙ ap (λ items. entry_item number stream entry ∷ items) (items_of-lines true sender number stream entries is)
items_of-lines false sender number stream (entry ∷ entries) is =
    ap (λ b. cond b (entry_item number stream entry ∷ items_of sender (map (entry_item number stream) entries))
    (items_of sender (map (entry_item number stream) entries))) is
    ∙ items_of-lines false sender number stream entries is

items_of-single : (own : Bool) (sender number stream : ℕ) (what : What) → nat_eq number sender ≡ own
    → items_of sender (singles_in number stream what) ≡ cond own (singles_in number stream what) []
items_of-single true sender number stream (Line entry) is = items_of-lines true sender number stream (entry ∷ []) is
items_of-single false sender number stream (Line entry) is = items_of-lines false sender number stream (entry ∷ []) is
items_of-single own sender number stream (Lines entries) is = items_of-lines own sender number stream entries is
items_of-single true sender number stream End is = ap (λ b. cond b (item_of number stream End ∷ []) []) is
items_of-single false sender number stream End is = ap (λ b. cond b (item_of number stream End ∷ []) []) is
items_of-single true sender number stream (Fail fault) is = ap (λ b. cond b (item_of number stream (Fail fault) ∷ []) []) is
items_of-single false sender number stream (Fail fault) is = ap (λ b. cond b (item_of number stream (Fail fault) ∷ []) []) is

items_of-append : (sender : ℕ) (prefix suffix : List Item)
    → items_of sender (prefix ++ suffix) ≡ items_of sender prefix ++ items_of sender suffix
items_of-append sender [] suffix = refl
items_of-append sender (item ∷ prefix) suffix = by (nat_eq item.sender sender) (items_of-append sender prefix suffix)
  where
    by : (own : Bool) → items_of sender (prefix ++ suffix) ≡ items_of sender prefix ++ items_of sender suffix
        → cond own (item ∷ items_of sender (prefix ++ suffix)) (items_of sender (prefix ++ suffix))
        ≡ cond own (item ∷ items_of sender prefix) (items_of sender prefix) ++ items_of sender suffix
    by true is = ap (λ items. item ∷ items) is
    by false is = is

items_of-singles : (sender : ℕ) (items : List Item) → items_of sender (singles items) ≡ singles (items_of sender items)
items_of-singles sender [] = refl
items_of-singles sender (item ∷ items) =
    items_of-append sender (singles_in item.sender item.stream item.what) (singles items)
    ∙ ap (λ list. list ++ items_of sender (singles items))
    (items_of-single (nat_eq item.sender sender) sender item.sender item.stream item.what refl)
    ∙ by (nat_eq item.sender sender) (items_of-singles sender items)
  where
    by : (own : Bool) → items_of sender (singles items) ≡ singles (items_of sender items)
        → cond own (singles_in item.sender item.stream item.what) [] ++ items_of sender (singles items)
        ≡ singles (cond own (item ∷ items_of sender items) (items_of sender items))
    by true is = ap (λ list. singles_in item.sender item.stream item.what ++ list) is
    by false is = is

below_lines : (senders sender stream : ℕ) (entries : List Entry) → sender < senders
    → AllByRecursion (λ (item : Item). item.sender < senders) (map (entry_item sender stream) entries)
below_lines senders sender stream [] below = tt
below_lines senders sender stream (entry ∷ entries) below = (below, below_lines senders sender stream entries below)

below_single : (senders sender stream : ℕ) (what : What) → sender < senders
    → AllByRecursion (λ (item : Item). item.sender < senders) (singles_in sender stream what)
below_single senders sender stream (Line entry) below = (below, tt)
below_single senders sender stream (Lines entries) below = below_lines senders sender stream entries below
below_single senders sender stream End below = (below, tt)
below_single senders sender stream (Fail fault) below = (below, tt)

below-append : (senders : ℕ) (prefix suffix : List Item) → AllByRecursion (λ (item : Item). item.sender < senders) prefix
    → AllByRecursion (λ (item : Item). item.sender < senders) suffix
    → AllByRecursion (λ (item : Item). item.sender < senders) (prefix ++ suffix)
below-append senders [] suffix one two = two
below-append senders (item ∷ prefix) suffix one two = (one.0, below-append senders prefix suffix one.1 two)

below_singles : (senders : ℕ) (items : List Item) → AllByRecursion (λ (item : Item). item.sender < senders) items
    → AllByRecursion (λ (item : Item). item.sender < senders) (singles items)
below_singles senders [] below = tt
below_singles senders (item ∷ items) below =
    below-append senders (singles_in item.sender item.stream item.what) (singles items)
    (below_single senders item.sender item.stream item.what below.0) (below_singles senders items below.1)

-- ---- the whole table

by_index : (max_bytes : ℕ) (given : List KnownSource) (table : List Log) → length table ≡ length given
    → ((index : ℕ) (one : KnownSource) → slice_get given index ≡ Some one
    → (log : Log) × (slice_get table index ≡ Some log) × IsSettled max_bytes one log) → AreSettled max_bytes given table
by_index max_bytes [] [] count each = tt
by_index max_bytes [] (log ∷ table) count each = absurd (omega (arith, count))
by_index max_bytes (one ∷ given) [] count each = absurd (omega (arith, count))
by_index max_bytes (one ∷ given) (log ∷ table) count each =
    let first = each zero one refl in (
      subst (IsSettled max_bytes one) (same first.0 first.1) first.2,
      by_index max_bytes given table (omega (arith, count))
          (λ index other there. each (suc index) other there),
    )
  where
    same : (other : Log) → Some log ≡ Some other → other ≡ log
    same other is = cc

name_there : (names : List (List ℕ)) (known : List KnownInput) (index : ℕ) (one : KnownSource)
    → slice_get (sources names known) index ≡ Some one → slice_get names index ≡ Some one.target
name_there [] known index one there = absurd (none-some one there)
name_there (name ∷ names) [] index one there = absurd (none-some one there)
name_there (name ∷ names) (stream ∷ known) zero one there = same there
  where
    same : Some (source name stream.must_close stream.stream) ≡ Some one → Some name ≡ Some one.target
    same is = ap (option_map (λ (given : KnownSource). given.target)) is
name_there (name ∷ names) (stream ∷ known) (suc index) one there = name_there names known index one there

posted_by_number : (max_bytes senders number : ℕ) (given : List KnownSource) (taken : List Item) (met : List Met) → IsMet number met
    → AllByRecursion (λ (m : Met). m.1 ≡ items_of m.0 taken) met
    → AllByRecursion (PostedExpected max_bytes senders given) met
    → AreExpected max_bytes number (share_of senders number 0 given) (singles (items_of number taken))
posted_by_number max_bytes senders number given taken [] among whole expects = absurd among
posted_by_number max_bytes senders number given taken (met ∷ others) (inl same) whole expects =
    subst (λ n. AreExpected max_bytes n (share_of senders n 0 given) (singles (items_of n taken))) same
    (subst (λ items. AreExpected max_bytes met.0 (share_of senders met.0 0 given) (singles items)) whole.0 expects.0)
posted_by_number max_bytes senders number given taken (met ∷ others) (inr among) whole expects =
    posted_by_number max_bytes senders number given taken others among whole.1 expects.1

module _ (max_bytes senders : ℕ) (names : List (List ℕ)) (known : List KnownInput) (taken : List Item) (met : List Met) (table : List Log)
    (count : length names ≡ length known) (some : 0 < senders) (all_met : (number : ℕ) → number < senders → IsMet number met)
    (whole : AllByRecursion (λ (m : Met). m.1 ≡ items_of m.0 taken) met)
    (own : AllByRecursion (λ (item : Item). item.sender < senders) taken)
    (expects : AllByRecursion (PostedExpected max_bytes senders (sources names known)) met)
    (holds : (table ≡ stored (singles taken) (map new_log names)) × NoneOutOfMemory (singles taken)) where
  each : (index : ℕ) (one : KnownSource) → slice_get (sources names known) index ≡ Some one
      → (log : Log) × (slice_get table index ≡ Some log) × IsSettled max_bytes one log
  each index one there =
      let known_there =
      sequence_of_each max_bytes senders (sources names known) (singles taken) some (below_singles senders taken own)
      (λ sender below. subst (AreExpected max_bytes sender (share_of senders sender 0 (sources names known)))
      (sym (items_of-singles sender taken))
      (posted_by_number max_bytes senders sender (sources names known) taken met (all_met sender below) whole expects))
      index one there in
      let entries = known_there.0 in let fault = known_there.1 in
      let had = none_in_known entries fault
      (subst (AllByRecursion IsNotOutOfMemory) known_there.2 (none-on index (singles taken) holds.1)) in (
        record { target = one.target; entries = entries; state = state_after fault },
        ap (λ t. slice_get t index) holds.0 ∙ interleaved (singles taken) (map new_log names) index
            ∙ ap (option_map (run (on index (singles taken))))
            (slice_get-map new_log names index ∙ ap (option_map new_log) (name_there names known index one there))
            ∙ ap (λ whats. Some (run whats (new_log one.target))) known_there.2 ∙ ap Some (ran_known entries fault one.target),
        weaker one.stream (λ stream. IsComplete max_bytes (with_stream stream one) entries fault)
            (λ stream. record { target = one.target; entries = entries; state = state_after fault }
            ≡ log_after max_bytes (with_stream stream one))
            (λ stream is. λ i. record { target = one.target; entries = is.0 i; state = state_after (is.1 i) })
            (is_whole max_bytes one entries fault known_there.3 had),
      )

  count_sources : (names : List (List ℕ)) (known : List KnownInput) → length names ≡ length known
      → length names ≡ length (sources names known)
  count_sources [] known same = refl
  count_sources (name ∷ names) [] same = absurd (omega (arith, same))
  count_sources (name ∷ names) (one ∷ known) same = ap suc (count_sources names known (omega (arith, same)))

  pub all_settled : AreSettled max_bytes (sources names known) table
  all_settled =
      by_index max_bytes (sources names known) table
      (ap length holds.0 ∙ length-stored (singles taken) (map new_log names) ∙ length-map names new_log
      ∙ count_sources names known count) each

-- The table of a collector that took everything.
pub settled_table : (max_bytes : ℕ) (names : List (List ℕ)) (known : List KnownInput) (collector : LogCollector)
    → AllTaken max_bytes names known collector → collector.out_of_memory ≡ false
    → AreSettled max_bytes (sources names known) collector.table
settled_table max_bytes names known collector taken fine =
    all_settled max_bytes collector.take_end.mailbox.senders names known collector.take_end.taken collector.take_end.met collector.table
    taken.expected.count taken.expected.some taken.met taken.whole taken.own
    taken.expected.expected (taken.expected.holds fine)
