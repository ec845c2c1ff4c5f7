-- Items of several streams, in any order: each log takes the items of its own stream.
use Rattle.std.proofs.Common.{◌≡◌, ◌≢◌, inl, inr, ℕ, zero, suc, nat_eq, Bool, true, false, cond, List, [], ◌∷◌, ◌++◌, Option, None, Some, length, map, slice_get, refl, sym, ap, ◌∙◌}
use Rattle.std.specs.Option.{option_map}
use Rattle.std.specs.List.{AllByRecursion}
use Rattle.std.proofs.lemmas.Bool.{eq-eqb}
use Rattle.std.proofs.lemmas.Bool.Decides.{eqb_tells}
use Rattle.std.proofs.lemmas.List.{append_assoc, append-nil}
use Rattle.redo_line.specs.declared.entry.Entry.{Entry}
use Rattle.redo_line.specs.declared.stream_fault.StreamFault.{StreamFault}
use Rattle.redo_line.specs.declared.stream_fault.StreamFault.TheVariants.{OutOfMemory}
use Rattle.redo_logs.specs.declared.log_state.LogState.TheVariants.{Running}
use Rattle.redo_logs.specs.Logs.{Log, update_log}
use Rattle.redo_logs.proofs.ChangedLemmas.{length-update_log}
use Rattle.redo_wire.specs.declared.item.Item.{Item}
use Rattle.redo_wire.specs.declared.item.What.{What}
use Rattle.redo_wire.specs.declared.item.What.TheVariants.{Line}
use Rattle.redo_gather.specs.Private.Collecting.{IsNotOutOfMemory, NoneOutOfMemory, step, stored}
use Rattle.redo_gather.specs.Private.Storing.{state_after}
use Rattle.redo_gather.specs.Sending.{item_of, final_what, entry_item, stream_items}

-- The contents of a stream's items, in order.
abbrev pub on : ℕ → List Item → List What
on stream [] = []
on stream (item ∷ items) = cond (nat_eq item.stream stream) (item.what ∷ on stream items) (on stream items)

abbrev pub run : List What → Log → Log
run [] log = log
run (what ∷ others) log = run others (step what log)

pub on-own : (stream : ℕ) (item : Item) (items : List Item) → item.stream ≡ stream → on stream (item ∷ items) ≡ item.what ∷ on stream items
on-own stream item items own = ap (λ b. cond b (item.what ∷ on stream items) (on stream items)) (eq-eqb item.stream stream own)

pub on-other : (stream : ℕ) (item : Item) (items : List Item) → item.stream ≢ stream → on stream (item ∷ items) ≡ on stream items
on-other stream item items other = elim (eqb_tells item.stream stream) [
  | inl same ↦ absurd (other same.1)
  | inr apart ↦ ap (λ b. cond b (item.what ∷ on stream items) (on stream items)) apart.0
]

pub on-append : (stream : ℕ) (prefix suffix : List Item) → on stream (prefix ++ suffix) ≡ on stream prefix ++ on stream suffix
on-append stream [] suffix = refl
on-append stream (item ∷ prefix) suffix = by (nat_eq item.stream stream) (on-append stream prefix suffix)
  where
    by : (own : Bool) → on stream (prefix ++ suffix) ≡ on stream prefix ++ on stream suffix
        → cond own (item.what ∷ on stream (prefix ++ suffix)) (on stream (prefix ++ suffix))
        ≡ cond own (item.what ∷ on stream prefix) (on stream prefix) ++ on stream suffix
    by true is = ap (λ whats. item.what ∷ whats) is
    by false is = is

-- ---- each log

log_here : (number : ℕ) (change : Log → Log) (table : List Log)
    → slice_get (update_log number change table) number ≡ option_map change (slice_get table number)
log_here number change [] = refl
log_here zero change (log ∷ table) = refl
log_here (suc number) change (log ∷ table) = log_here number change table

log_else : (number other : ℕ) (change : Log → Log) (table : List Log) → number ≢ other
    → slice_get (update_log number change table) other ≡ slice_get table other
log_else number other change [] differ = refl
log_else zero zero change (log ∷ table) differ = absurd (differ refl)
log_else zero (suc other) change (log ∷ table) differ = refl
log_else (suc number) zero change (log ∷ table) differ = refl
log_else (suc number) (suc other) change (log ∷ table) differ = log_else number other change table (λ same. differ (ap suc same))

ran_none : (log : Option Log) → log ≡ option_map (run []) log
ran_none None = refl
ran_none (Some log) = refl

ran_one : (what : What) (others : List What) (log : Option Log)
    → option_map (run others) (option_map (step what) log) ≡ option_map (run (what ∷ others)) log
ran_one what others None = refl
ran_one what others (Some log) = refl

pub interleaved : (items : List Item) (table : List Log) (stream : ℕ)
    → slice_get (stored items table) stream ≡ option_map (run (on stream items)) (slice_get table stream)
interleaved [] table stream = ran_none (slice_get table stream)
interleaved (item ∷ items) table stream =
    let rest = interleaved items (update_log item.stream (step item.what) table) stream in
    elim (eqb_tells item.stream stream) [
      | inl same ↦
          rest
          ∙ ap (option_map (run (on stream items)))
          (ap (λ k. slice_get (update_log k (step item.what) table) stream) same.1 ∙ log_here stream (step item.what) table)
          ∙ ran_one item.what (on stream items) (slice_get table stream)
          ∙ ap (λ whats. option_map (run whats) (slice_get table stream)) (sym (on-own stream item items same.1))
      | inr apart ↦
          rest ∙ ap (option_map (run (on stream items))) (log_else item.stream stream (step item.what) table apart.1)
          ∙ ap (λ whats. option_map (run whats) (slice_get table stream)) (sym (on-other stream item items apart.1))
    ]

pub length-stored : (items : List Item) (table : List Log) → length (stored items table) ≡ length table
length-stored [] table = refl
length-stored (item ∷ items) table =
    length-stored items (update_log item.stream (step item.what) table) ∙ length-update_log item.stream (step item.what) table

pub stored-append : (prefix suffix : List Item) (table : List Log) → stored (prefix ++ suffix) table ≡ stored suffix (stored prefix table)
stored-append [] suffix table = refl
stored-append (item ∷ prefix) suffix table = stored-append prefix suffix (update_log item.stream (step item.what) table)

-- ---- a whole stream

ran_lines : (entries : List Entry) (others : List What) (target : List ℕ) (so_far : List Entry)
    → run (map Line entries ++ others) (record { target = target; entries = so_far; state = Running })
    ≡ run others (record { target = target; entries = so_far ++ entries; state = Running })
ran_lines [] others target so_far = ap (λ (es : List Entry). run others (record { target = target; entries = es; state = Running }))
    (sym (append-nil so_far))
ran_lines (entry ∷ entries) others target so_far =
    ran_lines entries others target (so_far ++ entry ∷ [])
    ∙ ap (λ (es : List Entry). run others (record { target = target; entries = es; state = Running }))
    (append_assoc so_far (entry ∷ []) entries)

pub ran_known : (entries : List Entry) (fault : Option StreamFault) (target : List ℕ)
    → run (map Line entries ++ final_what fault ∷ []) (record { target = target; entries = []; state = Running })
    ≡ record { target = target; entries = entries; state = state_after fault }
ran_known entries fault target = ran_lines entries (final_what fault ∷ []) target [] ∙ by fault
  where
    by : (fault : Option StreamFault) → run (final_what fault ∷ []) (record { target = target; entries = entries; state = Running })
        ≡ record { target = target; entries = entries; state = state_after fault }
    by None = refl
    by (Some fault) = refl

lines_here : (sender stream : ℕ) (entries : List Entry) → on stream (map (entry_item sender stream) entries) ≡ map Line entries
lines_here sender stream [] = refl
lines_here sender stream (entry ∷ entries) =
    on-own stream (entry_item sender stream entry) (map (entry_item sender stream) entries) refl
    ∙ ap (λ whats. Line entry ∷ whats) (lines_here sender stream entries)

lines_else : (sender stream other : ℕ) (entries : List Entry) → stream ≢ other → on other (map (entry_item sender stream) entries) ≡ []
lines_else sender stream other [] differ = refl
lines_else sender stream other (entry ∷ entries) differ =
    on-other other (entry_item sender stream entry) (map (entry_item sender stream) entries) differ
    ∙ lines_else sender stream other entries differ

pub items_here : (sender stream : ℕ) (entries : List Entry) (fault : Option StreamFault)
    → on stream (stream_items sender stream entries fault) ≡ map Line entries ++ final_what fault ∷ []
items_here sender stream entries fault =
    on-append stream (map (entry_item sender stream) entries) (item_of sender stream (final_what fault) ∷ [])
    ∙ (λ i. lines_here sender stream entries i ++ on-own stream (item_of sender stream (final_what fault)) [] refl i)

pub items_elsewhere : (sender stream other : ℕ) (entries : List Entry) (fault : Option StreamFault) → stream ≢ other
    → on other (stream_items sender stream entries fault) ≡ []
items_elsewhere sender stream other entries fault differ =
    on-append other (map (entry_item sender stream) entries) (item_of sender stream (final_what fault) ∷ [])
    ∙ (λ i. lines_else sender stream other entries differ i ++ on-other other (item_of sender stream (final_what fault)) [] differ i)

-- ---- memory that ran out

pub none-on : (stream : ℕ) (items : List Item) → NoneOutOfMemory items → AllByRecursion IsNotOutOfMemory (on stream items)
none-on stream [] none = tt
none-on stream (item ∷ items) none = by (nat_eq item.stream stream) (none-on stream items none.1)
  where
    by : (own : Bool) → AllByRecursion IsNotOutOfMemory (on stream items)
        → AllByRecursion IsNotOutOfMemory (cond own (item.what ∷ on stream items) (on stream items))
    by true others = (none.0, others)
    by false others = others

pub none_in_known : (entries : List Entry) (fault : Option StreamFault)
    → AllByRecursion IsNotOutOfMemory (map Line entries ++ final_what fault ∷ []) → fault ≢ Some OutOfMemory
none_in_known [] fault none is = none.0 (ap final_what is)
none_in_known (entry ∷ entries) fault none is = none_in_known entries fault none.1 is
