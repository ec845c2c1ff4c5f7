-- The statuses that a collector has after events.
use Rattle.std.proofs.Common.{◌≡◌, ◌≢◌, ℕ, zero, suc, ◌<◌, Bool, ℤ, List, [], ◌∷◌, Option, None, Some, length, refl, sym, ap, ◌∙◌, arith, inl, inr, nat_eq}
use Rattle.std.specs.Prelude.{◌==◌, filter_map, replicate, slice_get, slice_index_or}
use Rattle.std.specs.Cmp.Lexicographic.{pointwise}
use Rattle.std.specs.List.{cons_option}
use Rattle.std.specs.Option.{option_or}
use Rattle.std.proofs.lemmas.Bool.Decides.{eqb_tells}
use Rattle.std.proofs.lemmas.List.{length-map, length-replicate}
use Rattle.std.proofs.lemmas.List.Quantifiers.{position-Some}
use Rattle.redo_line.specs.declared.entry.Entry.TheVariants.{Text, Mention, Done, Closing, Note}
use Rattle.redo_logs.specs.Logs.{Log, log_number, targets_of}
use Rattle.redo_view.specs.declared.event.Opening.TheVariants.{NotOpened, OpenedBefore, OpensHere}
use Rattle.redo_view.specs.Event.{Event}
use Rattle.redo_view.specs.Event.Event.{Requested, Mentioned, EntryShown, LogEnds}
use Rattle.redo_view.specs.Form.{state_after}
use Rattle.redo_outline.specs.Facts.{done_status, is_number, status_if}
use Rattle.redo_outline.specs.Private.Collecting.{Collected, initial, with_status, with_status_at}
use Rattle.redo_outline.proofs.CollectingLemmas.{after}

or_none : {A : Type 0} (a : Option A) → a ≡ option_or a None
or_none None = refl
or_none (Some a) = refl

or_assoc : {A : Type 0} (a b c : Option A) → option_or (option_or a b) c ≡ option_or a (option_or b c)
or_assoc None b c = refl
or_assoc (Some a) b c = refl

-- ---- one status

with-same : (number : ℕ) (status : ℤ) (statuses : List (Option ℤ)) → number < length statuses
    → slice_index_or (with_status number status statuses) number None ≡ option_or (slice_index_or statuses number None) (Some status)
with-same number status [] below = absurd (omega (arith, below))
with-same zero status (None ∷ statuses) below = refl
with-same zero status (Some old ∷ statuses) below = refl
with-same (suc number) status (old ∷ statuses) below = with-same number status statuses (omega (arith, below))

with-other : (number other : ℕ) (status : ℤ) (statuses : List (Option ℤ)) → other ≢ number
    → slice_index_or (with_status number status statuses) other None ≡ slice_index_or statuses other None
with-other number other status [] differ = refl
with-other zero zero status (old ∷ statuses) differ = absurd (differ refl)
with-other zero (suc other) status (None ∷ statuses) differ = refl
with-other zero (suc other) status (Some old ∷ statuses) differ = refl
with-other (suc number) zero status (old ∷ statuses) differ = refl
with-other (suc number) (suc other) status (old ∷ statuses) differ = with-other number other status statuses (λ same. differ (ap suc same))

length-with : (number : ℕ) (status : ℤ) (statuses : List (Option ℤ)) → length (with_status number status statuses) ≡ length statuses
length-with number status [] = refl
length-with zero status (None ∷ statuses) = refl
length-with zero status (Some old ∷ statuses) = refl
length-with (suc number) status (old ∷ statuses) = ap suc (length-with number status statuses)

module _ (number other : ℕ) (status : ℤ) (statuses : List (Option ℤ)) (below : number < length statuses) where
  with-any : slice_index_or (with_status number status statuses) other None
      ≡ option_or (slice_index_or statuses other None) (status_if (other == number) status)
  with-any = elim (eqb_tells other number) [
    | inl same ↦
        ap (λ (n : ℕ). slice_index_or (with_status number status statuses) n None) same.1 ∙ with-same number status statuses below
        ∙ ap (λ (n : ℕ). option_or (slice_index_or statuses n None) (Some status)) (sym same.1)
        ∙ ap (λ (b : Bool). option_or (slice_index_or statuses other None) (status_if b status)) (sym same.0)
    | inr differ ↦
        with-other number other status statuses differ.1 ∙ or_none (slice_index_or statuses other None)
        ∙ ap (λ (b : Bool). option_or (slice_index_or statuses other None) (status_if b status)) (sym differ.0)
  ]

-- ---- one event

number_below : (name : List ℕ) (logs : List Log) (number : ℕ) → log_number name logs ≡ Some number → number < length logs
number_below name logs number is =
    let found = position-Some (pointwise nat_eq name) (targets_of logs) number [] is in
    omega (arith, found.0, length-map logs (λ (log : Log). log.target))

module _ (logs : List Log) (number : ℕ) where
  abbrev status_in : Event → Option ℤ
  status_in event = done_status logs number event

  done_set : (position : Option ℕ) (status : ℤ) (statuses : List (Option ℤ)) → ((n : ℕ) → position ≡ Some n → n < length statuses)
      → slice_index_or (with_status_at position status statuses) number None
      ≡ option_or (slice_index_or statuses number None) (status_if (is_number number position) status)
  done_set None status statuses below = or_none (slice_index_or statuses number None)
  done_set (Some position) status statuses below = with-any position number status statuses (below position refl)

  abbrev StatusIs : Event → Type 0
  StatusIs event = (before : Collected) → before.logs ≡ logs → length before.statuses ≡ length logs
      → slice_index_or (after before event).statuses number None ≡ option_or (slice_index_or before.statuses number None) (status_in event)

  done_is : (pid : ℕ) (status : ℤ) (name : List ℕ) (statuses : List (Option ℤ)) → length statuses ≡ length logs
      → slice_index_or (with_status_at (log_number name logs) status statuses) number None
      ≡ option_or (slice_index_or statuses number None) (status_if (is_number number (log_number name logs)) status)
  done_is pid status name statuses size =
      done_set (log_number name logs) status statuses (λ n is. let below = number_below name logs n is in omega (arith, below, size))

  event_status : (event : Event) → StatusIs event
  event_status (Requested name NotOpened) before same size = or_none (slice_index_or before.statuses number None)
  event_status (Requested name (OpenedBefore n)) before same size = or_none (slice_index_or before.statuses number None)
  event_status (Requested name (OpensHere n)) before same size = or_none (slice_index_or before.statuses number None)
  event_status (Mentioned depth pid how name NotOpened) before same size = or_none (slice_index_or before.statuses number None)
  event_status (Mentioned depth pid how name (OpenedBefore n)) before same size = or_none (slice_index_or before.statuses number None)
  event_status (Mentioned depth pid how name (OpensHere n)) before same size = or_none (slice_index_or before.statuses number None)
  event_status (EntryShown depth (Text line)) before same size = or_none (slice_index_or before.statuses number None)
  event_status (EntryShown depth (Mention pid how name)) before same size = or_none (slice_index_or before.statuses number None)
  event_status (EntryShown depth (Done pid status name)) before same size =
      ap (λ ls. slice_index_or (with_status_at (log_number name ls) status before.statuses) number None) same
      ∙ done_is pid status name before.statuses size
  event_status (EntryShown depth (Closing pid status)) before same size = or_none (slice_index_or before.statuses number None)
  event_status (EntryShown depth (Note pid kind text)) before same size = or_none (slice_index_or before.statuses number None)
  event_status (LogEnds depth) before same size = or_none (slice_index_or before.statuses number None)

pub event_logs : (event : Event) (before : Collected) → (after before event).logs ≡ before.logs
event_logs (Requested name NotOpened) before = refl
event_logs (Requested name (OpenedBefore n)) before = refl
event_logs (Requested name (OpensHere n)) before = refl
event_logs (Mentioned depth pid how name NotOpened) before = refl
event_logs (Mentioned depth pid how name (OpenedBefore n)) before = refl
event_logs (Mentioned depth pid how name (OpensHere n)) before = refl
event_logs (EntryShown depth entry) before = refl
event_logs (LogEnds depth) before = refl

length-at : (position : Option ℕ) (status : ℤ) (statuses : List (Option ℤ))
    → length (with_status_at position status statuses) ≡ length statuses
length-at None status statuses = refl
length-at (Some position) status statuses = length-with position status statuses

event_length : (event : Event) (before : Collected) → length (after before event).statuses ≡ length before.statuses
event_length (Requested name NotOpened) before = refl
event_length (Requested name (OpenedBefore n)) before = refl
event_length (Requested name (OpensHere n)) before = refl
event_length (Mentioned depth pid how name NotOpened) before = refl
event_length (Mentioned depth pid how name (OpenedBefore n)) before = refl
event_length (Mentioned depth pid how name (OpensHere n)) before = refl
event_length (EntryShown depth (Text line)) before = refl
event_length (EntryShown depth (Mention pid how name)) before = refl
event_length (EntryShown depth (Done pid status name)) before = length-at (log_number name before.logs) status before.statuses
event_length (EntryShown depth (Closing pid status)) before = refl
event_length (EntryShown depth (Note pid kind text)) before = refl
event_length (LogEnds depth) before = refl

-- ---- all events

module _ (logs : List Log) (number : ℕ) where
  first-cons : (status : Option ℤ) (more : List ℤ) → slice_get (cons_option status more) 0 ≡ option_or status (slice_get more 0)
  first-cons None more = refl
  first-cons (Some status) more = refl

  abbrev done_first : List Event → Option ℤ
  done_first events = slice_get (filter_map (done_status logs number) events) 0

  statuses_after_all : (events : List Event) (before : Collected) → before.logs ≡ logs → length before.statuses ≡ length logs
      → slice_index_or (state_after after before events).statuses number None
      ≡ option_or (slice_index_or before.statuses number None) (done_first events)
  statuses_after_all [] before same size = or_none (slice_index_or before.statuses number None)
  statuses_after_all (event ∷ events) before same size =
      statuses_after_all events (after before event) (event_logs event before ∙ same) (event_length event before ∙ size)
      ∙ ap (λ status. option_or status (done_first events)) (event_status logs number event before same size)
      ∙ or_assoc (slice_index_or before.statuses number None) (done_status logs number event) (done_first events)
      ∙ ap (option_or (slice_index_or before.statuses number None))
      (sym (first-cons (done_status logs number event) (filter_map (done_status logs number) events)))

  none_first : (n k : ℕ) → slice_index_or (replicate n (let none : Option ℤ = None in none)) k None ≡ None
  none_first zero k = refl
  none_first (suc n) zero = refl
  none_first (suc n) (suc k) = none_first n k

  pub done_statuses : (events : List Event)
      → slice_index_or (state_after after (initial logs) events).statuses number None ≡ done_first events
  done_statuses events = statuses_after_all events (initial logs) refl (length-replicate (length logs) None)
      ∙ ap (λ status. option_or status (done_first events)) (none_first (length logs) number)
