-- Events have one tree.
use Rattle.std.proofs.Common.{◌≡◌, ℕ, ◌+◌, List, [], ◌∷◌, ◌++◌, Option, None, Some, refl, sym, ◌∙◌, ap}
use Rattle.std.specs.List.{AllByRecursion}
use Rattle.std.proofs.lemmas.List.{append_assoc, append-nil}
use Rattle.std.proofs.lemmas.Option.{none-some}
use Rattle.redo_view.specs.Event.{Event}
use Rattle.redo_view.specs.Event.Event.{Requested, Mentioned, EntryShown, LogEnds}
use Rattle.redo_outline.specs.Contents.{Contents, contents_from, contents_of, innermost, number_of_opening, opened_number, with_event, with_first}
use Rattle.redo_outline.specs.Contents.Contents.{Nothing, Shown, Opened}
use Rattle.redo_outline.specs.Laws.{IsPlain, OpensItsLogs, IsTreeOf, events_of}

-- ---- what the tree has

first_opens : (event : Event) (number : Option ℕ) (contents : List Contents) → (number ≡ None → IsPlain event)
    → ((n : ℕ) → number ≡ Some n → opened_number event ≡ Some n)
    → AllByRecursion OpensItsLogs contents → AllByRecursion OpensItsLogs (with_first event number contents)
first_opens event None [] plain opens are = tt
first_opens event None (inner ∷ outer) plain opens are = ((plain refl, are.0), are.1)
first_opens event (Some n) [] plain opens are = tt
first_opens event (Some n) (inner ∷ []) plain opens are = ((opens n refl, (are.0, tt)), tt)
first_opens event (Some n) (inner ∷ next ∷ outer) plain opens are = ((opens n refl, (are.0, are.1.0)), are.1.1)

event_opens : (event : Event) (contents : List Contents) → AllByRecursion OpensItsLogs contents
    → AllByRecursion OpensItsLogs (with_event event contents)
event_opens (Requested name opening) contents are =
    first_opens (Requested name opening) (number_of_opening opening) contents (λ is. is) (λ n is. is) are
event_opens (Mentioned depth pid how name opening) contents are =
    first_opens (Mentioned depth pid how name opening) (number_of_opening opening) contents (λ is. is) (λ n is. is) are
event_opens (EntryShown depth entry) contents are = first_opens (EntryShown depth entry) None contents (λ is. is) (λ n is. is) are
event_opens (LogEnds depth) contents are = (tt, are)

all_open : (events : List Event) → AllByRecursion OpensItsLogs (contents_from events)
all_open [] = (tt, tt)
all_open (event ∷ events) = event_opens event (contents_from events) (all_open events)

innermost_opens : (contents : List Contents) → AllByRecursion OpensItsLogs contents → OpensItsLogs (innermost contents)
innermost_opens [] are = tt
innermost_opens (inner ∷ outer) are = are.0

pub opens_logs : (events : List Event) → OpensItsLogs (contents_of events)
opens_logs events = innermost_opens (contents_from events) (all_open events)

-- ---- the tree of a tree's events

plain_first : (event : Event) (inner : Contents) (outer : List Contents) → IsPlain event
    → with_event event (inner ∷ outer) ≡ Shown event inner ∷ outer
plain_first (Requested name opening) inner outer plain = ap (λ n. with_first (Requested name opening) n (inner ∷ outer)) plain
plain_first (Mentioned depth pid how name opening) inner outer plain =
    ap (λ n. with_first (Mentioned depth pid how name opening) n (inner ∷ outer)) plain
plain_first (EntryShown depth entry) inner outer plain = refl
plain_first (LogEnds depth) inner outer plain = absurd plain

opened_first : (event : Event) (number : ℕ) (inside rest : Contents) (outer : List Contents) → opened_number event ≡ Some number
    → with_event event (inside ∷ rest ∷ outer) ≡ Opened event number inside rest ∷ outer
opened_first (Requested name opening) number inside rest outer opens =
    ap (λ n. with_first (Requested name opening) n (inside ∷ rest ∷ outer)) opens
opened_first (Mentioned depth pid how name opening) number inside rest outer opens =
    ap (λ n. with_first (Mentioned depth pid how name opening) n (inside ∷ rest ∷ outer)) opens
opened_first (EntryShown depth entry) number inside rest outer opens = absurd (none-some number opens)
opened_first (LogEnds depth) number inside rest outer opens = absurd (none-some number opens)

contents_again : (contents : Contents) → OpensItsLogs contents → (depth : ℕ) (events : List Event) (outer : List Contents)
    → contents_from events ≡ Nothing ∷ outer → contents_from (events_of depth contents ++ events) ≡ contents ∷ outer
contents_again Nothing are depth events outer is = is
contents_again (Shown event rest) are depth events outer is =
    ap (with_event event) (contents_again rest are.1 depth events outer is) ∙ plain_first event rest outer are.0
contents_again (Opened event number inside rest) are depth events outer is =
    let after = contents_again rest are.1.1 depth events outer is in
    ap (λ es. contents_from (event ∷ es)) (append_assoc (events_of (depth + 1) inside) (LogEnds (depth + 1) ∷ events_of depth rest) events)
    ∙ ap (with_event event) (contents_again inside are.1.0 (depth + 1) (LogEnds (depth + 1) ∷ (events_of depth rest ++ events))
    (rest ∷ outer) (ap (λ cs. Nothing ∷ cs) after))
    ∙ opened_first event number inside rest outer are.0

pub same_contents : (contents : Contents) → OpensItsLogs contents → contents_of (events_of 0 contents) ≡ contents
same_contents contents are =
    ap contents_of (sym (append-nil (events_of 0 contents))) ∙ ap innermost (contents_again contents are 0 [] [] refl)

pub only_tree : (events : List Event) (contents : Contents) → IsTreeOf events contents → contents ≡ contents_of events
only_tree events contents is = sym (same_contents contents is.opens_logs) ∙ ap contents_of is.has_events
