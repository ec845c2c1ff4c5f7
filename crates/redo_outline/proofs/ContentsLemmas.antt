-- The events of a tree that was made of nested events are these events.
use Rattle.std.proofs.Common.{◌≡◌, ℕ, zero, suc, Bool, true, false, List, [], ◌∷◌, ◌++◌, None, Some, refl, sym, ap, ◌∙◌, subst, nat_eq}
use Rattle.std.specs.Prelude.{if◌then◌else◌, option_and_then}
use Rattle.std.proofs.Common.{add-one, append_assoc}
use Rattle.std.proofs.lemmas.Bool.{eqb-true}
use Rattle.std.proofs.lemmas.Option.{none-some, same_Some}
use Rattle.redo_logs.specs.Logs.{Log}
use Rattle.redo_options.specs.declared.options.Options.{Options}
use Rattle.redo_view.specs.declared.event.Opening.{Opening}
use Rattle.redo_view.specs.declared.event.Opening.TheVariants.{NotOpened, OpenedBefore, OpensHere}
use Rattle.redo_view.specs.Event.{Event}
use Rattle.redo_view.specs.Event.Event.{Requested, Mentioned, EntryShown, LogEnds}
use Rattle.redo_view.specs.Expansion.{shown_events}
use Rattle.redo_view.specs.Nesting.{AreNested, open_after_all, with_opening}
use Rattle.redo_outline.specs.Contents.{Contents, contents_from, innermost, number_of_opening, with_first, with_opened, with_shown}
use Rattle.redo_outline.specs.Contents.Contents.{Nothing, Opened}
use Rattle.redo_outline.specs.Laws.{AreInContents, events_of}

-- The events from a point on at which `count` logs are open: the events of each log, and its end.
abbrev events_from : ℕ → List Contents → List Event
events_from count [] = []
events_from zero (inner ∷ outer) = events_of 0 inner
events_from (suc count) (inner ∷ outer) = events_of (suc count) inner ++ LogEnds (suc count) ∷ events_from count outer

-- Whether there are the contents of `count` logs, and of the whole.
abbrev HasLevels : ℕ → List Contents → Type 0
HasLevels count [] = ⊥
HasLevels zero (inner ∷ []) = Unit {0}
HasLevels zero (inner ∷ next ∷ outer) = ⊥
HasLevels (suc count) (inner ∷ outer) = HasLevels count outer

record Are (count : ℕ) (events : List Event) (contents : List Contents) : Type 0 where
  levels : HasLevels count contents
  same : events_from count contents ≡ events

shown_are : (count : ℕ) (event : Event) (events : List Event) (contents : List Contents) → Are count events contents
    → Are count (event ∷ events) (with_shown event contents)
shown_are count event events [] are = absurd are.levels
shown_are zero event events (inner ∷ []) are = record { levels = tt; same = ap (λ es. event ∷ es) are.same }
shown_are zero event events (inner ∷ next ∷ outer) are = absurd are.levels
shown_are (suc count) event events (inner ∷ outer) are = record { levels = are.levels; same = ap (λ es. event ∷ es) are.same }

-- The events of an opened log, and those after its end.
opened_same : (depth : ℕ) (event : Event) (number : ℕ) (inner next : Contents) (others : List Event)
    → events_of depth (Opened event number inner next) ++ others
    ≡ event ∷ (events_of (suc depth) inner ++ LogEnds (suc depth) ∷ (events_of depth next ++ others))
opened_same depth event number inner next others =
    ap (λ (n : ℕ). event ∷ ((events_of n inner ++ LogEnds n ∷ events_of depth next) ++ others)) (add-one depth)
    ∙ ap (λ es. event ∷ es) (append_assoc (events_of (suc depth) inner) (LogEnds (suc depth) ∷ events_of depth next) others)

opened_are : (count : ℕ) (event : Event) (number : ℕ) (events : List Event) (contents : List Contents) → Are (suc count) events contents
    → Are count (event ∷ events) (with_opened event number contents)
opened_are count event number events [] are = absurd are.levels
opened_are count event number events (inner ∷ []) are = absurd are.levels
opened_are zero event number events (inner ∷ next ∷ []) are = record { levels = tt; same = ap (λ es. event ∷ es) are.same }
opened_are zero event number events (inner ∷ next ∷ more ∷ outer) are = absurd are.levels
opened_are (suc count) event number events (inner ∷ next ∷ outer) are = record {
  levels = are.levels;
  same = opened_same (suc count) event number inner next (LogEnds (suc count) ∷ events_from count outer) ∙ ap (λ es. event ∷ es) are.same;
}

ends_are : (count : ℕ) (events : List Event) (contents : List Contents) → Are count events contents
    → Are (suc count) (LogEnds (suc count) ∷ events) (Nothing ∷ contents)
ends_are count events contents are = record { levels = are.levels; same = ap (λ es. LogEnds (suc count) ∷ es) are.same }

-- The property of the events after one event, if these events are nested.
abbrev Later : List Event → Type 0
Later events = (count : ℕ) → open_after_all count events ≡ Some 0 → Are count events (contents_from events)

-- A line about a target, whose depth is the number of open logs.
line_are : (same : Bool) (count : ℕ) (opening : Opening) (event : Event) (events : List Event) → Later events
    → option_and_then (λ (next : ℕ). open_after_all next events) (if same then Some (with_opening opening count) else None) ≡ Some 0
    → Are count (event ∷ events) (with_first event (number_of_opening opening) (contents_from events))
line_are false count opening event events later nested = absurd (none-some 0 nested)
line_are true count NotOpened event events later nested = shown_are count event events (contents_from events) (later count nested)
line_are true count (OpenedBefore number) event events later nested =
    shown_are count event events (contents_from events) (later count nested)
line_are true count (OpensHere number) event events later nested =
    opened_are count event number events (contents_from events) (later (suc count) nested)

entry_are : (same : Bool) (count : ℕ) (event : Event) (events : List Event) → Later events
    → option_and_then (λ (next : ℕ). open_after_all next events) (if same then Some count else None) ≡ Some 0
    → Are count (event ∷ events) (with_shown event (contents_from events))
entry_are false count event events later nested = absurd (none-some 0 nested)
entry_are true count event events later nested = shown_are count event events (contents_from events) (later count nested)

end_are : (same : Bool) (outer depth : ℕ) (events : List Event) → nat_eq (suc outer) depth ≡ same → Later events
    → option_and_then (λ (next : ℕ). open_after_all next events) (if same then Some outer else None) ≡ Some 0
    → Are (suc outer) (LogEnds depth ∷ events) (Nothing ∷ contents_from events)
end_are false outer depth events is later nested = absurd (none-some 0 nested)
end_are true outer depth events is later nested =
    subst (λ (d : ℕ). Are (suc outer) (LogEnds d ∷ events) (Nothing ∷ contents_from events)) (eqb-true (suc outer) depth is)
    (ends_are outer events (contents_from events) (later outer nested))

event_are : (event : Event) (events : List Event) → Later events → Later (event ∷ events)
event_are (Requested name opening) events later count nested =
    line_are (nat_eq count 0) count opening (Requested name opening) events later nested
event_are (Mentioned depth pid how name opening) events later count nested =
    line_are (nat_eq count depth) count opening (Mentioned depth pid how name opening) events later nested
event_are (EntryShown depth entry) events later count nested =
    entry_are (nat_eq count depth) count (EntryShown depth entry) events later nested
event_are (LogEnds depth) events later zero nested = absurd (none-some 0 nested)
event_are (LogEnds depth) events later (suc outer) nested = end_are (nat_eq (suc outer) depth) outer depth events refl later nested

all_are : (events : List Event) → Later events
all_are [] count nested = subst (λ (n : ℕ). Are n [] (Nothing ∷ [])) (sym (same_Some count 0 nested)) (record { levels = tt; same = refl })
all_are (event ∷ events) count nested = event_are event events (all_are events) count nested

innermost_same : (events : List Event) (contents : List Contents) → Are 0 events contents → events_of 0 (innermost contents) ≡ events
innermost_same events [] are = absurd are.levels
innermost_same events (inner ∷ outer) are = are.same

pub are_in_contents : ((logs : List Log) (options : Options) (requested : List (List ℕ)) → AreNested logs options requested)
    → (logs : List Log) (options : Options) (requested : List (List ℕ)) → AreInContents logs options requested
are_in_contents nested logs options requested known =
    let events = shown_events logs options requested in
    innermost_same events (contents_from events) (all_are events 0 (nested logs options requested known))
