-- The state of a collector after the events of some contents.
use Rattle.std.proofs.Common.{◌≡◌, ℕ, suc, ◌+◌, Bool, true, false, ℤ, List, [], ◌∷◌, ◌++◌, Option, Some, length, refl, sym, ap, ◌∙◌, subst, arith, add-one, append_assoc, length-append}
use Rattle.std.specs.Prelude.{◌||◌, option_and_then, slice_get}
use Rattle.std.specs.List.{AllByRecursion}
use Rattle.std.proofs.lemmas.List.{append-nil}
use Rattle.redo_logs.specs.Logs.{Log}
use Rattle.redo_view.specs.declared.event.Opening.TheVariants.{NotOpened, OpenedBefore, OpensHere}
use Rattle.redo_view.specs.Event.{Event}
use Rattle.redo_view.specs.Event.Event.{Requested, Mentioned, EntryShown, LogEnds}
use Rattle.redo_view.specs.Form.{state_after}
use Rattle.redo_outline.specs.declared.collector.OpenedLog.{OpenedLog}
use Rattle.redo_outline.specs.Contents.{Contents, contents_from, contents_of, innermost, with_event, with_opened, with_shown}
use Rattle.redo_outline.specs.Contents.Contents.{Nothing, Shown, Opened}
use Rattle.redo_outline.specs.Laws.{events_of}
use Rattle.redo_outline.specs.Outline.{is_visible, log_count}
use Rattle.redo_outline.specs.Private.Collecting.{Collected, after_event, bracket, log_begun, log_ended, opened_log, parent_of, statuses_after}
use Rattle.redo_outline.specs.Private.Sweeping.{Swept, brackets_added, end_added, opening_added, others_added}
use Rattle.redo_outline.proofs.CollectingLemmas.{after}
use Rattle.redo_outline.proofs.SweepLemmas.{added-last}

-- ---- the events in contents

abbrev event_statuses : List Log → Event → List (Option ℤ) → List (Option ℤ)
event_statuses logs (Requested name opening) statuses = statuses
event_statuses logs (Mentioned depth pid how name opening) statuses = statuses
event_statuses logs (EntryShown depth entry) statuses = statuses_after logs entry statuses
event_statuses logs (LogEnds depth) statuses = statuses

abbrev event_shown : Event → Collected → Collected
event_shown event collected = record collected {
  after_others = is_visible event || collected.after_others;
  statuses = event_statuses collected.logs event collected.statuses;
}

-- Whether each event opens a log exactly where the contents say so, and none ends a log.
abbrev pub AreRight : Contents → Type 0
AreRight Nothing = Unit {0}
AreRight (Shown event rest) = ((collected : Collected) → after_event event collected ≡ event_shown event collected) × AreRight rest
AreRight (Opened event number inside rest) = ((collected : Collected) → after_event event collected ≡ log_begun number collected)
    × AreRight inside × AreRight rest

shown_right : (event : Event) (contents : List Contents)
    → ((collected : Collected) → after_event event collected ≡ event_shown event collected) → AllByRecursion AreRight contents
    → AllByRecursion AreRight (with_shown event contents)
shown_right event [] is right = tt
shown_right event (inner ∷ outer) is right = ((is, right.0), right.1)

opened_right : (event : Event) (number : ℕ) (contents : List Contents)
    → ((collected : Collected) → after_event event collected ≡ log_begun number collected) → AllByRecursion AreRight contents
    → AllByRecursion AreRight (with_opened event number contents)
opened_right event number [] is right = tt
opened_right event number (inner ∷ []) is right = ((is, right.0, tt), tt)
opened_right event number (inner ∷ next ∷ outer) is right = ((is, right.0, right.1.0), right.1.1)

event_right : (event : Event) (contents : List Contents) → AllByRecursion AreRight contents
    → AllByRecursion AreRight (with_event event contents)
event_right (Requested name NotOpened) contents right = shown_right (Requested name NotOpened) contents (λ collected. refl) right
event_right (Requested name (OpenedBefore number)) contents right =
    shown_right (Requested name (OpenedBefore number)) contents (λ collected. refl) right
event_right (Requested name (OpensHere number)) contents right =
    opened_right (Requested name (OpensHere number)) number contents (λ collected. refl) right
event_right (Mentioned depth pid how name NotOpened) contents right =
    shown_right (Mentioned depth pid how name NotOpened) contents (λ collected. refl) right
event_right (Mentioned depth pid how name (OpenedBefore number)) contents right =
    shown_right (Mentioned depth pid how name (OpenedBefore number)) contents (λ collected. refl) right
event_right (Mentioned depth pid how name (OpensHere number)) contents right =
    opened_right (Mentioned depth pid how name (OpensHere number)) number contents (λ collected. refl) right
event_right (EntryShown depth entry) contents right = shown_right (EntryShown depth entry) contents (λ collected. refl) right
event_right (LogEnds depth) contents right = (tt, right)

all_right : (events : List Event) → AllByRecursion AreRight (contents_from events)
all_right [] = (tt, tt)
all_right (event ∷ events) = event_right event (contents_from events) (all_right events)

innermost_right : (contents : List Contents) → AllByRecursion AreRight contents → AreRight (innermost contents)
innermost_right [] right = tt
innermost_right (inner ∷ outer) right = right.0

pub are_right : (events : List Event) → AreRight (contents_of events)
are_right events = innermost_right (contents_from events) (all_right events)

-- ---- opened logs, and the states that brackets lead to

-- The logs that are opened in contents. The first one has this position.
abbrev pub opened_in : Option ℕ → ℕ → Contents → List OpenedLog
opened_in parent position Nothing = []
opened_in parent position (Shown event rest) = opened_in parent position rest
opened_in parent position (Opened event number inside rest) =
    opened_log number parent ∷ (opened_in (Some position) (suc position) inside ++ opened_in parent (suc position + log_count inside) rest)

length-opened : (parent : Option ℕ) (position : ℕ) (contents : Contents) → length (opened_in parent position contents) ≡ log_count contents
length-opened parent position Nothing = refl
length-opened parent position (Shown event rest) = length-opened parent position rest
length-opened parent position (Opened event number inside rest) =
    let first = length-opened (Some position) (suc position) inside in
    let second = length-opened parent (suc position + log_count inside) rest in
    omega (
      arith,
      first,
      second,
      length-append (opened_in (Some position) (suc position) inside)
          (opened_in parent (suc position + log_count inside) rest),
    )

-- The state of a sweep after it added contents.
abbrev pub contents_added : Contents → Swept → Swept
contents_added Nothing swept = swept
contents_added (Shown event rest) swept = others_added (is_visible event) (contents_added rest swept)
contents_added (Opened event number inside rest) swept = opening_added (contents_added inside (end_added (contents_added rest swept)))

others-or : (visible others : Bool) (swept : Swept)
    → others_added (visible || others) swept ≡ others_added others (others_added visible swept)
others-or true true swept = refl
others-or true false swept = refl
others-or false others swept = refl

state_after-append : (first second : List Event) (collected : Collected)
    → state_after after collected (first ++ second) ≡ state_after after (state_after after collected first) second
state_after-append [] second collected = refl
state_after-append (event ∷ first) second collected = state_after-append first second (after collected event)

slice_get-seam : {A : Type 0} (xs : List A) (x : A) (ys : List A) → slice_get (xs ++ x ∷ ys) (length xs) ≡ Some x
slice_get-seam [] x ys = refl
slice_get-seam (y ∷ xs) x ys = slice_get-seam xs x ys

-- ---- after contents

pub record Grows (contents : Contents) (before now : Collected) : Type 0 where
  pub logs : now.logs ≡ before.logs
  pub innermost : now.innermost ≡ before.innermost
  pub opened : now.opened ≡ before.opened ++ opened_in before.innermost (length before.opened) contents
  pub brackets : (swept : Swept) → brackets_added now.brackets (others_added now.after_others swept)
      ≡ brackets_added before.brackets (others_added before.after_others (contents_added contents swept))

module _ (event : Event) (number : ℕ) (inside rest : Contents) (before : Collected) where
  abbrev begun : Collected
  begun = log_begun number before

  module _ (middle now : Collected) (first : Grows inside begun middle) (second : Grows rest (log_ended middle) now) where
    abbrev one : OpenedLog
    one = opened_log number before.innermost

    abbrev inner : List OpenedLog
    inner = opened_in (Some (length before.opened)) (suc (length before.opened)) inside

    opened_first : middle.opened ≡ before.opened ++ one ∷ inner
    opened_first =
        first.opened ∙ ap (λ (n : ℕ). (before.opened ++ one ∷ []) ++ opened_in (Some (length before.opened)) n inside)
        (length-append before.opened (one ∷ []) ∙ add-one (length before.opened))
        ∙ append_assoc before.opened (one ∷ []) inner

    parent_is : (log_ended middle).innermost ≡ before.innermost
    parent_is =
        ap (parent_of middle.opened) first.innermost
        ∙ ap (option_and_then (λ (log : OpenedLog). log.parent))
        (ap (λ opened. slice_get opened (length before.opened)) opened_first ∙ slice_get-seam before.opened one inner)

    position_is : length middle.opened ≡ suc (length before.opened) + log_count inside
    position_is = let whole = ap length opened_first in
        omega (
          arith,
          whole,
          length-append before.opened (one ∷ inner),
          length-opened (Some (length before.opened))
              (suc (length before.opened)) inside,
        )

    opened_all : now.opened ≡ before.opened ++ opened_in before.innermost (length before.opened) (Opened event number inside rest)
    opened_all =
        second.opened
        ∙ ap (λ opened. opened ++ opened_in (log_ended middle).innermost (length middle.opened) rest) opened_first
        ∙ ap (λ parent. (before.opened ++ one ∷ inner) ++ opened_in parent (length middle.opened) rest) parent_is
        ∙ ap (λ (n : ℕ). (before.opened ++ one ∷ inner) ++ opened_in before.innermost n rest) position_is
        ∙ append_assoc before.opened (one ∷ inner) (opened_in before.innermost (suc (length before.opened) + log_count inside) rest)

    brackets_all : (swept : Swept) → brackets_added now.brackets (others_added now.after_others swept)
        ≡ brackets_added before.brackets (others_added before.after_others (contents_added (Opened event number inside rest) swept))
    brackets_all swept =
        let after_rest = contents_added rest swept in
        second.brackets swept ∙ added-last middle.brackets (bracket false middle.after_others) after_rest
        ∙ first.brackets (end_added after_rest)
        ∙ added-last before.brackets (bracket true before.after_others) (contents_added inside (end_added after_rest))

    pub grows-opened : Grows (Opened event number inside rest) before now
    grows-opened = record {
      logs = second.logs ∙ first.logs;
      innermost = second.innermost ∙ parent_is;
      opened = opened_all;
      brackets = brackets_all;
    }

grows-shown : (event : Event) (rest : Contents) (before now : Collected) → Grows rest (event_shown event before) now
    → Grows (Shown event rest) before now
grows-shown event rest before now later = record {
  logs = later.logs;
  innermost = later.innermost;
  opened = later.opened;
  brackets = λ swept. later.brackets swept
      ∙ ap (brackets_added before.brackets) (others-or (is_visible event) before.after_others (contents_added rest swept));
}

pub grows : (contents : Contents) (depth : ℕ) (before : Collected) → AreRight contents
    → Grows contents before (state_after after before (events_of depth contents))
grows Nothing depth before right = record {
  logs = refl;
  innermost = refl;
  opened = sym (append-nil before.opened);
  brackets = λ swept. refl;
}
grows (Shown event rest) depth before right =
    grows-shown event rest before (state_after after before (events_of depth (Shown event rest)))
    (subst (λ (start : Collected). Grows rest (event_shown event before) (state_after after start (events_of depth rest)))
    (sym (right.0 before)) (grows rest depth (event_shown event before) right.1))
grows (Opened event number inside rest) depth before right =
    let middle = state_after after (log_begun number before) (events_of (depth + 1) inside) in
    let now = state_after after (log_ended middle) (events_of depth rest) in
    subst (λ (end : Collected). Grows (Opened event number inside rest) before end)
    (sym (ap (λ (start : Collected). state_after after start (events_of (depth + 1) inside ++ LogEnds (depth + 1) ∷ events_of depth rest))
    (right.0 before)
    ∙ state_after-append (events_of (depth + 1) inside) (LogEnds (depth + 1) ∷ events_of depth rest) (log_begun number before)))
    (grows-opened event number inside rest before middle now (grows inside (depth + 1) (log_begun number before) right.1)
    (grows rest depth (log_ended middle) right.2))
