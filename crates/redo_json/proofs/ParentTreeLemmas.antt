-- Which log each log is opened in: a log that mentions its target, and no log that ended before does.
use Rattle.std.proofs.Common.{◌≡◌, ◌≢◌, ℕ, true, false, List, [], ◌∷◌, Option, None, Some}
use Rattle.redo_logs.specs.Logs.{Log, log_number}
use Rattle.redo_view.specs.Event.{Event}
use Rattle.redo_view.specs.Event.Event.{Requested, Mentioned, EntryShown, LogEnds}
use Rattle.redo_view.specs.Expansion.{is_among}
use Rattle.redo_outline.specs.Contents.{Contents, contents_from, contents_of, innermost, number_of_opening, with_event, with_first, with_opened, with_shown}
use Rattle.redo_outline.specs.Contents.Contents.{Nothing, Shown, Opened}
use Rattle.redo_outline.specs.Facts.{target_at}
use Rattle.redo_json.specs.Build.{Request}
use Rattle.redo_json.specs.Laws.{log_mentions}

-- The target of the log in which something is, if it is in one.
abbrev pub Parent : Type 0
Parent = Option (List ℕ)

-- The targets of the logs that ended, after the end of one more.
abbrev pub with_end : Parent → List (List ℕ) → List (List ℕ)
with_end None ended = ended
with_end (Some target) ended = target ∷ ended

module _ (request : Request) (logs : List Log) (requested : List (List ℕ)) where
  -- Why the log of a target is opened here: it is requested, or the log around it mentions it.
  abbrev pub HasReason : Parent → List ℕ → Type 0
  HasReason None target = is_among target requested ≡ true
  HasReason (Some parent) target = (target ≢ parent) × (log_mentions request logs parent target ≡ true)

  -- The log with this number is opened in the log of `parent`. `ended` are the targets of the logs that ended before.
  pub record Opens (parent : Parent) (ended : List (List ℕ)) (number : ℕ) : Type 0 where
    pub is_own : log_number (target_at logs number) logs ≡ Some number
    pub reason : HasReason parent (target_at logs number)
    pub unmentioned : (other : List ℕ) → is_among other ended ≡ true → log_mentions request logs other (target_at logs number) ≡ false

  -- ---- events

  abbrev pub NextFits : (List Parent → List (List ℕ) → Type 0) → Parent → List Parent → List (List ℕ) → Option ℕ → Type 0
  NextFits fits parent outer ended None = fits (parent ∷ outer) ended
  NextFits fits parent outer ended (Some number) = Opens parent ended number × fits (Some (target_at logs number) ∷ parent ∷ outer) ended

  -- Each log that these events open is opened in such a log. `parents` are the targets of the open logs, the innermost one first.
  abbrev pub Fits : List Event → List Parent → List (List ℕ) → Type 0
  Fits [] parents ended = Unit {0}
  Fits (event ∷ events) [] ended = Unit {0}
  Fits (Requested name opening ∷ events) (parent ∷ outer) ended = NextFits (Fits events) parent outer ended (number_of_opening opening)
  Fits (Mentioned depth pid how name opening ∷ events) (parent ∷ outer) ended =
      NextFits (Fits events) parent outer ended (number_of_opening opening)
  Fits (EntryShown depth entry ∷ events) (parent ∷ outer) ended = Fits events (parent ∷ outer) ended
  Fits (LogEnds depth ∷ events) (parent ∷ outer) ended = Fits events outer (with_end parent ended)

  -- ---- contents

  -- The targets of the logs that ended, after these contents.
  abbrev pub ended_after : Contents → List (List ℕ) → List (List ℕ)
  ended_after Nothing ended = ended
  ended_after (Shown event rest) ended = ended_after rest ended
  ended_after (Opened event number inside rest) ended = ended_after rest (target_at logs number ∷ ended_after inside ended)

  -- Each log in these contents is opened in such a log.
  abbrev pub AreRight : Parent → List (List ℕ) → Contents → Type 0
  AreRight parent ended Nothing = Unit {0}
  AreRight parent ended (Shown event rest) = AreRight parent ended rest
  AreRight parent ended (Opened event number inside rest) =
      Opens parent ended number × AreRight (Some (target_at logs number)) ended inside
      × AreRight parent (target_at logs number ∷ ended_after inside ended) rest

  -- The same of the contents of the open logs, the innermost log first.
  abbrev AllRight : List Parent → List (List ℕ) → List Contents → Type 0
  AllRight parents ended [] = Unit {0}
  AllRight [] ended (inner ∷ outer) = Unit {0}
  AllRight (parent ∷ parents) ended (inner ∷ outer) =
      AreRight parent ended inner × AllRight parents (with_end parent (ended_after inner ended)) outer

  none_right : (ended : List (List ℕ)) (contents : List Contents) → AllRight [] ended contents
  none_right ended [] = tt
  none_right ended (inner ∷ outer) = tt

  shown_right : (event : Event) (parent : Parent) (outer : List Parent) (ended : List (List ℕ)) (contents : List Contents)
      → AllRight (parent ∷ outer) ended contents → AllRight (parent ∷ outer) ended (with_shown event contents)
  shown_right event parent outer ended [] all = tt
  shown_right event parent outer ended (inner ∷ others) all = (all.0, all.1)

  opened_right : (event : Event) (number : ℕ) (parent : Parent) (outer : List Parent) (ended : List (List ℕ)) → Opens parent ended number
      → (contents : List Contents) → AllRight (Some (target_at logs number) ∷ parent ∷ outer) ended contents
      → AllRight (parent ∷ outer) ended (with_opened event number contents)
  opened_right event number parent outer ended opens [] all = tt
  opened_right event number parent outer ended opens (inner ∷ []) all = ((opens, all.0, tt), tt)
  opened_right event number parent outer ended opens (inner ∷ next ∷ others) all = ((opens, all.0, all.1.0), all.1.1)

  -- The contents from these events on, if the events fit.
  abbrev IsRightFrom : List Event → List Contents → Type 0
  IsRightFrom events contents =
      (parents : List Parent) (ended : List (List ℕ)) → Fits events parents ended → AllRight parents ended contents

  first_right : (event : Event) (opened : Option ℕ) (events : List Event) (contents : List Contents) → IsRightFrom events contents
      → (parent : Parent) (outer : List Parent) (ended : List (List ℕ)) → NextFits (Fits events) parent outer ended opened
      → AllRight (parent ∷ outer) ended (with_first event opened contents)
  first_right event None events contents right parent outer ended fits =
      shown_right event parent outer ended contents (right (parent ∷ outer) ended fits)
  first_right event (Some number) events contents right parent outer ended fits =
      opened_right event number parent outer ended fits.0 contents
      (right (Some (target_at logs number) ∷ parent ∷ outer) ended fits.1)

  event_right : (event : Event) (events : List Event) (contents : List Contents) → IsRightFrom events contents
      → IsRightFrom (event ∷ events) (with_event event contents)
  event_right event events contents right [] ended fits = none_right ended (with_event event contents)
  event_right (Requested name opening) events contents right (parent ∷ outer) ended fits =
      first_right (Requested name opening) (number_of_opening opening) events contents right parent outer ended fits
  event_right (Mentioned depth pid how name opening) events contents right (parent ∷ outer) ended fits =
      first_right (Mentioned depth pid how name opening) (number_of_opening opening) events contents right parent outer ended fits
  event_right (EntryShown depth entry) events contents right (parent ∷ outer) ended fits =
      shown_right (EntryShown depth entry) parent outer ended contents (right (parent ∷ outer) ended fits)
  event_right (LogEnds depth) events contents right (parent ∷ outer) ended fits = (tt, right outer (with_end parent ended) fits)

  events_right : (events : List Event) → IsRightFrom events (contents_from events)
  events_right [] [] ended fits = tt
  events_right [] (parent ∷ outer) ended fits = (tt, tt)
  events_right (event ∷ events) parents ended fits =
      event_right event events (contents_from events) (events_right events) parents ended fits

  pub contents_right : (events : List Event) → Fits events (None ∷ []) [] → AreRight None [] (contents_of events)
  contents_right events fits = by (contents_from events) (events_right events (None ∷ []) [] fits)
    where
      by : (contents : List Contents) → AllRight (None ∷ []) [] contents → AreRight None [] (innermost contents)
      by [] all = tt
      by (inner ∷ outer) all = all.0
