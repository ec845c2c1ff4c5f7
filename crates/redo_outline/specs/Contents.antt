-- The shown events as a tree: the contents of each log, with the logs that are opened in it.
use Rattle.std.specs.Prelude.{ℕ, List, [], ◌∷◌, Option, None, Some}
use Rattle.redo_view.specs.declared.event.Opening.{Opening}
use Rattle.redo_view.specs.declared.event.Opening.TheVariants.{NotOpened, OpenedBefore, OpensHere}
use Rattle.redo_view.specs.Event.{Event}
use Rattle.redo_view.specs.Event.Event.{Requested, Mentioned, EntryShown, LogEnds}

-- The contents of a log, in order. The requested targets' logs are contained in the whole.
pub data Contents : Type 0 where
  Nothing : Contents
  -- An event that opens no log, and the contents after it.
  Shown : Event → Contents → Contents
  -- An event that opens the log with this number, the contents of this log, and the contents after its end.
  Opened : Event → ℕ → Contents → Contents → Contents

abbrev pub number_of_opening : Opening → Option ℕ
number_of_opening NotOpened = None
number_of_opening (OpenedBefore number) = None
number_of_opening (OpensHere number) = Some number

-- The number of the log that an event opens, if it opens one.
abbrev pub opened_number : Event → Option ℕ
opened_number (Requested name opening) = number_of_opening opening
opened_number (Mentioned depth pid how name opening) = number_of_opening opening
opened_number (EntryShown depth entry) = None
opened_number (LogEnds depth) = None

-- The innermost open log contains this event first. It opens no log.
abbrev pub with_shown : Event → List Contents → List Contents
with_shown event [] = []
with_shown event (inner ∷ outer) = Shown event inner ∷ outer

-- The innermost open log is the one that this event opens. The log around it contains it first.
abbrev pub with_opened : Event → ℕ → List Contents → List Contents
with_opened event number [] = []
with_opened event number (inner ∷ []) = Opened event number inner Nothing ∷ []
with_opened event number (inner ∷ next ∷ outer) = Opened event number inner next ∷ outer

abbrev pub with_first : Event → Option ℕ → List Contents → List Contents
with_first event None contents = with_shown event contents
with_first event (Some number) contents = with_opened event number contents

abbrev pub with_event : Event → List Contents → List Contents
with_event (LogEnds depth) contents = Nothing ∷ contents
with_event event contents = with_first event (opened_number event) contents

-- The contents from these events on of the logs that are open before them, the innermost log first.
abbrev pub contents_from : List Event → List Contents
contents_from [] = Nothing ∷ []
contents_from (event ∷ events) = with_event event (contents_from events)

abbrev pub innermost : List Contents → Contents
innermost [] = Nothing
innermost (inner ∷ outer) = inner

-- The tree of all events.
abbrev pub contents_of : List Event → Contents
contents_of events = innermost (contents_from events)
