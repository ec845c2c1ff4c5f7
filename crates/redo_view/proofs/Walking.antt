-- How far a viewer came that shows nested logs.
use Rattle.std.proofs.Common.{◌≡◌, ℕ, zero, suc, ◌+◌, ◌≤◌, ◌<◌, Bool, true, false, inl, inr, List, [], ◌∷◌, ◌++◌, Option, None, Some, Result, Ok, Err, length, drop, slice_get, refl, sym, ap, ◌∙◌, subst, arith}
use Rattle.std.specs.Prelude.{option_and_then, if◌then◌else◌}
use Rattle.std.proofs.lemmas.List.{append_assoc, append-nil, drop_all, drop_more, length-append, length-drop, length-set}
use Rattle.std.proofs.lemmas.Option.{get_or_from_slice_get, none-some, same_Some, slice_get_cases, slice_get_within}
use Rattle.std.specs.List.{flat_map}
use Rattle.redo_line.proofs.LineLemmas.{only_lines}
use Rattle.redo_line.specs.Lines.{ended, rest, with_line_feed}
use Rattle.redo_line.specs.declared.entry.Entry.{Entry}
use Rattle.redo_line.specs.declared.entry.Entry.TheVariants as entry
use Rattle.redo_device.specs.Sink.{Output}
use Rattle.redo_logs.specs.declared.numbered.NumberedEntry.{NumberedEntry}
use Rattle.redo_logs.specs.declared.numbered.NumberedEntry.TheVariants.{Mention, Other}
use Rattle.redo_logs.specs.Logs.{Log, entry_at, log_number}
use Rattle.redo_logs.specs.Numbering.{AreLinesAt, AreTexts, IsNumbered, Numbering, numbered_value}
use Rattle.redo_view.specs.declared.log.Frame.{Frame}
use Rattle.redo_options.specs.declared.options.Options.{Options}
use Rattle.redo_view.specs.declared.entry.Visited.{Visited}
use Rattle.redo_view.specs.declared.viewer.ViewFault.{ViewFault}
use Rattle.redo_view.specs.declared.viewer.ViewFault.TheVariants.{OutOfMemory}
use Rattle.redo_view.specs.declared.viewer.Viewer.{Viewer}
use Rattle.redo_view.specs.Event.{Event}
use Rattle.redo_view.specs.Event.Event.{EntryShown, LogEnds}
use Rattle.redo_view.specs.Expansion.{ShowLog, ViewState, show_entries, show_entry, begin_log, end_log, entries_of_target, is_mention, show_log, append_event}
use Rattle.redo_view.specs.Form.{bytes_of, text_events}
use Rattle.redo_view.specs.Private.Progress.{BeginsLog, HasShown, MatchesFlags, ShowedLogOrFailed}
use Rattle.redo_view.specs.Private.EntryEffect.{Fits, is_set, set_flag, named_after, nested_log, own_events}
use Rattle.redo_view.specs.Private.Rendering.{Rendering, rendered}
use Rattle.redo_view.specs.Private.WriteResult.{WroteUntilFault}
use Rattle.redo_view.specs.Private.Viewing.{KeepsContext, rendering_of}
use Rattle.redo_view.specs.Private.Viewing as viewing
use Rattle.redo_view.proofs.Flags.{named_is, nested_log_is, nested_log_is_new, events_are}
use Rattle.redo_view.proofs.OneEntry.{mid}
use Rattle.redo_view.proofs.OneEntry as one
use Rattle.redo_view.proofs.Equation.{show_log_equation}
use Rattle.redo_view.proofs.Rendered.{events_prefix, events_stopped, rendered-nothing, rendered-rendered}
use Rattle.redo_view.proofs.Shifting.{OpensOne, entry-alone, entry-should_open, first_log, log_events-grow, events-grow}

-- ---- the entries of a log

abbrev entries_in : Option Log → List Entry
entries_in None = []
entries_in (Some log) = log.entries

-- The entries of the log with this number.
abbrev pub entries_at : ℕ → List Log → List Entry
entries_at number logs = entries_in (slice_get logs number)

entry_in : (number k : ℕ) (logs : List Log) → entry_at number k logs ≡ slice_get (entries_at number logs) k
entry_in number k logs = by (slice_get logs number)
  where
    by : (log : Option Log) → option_and_then (λ (l : Log). slice_get l.entries k) log ≡ slice_get (entries_in log) k
    by None = refl
    by (Some log) = refl

-- Two lists with the same entries at the same positions are equal.
same_entries : (xs ys : List Entry) → ((k : ℕ) → slice_get xs k ≡ slice_get ys k) → xs ≡ ys
same_entries [] [] same = refl
same_entries [] (y ∷ ys) same = absurd (none-some y (same 0))
same_entries (x ∷ xs) [] same = absurd (none-some x (sym (same 0)))
same_entries (x ∷ xs) (y ∷ ys) same = λ i. same_Some x y (same 0) i ∷ same_entries xs ys (λ k. same (suc k)) i

-- These are the entries of the log's target.
pub entries_of : (target : List ℕ) (logs : List Log) (number : ℕ) → log_number target logs ≡ Some number
    → entries_at number logs ≡ entries_of_target target logs
entries_of target logs number looked_up =
    same_entries (entries_at number logs) (entries_of_target target logs)
    (λ k. sym (entry_in number k logs) ∙ (first_log target logs number looked_up).1 k)

-- An entry, and the entries after it.
drop_one : (k : ℕ) (entries : List Entry) (entry : Entry) → slice_get entries k ≡ Some entry → drop k entries ≡ entry ∷ drop (k + 1) entries
drop_one k entries entry at =
    drop_more entries k entry (slice_get_within entries k entry at)
    ∙ ap (λ e. e ∷ drop (k + 1) entries) (get_or_from_slice_get entries k entry entry at)

drop_none : (k : ℕ) (entries : List Entry) → slice_get entries k ≡ None → drop k entries ≡ []
drop_none k entries none = elim ((slice_get_cases entries k).1)
    [ inl there ↦ absurd (none-some there.0 (sym none ∙ there.2)) | inr past ↦ drop_all k entries past.0 ]

-- The texts of lines are these lines.
lines_texts : (logs : List Log) (i k : ℕ) (lines : List ℕ) (count : ℕ) (are : AreLinesAt logs i k lines count) → ended lines ≡ are.texts
lines_texts logs i k lines count are =
    sym (only_lines lines are.texts [] (record {
      whole = are.bytes_are ∙ sym (append-nil (flat_map with_line_feed are.texts));
      lines_hold_none = are.no_line_feeds;
      rest_holds_none = tt;
    })).0

-- No rest follows them.
pub lines_rest : (logs : List Log) (i k : ℕ) (lines : List ℕ) (count : ℕ) → AreLinesAt logs i k lines count → rest lines ≡ []
lines_rest logs i k lines count are =
    sym (only_lines lines are.texts [] (record {
      whole = are.bytes_are ∙ sym (append-nil (flat_map with_line_feed are.texts));
      lines_hold_none = are.no_line_feeds;
      rest_holds_none = tt;
    })).1

-- ---- frames

module _ (logs : List Log) where
  -- The entries that are left of a frame's log.
  abbrev pub left_of : Frame → List Entry
  left_of frame = drop frame.next_entry (entries_at frame.log logs)

  module _ (options : Options) where
    -- The state after these entries and the end of the log.
    abbrev pub gone_over : ℕ → Frame → ViewState → ViewState
    gone_over depth frame state = end_log depth (show_entries logs options (show_log logs options) depth (left_of frame) state)

    -- The state after all frames. The outermost frame is first in the list.
    abbrev pub finished : ℕ → List Frame → ViewState → ViewState
    finished depth [] state = state
    finished depth (frame ∷ frames) state = gone_over depth frame (finished (depth + 1) frames state)

    -- The innermost frame is finished before all others.
    finished_last : (depth : ℕ) (frames : List Frame) (frame : Frame) (state : ViewState)
        → finished depth (frames ++ frame ∷ []) state ≡ finished depth frames (gone_over (depth + length frames) frame state)
    finished_last depth [] frame state = ap (λ (d : ℕ). gone_over d frame state) (omega arith)
    finished_last depth (one ∷ frames) frame state =
        ap (gone_over depth one) (finished_last (depth + 1) frames frame state
        ∙ ap (λ (d : ℕ). finished (depth + 1) frames (gone_over d frame state)) (omega arith))

    -- The events shown before stay a prefix.
    over_grows : (depth : ℕ) (frame : Frame) (state : ViewState)
        → (rest : List Event) × ((gone_over depth frame state).events ≡ state.events ++ rest)
    over_grows depth frame state =
        let more = events-grow logs options depth (left_of frame) state in
        (more.0 ++ LogEnds depth ∷ [], ap (λ t. t ++ LogEnds depth ∷ []) more.1 ∙ append_assoc state.events more.0 (LogEnds depth ∷ []))

    finished_grows : (depth : ℕ) (frames : List Frame) (state : ViewState)
        → (rest : List Event) × ((finished depth frames state).events ≡ state.events ++ rest)
    finished_grows depth [] state = ([], sym (append-nil state.events))
    finished_grows depth (frame ∷ frames) state =
        let inner = finished_grows (depth + 1) frames state in
        let outer = over_grows depth frame (finished (depth + 1) frames state) in
        (inner.0 ++ outer.0, outer.1 ∙ ap (λ t. t ++ outer.0) inner.1 ∙ append_assoc state.events inner.0 outer.0)

-- ---- how far a viewer came

module _ {F : Type 0} (bytes : F → Event → List ℕ) (form_after : F → Event → F) (numbering : Numbering) (options : Options)
    (first : Rendering F) (whole : ViewState) where
  abbrev logs : List Log
  logs = numbering.logs

  abbrev show : ShowLog
  show = show_log logs options

  abbrev after_events : Rendering F → List Event → Rendering F
  after_events now events = rendered bytes form_after now events

  -- How much of these events was written, and of the whole.
  abbrev Stopped : Rendering F → Option Output → List Event → ViewFault → Type 0
  Stopped now after events fault = WroteUntilFault now.output after (bytes_of bytes form_after now.form events) fault

  -- The viewer shows the log of the innermost frame, whose depth is one more than the number of frames around it. The rest of the
  -- frames completes `whole`.
  pub record Walks (now : Rendering F) (visited : Visited) (outer : List Frame) (frame : Frame) : Type 0 where
    pub state : ViewState
    pub has : HasShown bytes form_after numbering first now visited state
    pub is : finished logs options 1 outer (gone_over logs options (length outer + 1) frame state) ≡ whole

  module _ (now : Rendering F) (visited : Visited) (outer : List Frame) (frame : Frame) (walks : Walks now visited outer frame) where
    abbrev depth : ℕ
    depth = length outer + 1

    -- More events were shown.
    shown_then : (after : Rendering F) (events : List Event) → after ≡ after_events now events
        → after ≡ after_events first (walks.state.events ++ events)
    shown_then after events shown = shown ∙ ap (λ (r : Rendering F). after_events r events) walks.has.rendering
        ∙ rendered-rendered bytes form_after first walks.state.events events

    -- Not all of them were written.
    stopped_then : (after : Option Output) (events rest : List Event) (fault : ViewFault) → Stopped now after events fault
        → (walks.state.events ++ events) ++ rest ≡ whole.events → Stopped first after whole.events fault
    stopped_then after events rest fault wrote is =
        events_stopped bytes form_after first now after walks.state.events events rest whole.events fault walks.has.rendering wrote is

    -- ---- the end of a log

    abbrev ended_state : ViewState
    ended_state = end_log depth walks.state

    -- Nothing is left of a log but its end.
    gone : entry_at frame.log frame.next_entry logs ≡ None → gone_over logs options depth frame walks.state ≡ ended_state
    gone none =
        ap (λ entries. end_log depth (show_entries logs options show depth entries walks.state))
        (drop_none frame.next_entry (entries_at frame.log logs) (sym (entry_in frame.log frame.next_entry logs) ∙ none))

    has_ended : (after : Rendering F) → after ≡ after_events now (LogEnds depth ∷ [])
        → HasShown bytes form_after numbering first after visited ended_state
    has_ended after shown = record {
      flags = record { named = walks.has.flags.named; opened = walks.has.flags.opened };
      rendering = shown_then after (LogEnds depth ∷ []) shown;
    }

    -- Then the log around it goes on.
    pub goes_back : (after : Rendering F) (before : List Frame) (back : Frame) → after ≡ after_events now (LogEnds depth ∷ [])
        → outer ≡ before ++ back ∷ [] → entry_at frame.log frame.next_entry logs ≡ None → Walks after visited before back
    goes_back after before back shown last none = record {
      state = ended_state;
      has = has_ended after shown;
      is =
          ap (λ (d : ℕ). finished logs options 1 before (gone_over logs options d back ended_state)) (omega arith)
          ∙ sym (finished_last logs options 1 before back ended_state)
          ∙ ap (λ frames. finished logs options 1 frames ended_state) (sym last)
          ∙ ap (finished logs options 1 outer) (sym (gone none)) ∙ walks.is;
    }

    -- If there is no log around it, the whole was shown.
    pub comes_to_end : (after : Rendering F) → after ≡ after_events now (LogEnds depth ∷ []) → outer ≡ []
        → entry_at frame.log frame.next_entry logs ≡ None → HasShown bytes form_after numbering first after visited whole
    comes_to_end after shown no_outer none =
        subst (HasShown bytes form_after numbering first after visited)
        (sym (ap (λ frames. finished logs options 1 frames ended_state) no_outer) ∙ ap (finished logs options 1 outer) (sym (gone none))
        ∙ walks.is) (has_ended after shown)

    -- The end wasn't written completely.
    pub end_stopped : (after : Option Output) (fault : ViewFault) → entry_at frame.log frame.next_entry logs ≡ None
        → Stopped now after (LogEnds depth ∷ []) fault → Stopped first after whole.events fault
    end_stopped after fault none wrote =
        let all = finished_grows logs options 1 outer ended_state in
        stopped_then after (LogEnds depth ∷ []) all.0 fault wrote
        (sym all.1 ∙ ap (λ (s : ViewState). s.events) (ap (finished logs options 1 outer) (sym (gone none)) ∙ walks.is))

    -- ---- one more entry

    module _ (entry : NumberedEntry) (at : entry_at frame.log frame.next_entry logs ≡ Some (numbered_value numbering.names entry))
        (numbered : IsNumbered numbering.names entry) (fits : Fits numbering visited) where
      abbrev it : Entry
      it = numbered_value numbering.names entry

      abbrev own : List Event
      own = own_events numbering options depth visited entry

      -- The frame after it.
      abbrev next : Frame
      next = record { log = frame.log; next_entry = frame.next_entry + 1 }

      -- The state after the entry alone.
      abbrev alone : ViewState
      alone = mid logs options depth it walks.state

      one_gone : gone_over logs options depth frame walks.state
          ≡ gone_over logs options depth next (show_entry logs options show depth it walks.state)
      one_gone =
          ap (λ entries. end_log depth (show_entries logs options show depth entries walks.state))
          (drop_one frame.next_entry (entries_at frame.log logs) it (sym (entry_in frame.log frame.next_entry logs) ∙ at))

      went : finished logs options 1 outer (gone_over logs options depth next (show_entry logs options show depth it walks.state)) ≡ whole
      went = ap (finished logs options 1 outer) (sym one_gone) ∙ walks.is

      opens_then : nested_log numbering options visited.opened.items entry ≡ one.nested_log logs options walks.state.opened it
      opens_then = nested_log_is numbering visited walks.state walks.has.flags fits options entry numbered

      alone_seen : (after : Visited) → after.named.items ≡ named_after numbering options visited.named.items entry
          → after.opened.items ≡ visited.opened.items → MatchesFlags numbering after alone
      alone_seen after named opened = record {
        named = named ∙ named_is numbering visited walks.state walks.has.flags fits options entry numbered;
        opened = opened ∙ walks.has.flags.opened;
      }

      alone_is : walks.state.events ++ own ≡ alone.events
      alone_is = ap (λ own. walks.state.events ++ own)
          (events_are numbering visited walks.state walks.has.flags fits options depth entry numbered)

      shown_alone : (after : Rendering F) → after ≡ after_events now own → after ≡ after_events first alone.events
      shown_alone after shown = shown_then after own shown ∙ ap (after_events first) alone_is

      -- The entry opens no log.
      pub goes_on : (after : Rendering F) (seen : Visited) → nested_log numbering options visited.opened.items entry ≡ None
          → after ≡ after_events now own
          → seen.named.items ≡ named_after numbering options visited.named.items entry → seen.opened.items ≡ visited.opened.items
          → Walks after seen outer next
      goes_on after seen none shown named opened = record {
        state = alone;
        has = record { flags = alone_seen seen named opened; rendering = shown_alone after shown };
        is =
            ap (λ s. finished logs options 1 outer (gone_over logs options depth next s))
            (sym (entry-alone logs options show depth it walks.state (sym opens_then ∙ none)))
            ∙ went;
      }

      -- The entry opens a log.
      module _ (number : ℕ) (opens : nested_log numbering options visited.opened.items entry ≡ Some number) where
        inner : OpensOne logs options show depth number it walks.state
        inner = entry-should_open logs options show depth it walks.state number (sym opens_then ∙ opens)

        pub goes_in : (after : Rendering F) (middle seen : Visited) (frames : List Frame) (new : Frame) → after ≡ after_events now own
            → middle.named.items ≡ named_after numbering options visited.named.items entry → middle.opened.items ≡ visited.opened.items
            → BeginsLog numbering number middle seen → frames ≡ outer ++ next ∷ [] → new ≡ record { log = number; next_entry = 0 }
            → Walks after seen frames new
        goes_in after middle seen frames new shown named opened begins frames_are new_is =
            let start = begin_log inner.0 alone in
            let deeper : length frames + 1 ≡ depth + 1 = omega (arith, ap length frames_are, length-append outer (next ∷ [])) in
            record {
              state = start;
              has = record { flags = begins inner.0 alone inner.1 (alone_seen middle named opened); rendering = shown_alone after shown };
              is =
                  (λ i. finished logs options 1 (frames_are i) (gone_over logs options (deeper i) (new_is i) start))
                  ∙ finished_last logs options 1 outer next
                  (end_log (depth + 1) (show_entries logs options show (depth + 1) (entries_at number logs) start))
                  ∙ ap (λ (d : ℕ). finished logs options 1 outer
                  (gone_over logs options d next (end_log (depth + 1)
                  (show_entries logs options show (depth + 1) (entries_at number logs) start)))) (omega arith)
                  ∙ ap (λ s. finished logs options 1 outer (gone_over logs options depth next s))
                  (ap (λ entries. end_log (depth + 1) (show_entries logs options show (depth + 1) entries start))
                  (entries_of inner.0 logs number inner.1)
                  ∙ sym (show_log_equation logs options inner.0 (depth + 1) alone) ∙ sym inner.4)
                  ∙ went;
            }

      -- ---- its events weren't written completely, or the allocation after them failed

      entry_grows : (rest : List Event) × ((show_entry logs options show depth it walks.state).events ≡ alone.events ++ rest)
      entry_grows = by (nested_log numbering options visited.opened.items entry) refl
        where
          by : (o : Option ℕ) → nested_log numbering options visited.opened.items entry ≡ o
              → (rest : List Event) × ((show_entry logs options show depth it walks.state).events ≡ alone.events ++ rest)
          by None none = (
            [],
            ap (λ (s : ViewState). s.events) (entry-alone logs options show depth it walks.state (sym opens_then ∙ none))
                ∙ sym (append-nil alone.events),
          )
          by (Some number) some =
              let opens = inner number some in
              let more = log_events-grow logs options opens.0 (depth + 1) alone in
              (more.0, ap (λ (s : ViewState). s.events) opens.4 ∙ more.1)

      completed : (others : List Event) × ((walks.state.events ++ own) ++ others ≡ whole.events)
      completed =
          let near = entry_grows in
          let far = over_grows logs options depth next (show_entry logs options show depth it walks.state) in
          let all = finished_grows logs options 1 outer
          (gone_over logs options depth next (show_entry logs options show depth it walks.state)) in (
            (near.0 ++ far.0) ++ all.0,
            ap (λ t. t ++ ((near.0 ++ far.0) ++ all.0)) alone_is ∙ sym (append_assoc alone.events (near.0 ++ far.0) all.0)
                ∙ ap (λ t. t ++ all.0) (sym (append_assoc alone.events near.0 far.0) ∙ ap (λ t. t ++ far.0) (sym near.1) ∙ sym far.1)
                ∙ sym all.1 ∙ ap (λ (s : ViewState). s.events) went,
          )

      pub stops : (after : Option Output) (fault : ViewFault) → Stopped now after own fault → Stopped first after whole.events fault
      stops after fault wrote = stopped_then after own completed.0 fault wrote completed.1

      pub lacks_memory : (after : Rendering F) → after ≡ after_events now own → Stopped first after.output whole.events OutOfMemory
      lacks_memory after shown = events_prefix bytes form_after first after (walks.state.events ++ own) completed.0 whole.events
          (shown_then after own shown) completed.1

-- ---- texts

module _ {F : Type 0} (bytes : F → Event → List ℕ) (form_after : F → Event → F) (numbering : Numbering) (options : Options)
    (first : Rendering F) (whole : ViewState) (outer : List Frame) (number : ℕ) where
  -- The frame at entry `k`.
  abbrev at_entry : ℕ → Frame
  at_entry k = record { log = number; next_entry = k }

  abbrev so_deep : ℕ
  so_deep = length outer + 1

  abbrev WalksAt : Rendering F → Visited → ℕ → Type 0
  WalksAt now visited k = Walks bytes form_after numbering options first whole now visited outer (at_entry k)

  -- A viewer that was at entry `k` has shown `count` texts.
  record GoneOver (now : Rendering F) (visited : Visited) (k count : ℕ) (lines before : List Event) : Type 0 where
    walks : WalksAt (rendered bytes form_after now lines) visited (k + count)
    events_are_then : walks.state.events ≡ before ++ lines

  abbrev put : (now later : Rendering F) (visited : Visited) (k other : ℕ) → later ≡ now → other ≡ k → WalksAt now visited k
      → WalksAt later visited other
  put now later visited k other same same_entry walks = record {
    state = walks.state;
    has = record { flags = walks.has.flags; rendering = same ∙ walks.has.rendering };
    is =
        ap (λ (n : ℕ). finished numbering.logs options 1 outer (gone_over numbering.logs options so_deep (at_entry n) walks.state))
        same_entry ∙ walks.is;
  }

  over_one : (now : Rendering F) (visited : Visited) (k : ℕ) (text : List ℕ) (walks : WalksAt now visited k)
      → entry_at number k numbering.logs ≡ Some (entry.Text text)
      → GoneOver now visited k 1 (EntryShown so_deep (entry.Text text) ∷ []) walks.state.events
  over_one now visited k text walks at = record {
    walks = record {
      state = append_event own walks.state;
      has = record {
        flags = record { named = walks.has.flags.named; opened = walks.has.flags.opened };
        rendering = ap (λ (r : Rendering F). rendered bytes form_after r (own ∷ [])) walks.has.rendering
            ∙ rendered-rendered bytes form_after first walks.state.events (own ∷ []);
      };
      is =
          ap (finished numbering.logs options 1 outer)
          (sym (ap (λ entries. end_log so_deep
          (show_entries numbering.logs options (show_log numbering.logs options) so_deep entries walks.state))
          (drop_one k (entries_at number numbering.logs) (entry.Text text) (sym (entry_in number k numbering.logs) ∙ at))))
          ∙ walks.is;
    };
    events_are_then = refl;
  }
    where
      own : Event
      own = EntryShown so_deep (entry.Text text)

  over_all : (now : Rendering F) (visited : Visited) (k : ℕ) (texts : List (List ℕ)) (walks : WalksAt now visited k)
      → AreTexts numbering.logs number k texts
      → GoneOver now visited k (length texts) (text_events so_deep texts) walks.state.events
  over_all now visited k [] walks are = record {
    walks = put now (rendered bytes form_after now []) visited k (k + 0) (sym (rendered-nothing bytes form_after now)) (omega arith) walks;
    events_are_then = sym (append-nil walks.state.events);
  }
  over_all now visited k (text ∷ texts) walks are =
      let own = EntryShown so_deep (entry.Text text) ∷ [] in
      let rest = text_events so_deep texts in
      let one = over_one now visited k text walks are.0 in
      let others = over_all (rendered bytes form_after now own) visited (k + 1) texts one.walks are.1 in record {
        walks = put (rendered bytes form_after (rendered bytes form_after now own) rest)
            (rendered bytes form_after now (text_events so_deep (text ∷ texts))) visited ((k + 1) + length texts)
            (k + length (text ∷ texts))
            (sym (rendered-rendered bytes form_after now own rest)) (omega arith) others.walks;
        events_are_then = others.events_are_then ∙ ap (λ t. t ++ rest) one.events_are_then ∙ append_assoc walks.state.events own rest;
      }

  -- The shown events are a prefix of the whole.
  more : (now : Rendering F) (visited : Visited) (k : ℕ) (walks : WalksAt now visited k)
      → (rest : List Event) × (walks.state.events ++ rest ≡ whole.events)
  more now visited k walks =
      let near = over_grows numbering.logs options so_deep (at_entry k) walks.state in
      let far = finished_grows numbering.logs options 1 outer (gone_over numbering.logs options so_deep (at_entry k) walks.state) in (
        near.0 ++ far.0,
        sym (append_assoc walks.state.events near.0 far.0) ∙ ap (λ t. t ++ far.0) (sym near.1) ∙ sym far.1
            ∙ ap (λ (s : ViewState). s.events) walks.is,
      )

  -- Texts weren't written completely.
  over_stopped : (now : Rendering F) (after : Option Output) (visited : Visited) (k : ℕ) (texts : List (List ℕ)) (fault : ViewFault)
      → WalksAt now visited k → AreTexts numbering.logs number k texts
      → WroteUntilFault now.output after (bytes_of bytes form_after now.form (text_events so_deep texts)) fault
      → WroteUntilFault first.output after (bytes_of bytes form_after first.form whole.events) fault
  over_stopped now after visited k texts fault walks are wrote =
      let over = over_all now visited k texts walks are in
      let rest = more (rendered bytes form_after now (text_events so_deep texts)) visited (k + length texts) over.walks in
      events_stopped bytes form_after first now after walks.state.events
      (text_events so_deep texts) rest.0 whole.events fault walks.has.rendering wrote
      (ap (λ t. t ++ rest.0) (sym over.events_are_then) ∙ rest.1)

-- ---- how much is left to do

-- The number of unopened logs.
abbrev pub count_new : List Bool → ℕ
count_new [] = 0
count_new (true ∷ opened) = count_new opened
count_new (false ∷ opened) = suc (count_new opened)

pub count_within : (opened : List Bool) → count_new opened ≤ length opened
count_within [] = omega arith
count_within (true ∷ opened) = omega (arith, count_within opened)
count_within (false ∷ opened) = omega (arith, count_within opened)

pub count-set_flag : (opened : List Bool) (number : ℕ) → number < length opened → is_set opened number ≡ false
    → suc (count_new (set_flag opened number)) ≡ count_new opened
count-set_flag [] number below new = absurd (omega (arith, below))
count-set_flag (true ∷ opened) zero below new = absurd (cc)
count-set_flag (false ∷ opened) zero below new = refl
count-set_flag (true ∷ opened) (suc number) below new = count-set_flag opened number (omega (arith, below)) new
count-set_flag (false ∷ opened) (suc number) below new = ap suc (count-set_flag opened number (omega (arith, below)) new)

-- The number of their entries, and one step more for each log.
abbrev pub unopened : List Log → List Bool → ℕ
unopened [] opened = 0
unopened (log ∷ others) [] = 0
unopened (log ∷ others) (true ∷ opened) = unopened others opened
unopened (log ∷ others) (false ∷ opened) = length log.entries + 1 + unopened others opened

unopened-set_flag : (logs : List Log) (opened : List Bool) (number : ℕ) → number < length opened → length opened ≡ length logs
    → is_set opened number ≡ false
    → unopened logs (set_flag opened number) + (length (entries_at number logs) + 1) ≡ unopened logs opened
unopened-set_flag logs [] number below same new = absurd (omega (arith, below))
unopened-set_flag [] (one ∷ opened) number below same new = absurd (omega (arith, same))
unopened-set_flag (log ∷ logs) (true ∷ opened) zero below same new = absurd (cc)
unopened-set_flag (log ∷ logs) (false ∷ opened) zero below same new = omega arith
unopened-set_flag (log ∷ logs) (true ∷ opened) (suc number) below same new =
    unopened-set_flag logs opened number (omega (arith, below)) (omega (arith, same)) new
unopened-set_flag (log ∷ logs) (false ∷ opened) (suc number) below same new =
    let inner = unopened-set_flag logs opened number (omega (arith, below)) (omega (arith, same)) new in omega (arith, inner)

module _ (logs : List Log) where
  -- The number of entries that are left of a frame, and one step more.
  abbrev work_of : Frame → ℕ
  work_of frame = length (left_of logs frame) + 1

  abbrev pub work_in : List Frame → ℕ
  work_in [] = 0
  work_in (frame ∷ frames) = work_of frame + work_in frames

  abbrev pub work : List Bool → List Frame → Frame → ℕ
  work opened outer frame = unopened logs opened + work_in outer + work_of frame

  work_last : (frames : List Frame) (frame : Frame) → work_in (frames ++ frame ∷ []) ≡ work_in frames + work_of frame
  work_last [] frame = omega arith
  work_last (one ∷ frames) frame = omega (arith, work_last frames frame)

  pub less_back : (opened : List Bool) (outer before : List Frame) (frame back : Frame) → outer ≡ before ++ back ∷ []
      → work opened before back < work opened outer frame
  less_back opened outer before frame back last = omega (arith, ap work_in last, work_last before back)

  module _ (frame : Frame) (entry : Entry) (at : entry_at frame.log frame.next_entry logs ≡ Some entry) where
    abbrev suffix : Frame
    suffix = record { log = frame.log; next_entry = frame.next_entry + 1 }

    one_less : length (left_of logs frame) ≡ length (left_of logs suffix) + 1
    one_less = ap length (drop_one frame.next_entry (entries_at frame.log logs) entry (sym (entry_in frame.log frame.next_entry logs) ∙ at))
        ∙ omega arith

    pub less_on : (opened : List Bool) (outer : List Frame) → work opened outer suffix < work opened outer frame
    less_on opened outer = omega (arith, one_less)

    pub less_in : (opened : List Bool) (outer frames : List Frame) (number : ℕ) → number < length opened → length opened ≡ length logs
        → is_set opened number ≡ false
        → frames ≡ outer ++ suffix ∷ [] → work (set_flag opened number) frames
        (record { log = number; next_entry = 0 }) < work opened outer frame
    less_in opened outer frames number below same new frames_are =
        omega (arith, ap work_in frames_are, work_last outer suffix, one_less, unopened-set_flag logs opened number below same new)

-- ---- the log of a target

module _ {F : Type 0} (bytes : F → Event → List ℕ) (form_after : F → Event → F) (numbering : Numbering) (options : Options) (number : ℕ)
    (before : Visited) (output : Rendering F) where
  -- The state of a viewer that shows this log.
  pub record Goes (now : Rendering F) (visited : Visited) (outer : List Frame) (frame : Frame) : Type 0 where
    pub fits : Fits numbering visited
    pub room : length outer + 1 + count_new visited.opened.items ≤ length numbering.logs
    pub walks : (target : List ℕ) (first : Rendering F) (state : ViewState) → log_number target numbering.logs ≡ Some number
        → HasShown bytes form_after numbering first output before state
        → Walks bytes form_after numbering options first (show_log numbering.logs options target 1 state) now visited outer frame

  -- At the start.
  pub goes_first : (after : Visited) (outer : List Frame) → number < length numbering.logs → is_set before.opened.items number ≡ false
      → Fits numbering before → Fits numbering after
      → after.opened.items ≡ set_flag before.opened.items number → BeginsLog numbering number before after → outer ≡ []
      → Goes output after outer (record { log = number; next_entry = 0 })
  goes_first after outer below new fits fits_after opened begins none = record {
    fits = fits_after;
    room =
        let one = count-set_flag before.opened.items number (omega (arith, below, fits.logs)) new in
        omega (arith, ap length none, ap count_new opened, one, count_within before.opened.items, fits.logs);
    walks = λ target first state looked_up has. record {
      state = begin_log target state;
      has = record { flags = begins target state looked_up has.flags; rendering = has.rendering };
      is =
          (λ i. finished numbering.logs options 1 (none i)
          (gone_over numbering.logs options (length (none i) + 1) (record { log = number; next_entry = 0 }) (begin_log target state)))
          ∙ ap (λ entries. end_log 1 (show_entries numbering.logs options (show_log numbering.logs options) 1 entries
          (begin_log target state))) (entries_of target numbering.logs number looked_up)
          ∙ sym (show_log_equation numbering.logs options target 1 state);
    };
  }

module _ {F : Type 0} {bytes : F → Event → List ℕ} {form_after : F → Event → F} {numbering : Numbering} {options : Options} {number : ℕ}
    {before : Visited} {output now : Rendering F} {visited : Visited} {outer : List Frame} {frame : Frame}
    (goes : Goes bytes form_after numbering options number before output now visited outer frame) where
  abbrev GoesThen : Rendering F → Visited → List Frame → Frame → Type 0
  GoesThen = Goes bytes form_after numbering options number before output

  abbrev shown_after : List Event → Rendering F
  shown_after events = rendered bytes form_after now events

  -- How much of these events was written, and of the log.
  abbrev PartStopped : Option Output → List Event → ViewFault → Type 0
  PartStopped after events fault = WroteUntilFault now.output after (bytes_of bytes form_after now.form events) fault

  abbrev LogStopped : Visited → Rendering F → ViewFault → Type 0
  LogStopped seen after fault = ShowedLogOrFailed bytes form_after numbering {A = Unit {0}} options number before seen output after
      (Err fault)

  -- ---- a log is at its end

  pub goes_out : (count : ℕ) (after : Rendering F) (before' : List Frame) (back : Frame) → count ≡ length outer
      → after ≡ shown_after (LogEnds (count + 1) ∷ []) → outer ≡ before' ++ back ∷ []
      → entry_at frame.log frame.next_entry numbering.logs ≡ None → GoesThen after visited before' back
  goes_out count after before' back around shown last none = record {
    fits = goes.fits;
    room = let room = goes.room in omega (arith, room, ap length last, length-append before' (back ∷ []));
    walks = λ target first state looked_up has.
        goes_back bytes form_after numbering options first (show_log numbering.logs options target 1 state) now visited outer frame
        (goes.walks target first state looked_up has) after before' back
        (shown ∙ ap (λ (n : ℕ). shown_after (LogEnds (n + 1) ∷ [])) around) last none;
  }

  no_frames : (frames : List Frame) → length frames ≡ 0 → frames ≡ []
  no_frames [] none = refl
  no_frames (one ∷ frames) none = absurd (omega (arith, none))

  -- All logs are at their end.
  pub gone_through : (count : ℕ) (after : Rendering F) (done : Unit {0}) → count ≡ length outer
      → after ≡ shown_after (LogEnds (count + 1) ∷ []) → length outer ≡ 0 → entry_at frame.log frame.next_entry numbering.logs ≡ None
      → ShowedLogOrFailed bytes form_after numbering {A = Unit {0}} options number before visited output after (Ok done)
  gone_through count after done around shown no_outer none target first state looked_up has =
      comes_to_end bytes form_after numbering options first (show_log numbering.logs options target 1 state) now visited outer frame
      (goes.walks target first state looked_up has) after
      (shown ∙ ap (λ (n : ℕ). shown_after (LogEnds (n + 1) ∷ [])) around) (no_frames outer no_outer) none

  -- The end wasn't written completely.
  pub log_end_stopped : (count : ℕ) (after : Rendering F) (seen : Visited) (fault : ViewFault) → count ≡ length outer
      → entry_at frame.log frame.next_entry numbering.logs ≡ None → PartStopped after.output (LogEnds (count + 1) ∷ []) fault
      → LogStopped seen after fault
  log_end_stopped count after seen fault around none wrote target first state looked_up has =
      end_stopped bytes form_after numbering options first (show_log numbering.logs options target 1 state) now visited outer frame
      (goes.walks target first state looked_up has) after.output fault none
      (subst (λ (n : ℕ). PartStopped after.output (LogEnds (n + 1) ∷ []) fault) around wrote)

  -- ---- texts

  module _ (lines : List ℕ) (number_of_lines : ℕ) (are : AreLinesAt numbering.logs frame.log frame.next_entry lines number_of_lines) where
    -- The events that they show, if `count` frames are around them.
    abbrev lines_shown : ℕ → List Event
    lines_shown count = text_events (count + 1) (ended lines)

    texts_are : (count : ℕ) → count ≡ length outer → lines_shown count ≡ text_events (length outer + 1) are.texts
    texts_are count around = λ i. text_events (around i + 1)
        (lines_texts numbering.logs frame.log frame.next_entry lines number_of_lines are i)

    abbrev beyond : Frame
    beyond = record { log = frame.log; next_entry = frame.next_entry + number_of_lines }

    pub goes_over : (count : ℕ) (after : Rendering F) → count ≡ length outer → after ≡ shown_after (lines_shown count)
        → GoesThen after visited outer beyond
    goes_over count after around shown = record {
      fits = goes.fits;
      room = goes.room;
      walks = λ target first state looked_up has.
          let whole = show_log numbering.logs options target 1 state in
          let over = over_all bytes form_after numbering options first whole outer frame.log now visited frame.next_entry are.texts
          (goes.walks target first state looked_up has) are.are in
          put bytes form_after numbering options first whole outer frame.log
          (shown_after (text_events (length outer + 1) are.texts)) after visited (frame.next_entry + length are.texts)
          (frame.next_entry + number_of_lines)
          (shown ∙ ap shown_after (texts_are count around)) (ap (λ (n : ℕ). frame.next_entry + n) (sym are.count_is)) over.walks;
    }

    pub lines_stopped : (count : ℕ) (after : Rendering F) (seen : Visited) (fault : ViewFault) → count ≡ length outer
        → PartStopped after.output (lines_shown count) fault → LogStopped seen after fault
    lines_stopped count after seen fault around wrote target first state looked_up has =
        over_stopped bytes form_after numbering options first
        (show_log numbering.logs options target 1 state) outer frame.log now after.output visited frame.next_entry are.texts fault
        (goes.walks target first state looked_up has) are.are
        (subst (λ events. PartStopped after.output events fault) (texts_are count around) wrote)

    there : (texts : List (List ℕ)) → AreTexts numbering.logs frame.log frame.next_entry texts → length texts ≡ number_of_lines
        → 0 < number_of_lines → frame.next_entry < length (entries_at frame.log numbering.logs)
    there [] all is some = absurd (omega (arith, is, some))
    there (text ∷ texts) all is some = slice_get_within (entries_at frame.log numbering.logs) frame.next_entry (entry.Text text)
        (sym (entry_in frame.log frame.next_entry numbering.logs) ∙ all.0)

    pub less_over : 0 < number_of_lines
        → work numbering.logs visited.opened.items outer beyond < work numbering.logs visited.opened.items outer frame
    less_over some =
        let entries = entries_at frame.log numbering.logs in
        let below = there are.texts are.are are.count_is some in
        omega (arith, below, some, length-drop frame.next_entry entries, length-drop (frame.next_entry + number_of_lines) entries)

  -- ---- one more entry

  module _ (entry : NumberedEntry) (at : entry_at frame.log frame.next_entry numbering.logs ≡ Some (numbered_value numbering.names entry))
      (numbered : IsNumbered numbering.names entry) where
    -- The events that it shows, if `count` frames are around it.
    abbrev own_of : ℕ → List Event
    own_of count = own_events numbering options (count + 1) visited entry

    abbrev further : Frame
    further = record { log = frame.log; next_entry = frame.next_entry + 1 }

    length_after : (entry : NumberedEntry) → length (named_after numbering options visited.named.items entry) ≡ length visited.named.items
    length_after (Mention pid how name) = by (is_mention options how)
      where
        by : (counts : Bool) → length (if counts then set_flag visited.named.items name else visited.named.items)
            ≡ length visited.named.items
        by true = length-set visited.named.items name true
        by false = refl
    length_after (Other other) = refl

    pub fits_then : (seen : Visited) → seen.named.items ≡ named_after numbering options visited.named.items entry
        → seen.opened.items ≡ visited.opened.items → Fits numbering seen
    fits_then seen named opened = record {
      names_differ = goes.fits.names_differ;
      table = goes.fits.table;
      names = ap length named ∙ length_after entry ∙ goes.fits.names;
      logs = ap length opened ∙ goes.fits.logs;
    }

    -- The entry opened no log.
    pub goes_further : (count : ℕ) (after : Rendering F) (seen : Visited) → count ≡ length outer
        → nested_log numbering options visited.opened.items entry ≡ None → after ≡ shown_after (own_of count)
        → seen.named.items ≡ named_after numbering options visited.named.items entry → seen.opened.items ≡ visited.opened.items
        → GoesThen after seen outer further
    goes_further count after seen around none shown named opened = record {
      fits = fits_then seen named opened;
      room = let room = goes.room in omega (arith, room, ap count_new opened);
      walks = λ target first state looked_up has.
          goes_on bytes form_after numbering options first (show_log numbering.logs options target 1 state) now visited outer frame
          (goes.walks target first state looked_up has) entry at numbered goes.fits after seen none
          (shown ∙ ap (λ (n : ℕ). shown_after (own_of n)) around) named opened;
    }

    -- The entry opened a log.
    pub goes_deeper : (inner count : ℕ) (after : Rendering F) (middle seen : Visited) (frames : List Frame) → count ≡ length outer
        → nested_log numbering options visited.opened.items entry ≡ Some inner → after ≡ shown_after (own_of count)
        → middle.named.items ≡ named_after numbering options visited.named.items entry → middle.opened.items ≡ visited.opened.items
        → seen.opened.items ≡ set_flag middle.opened.items inner → Fits numbering seen → BeginsLog numbering inner middle seen
        → frames ≡ outer ++ further ∷ []
        → GoesThen after seen frames (record { log = inner; next_entry = 0 })
    goes_deeper inner count after middle seen frames around opens shown named same opened fits begins frames_are =
        let new = nested_log_is_new numbering options visited.opened.items inner entry opens in
        record {
          fits = fits;
          room =
              let room = goes.room in
              let one = count-set_flag visited.opened.items inner (omega (arith, new.0, goes.fits.logs)) new.1 in
              omega (
                arith,
                room,
                one,
                ap count_new (opened ∙ ap (λ flags. set_flag flags inner) same),
                ap length frames_are,
                length-append outer (further ∷ []),
              );
          walks = λ target first state looked_up has.
              goes_in bytes form_after numbering options first (show_log numbering.logs options target 1 state) now visited outer frame
              (goes.walks target first state looked_up has) entry at numbered goes.fits inner opens
              after middle seen frames (record { log = inner; next_entry = 0 })
              (shown ∙ ap (λ (n : ℕ). shown_after (own_of n)) around) named same begins frames_are refl;
        }

    -- Less is left to do.
    pub less_further : (seen : Visited) → seen.opened.items ≡ visited.opened.items
        → work numbering.logs seen.opened.items outer further < work numbering.logs visited.opened.items outer frame
    less_further seen opened =
        subst (λ flags. work numbering.logs flags outer further < work numbering.logs visited.opened.items outer frame) (sym opened)
        (less_on numbering.logs frame (numbered_value numbering.names entry) at visited.opened.items outer)

    pub less_deeper : (inner : ℕ) (middle seen : Visited) (frames : List Frame)
        → nested_log numbering options visited.opened.items entry ≡ Some inner → middle.opened.items ≡ visited.opened.items
        → seen.opened.items ≡ set_flag middle.opened.items inner → frames ≡ outer ++ further ∷ []
        → work numbering.logs seen.opened.items frames
        (record { log = inner; next_entry = 0 }) < work numbering.logs visited.opened.items outer frame
    less_deeper inner middle seen frames opens same opened frames_are =
        let new = nested_log_is_new numbering options visited.opened.items inner entry opens in
        subst (λ flags. work numbering.logs flags frames
        (record { log = inner; next_entry = 0 }) < work numbering.logs visited.opened.items outer frame)
        (sym (opened ∙ ap (λ flags. set_flag flags inner) same))
        (less_in numbering.logs frame (numbered_value numbering.names entry) at visited.opened.items outer frames inner
        (omega (arith, new.0, goes.fits.logs)) goes.fits.logs new.1 frames_are)

    -- Its events weren't written completely.
    pub entry_stopped : (count : ℕ) (after : Rendering F) (seen : Visited) (fault : ViewFault) → count ≡ length outer
        → PartStopped after.output (own_of count) fault → LogStopped seen after fault
    entry_stopped count after seen fault around wrote target first state looked_up has =
        stops bytes form_after numbering options first (show_log numbering.logs options target 1 state) now visited outer frame
        (goes.walks target first state looked_up has) entry at numbered goes.fits after.output fault
        (subst (λ (n : ℕ). PartStopped after.output (own_of n) fault) around wrote)

    -- Its events were written, but the allocation of another frame failed.
    pub memory_lacked : (count : ℕ) (after : Rendering F) (seen : Visited) → count ≡ length outer → after ≡ shown_after (own_of count)
        → LogStopped seen after OutOfMemory
    memory_lacked count after seen around shown target first state looked_up has =
        lacks_memory bytes form_after numbering options first (show_log numbering.logs options target 1 state) now visited outer frame
        (goes.walks target first state looked_up has) entry at numbered goes.fits after
        (shown ∙ ap (λ (n : ℕ). shown_after (own_of n)) around)

-- ---- a viewer

pub same_context : {F W : Type 0} {before after : Viewer F W} → after.logs.now ≡ before.logs.now → after.options ≡ before.options
    → after.form.ghost_name ≡ before.form.ghost_name → after.out.ghost_name ≡ before.out.ghost_name → KeepsContext before after
same_context logs options form out = record { logs = logs; options = options; form = form; out = out }

pub context_then : {F W : Type 0} {before now after : Viewer F W} → KeepsContext before now → KeepsContext now after
    → KeepsContext before after
context_then first later = same_context (later.logs ∙ first.logs) (later.options ∙ first.options) (later.form ∙ first.form)
    (later.out ∙ first.out)

-- Since it began to show this log, the viewer kept its logs, options, form and writer, and it is at this frame.
pub record Stands {F W : Type 0} (bytes : F → Event → List ℕ) (form_after : F → Event → F) (written : W → Option Output) (number : ℕ)
    (before now : Viewer F W) (outer : List Frame) (frame : Frame) : Type 0 where
  pub context : KeepsContext before now
  pub goes : Goes bytes form_after now.logs.now now.options number before.visited.now (rendering_of written before)
      (rendering_of written now) now.visited.now outer frame

module _ {F W : Type 0} {bytes : F → Event → List ℕ} {form_after : F → Event → F} {written : W → Option Output} {number : ℕ}
    {before now : Viewer F W} {outer : List Frame} {frame : Frame}
    (stands : Stands bytes form_after written number before now outer frame) {after : Viewer F W} (kept : KeepsContext now after) where
  -- It came further.
  pub stands_then : {around : List Frame} {next : Frame}
      → Goes bytes form_after now.logs.now now.options number before.visited.now (rendering_of written before)
      (rendering_of written after) after.visited.now around next → Stands bytes form_after written number before after around next
  stands_then goes = record {
    context = context_then stands.context kept;
    goes = rw (kept.logs, kept.options) goes;
  }

  pub stopped_there : {done : Result (Unit {0}) ViewFault}
      → ShowedLogOrFailed bytes form_after now.logs.now now.options number before.visited.now after.visited.now
      (rendering_of written before) (rendering_of written after) done
      → viewing.ShowedLogOrFailed bytes form_after written number before after done
  stopped_there shows = record {
    context = context_then stands.context kept;
    shows = rw (sym stands.context.logs, sym stands.context.options) shows;
  }
