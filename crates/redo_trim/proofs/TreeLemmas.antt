-- Trimmed events, and the tree that they make.
use Rattle.std.proofs.Common.{◌≡◌, ℕ, suc, ◌+◌, List, [], ◌∷◌, ◌++◌, Some, refl, sym, ◌∙◌, ap}
use Rattle.std.specs.List.{AllByRecursion}
use Rattle.std.proofs.lemmas.List.{append_assoc, append-nil}
use Rattle.std.proofs.lemmas.Option.{none-some}
use Rattle.redo_line.specs.declared.entry.Entry.TheVariants.{Text, Mention, Done, Closing, Note}
use Rattle.redo_view.specs.Event.{Event}
use Rattle.redo_view.specs.Event.Event.{Requested, Mentioned, EntryShown, LogEnds}
use Rattle.redo_outline.specs.Contents.{Contents, contents_of, opened_number}
use Rattle.redo_outline.specs.Contents.Contents.{Nothing, Shown, Opened}
use Rattle.redo_outline.specs.Laws.{IsPlain, OpensItsLogs, events_of}
use Rattle.redo_outline.specs.Outline.{log_count}
use Rattle.redo_outline.proofs.OnlyTree.{opens_logs, same_contents}
use Rattle.redo_trim.specs.declared.limit.Gauge.{Gauge}
use Rattle.redo_trim.specs.declared.limit.Limit.{Limit}
use Rattle.redo_trim.specs.declared.limit.Showing.{Showing}
use Rattle.redo_trim.specs.declared.limit.Showing.TheVariants as showing
use Rattle.redo_trim.specs.Laws.{AreInTree}
use Rattle.redo_trim.specs.Trim.{after_end, after_shown, gauge_of, gauges_after, kept, line_shown, line_size, showing_in, trim, trimmed, with_opened, with_shown_all, with_text}
use Rattle.redo_trim.specs.Trim as trim

-- ---- trimmed contents

shown_opens : (events : List Event) (rest : Contents) → AllByRecursion IsPlain events → OpensItsLogs rest
    → OpensItsLogs (with_shown_all events rest)
shown_opens [] rest plain are = are
shown_opens (event ∷ events) rest plain are = (plain.0, shown_opens events rest plain.1 are)

line_plain : (showing : Showing) (depth : ℕ) (line : List ℕ) → AllByRecursion IsPlain (line_shown showing depth line)
line_plain showing.Whole depth line = (refl, tt)
line_plain showing.Marker depth line = (refl, tt)
line_plain showing.Nothing depth line = tt

kept_plain : (gauges : List Gauge) (event : Event) → IsPlain event → AllByRecursion IsPlain (kept gauges event)
kept_plain gauges (Requested name opening) plain = (plain, tt)
kept_plain gauges (Mentioned depth pid how name opening) plain = (plain, tt)
kept_plain gauges (EntryShown depth (Text line)) plain = line_plain (showing_in (trim.innermost gauges) (line_size line)) depth line
kept_plain gauges (EntryShown depth (Mention pid how name)) plain = (refl, tt)
kept_plain gauges (EntryShown depth (Done pid status name)) plain = (refl, tt)
kept_plain gauges (EntryShown depth (Closing pid status)) plain = (refl, tt)
kept_plain gauges (EntryShown depth (Note pid kind text)) plain = (refl, tt)
kept_plain gauges (LogEnds depth) plain = absurd plain

kept_opening : (gauges : List Gauge) (event : Event) (number : ℕ) → opened_number event ≡ Some number → kept gauges event ≡ event ∷ []
kept_opening gauges (Requested name opening) number opens = refl
kept_opening gauges (Mentioned depth pid how name opening) number opens = refl
kept_opening gauges (EntryShown depth entry) number opens = absurd (none-some number opens)
kept_opening gauges (LogEnds depth) number opens = absurd (none-some number opens)

text_end : (size : ℕ) (gauges : List Gauge) → after_end (with_text size gauges) ≡ after_end gauges
text_end size [] = refl
text_end size (gauge ∷ outer) = refl

shown_end : (event : Event) (gauges : List Gauge) → after_end (after_shown event gauges) ≡ after_end gauges
shown_end (Requested name opening) gauges = refl
shown_end (Mentioned depth pid how name opening) gauges = refl
shown_end (EntryShown depth (Text line)) gauges = text_end (line_size line) gauges
shown_end (EntryShown depth (Mention pid how name)) gauges = refl
shown_end (EntryShown depth (Done pid status name)) gauges = refl
shown_end (EntryShown depth (Closing pid status)) gauges = refl
shown_end (EntryShown depth (Note pid kind text)) gauges = refl
shown_end (LogEnds depth) gauges = refl

append_shown : (depth : ℕ) (events : List Event) (rest : Contents)
    → events_of depth (with_shown_all events rest) ≡ events ++ events_of depth rest
append_shown depth [] rest = refl
append_shown depth (event ∷ events) rest = ap (λ es. event ∷ es) (append_shown depth events rest)

count_shown : (events : List Event) (rest : Contents) → log_count (with_shown_all events rest) ≡ log_count rest
count_shown [] rest = refl
count_shown (event ∷ events) rest = count_shown events rest

module _ (limits : List Limit) where
  trim_opens : (contents : Contents) (gauges : List Gauge) → OpensItsLogs contents → OpensItsLogs (trim limits gauges contents)
  trim_opens Nothing gauges are = tt
  trim_opens (Shown event rest) gauges are =
      shown_opens (kept gauges event) (trim limits (after_shown event gauges) rest) (kept_plain gauges event are.0)
      (trim_opens rest (after_shown event gauges) are.1)
  trim_opens (Opened event number inside rest) gauges are =
      (are.0, (trim_opens inside (gauge_of limits number ∷ gauges) are.1.0, trim_opens rest gauges are.1.1))

  pub trim_count : (contents : Contents) (gauges : List Gauge) → log_count (trim limits gauges contents) ≡ log_count contents
  trim_count Nothing gauges = refl
  trim_count (Shown event rest) gauges =
      count_shown (kept gauges event) (trim limits (after_shown event gauges) rest) ∙ trim_count rest (after_shown event gauges)
  trim_count (Opened event number inside rest) gauges =
      ap (λ (n : ℕ). suc (n + log_count (trim limits gauges rest))) (trim_count inside (gauge_of limits number ∷ gauges))
      ∙ ap (λ (n : ℕ). suc (log_count inside + n)) (trim_count rest gauges)

  plain_after : (event : Event) (gauges : List Gauge) → IsPlain event → gauges_after limits gauges event ≡ after_shown event gauges
  plain_after (Requested name opening) gauges plain = ap (λ n. with_opened limits n gauges) plain
  plain_after (Mentioned depth pid how name opening) gauges plain = ap (λ n. with_opened limits n gauges) plain
  plain_after (EntryShown depth entry) gauges plain = refl
  plain_after (LogEnds depth) gauges plain = absurd plain

  opened_after : (event : Event) (number : ℕ) (gauges : List Gauge) → opened_number event ≡ Some number
      → gauges_after limits gauges event ≡ gauge_of limits number ∷ gauges
  opened_after (Requested name opening) number gauges opens = ap (λ n. with_opened limits n gauges) opens
  opened_after (Mentioned depth pid how name opening) number gauges opens = ap (λ n. with_opened limits n gauges) opens
  opened_after (EntryShown depth entry) number gauges opens = absurd (none-some number opens)
  opened_after (LogEnds depth) number gauges opens = absurd (none-some number opens)

  -- The gauges after some contents of the innermost log.
  abbrev through : List Gauge → Contents → List Gauge
  through gauges Nothing = gauges
  through gauges (Shown event rest) = through (after_shown event gauges) rest
  through gauges (Opened event number inside rest) = through gauges rest

  through_end : (contents : Contents) (gauges : List Gauge) → after_end (through gauges contents) ≡ after_end gauges
  through_end Nothing gauges = refl
  through_end (Shown event rest) gauges = through_end rest (after_shown event gauges) ∙ shown_end event gauges
  through_end (Opened event number inside rest) gauges = through_end rest gauges

  trimmed_from : (contents : Contents) → OpensItsLogs contents → (depth : ℕ) (gauges : List Gauge) (events : List Event)
      → trimmed limits gauges (events_of depth contents ++ events)
      ≡ events_of depth (trim limits gauges contents) ++ trimmed limits (through gauges contents) events
  trimmed_from Nothing are depth gauges events = refl
  trimmed_from (Shown event rest) are depth gauges events =
      let next = after_shown event gauges in
      ap (λ gs. kept gauges event ++ trimmed limits gs (events_of depth rest ++ events)) (plain_after event gauges are.0)
      ∙ ap (λ es. kept gauges event ++ es) (trimmed_from rest are.1 depth next events)
      ∙ sym (append_assoc (kept gauges event) (events_of depth (trim limits next rest)) (trimmed limits (through next rest) events))
      ∙ ap (λ es. es ++ trimmed limits (through next rest) events) (sym (append_shown depth (kept gauges event) (trim limits next rest)))
  trimmed_from (Opened event number inside rest) are depth gauges events =
      let inner = gauge_of limits number ∷ gauges in
      let end = LogEnds (depth + 1) in
      let after = events_of depth rest ++ events in
      let left = trimmed limits (through gauges rest) events in
      ap (λ es. trimmed limits gauges (event ∷ es)) (append_assoc (events_of (depth + 1) inside) (end ∷ events_of depth rest) events)
      ∙ ap (λ es. es ++ trimmed limits (gauges_after limits gauges event) (events_of (depth + 1) inside ++ end ∷ after))
      (kept_opening gauges event number are.0)
      ∙ ap (λ gs. event ∷ trimmed limits gs (events_of (depth + 1) inside ++ end ∷ after)) (opened_after event number gauges are.0)
      ∙ ap (λ es. event ∷ es) (trimmed_from inside are.1.0 (depth + 1) inner (end ∷ after))
      ∙ ap (λ gs. event ∷ (events_of (depth + 1) (trim limits inner inside) ++ end ∷ trimmed limits gs after)) (through_end inside inner)
      ∙ ap (λ es. event ∷ (events_of (depth + 1) (trim limits inner inside) ++ end ∷ es)) (trimmed_from rest are.1.1 depth gauges events)
      ∙ ap (λ es. event ∷ es) (sym (append_assoc (events_of (depth + 1) (trim limits inner inside))
      (end ∷ events_of depth (trim limits gauges rest)) left))

  trimmed_all : (contents : Contents) → OpensItsLogs contents
      → trimmed limits [] (events_of 0 contents) ≡ events_of 0 (trim limits [] contents)
  trimmed_all contents are =
      ap (trimmed limits []) (sym (append-nil (events_of 0 contents))) ∙ trimmed_from contents are 0 [] []
      ∙ append-nil (events_of 0 (trim limits [] contents))

  module _ (events : List Event) (same : AreInTree events) where
    trimmed_is : trimmed limits [] events ≡ events_of 0 (trim limits [] (contents_of events))
    trimmed_is = ap (trimmed limits []) (sym same) ∙ trimmed_all (contents_of events) (opens_logs events)

    pub tree_trimmed : contents_of (trimmed limits [] events) ≡ trim limits [] (contents_of events)
    tree_trimmed = ap contents_of trimmed_is
        ∙ same_contents (trim limits [] (contents_of events)) (trim_opens (contents_of events) [] (opens_logs events))

    pub stays_in_tree : AreInTree (trimmed limits [] events)
    stays_in_tree = ap (events_of 0) tree_trimmed ∙ sym trimmed_is
