-- Events that are written by themselves.
use Rattle.std.proofs.Common.{◌≡◌, refl}
use Rattle.redo_logs.specs.declared.entry_ref.EntryRef.TheVariants as entry
use Rattle.redo_view.specs.declared.event.EventRef.{EventRef}
use Rattle.redo_view.specs.declared.event.EventRef.TheVariants as ref
use Rattle.redo_view.specs.EventRef.{IsWrittenAlone, event_value}
use Rattle.redo_page.specs.declared.block.Pending.{Pending}
use Rattle.redo_page.specs.declared.level.Level.{Level}
use Rattle.redo_page.specs.Tree.{Build, is_seen, seen_parts}
use Rattle.redo_page.specs.Private.Streaming.{after_item, after_shown, item_parts, shown_parts}

module _ (build : Build) (level : Level) (before : Pending) where
  -- Such an event is no text line.
  pub alone_parts : (event : EventRef) → IsWrittenAlone event
      → shown_parts build level before (event_value event)
      ≡ item_parts before (is_seen build level (event_value event)) (seen_parts build (event_value event))
  alone_parts (ref.Requested name opening) alone = refl
  alone_parts (ref.Mentioned depth pid how name opening) alone = refl
  alone_parts (ref.LogEnds depth) alone = refl
  alone_parts (ref.EntryShown depth (entry.Text line)) alone = absurd alone.1
  alone_parts (ref.EntryShown depth (entry.Mention pid how name)) alone = refl
  alone_parts (ref.EntryShown depth (entry.Done pid status name)) alone = refl
  alone_parts (ref.EntryShown depth (entry.Closing pid status)) alone = refl
  alone_parts (ref.EntryShown depth (entry.Note pid kind text)) alone = refl

  pub after_alone : (event : EventRef) → IsWrittenAlone event
      → after_shown build level before (event_value event) ≡ after_item before (is_seen build level (event_value event))
  after_alone (ref.Requested name opening) alone = refl
  after_alone (ref.Mentioned depth pid how name opening) alone = refl
  after_alone (ref.LogEnds depth) alone = refl
  after_alone (ref.EntryShown depth (entry.Text line)) alone = absurd alone.1
  after_alone (ref.EntryShown depth (entry.Mention pid how name)) alone = refl
  after_alone (ref.EntryShown depth (entry.Done pid status name)) alone = refl
  after_alone (ref.EntryShown depth (entry.Closing pid status)) alone = refl
  after_alone (ref.EntryShown depth (entry.Note pid kind text)) alone = refl
