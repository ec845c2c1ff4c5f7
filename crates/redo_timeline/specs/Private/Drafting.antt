-- A bar that more spans may join.
use Rattle.std.specs.Prelude.{ℕ, ◌+◌, ◌-◌, max, Bool, ◌&&◌, ltb, List, length, if◌then◌else◌}
use Rattle.std.specs.List.{list_all}
use Rattle.redo_timeline.specs.declared.bar.Bar.{Bar}
use Rattle.redo_timeline.specs.declared.draft.Draft.{Draft}
use Rattle.redo_timeline.specs.declared.span.Span.{Span}
use Rattle.redo_timeline.specs.declared.span.Window.{Window}
use Rattle.redo_timeline.specs.Bars.{began_of, has_failed, is_narrow, position_of, units}
use Rattle.redo_timeline.specs.Lanes.{ended_of}

-- The draft of the spans of a bar.
abbrev pub draft_of : Window → List Span → Draft
draft_of window bar = record {
  began = began_of bar;
  ended = ended_of bar;
  position = position_of bar;
  count = length bar;
  narrow = list_all (is_narrow window) bar;
  failed = has_failed bar;
}

abbrev pub joins_draft : Window → Draft → Span → Bool
joins_draft window draft span =
    is_narrow window span && draft.narrow && ltb (units window span.began - units window draft.ended) 10
    && ltb (units window span.ended - units window draft.began) 50

abbrev pub joined_draft : Span → Draft → Draft
joined_draft span draft = record draft { ended = max draft.ended span.ended; count = draft.count + 1 }

abbrev pub drawn_draft : Window → ℕ → Draft → Bar
drawn_draft window lane draft = record {
  lane = lane;
  x = units window draft.began;
  width = max (units window draft.ended - units window draft.began) (if draft.failed then 30 else 10);
  position = draft.position;
  count = draft.count;
  began = draft.began;
  ended = draft.ended;
  failed = draft.failed;
}
