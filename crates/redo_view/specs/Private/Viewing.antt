-- The effect of a viewer, from its state before. `bytes` and `after` are the ghost members of its form, and `written` gives the
-- known output of its writer.
use Rattle.std.specs.Prelude.{◌≡◌, ℕ, Bool, List, Option, Result}
use Rattle.redo_device.specs.Sink.{Output}
use Rattle.redo_line.specs.declared.entry.How.{How}
use Rattle.redo_logs.specs.declared.numbered.NumberedEntry.{NumberedEntry}
use Rattle.redo_logs.specs.Numbering.{name_at}
use Rattle.redo_view.specs.declared.event.Opening.{Opening}
use Rattle.redo_view.specs.declared.viewer.ViewFault.{ViewFault}
use Rattle.redo_view.specs.declared.viewer.Viewer.{Viewer}
use Rattle.redo_view.specs.Event.{Event}
use Rattle.redo_view.specs.Expansion.{ViewState, is_among}
use Rattle.redo_view.specs.Private.Branches.{show_target_unless}
use Rattle.redo_view.specs.Private.Progress.{HasShown, ShowedOrFailed}
use Rattle.redo_view.specs.Private.Progress as progress
use Rattle.redo_view.specs.Private.EntryEffect as effect
use Rattle.redo_view.specs.Private.Rendering.{Rendering, RenderedOrFailed, rendering}

module _ {F W : Type 0} where
  -- Whether the logs, the options, the form and the writer are still the same.
  pub record KeepsContext (before after : Viewer F W) : Type 0 where
    pub logs : after.logs.now ≡ before.logs.now
    pub options : after.options ≡ before.options
    pub form : after.form.ghost_name ≡ before.form.ghost_name
    pub out : after.out.ghost_name ≡ before.out.ghost_name

  -- The events that an entry shows, without a log that it opens.
  abbrev pub own_events : Viewer F W → ℕ → NumberedEntry → List Event
  own_events viewer depth entry = effect.own_events viewer.logs.now viewer.options depth viewer.visited.now entry

  -- The opening of the log of the target whose name has this number.
  abbrev pub mention_opening : Viewer F W → ℕ → Opening
  mention_opening viewer name = effect.mention_opening viewer.logs.now viewer.options viewer.visited.now.opened.items name

  -- The line of a mention, depending on whether its target was named.
  abbrev pub mention_line : Viewer F W → ℕ → ℕ → How → ℕ → Opening → List Event
  mention_line viewer depth pid how name opening =
      effect.mention_line viewer.options depth pid how (name_at viewer.logs.now.names name) opening (effect.is_set viewer.visited.now.named.items name)

  -- The visited flags of names after an entry.
  abbrev pub named_after : Viewer F W → NumberedEntry → List Bool
  named_after viewer entry = effect.named_after viewer.logs.now viewer.options viewer.visited.now.named.items entry

  -- The number of the log that an entry opens, if it opens one.
  abbrev pub nested_log : Viewer F W → NumberedEntry → Option ℕ
  nested_log viewer entry = effect.nested_log viewer.logs.now viewer.options viewer.visited.now.opened.items entry

  -- The writer and the form of a viewer.
  abbrev pub rendering_of : (W → Option Output) → Viewer F W → Rendering F
  rendering_of written viewer = rendering (written viewer.out.now) viewer.form.now

  module _ (bytes : F → Event → List ℕ) (after : F → Event → F) (written : W → Option Output) {A : Type 0} where
    -- How much of these events was written.
    abbrev pub WroteEvents : Viewer F W → Viewer F W → List Event → Result A ViewFault → Type 0
    WroteEvents before now events done = RenderedOrFailed bytes after (rendering_of written before) (rendering_of written now) events done

    -- The result of showing the log with this number, including all logs that are opened from it.
    pub record ShowedLogOrFailed (number : ℕ) (before now : Viewer F W) (done : Result A ViewFault) : Type 0 where
      pub context : KeepsContext before now
      pub shows : progress.ShowedLogOrFailed bytes after before.logs.now before.options number before.visited.now now.visited.now (rendering_of written before) (rendering_of written now) done

    -- The result of showing a requested target.
    pub record ShowedTargetOrFailed (target : List ℕ) (before now : Viewer F W) (done : Result A ViewFault) : Type 0 where
      pub context : KeepsContext before now
      pub shows : (start : Rendering F) (so_far : ViewState) → HasShown bytes after before.logs.now start (rendering_of written before) before.visited.now so_far
          → ShowedOrFailed bytes after before.logs.now start (rendering_of written now) now.visited.now (show_target_unless before.logs.now.logs before.options (is_among target so_far.opened) target so_far) done
