-- Whether a mention opens its target's log.
use Rattle.std.proofs.Common.{◌≡◌, ℕ, Bool, true, false, List, Option, None, Some, is_some, refl, sym, ap, ◌∙◌}
use Rattle.std.specs.Prelude.{◌&&◌, not, nat_eq}
use Rattle.std.specs.Cmp.Lexicographic.{pointwise}
use Rattle.std.proofs.lemmas.Bool.{and_parts}
use Rattle.std.proofs.lemmas.Option.{none-some}
use Rattle.redo_line.proofs.PlaceLemmas.{some_place}
use Rattle.redo_logs.specs.Logs.{Log, log_number, targets_of}
use Rattle.redo_options.specs.declared.options.Options.{Options}
use Rattle.redo_view.specs.declared.event.Opening.{Opening}
use Rattle.redo_view.specs.declared.event.Opening.TheVariants.{NotOpened, OpenedBefore, OpensHere}
use Rattle.redo_view.specs.Event.{opening_of, opens_here}
use Rattle.redo_view.specs.Expansion.{ViewState, is_among, mention_opening}
use Rattle.redo_view.specs.Private.EntryEffect.{log_to_open}

-- A target has a log exactly if it is listed.
pub looked_up-listed : (name : List ℕ) (logs : List Log) → is_some (log_number name logs) ≡ is_among name (targets_of logs)
looked_up-listed name logs = some_place (pointwise nat_eq name) (targets_of logs)

opens_if : (may_open was_opened : Bool) (found : Option ℕ)
    → opens_here (opening_of may_open was_opened found) ≡ (may_open && is_some found && not was_opened)
opens_if true true None = refl
opens_if true false None = refl
opens_if false was_opened None = refl
opens_if true true (Some number) = refl
opens_if true false (Some number) = refl
opens_if false true (Some number) = refl
opens_if false false (Some number) = refl

-- Without the number of a log to open, no log is opened.
pub none_opens : (opening : Opening) → log_to_open opening ≡ None → opens_here opening ≡ false
none_opens NotOpened none = refl
none_opens (OpenedBefore number) none = refl
none_opens (OpensHere number) none = absurd (none-some number (sym none))

-- With a number, the log with this number is opened.
pub some_opens : (may_open was_opened : Bool) (found : Option ℕ) (number : ℕ)
    → log_to_open (opening_of may_open was_opened found) ≡ Some number
    → (found ≡ Some number) × (was_opened ≡ false) × (opens_here (opening_of may_open was_opened found) ≡ true)
some_opens may_open was_opened None number is = absurd (none-some number is)
some_opens may_open true (Some found) number is = absurd (none-some number is)
some_opens true false (Some found) number is = (is, refl, refl)
some_opens false false (Some found) number is = absurd (none-some number is)

module _ (logs : List Log) (options : Options) where
  abbrev pub should_open : List ℕ → ViewState → Bool
  should_open name state = opens_here (mention_opening logs options name state)

  pub should_open-is : (name : List ℕ) (state : ViewState)
      → should_open name state ≡ (options.recursive && is_among name (targets_of logs) && not (is_among name state.opened))
  should_open-is name state =
      opens_if options.recursive (is_among name state.opened) (log_number name logs)
      ∙ ap (λ listed. options.recursive && listed && not (is_among name state.opened)) (looked_up-listed name logs)

  -- A log is opened only if logs are opened recursively, the log exists, and it wasn't opened before.
  pub should_open-parts : (name : List ℕ) (state : ViewState) → should_open name state ≡ true
      → (options.recursive ≡ true) × (is_among name (targets_of logs) ≡ true) × (not (is_among name state.opened) ≡ true)
  should_open-parts name state is =
      let both = and_parts (options.recursive && is_among name (targets_of logs)) (not (is_among name state.opened))
      (sym (should_open-is name state) ∙ is) in
      let first = and_parts options.recursive (is_among name (targets_of logs)) both.0 in
      (first.0, first.1, both.1)
