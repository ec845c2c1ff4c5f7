-- A log is shown when its target is first mentioned or requested, and not again.
use Rattle.std.proofs.Common.{◌≡◌, ℕ, ◌+◌, Bool, true, false, inl, inr, List, [], ◌∷◌, ◌++◌, refl, ap, ◌∙◌}
use Rattle.std.specs.Prelude.{◌&&◌, not}
use Rattle.std.proofs.lemmas.Bool.{and_from}
use Rattle.redo_line.specs.declared.entry.How.{How}
use Rattle.redo_logs.specs.Logs.{Log, targets_of}
use Rattle.redo_options.specs.declared.options.Options.{Options}
use Rattle.redo_view.specs.Expansion.{ViewState, is_among, is_mention, mention_opening, show_mention_line, show_log, expand}
use Rattle.redo_view.specs.Private.Branches.{show_log_if, show_mention_if, show_target_unless}
use Rattle.redo_view.specs.Laws.{MentionedFirst, MentionedAgain, MentionedUnopened, RequestedFirst, RequestedAgain}
use Rattle.redo_view.proofs.Openings.{should_open-is}
use Rattle.redo_view.proofs.Targets.{show_targets-append}

never : (first : Bool) → (first && false) ≡ false
never true = refl
never false = refl

module _ (logs : List Log) (options : Options) where
  module _ (how : How) (name : List ℕ) (depth pid : ℕ) (state : ViewState) (counts : is_mention options how ≡ true) where
    -- The state after the mention, depending on whether the log is opened.
    abbrev then : Bool → ViewState
    then opening = show_log_if logs options opening (show_log logs options) name (depth + 1)
        (show_mention_line options depth pid how name (mention_opening logs options name state) state)

    unfold_mention : show_mention_if logs options (is_mention options how) (show_log logs options) depth pid how name state
        ≡ then (options.recursive && is_among name (targets_of logs) && not (is_among name state.opened))
    unfold_mention = ap (λ b. show_mention_if logs options b (show_log logs options) depth pid how name state) counts
        ∙ ap then (should_open-is logs options name state)

  pub mentioned_first : (how : How) (name : List ℕ) → MentionedFirst logs options how name
  mentioned_first how name depth pid state counts recursive listed new =
      let there = is_among name (targets_of logs) in
      unfold_mention how name depth pid state counts
      ∙ ap (then how name depth pid state counts)
      (and_from (options.recursive && there) (not (is_among name state.opened)) (and_from options.recursive there recursive listed)
      (ap not new))

  pub mentioned_again : (how : How) (name : List ℕ) → MentionedAgain logs options how name
  mentioned_again how name depth pid state counts known =
      let there = options.recursive && is_among name (targets_of logs) in
      unfold_mention how name depth pid state counts
      ∙ ap (then how name depth pid state counts) (ap (λ old. there && not old) known ∙ never there)

  pub mentioned_unopened : (how : How) (name : List ℕ) → MentionedUnopened logs options how name
  mentioned_unopened how name depth pid state counts alone =
      let there = is_among name (targets_of logs) in
      let new = not (is_among name state.opened) in
      unfold_mention how name depth pid state counts
      ∙ ap (then how name depth pid state counts)
      (ap (λ first. first && new) (elim alone [
        | inl shallow ↦ ap (λ recursive. recursive && there) shallow
        | inr none ↦ ap (λ listed. options.recursive && listed) none
            ∙ never options.recursive
      ]))

  one_more : (requested : List (List ℕ)) (target : List ℕ) (known : Bool) → is_among target (expand logs options requested).opened ≡ known
      → expand logs options (requested ++ target ∷ []) ≡ show_target_unless logs options known target (expand logs options requested)
  one_more requested target known is =
      show_targets-append logs options requested (target ∷ []) (record { named = []; opened = []; events = [] })
      ∙ ap (λ old. show_target_unless logs options old target (expand logs options requested)) is

  pub requested_first : (requested : List (List ℕ)) → RequestedFirst logs options requested
  requested_first requested target new = one_more requested target false new

  pub requested_again : (requested : List (List ℕ)) → RequestedAgain logs options requested
  requested_again requested target known = one_more requested target true known
