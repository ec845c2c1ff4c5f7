use Rattle.std.proofs.Common.{[], ◌∷◌, ◌++◌, ap, ◌∙◌, subst, ℕ, List}
use Rattle.redo_diagnostics.specs.Counts.{AreCounts, stored, times_of}
use Rattle.redo_json.proofs.JoinLemmas.{object_is, three_appended}
use Rattle.redo_json.proofs.joined.join_diagnostic.Goals as goal

pub returns-clause-counted : goal.returns-clause-counted
returns-clause-counted c = λ keys are.
    subst (λ (k : List ℕ). AreCounts c.add.new.self (keys ++ k ∷ [])) c.requires.key (c.in_ok-nth.ensures.counted keys are)

pub returns-clause-appended : goal.returns-clause-appended
returns-clause-appended c = λ keys are.
    three_appended _ _ _ _ _ _ _ _ c.in_ok-join_front.ensures c.in_ok-join_strings.ensures c.in_ok-join_end.ensures
    (object_is c.args.is_first c.args.position c.in_ok-nth.nth c.args.diagnostic.now c.args.new keys c.requires.verbatim
    (c.in_ok-nth.ensures.before keys are ∙ ap (λ (k : List ℕ). stored (times_of k keys)) c.requires.key))
