use Rattle.std.proofs.Common.{Bool, List, ap, sym, ◌∙◌}
use Rattle.std.specs.Prelude.{option_copied}
use Rattle.redo_compare.specs.Changes.{all_or_none, gone_in_target}
use Rattle.redo_compare.specs.Rounds.{picked}
use Rattle.redo_compare.proofs.PickedLemmas.{picked-none}
use Rattle.redo_compare.proofs.changes.compare.Goals as goal

pub returns-in_default-clause-gone : goal.returns-in_default-clause-gone
returns-in_default-clause-gone c =
    let before = option_copied c.args.before in
    ap (λ (flags : List Bool). picked flags (all_or_none before)) (c.in_ok-vec.ensures.items_if_clones_equal (λ x is. is))
    ∙ picked-none _ (all_or_none before) ∙ sym (ap (λ now. gone_in_target before (option_copied now)) c.in_default.is)
