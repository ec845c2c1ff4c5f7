use Rattle.std.proofs.Common.{◌≡◌, Bool, List, Vec, Global, ap, ◌∙◌, subst}
use Rattle.std.specs.Prelude.{IfOk}
use Rattle.redo_compare.specs.Occurrences.{OccurrenceValue}
use Rattle.redo_compare.specs.Rounds.{left_after, picked, same_key, same_source, unknown_in}
use Rattle.redo_compare.proofs.rounds.find_new.Goals as goal

pub returns-clause-new : goal.returns-clause-new
returns-clause-new c =
    let earlier = c.args.earlier.now in
    let now = c.args.now.now in
    let left = left_after same_source earlier now in
    let ran = c.second_round.ensures.new left (c.in_ok-unknown.ensures.left earlier c.in_ok-by_source.ensures c.in_ok-by_key.ensures) in
    let unknown : picked c.deref.result.now now ≡ unknown_in same_source earlier now =
    ap (λ (flags : List Bool). picked flags now) c.deref.ensures.value
    ∙ c.in_ok-unknown.ensures.unknown earlier c.in_ok-by_source.ensures in
    subst (λ (others : List OccurrenceValue). IfOk c.second_round.result (λ (flags : Vec Bool Global). picked flags.items now
    ≡ unknown_in same_key left others)) unknown ran
