use Rattle.std.proofs.Common.{rules, ◌≡◌, ℕ, List, sym, ap, subst, ◌∙◌}
use Rattle.redo_wire.specs.declared.item.Item.{Item}
use Rattle.redo_wire.specs.Mailbox.{IsMet, Met}
use Rattle.redo_wire.specs.Private.Ends.{mailbox_of}
use Rattle.redo_wire.specs.Private.Rule.{KnowsOf}
use Rattle.redo_wire.proofs.Knowing.{collector_meets, first_met, fronts_known, learns_at, meets_at, met_are, schedule_known, with_met_is}
use Rattle.redo_wire.proofs.mailbox.TakeEnd.meet.Goals as goal

pub absorb-requires-clause-rule : goal.absorb-requires-clause-rule
absorb-requires-clause-rule g c = meets_at _ _ _ _ _ _ _ _ _ _ _ _ _ c.self.invariant.view_is c.end.invariant.view_is

pub learn_as-requires-clause-rule : goal.learn_as-requires-clause-rule
learn_as-requires-clause-rule g c =
    learns_at _ _ _ _ _ _ _
    (c.absorb.ensures.rule ∙ with_met_is c.end.inside.sender c.self.inside.receiver c.self.inside.pass c.end.inside.pass c.end.inside.number
    c.self.inside.met.items c.self.invariant c.end.invariant)

pub invariant_of-self : goal.invariant_of-self
invariant_of-self g c =
    let one : mailbox_of c.end.inside.pass ≡ mailbox_of c.self.inside.pass =
    ap (λ end. end.mailbox) c.end.view_is ∙ c.requires ∙ sym (ap (λ end. end.mailbox) c.self.view_is) in
    collector_meets c.end.inside.sender c.self.inside.receiver c.self.inside.pass c.end.inside.pass c.end.inside.number
    c.self.inside.met.items c.self.invariant c.end.invariant
    c.learn_as.new.pass (c.learn_as.ensures.channel.2 ∙ c.absorb.ensures.rule) c.learn_as.ensures.channel.0 one

pub returns-clause-newly_met : goal.returns-clause-newly_met
returns-clause-newly_met g c among =
    let met = met_are c.end.inside.sender c.self.inside.receiver c.self.inside.pass c.end.inside.pass c.end.inside.number
    c.self.inside.met.items c.self.invariant c.end.invariant
    c.absorb.new.pass c.absorb.ensures.rule c.absorb.ensures.channel.0 in
    first_met _ _ _ _ met c.learn_as.ensures.rule
    (subst (λ (at : ℕ × List Met). IsMet at.0 at.1)
    (λ i. (sym (ap (λ end. end.number) c.end.view_is) i, sym (ap (λ end. end.met) c.self.view_is) i)) among)

pub returns-clause-prefixes : goal.returns-clause-prefixes
returns-clause-prefixes g c =
    let knows = subst (λ v. (items : List Item) × KnowsOf v items) (sym c.learn_as.ensures.channel.2) c.learn_as.ensures.rule in
    fronts_known _ knows.0 knows.1

pub returns-clause-schedule : goal.returns-clause-schedule
returns-clause-schedule g c =
    let knows = subst (λ v. (items : List Item) × KnowsOf v items) (sym c.learn_as.ensures.channel.2) c.learn_as.ensures.rule in
    schedule_known _ knows.0 knows.1

pub returns-clause-met : goal.returns-clause-met
returns-clause-met g c = search rules
