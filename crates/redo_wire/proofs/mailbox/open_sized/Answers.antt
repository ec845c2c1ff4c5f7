use Rattle.std.proofs.Common.{rules, ◌≡◌, ◌<◌, ◌+◌, sym, ◌∙◌, ap, subst, replicate, false, arith}
use Rattle.redo_wire.proofs.Moves.{begins}
use Rattle.redo_wire.proofs.Opening.{AreMade, all_collect, ends_at, one_made, sizes_at}
use Rattle.redo_wire.proofs.mailbox.open_sized.Goals as goal

pub bounded_with-requires-clause-rule : goal.bounded_with-requires-clause-rule
bounded_with-requires-clause-rule g c = begins

pub another-idle-requires-clause-rule : goal.another-idle-requires-clause-rule
another-idle-requires-clause-rule g c = sizes_at _ _ _ _ c.in_ok-sender.ensures.3

pub another-requires-clause-rule : goal.another-requires-clause-rule
another-requires-clause-rule g c =
    let below : c.loop-number.number < g.S.Size.senders =
    omega (arith, c.loop-number-test.true, c.requires.senders, c.loop-number.auto.number-end) in
    ends_at _ _ _ _ _ c.loop-number.invariant.view_is below

pub loop-number-preserved : goal.loop-number-preserved
loop-number-preserved g c =
    subst (AreMade c.in_ok-sender.sender c.in_ok-sender.receiver g.S.Size.capacity g.S.Size.senders
    (c.loop-number.number + 1) c.another.new.pass) (sym c.in_ok-push.ensures.items)
    (one_made _ _ _ _ _ _ _ c.another.result _ c.loop-number.invariant c.another.ensures.channel.0 c.another.ensures.channel.2
    c.another.ensures.rule.0 c.another.ensures.rule.1)

pub invariant_of-result : goal.invariant_of-result
invariant_of-result g c =
    let all : c.loop-number.number ≡ g.S.Size.senders =
    omega (arith, c.loop-number-test.false, c.requires.senders, c.loop-number.auto.number-end) in
    all_collect _ _ _ _ _ _ _ all c.loop-number.invariant _
    (c.in_ok-met.ensures.items_if_clones_equal (λ x is. is) ∙ ap (λ n. replicate n false) c.requires.senders)

pub loop-number-init : goal.loop-number-init
loop-number-init g c = search rules

pub invariant_of-end : goal.invariant_of-end
invariant_of-end g c = search rules

pub returns-clause-post_ends : goal.returns-clause-post_ends
returns-clause-post_ends g c = search rules
