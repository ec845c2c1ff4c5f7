use Rattle.std.proofs.Common.{arith, ap, ◌∙◌}
use Rattle.redo_outline.specs.Private.Sweeping.{opening_added}
use Rattle.redo_outline.proofs.SweepLemmas.{counted_with, counted_without, node_at_is, opening_is, popped_below, popped_children, popped_silent, split_some, swept_of}
use Rattle.redo_outline.proofs.sweep.Sweep.add_opening.Goals as goal

pub node_from-node-requires : goal.node_from-node-requires
node_from-node-requires c =
    let bound = popped_silent c.self.inside.inner c.self.inside.outer.items c.self.inside.nodes.items c.self.invariant in
    rw c.pop_or_nothing-rest.ensures.rest (omega (arith, bound))

pub invariant_of-self-in_err-push : goal.invariant_of-self-in_err-push
invariant_of-self-in_err-push c =
    rw (c.pop_or_nothing-rest.ensures.outer, c.in_err-push.ensures.items)
    (counted_without c.self.inside.inner c.self.inside.outer.items c.self.inside.nodes.items c.self.invariant)

pub with_log-self-inside-requires-clause-below : goal.with_log-self-inside-requires-clause-below
with_log-self-inside-requires-clause-below c =
    let bound = popped_below c.self.inside.inner c.self.inside.outer.items c.self.inside.nodes.items c.self.invariant in
    rw c.pop_or_nothing-rest.ensures.rest (omega (arith, bound))

pub with_log-self-inside-requires-clause-children : goal.with_log-self-inside-requires-clause-children
with_log-self-inside-requires-clause-children c =
    let bound = popped_children c.self.inside.inner c.self.inside.outer.items c.self.inside.nodes.items c.self.invariant in
    rw c.pop_or_nothing-rest.ensures.rest (omega (arith, bound))

pub invariant_of-self-2 : goal.invariant_of-self-2
invariant_of-self-2 c =
    rw (
      c.with_log-self-inside.ensures,
      c.in_ok-push.ensures.items,
      c.node_from-node.ensures,
      c.pop_or_nothing-rest.ensures.outer,
      c.pop_or_nothing-rest.ensures.rest,
    )
    (counted_with c.self.inside.inner c.self.inside.outer.items c.self.inside.nodes.items c.self.invariant c.in-Some.log
    c.log_facts-facts.result c.or-status.result)

pub returns : goal.returns
returns c =
    let inside = c.self.inside in
    let log = c.in-Some.log in
    let rest = c.pop_or_nothing-rest.result in
    let node = node_at_is inside.with_warnings inside.table.now inside.statuses.now log inside.inner rest c.log_facts-facts.result
    c.status_at.result c.or-status.result c.node_from-node.result
    c.log_facts-facts.ensures c.status_at.ensures c.or-status.ensures c.node_from-node.ensures in
    let swept = swept_of inside.with_warnings inside.table.now inside.statuses.now inside.opened.items inside.inner inside.outer.items
    inside.nodes.items in
    opening_is swept log
    c.pop.new.self.items c.node_from-node.result rest c.with_log-self-inside.result
    c.pop_or_nothing-rest.new.outer.items c.push.new.self.items
    (split_some inside.opened.items c.pop.new.self.items log c.in-Some.ensures.items) c.pop_or_nothing-rest.ensures.rest
    c.pop_or_nothing-rest.ensures.outer node c.in_ok-push.ensures.items c.with_log-self-inside.ensures
    ∙ ap opening_added c.self.view_is
