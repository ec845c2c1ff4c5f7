use Rattle.std.proofs.Common.{◌∙◌}
use Rattle.redo_json.proofs.JoinLemmas.{rest_joined, stretch_joined}
use Rattle.redo_json.proofs.escape.join_escaped.Goals as goal

pub escapes-smaller : goal.escapes-smaller
escapes-smaller c = c.in-Some.ensures.some.less

pub escapes-preserved : goal.escapes-preserved
escapes-preserved c =
    stretch_joined _ _ _ _ _ _ _ c.in-Some.ensures.some.escaped c.in_ok-join_bytes.ensures c.in_ok-join_escape.ensures
    ∙ c.escapes.invariant

pub returns : goal.returns
returns c =
    rest_joined _ _ _ _ _ _ _ c.in_default.ensures.none c.escapes.invariant c.join_bytes-2.ensures
