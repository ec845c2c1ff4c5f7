use Rattle.std.proofs.Common.{sym, subst}
use Rattle.redo_json.specs.Private.LogLines.{AreSimple}
use Rattle.redo_json.proofs.LineLemmas.{fewer_left}
use Rattle.redo_json.proofs.VerbatimLineLemmas.{simple_stretch}
use Rattle.redo_json.proofs.log_lines.are_simple.Goals as goal

pub stretches-init : goal.stretches-init
stretches-init c = subst AreSimple c.new-left.ensures.left

pub stretches-smaller : goal.stretches-smaller
stretches-smaller c = fewer_left _ _ _ c.in-Some.ensures.some c.in-Some.ensures.lines

pub stretches-preserved : goal.stretches-preserved
stretches-preserved c = λ all.
    c.stretches.invariant
    (simple_stretch _ _ _ c.in-Some.ensures.lines (c.is_plain_text.ensures c.if-not-is_plain_text.false)
    (c.may_have_temporary.ensures c.if-may_have_temporary.false) all)

pub returns : goal.returns
returns c = λ _. c.stretches.invariant (subst AreSimple (sym c.in_default.ensures.some) tt)
