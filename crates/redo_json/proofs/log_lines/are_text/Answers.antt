use Rattle.std.proofs.Common.{sym, ◌∙◌, subst}
use Rattle.redo_json.specs.Private.LogLines.{AreUtf8}
use Rattle.redo_json.proofs.LineLemmas.{fewer_left, text_stretch}
use Rattle.redo_json.proofs.log_lines.are_text.Goals as goal

pub stretches-init : goal.stretches-init
stretches-init c = subst AreUtf8 c.new-left.ensures.left

pub stretches-smaller : goal.stretches-smaller
stretches-smaller c = fewer_left _ _ _ c.in-Some.ensures.some c.in-Some.ensures.lines

pub stretches-preserved : goal.stretches-preserved
stretches-preserved c = λ all.
    c.stretches.invariant
    (text_stretch _ _ _ c.in-Some.ensures.some c.in-Some.ensures.lines (sym c.is_text.ensures ∙ c.if-not-is_text.false) all)

pub returns : goal.returns
returns c = λ _. c.stretches.invariant (subst AreUtf8 (sym c.in_default.ensures.some) tt)
