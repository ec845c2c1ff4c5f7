use Rattle.std.proofs.Common.{◌++◌, ℕ, List, refl, sym, ap, ◌∙◌, subst}
use Rattle.std.proofs.lemmas.List.{append-nil}
use Rattle.redo_json.specs.Private.Lines.{lines_text}
use Rattle.redo_json.specs.Private.LogLines.{ArePlainLines, AreUtf8}
use Rattle.redo_json.proofs.StretchLemmas.{joined_line}
use Rattle.redo_json.proofs.lines.join_lines.Goals as goal

pub lines-init : goal.lines-init
lines-init c = record { appended = refl; text = c.requires.text; plain = c.requires.plain }

pub lines-smaller : goal.lines-smaller
lines-smaller c = c.in-Some.ensures.some.fewer

pub join_line-requires-clause-text : goal.join_line-requires-clause-text
join_line-requires-clause-text c = (subst AreUtf8 c.in-Some.ensures.some.lines c.lines.invariant.text).0

pub join_line-requires-clause-plain : goal.join_line-requires-clause-plain
join_line-requires-clause-plain c = λ is. (subst ArePlainLines c.in-Some.ensures.some.lines (c.lines.invariant.plain is)).0

pub lines-preserved : goal.lines-preserved
lines-preserved c = record {
  appended = joined_line c.lines.is_next_first _ _ _ _ _ _ _ c.in-Some.ensures.some.lines c.before_line.ensures
      c.in_ok-join_bytes.ensures c.in_ok-join_line.ensures
      ∙ c.lines.invariant.appended;
  text = (subst AreUtf8 c.in-Some.ensures.some.lines c.lines.invariant.text).1;
  plain = λ is. (subst ArePlainLines c.in-Some.ensures.some.lines (c.lines.invariant.plain is)).1;
}

pub returns : goal.returns
returns c = record {
  is = sym (append-nil c.lines.joined.items)
      ∙ ap (λ (l : List ℕ). c.lines.joined.items ++ l)
      (sym (ap (lines_text c.lines.is_next_first) c.in_default.ensures.none))
      ∙ c.lines.invariant.appended;
}
