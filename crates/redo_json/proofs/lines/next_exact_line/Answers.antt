use Rattle.std.proofs.Common.{length, sym, ap, ◌∙◌, refl, arith}
use Rattle.redo_json.specs.Fields.{exact_items}
use Rattle.redo_json.proofs.LineLemmas.{found_line, skip_line}
use Rattle.redo_json.proofs.lines.next_exact_line.Goals as goal

pub each-init : goal.each-init
each-init c = record { fewer = omega arith; fields = refl }

pub returns-then-not-is_text-clause-some : goal.returns-then-not-is_text-clause-some
returns-then-not-is_text-clause-some c =
    let size = ap length c.in-Some.ensures.line in
    let low = c.each.invariant.fewer in
    record {
      fewer = omega (arith, size, low);
      fields = c.each.invariant.fields
          ∙ found_line c.each.lines c.next_line.new.self c.in-Some.line.now c.in-Some.ensures.line c.in-Some.ensures.done _
          c.position-position.ensures (sym c.is_text.ensures ∙ c.if-not-is_text.true);
    }

pub each-smaller : goal.each-smaller
each-smaller c = let size = ap length c.in-Some.ensures.line in omega (arith, size)

pub each-preserved : goal.each-preserved
each-preserved c =
    let size = ap length c.in-Some.ensures.line in
    let low = c.each.invariant.fewer in
    record {
      fewer = omega (arith, size, low);
      fields = c.each.invariant.fields
          ∙ skip_line c.each.lines c.next_line.new.self c.in-Some.line.now c.in-Some.ensures.line c.in-Some.ensures.done
          (sym c.is_text.ensures ∙ c.if-not-is_text.false);
    }

pub returns-in_default-clause-none : goal.returns-in_default-clause-none
returns-in_default-clause-none c = c.each.invariant.fields ∙ ap (exact_items c.each.lines.done) c.in_default.ensures.line
