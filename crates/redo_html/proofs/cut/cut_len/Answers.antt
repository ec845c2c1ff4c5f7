use Rattle.std.proofs.Common.{refl, sym, ◌∙◌, ap, arith}
use Rattle.redo_html.specs.declared.text_kind.TextKind.TheVariants.{Log}
use Rattle.redo_html.specs.Cut.{begins_at}
use Rattle.redo_html.specs.Symbols.{symbol_len}
use Rattle.redo_html.proofs.CutLemmas.{next_boundary, size_bounds, stops, whole}
use Rattle.std.proofs.lemmas.List.{take_rest}
use Rattle.redo_html.proofs.cut.cut_len.Goals as goal

pub symbols-init : goal.symbols-init
unfolding begins_at
symbols-init c = record { boundary = refl; low = omega arith; within = omega arith }

pub returns-then-limit-at-clause-value : goal.returns-then-limit-at-clause-value
returns-then-limit-at-clause-value c =
    let bytes = c.args.bytes.now in
    let size_is = c.symbol_at-len.ensures.len ∙ ap (symbol_len Log) (take_rest bytes c.symbols.at) in
    let low = c.symbols.invariant.low in
    sym (stops bytes c.symbols.at c.symbol_at-len.result.1 c.symbols-test.true c.symbols.invariant.boundary size_is c.args.limit low
    (omega (arith, c.if-limit-at.true, low)))

pub symbols-smaller : goal.symbols-smaller
symbols-smaller c =
    let bytes = c.args.bytes.now in
    let size_is = c.symbol_at-len.ensures.len ∙ ap (symbol_len Log) (take_rest bytes c.symbols.at) in
    let bounds = size_bounds bytes c.symbols.at c.symbol_at-len.result.1 c.symbols-test.true c.symbols.invariant.boundary size_is in
    let within = c.symbols-test.true in
    omega (arith, bounds.0, bounds.1, within)

pub symbols-preserved : goal.symbols-preserved
symbols-preserved c =
    let bytes = c.args.bytes.now in
    let size_is = c.symbol_at-len.ensures.len ∙ ap (symbol_len Log) (take_rest bytes c.symbols.at) in
    let low = c.symbols.invariant.low in
    record {
      boundary = next_boundary bytes c.symbols.at c.symbol_at-len.result.1 c.symbols-test.true c.symbols.invariant.boundary size_is;
      low = omega (arith, c.if-limit-at.false, low);
      within = (size_bounds bytes c.symbols.at c.symbol_at-len.result.1 c.symbols-test.true c.symbols.invariant.boundary size_is).1;
    }

pub returns-clause-value : goal.returns-clause-value
returns-clause-value c =
    let test = c.symbols-test.false in
    let within = c.symbols.invariant.within in
    sym (whole c.args.bytes.now c.symbols.at c.args.limit (omega (arith, test, within)) c.symbols.invariant.boundary
    c.symbols.invariant.low)
