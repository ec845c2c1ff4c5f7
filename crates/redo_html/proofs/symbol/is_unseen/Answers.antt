use Rattle.redo_html.proofs.SymbolLemmas.{range_decides, range_before}
use Rattle.redo_html.proofs.symbol.is_unseen.Goals as goal

pub returns-then-code_point-range : goal.returns-then-code_point-range
returns-then-code_point-range c = range_decides c.args.code_point c.loop-range.range-index c.loop-range-test.true c.if-code_point-range.true
    c.loop-range.invariant

pub loop-range-preserved : goal.loop-range-preserved
loop-range-preserved c = range_before c.args.code_point c.loop-range.range-index c.loop-range-test.true c.if-code_point-range.false
    c.loop-range.invariant
