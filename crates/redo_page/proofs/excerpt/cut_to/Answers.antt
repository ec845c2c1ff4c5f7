use Rattle.std.proofs.Common.{arith, length-take}
use Rattle.redo_page.proofs.excerpt.cut_to.Goals as goal

pub slice_bounds-result-end : goal.slice_bounds-result-end
slice_bounds-result-end c = omega (arith, c.cut_len.ensures.within, length-take c.cut_len.result c.args.bytes.now)
