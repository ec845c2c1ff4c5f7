use Rattle.std.proofs.Common.{sym}
use Rattle.redo_page.proofs.ArticleLemmas.{path_cut, path_next}
use Rattle.redo_page.proofs.PartLoops.{wrote_as}
use Rattle.redo_page.proofs.WriterLemmas.{wrote_then}
use Rattle.redo_page.proofs.article.+write_path.Goals as goal

pub returns-then-levels-eq0 : goal.returns-then-levels-eq0
returns-then-levels-eq0 g t c =
    wrote_as g.W.Sink.written c.args.page.now c.put.new.self _ _
    (sym (path_cut c.args.table.now c.args.nodes.now c.args.levels c.args.position c.in-Some.position c.if-levels-eq0.true c.in-Some.is))
    c.put.ensures

pub returns : goal.returns
returns g t c =
    wrote_as g.W.Sink.written c.args.page.now c.put-2.new.self _ _
    (sym (path_next c.args.table.now c.args.nodes.now c.args.levels c.args.position c.in-Some.position c.node_at-node.result
    c.if-levels-eq0.false c.in-Some.is c.node_at-node.ensures))
    (wrote_then c.write_path.ensures (wrote_then c.write_target.ensures c.put-2.ensures))
