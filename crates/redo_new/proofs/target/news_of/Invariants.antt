use Rattle.std.proofs.Common.{◌≡◌, map, take}
use Rattle.redo_new.specs.Private.Sections.{news_at}
use Rattle.redo_new.proofs.target.news_of.Given as goal

-- What is new of the targets of the nodes so far.
abbrev pub invariant-loop-node : goal.invariant-loop-node
invariant-loop-node l = l.news.items ≡ map (news_at l.baseline l.table) (take l.node-index l.nodes)
