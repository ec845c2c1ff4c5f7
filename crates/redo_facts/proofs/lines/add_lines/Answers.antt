use Rattle.redo_facts.proofs.LineLemmas.{all_read, none_read, one_more}
use Rattle.redo_facts.proofs.lines.add_lines.Goals as goal

pub lines-init : goal.lines-init
lines-init c = none_read c.args.index.now c.args.bytes.now c.args.facts.now c.requires.facts

pub lines-preserved : goal.lines-preserved
lines-preserved c =
    one_more c.args.index.now c.args.bytes.now c.lines.left.now c.lines.facts c.lines.invariant c.in-Some.line.now c.in-Some.others.now
    c.in-Some.ensures.some c.add_line.new.facts c.in_ok-add_line.ensures

pub returns : goal.returns
returns c =
    all_read c.args.index.now c.args.bytes.now c.lines.left.now c.lines.facts c.lines.invariant c.in_default.ensures.none
