use Rattle.redo_line.proofs.PartLemmas.{parted_free}
use Rattle.redo_diagnostics.proofs.FlagLemmas.{nowhere_free}
use Rattle.redo_diagnostics.proofs.TextLemmas.{text_parts}
use Rattle.redo_diagnostics.proofs.split.split_text.Goals as goal

pub returns-in-Some-clause-some : goal.returns-in-Some-clause-some
returns-in-Some-clause-some c = text_parts c.args.separator c.args.bytes.now c.in-Some.at c.in-Some.ensures

pub returns-in-None-clause-none : goal.returns-in-None-clause-none
returns-in-None-clause-none c =
    parted_free c.args.separator c.args.bytes.now
    (nowhere_free c.args.separator c.args.bytes.now c.in-None.ensures)
