use Rattle.std.proofs.Common.{◌∙◌, drop, length, ◌+◌, ◌-◌, arith, length-drop}
use Rattle.std.proofs.lemmas.List.{take_all}
use Rattle.redo_outline.proofs.WarningLemmas.{after_found, after_none}
use Rattle.redo_outline.proofs.facts.after_line.Goals as goal

pub returns-in-Some : goal.returns-in-Some
returns-in-Some c =
    let bytes = c.args.bytes.now in
    take_all (length bytes - (c.in-Some.end + 1)) (drop (c.in-Some.end + 1) bytes) (omega (arith, length-drop (c.in-Some.end + 1) bytes))
    ∙ after_found bytes c.in-Some.end c.in-Some.ensures

pub returns-in-None : goal.returns-in-None
returns-in-None c = after_none c.args.bytes.now c.in-None.ensures
