use Rattle.redo_diagnostics.specs.Plain.{plain_line}
use Rattle.redo_diagnostics.proofs.ApartLemmas.{keys_apart}
use Rattle.redo_diagnostics.proofs.SplitLemmas.{tail_of}
use Rattle.redo_diagnostics.proofs.laws.keys_tell_apart.Goals as goal

pub returns : goal.returns
returns c = λ line other one two first second same.
    let first_tail = tail_of (plain_line line) one first in
    let second_tail = tail_of (plain_line other) two second in
    keys_apart one two first_tail.after second_tail.after first_tail.whole first_tail.follows second_tail.whole second_tail.follows same
