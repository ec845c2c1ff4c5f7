use Rattle.std.proofs.Common.{◌≡◌, true}
use Rattle.redo_html.specs.Private.Letters.{AreLetters}
use Rattle.redo_html.proofs.stride.are_letters.Given as goal

-- Whether the bytes so far are plain or bytes of letters.
abbrev pub invariant-loop-k : goal.invariant-loop-k
invariant-loop-k l = l.letters ≡ true → AreLetters l.bytes l.at l.k
