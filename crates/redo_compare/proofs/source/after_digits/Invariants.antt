use Rattle.std.proofs.Common.{◌≡◌, length}
use Rattle.std.specs.Char.{is_ascii_digit}
use Rattle.redo_compare.specs.Source.{after_those}
use Rattle.redo_compare.proofs.source.after_digits.Given as goal

abbrev pub invariant-digits : goal.invariant-digits
invariant-digits l = after_those is_ascii_digit l.bytes ≡ after_those is_ascii_digit l.left

abbrev pub decreases-digits : goal.decreases-digits
decreases-digits l = length l.left
