-- Parts of lines, for the laws about lines.
use Rattle.std.proofs.Common.{◌≢◌, ℕ, List, [], get_or, ap, arith}
use Rattle.std.specs.Prelude.{codes}
use Rattle.redo_line.specs.Decimal.{AreDigits}
use Rattle.redo_index.specs.Index.{IsNumber}

-- The digit 7 as a number, and the digit 1 as a part of a usage.
seven : IsNumber (codes "7")
seven = record {
  digits_are = record { some = omega arith; few = omega arith; each = ((omega arith, omega arith), tt) };
  first_not_0 = λ others same. let byte = ap (λ (bytes : List ℕ). get_or bytes 0 0) same in omega (arith, byte);
}

one_digit : AreDigits 15 (codes "1")
one_digit = record { some = omega arith; few = omega arith; each = ((omega arith, omega arith), tt) }

not_empty : codes "x" ≢ []
not_empty same = cc
