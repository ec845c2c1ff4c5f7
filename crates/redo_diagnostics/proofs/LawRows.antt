-- Parts of lines, for the laws about lines.
use Rattle.std.proofs.Common.{◌≡◌, ℕ, List, ◌∷◌, ◌++◌, None, Some, refl, arith}
use Rattle.std.specs.Prelude.{codes}
use Rattle.redo_html.specs.Symbols.{is_sequence, sequence_len}
use Rattle.redo_line.specs.Decimal.{AreDigits}
use Rattle.redo_diagnostics.specs.declared.severity.Severity.TheVariants.{Error}
use Rattle.redo_diagnostics.specs.Laws.{IsAt}
use Rattle.redo_diagnostics.specs.Plain.{plain_after, plain_line}

one_digit : AreDigits 9 (codes "1")
one_digit = record { some = omega arith; few = omega arith; each = ((omega arith, omega arith), tt) }

no_column : (digits : List ℕ) → None ≡ Some digits → AreDigits 9 digits
no_column digits same = cc

-- A line that reads so without colours and links.
reads : (line : List ℕ) → plain_line line ≡ codes "x:1: error: m" → IsAt (codes "x") Error (codes "m") line
reads line whole = record {
  row = codes "1";
  column = None;
  row_digits = one_digit;
  column_digits = no_column;
  file_no_colon = ((λ same. cc), tt);
  whole = whole;
}

error_in_file : IsAt (codes "x") Error (codes "m") (codes "x:1: error: m")
unfolding is_sequence sequence_len plain_after
error_in_file = reads (codes "x:1: error: m") refl

-- The same line as compilers write it to a terminal: in colours, and with both kinds of links around the name.
abbrev coloured : List ℕ
coloured =
    27 ∷ codes "[01m" ++ 27 ∷ codes "[K" ++ 27 ∷ codes "]8;;file://h/x" ++ 7 ∷ codes "x" ++ 27 ∷ codes "]8;;" ++ 7 ∷ codes ":1:" ++
    27 ∷ codes "[m" ++ 27 ∷ codes "[K " ++ 27 ∷ codes "[01;31m" ++ 27 ∷ codes "[Kerror: " ++ 27 ∷ codes "[m" ++ 27 ∷ codes "[Km"

error_in_colours : IsAt (codes "x") Error (codes "m") coloured
unfolding is_sequence sequence_len plain_after
error_in_colours = reads coloured refl

abbrev linked : List ℕ
linked = 27 ∷ codes "]8;id=1;file://h/x" ++ 27 ∷ codes "\\x" ++ 27 ∷ codes "]8;;" ++ 27 ∷ codes "\\:1: error: m"

error_in_link : IsAt (codes "x") Error (codes "m") linked
unfolding is_sequence sequence_len plain_after
error_in_link = reads linked refl
