-- Rows of lines and the source lines that they show. A program in another language gave the expected values.
use Rattle.std.proofs.Common.{◌≡◌, ℕ, List, [], ◌∷◌, ◌++◌, refl}
use Rattle.std.specs.Prelude.{codes}
use Rattle.std.specs.List.{AllByRecursion}
use Rattle.redo_line.specs.Parts.{after_prefix}
use Rattle.redo_html.specs.Symbols.{is_sequence, sequence_len}
use Rattle.redo_diagnostics.specs.Plain.{plain_after}
use Rattle.redo_compare.specs.Source.{source_of}

record Row : Type 0 where
  line : List ℕ
  source : List ℕ

abbrev shows : List ℕ → List ℕ → Row
shows line source = record { line = line; source = source }

abbrev HasSource : Row → Type 0
HasSource row = source_of row.line ≡ row.source

abbrev sources : List Row
sources =
    shows (codes "   12 |   int x;") (codes "int x;") ∷
    shows (codes "12 | x") (codes "x") ∷
    shows (codes "    5 | }  ") (codes "}") ∷
    shows (codes "1 |  a  b ") (codes "a  b") ∷
    shows (codes " 7 |x") (codes "x") ∷
    shows (codes " 7 | a | b") (codes "a | b") ∷
    shows (codes " 7 | \tx") (codes "\tx") ∷
    shows (codes " 7 |") [] ∷
    shows (codes " 7 |  ") [] ∷
    []

these_sources : AllByRecursion HasSource sources
unfolding after_prefix is_sequence sequence_len plain_after source_of
these_sources = (refl, (refl, (refl, (refl, (refl, (refl, (refl, (refl, (refl, tt)))))))))

abbrev others : List Row
others =
    shows [] [] ∷
    shows (codes "      |     ^") [] ∷
    shows (codes " 7  | x") [] ∷
    shows (codes " 7| x") [] ∷
    shows (codes " 7a | x") [] ∷
    shows (codes "a 7 | x") [] ∷
    shows (codes "a7 | x") [] ∷
    shows (codes "\t7 | x") [] ∷
    shows (codes "7 x |") [] ∷
    []

these_others : AllByRecursion HasSource others
unfolding after_prefix is_sequence sequence_len plain_after source_of
these_others = (refl, (refl, (refl, (refl, (refl, (refl, (refl, (refl, (refl, tt)))))))))

abbrev escape : List ℕ
escape = 27 ∷ []

-- The same line as GCC and Clang write it to a terminal.
abbrev coloured : List Row
coloured =
    shows (codes " 12 |  int " ++ escape ++ codes "[01;35m" ++ escape ++ codes "[Kx" ++ escape ++ codes "[m" ++ escape ++ codes "[K;") (codes "int x;") ∷
    shows (codes " 12 | " ++ escape ++ codes "[0;34m " ++ escape ++ codes "[0mint x;") (codes "int x;") ∷
    []

these_coloured : AllByRecursion HasSource coloured
unfolding after_prefix is_sequence sequence_len plain_after source_of
these_coloured = (refl, (refl, tt))
