-- Lines that can't have been skipped.
use Rattle.std.proofs.Common.{◌≡◌, ℕ, ◌+◌, false, true, List, [], ◌∷◌, ◌++◌, None, Option, is_some, length, get_or, refl, ap, ◌∙◌, arith}
use Rattle.std.specs.Prelude.{codes}
use Rattle.std.specs.List.{AllByRecursion}
use Rattle.std.proofs.lemmas.List.{length-append}
use Rattle.redo_line.specs.Decimal.{number}
use Rattle.redo_line.specs.Parts.{after_prefix, split_once}
use Rattle.redo_html.specs.Symbols.{is_sequence, sequence_len}
use Rattle.redo_diagnostics.specs.Diagnostic.{DiagnosticValue, before_bracket, diagnostic_of, first_place, masked_after, place_of, split_flag}
use Rattle.redo_diagnostics.specs.Plain.{plain_after}
use Rattle.redo_outline.specs.TextLines.{LinesLeft}
use Rattle.redo_compare.specs.Skipping.{AreSkipped}

abbrev left_after : ℕ → List (List ℕ) → LinesLeft
left_after done lines = record { left = lines; stretch = []; done = done }

abbrev error : List ℕ
error = codes "error: x"

other_left : AreSkipped (left_after 0 []) (left_after 0 (error ∷ [])) → ⊥
other_left are = let size = ap length are.left in omega (arith, size, length-append are.lines (error ∷ []))

other_count : AreSkipped (left_after 0 []) (left_after 1 []) → ⊥
other_count are =
    let size = ap length are.left in
    let done = are.done in
    omega (arith, size, done, length-append are.lines [])

is_diagnostic : is_some (diagnostic_of error) ≡ true
unfolding after_prefix split_once number is_sequence sequence_len plain_after first_place place_of before_bracket
    split_flag masked_after diagnostic_of
is_diagnostic = refl

diagnostic_skipped : AreSkipped (left_after 0 (error ∷ [])) (left_after 1 []) → ⊥
diagnostic_skipped are = by are.lines are.left are.others
  where
    by : (lines : List (List ℕ)) → error ∷ [] ≡ lines ++ [] → AllByRecursion (λ line. diagnostic_of line ≡ None) lines → ⊥
    by [] same others = let size = ap length same in omega (arith, size)
    by (line ∷ lines) same others =
        let first : error ≡ line = ap (λ (l : List (List ℕ)). get_or l 0 []) same in
        let none : is_some (diagnostic_of error) ≡ false =
        ap (λ (l : List ℕ). is_some (diagnostic_of l)) first ∙ ap (λ (found : Option DiagnosticValue). is_some found) others.0 in
        let some = is_diagnostic in
        cc
