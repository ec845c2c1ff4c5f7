-- The diagnostic of a line, by its plain line.
use Rattle.std.proofs.Common.{◌≡◌, ℕ, false, List, Option, None, refl, sym, ◌∙◌, ap}
use Rattle.std.specs.Prelude.{is_some, option_and_then, option_map}
use Rattle.memchr.specs.Find.{IsFirstByte, is_byte}
use Rattle.redo_line.specs.Record.{colon}
use Rattle.redo_line.proofs.PartLemmas.{HasNo, parted_free}
use Rattle.redo_diagnostics.specs.Diagnostic.{diagnostic_from, diagnostic_of, parts_at, parts_in}
use Rattle.redo_diagnostics.specs.Plain.{plain_line}
use Rattle.redo_diagnostics.proofs.FlagLemmas.{byte_nowhere}
use Rattle.redo_diagnostics.proofs.PlainLemmas.{escape, plain-line_has_no, plain-rest}
use Rattle.redo_diagnostics.proofs.WordLemmas.{no_colon_no_word}

pub of_plain : (line : List ℕ) → option_map diagnostic_from (parts_in (plain_line line)) ≡ diagnostic_of line
unfolding diagnostic_of
of_plain line = refl

-- A line without colons says nothing.
pub of_none : (plain : List ℕ) → HasNo colon plain → None ≡ option_map diagnostic_from (parts_in plain)
of_none plain free =
    sym (ap (λ (place : Option ℕ). option_map diagnostic_from (option_and_then (λ (n : ℕ). parts_at plain n) place))
    (no_colon_no_word plain free))

pub of_no_colon : (line : List ℕ) (found : Option ℕ) → IsFirstByte (is_byte colon) line found → is_some found ≡ false
    → None ≡ diagnostic_of line
unfolding diagnostic_of
of_no_colon line found first is =
    let free = plain-line_has_no colon line (byte_nowhere colon line found first is) in
    sym (ap (λ (place : Option ℕ). option_map diagnostic_from (option_and_then (λ (n : ℕ). parts_at (plain_line line) n) place))
    (no_colon_no_word (plain_line line) free))

-- A line without escape bytes is plain.
pub of_free : (line : List ℕ) → HasNo escape line → option_map diagnostic_from (parts_in line) ≡ diagnostic_of line
of_free line free =
    ap (λ (bytes : List ℕ). option_map diagnostic_from (parts_in bytes)) (sym (plain-rest line (parted_free escape line free)))
    ∙ of_plain line

pub of_line : (line : List ℕ) (found : Option ℕ) → IsFirstByte (is_byte escape) line found → is_some found ≡ false
    → option_map diagnostic_from (parts_in line) ≡ diagnostic_of line
of_line line found first is = of_free line (byte_nowhere escape line found first is)
