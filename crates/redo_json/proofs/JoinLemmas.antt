-- Objects that are joined in memory.
use Rattle.std.proofs.Common.{◌≡◌, ◌<◌, ◌≤◌, ◌/◌, ◌%◌, ℕ, Bool, List, ◌++◌, Option, Result, Ok, Err, sym, ap, ◌∙◌, arith, append_assoc}
use Rattle.std.specs.Prelude.{OnOk, decimal}
use Rattle.std.proofs.lemmas.Fmt.{decimal_digit, decimal_step}
use Rattle.redo_diagnostics.specs.Counts.{stored, times_of}
use Rattle.redo_diagnostics.specs.Diagnostic.{DiagnosticValue}
use Rattle.redo_json.specs.Private.Diagnosing.{IsVerbatimDiagnostic}
use Rattle.redo_json.specs.Private.Parts.{diagnostic_front, diagnostic_text, number_text, strings_text}
use Rattle.redo_json.specs.Private.Writing.{IsAppended}
use Rattle.redo_json.proofs.VerbatimLemmas.{joined_object}

-- Equal bytes were appended.
pub appended_as : {E : Type 0} (done : Result (Unit {0}) E) (before after text other : List ℕ) → text ≡ other
    → OnOk done (IsAppended before after text) → OnOk done (IsAppended before after other)
appended_as (Ok u) before after text other is appended = record { is = appended.is ∙ ap (λ (l : List ℕ). before ++ l) is }
appended_as (Err e) before after text other is appended = tt

-- Bytes were appended, and then others.
pub appended_then : {E : Type 0} (done : Result (Unit {0}) E) (before middle after first second : List ℕ) → IsAppended before middle first
    → OnOk done (IsAppended middle after second) → OnOk done (IsAppended before after (first ++ second))
appended_then (Ok u) before middle after first second one two =
    record { is = two.is ∙ ap (λ (l : List ℕ). l ++ second) one.is ∙ append_assoc before first second }
appended_then (Err e) before middle after first second one two = tt

-- A number and its last digit.
pub last_digit : (n : ℕ) → 10 ≤ n → n < 1000 → decimal (n / 10) ++ decimal (n % 10) ≡ decimal n
last_digit n low high =
    ap (λ (l : List ℕ). decimal (n / 10) ++ l) (decimal_digit (n % 10) (omega arith)) ∙ sym (decimal_step n low (omega (arith, high)))

-- Three parts were appended one after the other.
pub three_appended : (before first second after a b c whole : List ℕ) → IsAppended before first a → IsAppended first second b
    → IsAppended second after c → a ++ (b ++ c) ≡ whole → IsAppended before after whole
three_appended before first second after a b c whole one two three is = record {
  is = three.is ∙ ap (λ (l : List ℕ). l ++ c) two.is ∙ append_assoc first b c
      ∙ ap (λ (l : List ℕ). l ++ (b ++ c)) one.is ∙ append_assoc before a (b ++ c) ∙ ap (λ (l : List ℕ). before ++ l) is;
}

-- The three parts of an object.
pub object_is : (is_first : Bool) (position nth : ℕ) (value : DiagnosticValue) (new : Option Bool) (keys : List (List ℕ))
    → IsVerbatimDiagnostic value → nth ≡ stored (times_of value.key keys)
    → diagnostic_front is_first position value ++ (strings_text value ++ number_text nth new)
    ≡ diagnostic_text is_first (record { line = position; value = value; nth = stored (times_of value.key keys) }, new)
object_is is_first position nth value new keys verbatim is =
    joined_object (record { line = position; value = value; nth = nth }) new is_first verbatim
    ∙ ap (λ (n : ℕ). diagnostic_text is_first (record { line = position; value = value; nth = n }, new)) is

-- Bytes without escapes and an escape were appended, of a text that goes on.
pub stretch_joined : (before middle after plain byte behind whole : List ℕ) → whole ≡ plain ++ (byte ++ behind)
    → IsAppended before middle plain → IsAppended middle after byte → after ++ behind ≡ before ++ whole
stretch_joined before middle after plain byte behind whole is first second =
    ap (λ (l : List ℕ). l ++ behind) (second.is ∙ ap (λ (l : List ℕ). l ++ byte) first.is)
    ∙ append_assoc (before ++ plain) byte behind ∙ append_assoc before plain (byte ++ behind)
    ∙ ap (λ (l : List ℕ). before ++ l) (sym is)

-- The rest of a text was appended.
pub rest_joined : {E : Type 0} (done : Result (Unit {0}) E) (initial before after left text escaped : List ℕ) → escaped ≡ left
    → before ++ escaped ≡ initial ++ text → OnOk done (IsAppended before after left) → OnOk done (IsAppended initial after text)
rest_joined (Ok u) initial before after left text escaped same so_far last =
    record { is = last.is ∙ ap (λ (l : List ℕ). before ++ l) (sym same) ∙ so_far }
rest_joined (Err e) initial before after left text escaped same so_far last = tt
