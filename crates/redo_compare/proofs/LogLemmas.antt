-- The diagnostics of a log, line by line.
use Rattle.std.proofs.Common.{◌≡◌, ℕ, ◌+◌, ◌≤◌, List, [], ◌∷◌, ◌++◌, Option, None, length, sym, ap, ◌∙◌, subst, arith}
use Rattle.std.specs.Prelude.{false, is_some}
use Rattle.std.specs.List.{AllByRecursion}
use Rattle.std.proofs.lemmas.List.{append-nil, append_assoc, length-append}
use Rattle.redo_diagnostics.specs.Diagnostic.{PartsValue, diagnostic_of}
use Rattle.redo_line.specs.Lines.{ended}
use Rattle.redo_outline.specs.TextLines.{AreNextLines, LinesLeft}
use Rattle.redo_compare.specs.Occurrences.{FoundValue, IsFoundIn, occurrence_if, occurrences_of}
use Rattle.redo_compare.specs.Private.Finding.{IsFoundBefore, with_source_if}
use Rattle.redo_compare.specs.Skipping.{AreSkipped}
use Rattle.redo_compare.specs.Source.{source_of}
use Rattle.redo_compare.proofs.DiagnosticLemmas.{no_parts}
use Rattle.redo_compare.proofs.FindingLemmas.{ends-push, occurrences-push}

-- A line that is no diagnostic, after another one.
skip-line : (lines : List (List ℕ)) (line : List ℕ) (found : FoundValue) → IsFoundIn lines found → found.is_last ≡ false
    → diagnostic_of line ≡ None → IsFoundIn (lines ++ line ∷ []) found
skip-line lines line found is not_last no_diagnostic = record {
  occurrences = is.occurrences
      ∙ sym (occurrences-push 0 lines line
      ∙ (λ i. with_source_if ((sym is.is_last ∙ not_last) i) (source_of line) (occurrences_of lines)
      ++ occurrence_if (0 + length lines) (no_parts line no_diagnostic i) [] [])
      ∙ append-nil (occurrences_of lines));
  is_last = not_last ∙ sym (ends-push lines line ∙ ap (λ (parts : Option PartsValue). is_some parts) (no_parts line no_diagnostic));
}

skip-lines : (lines more : List (List ℕ)) (found : FoundValue) → IsFoundIn lines found → found.is_last ≡ false
    → AllByRecursion (λ line. diagnostic_of line ≡ None) more → IsFoundIn (lines ++ more) found
skip-lines lines [] found is not_last none = subst (λ (l : List (List ℕ)). IsFoundIn l found) (sym (append-nil lines)) is
skip-lines lines (line ∷ more) found is not_last none =
    subst (λ (l : List (List ℕ)). IsFoundIn l found) (append_assoc lines (line ∷ []) more)
    (skip-lines (lines ++ line ∷ []) more found (skip-line lines line found is not_last none.0) not_last none.1)

-- ---- the lines of a log

pub found-none : (all : List (List ℕ)) (lines : LinesLeft) (found : FoundValue) → lines.left ≡ all → lines.done ≡ 0 → IsFoundIn [] found
    → IsFoundBefore all lines found
found-none all lines found left done is = record { before = []; whole = sym left; count = done; is = is }

pub found-skipped : (all : List (List ℕ)) (before after : LinesLeft) (found : FoundValue) → AreSkipped before after
    → found.is_last ≡ false → IsFoundBefore all before found → IsFoundBefore all after found
found-skipped all before after found skipped not_last so_far = record {
  before = so_far.before ++ skipped.lines;
  whole = so_far.whole ∙ ap (λ (l : List (List ℕ)). so_far.before ++ l) skipped.left
      ∙ sym (append_assoc so_far.before skipped.lines after.left);
  count =
      let count = so_far.count in
      let done = skipped.done in
      omega (arith, count, done, length-append so_far.before skipped.lines);
  is = skip-lines so_far.before skipped.lines found so_far.is not_last skipped.others;
}

pub found-line : (all : List (List ℕ)) (before after : LinesLeft) (line : List ℕ) (old new : FoundValue)
    → before.left ≡ line ∷ after.left → after.done ≡ before.done + 1
    → ((lines : List (List ℕ)) → before.done ≡ length lines → IsFoundIn lines old → IsFoundIn (lines ++ line ∷ []) new)
    → IsFoundBefore all before old → IsFoundBefore all after new
found-line all before after line old new is done added so_far = record {
  before = so_far.before ++ line ∷ [];
  whole = so_far.whole ∙ ap (λ (l : List (List ℕ)). so_far.before ++ l) is
      ∙ sym (append_assoc so_far.before (line ∷ []) after.left);
  count = let count = so_far.count in omega (arith, count, done, length-append so_far.before (line ∷ []));
  is = added so_far.before so_far.count so_far.is;
}

pub found-all : (all : List (List ℕ)) (lines : LinesLeft) (found : FoundValue) → lines.left ≡ [] → IsFoundBefore all lines found
    → IsFoundIn all found
found-all all lines found none so_far =
    subst (λ (l : List (List ℕ)). IsFoundIn l found)
    (sym (so_far.whole ∙ ap (λ (l : List (List ℕ)). so_far.before ++ l) none ∙ append-nil so_far.before)) so_far.is

-- ---- skipped lines

pub fewer_skipped : (before after : LinesLeft) → AreSkipped before after → length after.left ≤ length before.left
fewer_skipped before after skipped =
    let split = ap length skipped.left in omega (arith, split, length-append skipped.lines after.left)

pub none_skipped : (before after : LinesLeft) → after.left ≡ before.left → after.done ≡ before.done → AreSkipped before after
none_skipped before after left done = record { lines = []; left = sym left; done = omega (arith, done); others = tt }

others-append : (lines more : List (List ℕ)) → AllByRecursion (λ line. diagnostic_of line ≡ None) lines
    → AllByRecursion (λ line. diagnostic_of line ≡ None) more → AllByRecursion (λ line. diagnostic_of line ≡ None) (lines ++ more)
others-append [] more first second = second
others-append (line ∷ lines) more first second = (first.0, others-append lines more first.1 second)

-- Another stretch is skipped. `between` are the lines that were left, and `peeked` the same lines when the stretch is known.
pub more_skipped : (before between peeked after : LinesLeft) → AreSkipped before between → peeked.left ≡ between.left
    → peeked.done ≡ between.done → AreNextLines peeked.stretch peeked after
    → AllByRecursion (λ line. diagnostic_of line ≡ None) (ended peeked.stretch) → AreSkipped before after
more_skipped before between peeked after skipped left done next none = record {
  lines = skipped.lines ++ ended peeked.stretch;
  left = skipped.left ∙ ap (λ (l : List (List ℕ)). skipped.lines ++ l) (sym left ∙ next.lines)
      ∙ sym (append_assoc skipped.lines (ended peeked.stretch) after.left);
  done =
      let first = skipped.done in
      let second = next.done in
      omega (arith, first, done, second, length-append skipped.lines (ended peeked.stretch));
  others = others-append skipped.lines (ended peeked.stretch) skipped.others none;
}
