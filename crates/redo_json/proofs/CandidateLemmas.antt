-- Lines that are skipped because they are no diagnostics.
use Rattle.std.proofs.Common.{◌≡◌, ℕ, suc, ◌+◌, ◌≤◌, Bool, List, [], ◌∷◌, ◌++◌, Option, None, length, sym, ap, ◌∙◌, subst, arith}
use Rattle.std.specs.List.{AllByRecursion}
use Rattle.std.proofs.lemmas.List.{length-append}
use Rattle.redo_device.specs.Sink.{Output}
use Rattle.redo_diagnostics.specs.Diagnostic.{DiagnosticValue, diagnostic_of}
use Rattle.redo_outline.specs.TextLines.{LinesLeft}
use Rattle.redo_compare.specs.Skipping.{AreSkipped}
use Rattle.redo_json.specs.declared.kind.Kind.{Kind}
use Rattle.redo_json.specs.Diagnostics.{flagged, numbered_from, placed_from, placed_if}
use Rattle.redo_json.specs.Private.Diagnosing.{WroteDiagnostics}
use Rattle.redo_json.specs.Private.LogLines.{AreOfKind}
use Rattle.redo_json.specs.Private.Parts.{diagnostics_text}
use Rattle.redo_json.proofs.KindLemmas.{kind_parts}
use Rattle.redo_json.proofs.WritingLemmas.{left_is}

-- Lines without diagnostics have no part in what is found.
placed_after : (skipped others : List (List ℕ)) (position : ℕ) → AllByRecursion (λ line. diagnostic_of line ≡ None) skipped
    → placed_from position (skipped ++ others) ≡ placed_from (position + length skipped) others
placed_after [] others position none =
    let same : position ≡ position + 0 = omega arith in ap (λ (n : ℕ). placed_from n others) same
placed_after (line ∷ skipped) others position none =
    let same : suc position + length skipped ≡ position + suc (length skipped) = omega arith in
    ap (λ (found : Option DiagnosticValue). placed_if position found (placed_from (suc position) (skipped ++ others))) none.0
    ∙ placed_after skipped others (suc position) none.1 ∙ ap (λ (n : ℕ). placed_from n others) same

module _ (before after : LinesLeft) (skipped : AreSkipped before after) where
  pub placed_same : placed_from before.done before.left ≡ placed_from after.done after.left
  placed_same = ap (placed_from before.done) skipped.left ∙ placed_after skipped.lines after.left before.done skipped.others
      ∙ ap (λ (n : ℕ). placed_from n after.left) (sym skipped.done)

  pub kind_left : (kind : Kind) → AreOfKind kind before.left → AreOfKind kind after.left
  kind_left kind all = (kind_parts kind skipped.lines after.left (subst (AreOfKind kind) skipped.left all)).1

  pub fewer_candidates : length after.left ≤ length before.left
  fewer_candidates = let split = ap length skipped.left in omega (arith, split, length-append skipped.lines after.left)

-- What was written before skipped lines is what was written before the others.
pub at_candidates : (before after : Option Output) (text : List ℕ) (is_first : Bool) (flags : Option (List Bool)) (left others : LinesLeft)
    (counts : List (List ℕ × ℕ)) (buffer : List ℕ) → AreSkipped left others
    → WroteDiagnostics before after text is_first flags left counts buffer
    → WroteDiagnostics before after text is_first flags others counts buffer
at_candidates before after text is_first flags left others counts buffer skipped so_far = record {
  keys = so_far.keys;
  counted = so_far.counted;
  few = let few = so_far.few in let done = skipped.done in omega (arith, few, done);
  wrote = left_is before after text _ _
      (ap (λ (found : List (ℕ × DiagnosticValue)).
      buffer ++ diagnostics_text is_first (flagged flags (numbered_from so_far.keys found))) (placed_same left others skipped))
      so_far.wrote;
}
