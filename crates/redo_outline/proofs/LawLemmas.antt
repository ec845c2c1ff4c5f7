-- The counts of nodes: of the logs below them.
use Rattle.std.proofs.Common.{◌≡◌, ℕ, suc, ◌+◌, Bool, true, false, List, [], ◌∷◌, ◌++◌, Option, Some, ℤ, length, take, refl, sym, ap, ◌∙◌, arith}
use Rattle.std.specs.Prelude.{◌&&◌, ◌||◌, not}
use Rattle.std.specs.List.{list_any, sum_by}
use Rattle.std.proofs.Math.Seq.{take-append_seam}
use Rattle.std.proofs.lemmas.List.{length-append, take-append-le}
use Rattle.std.proofs.lemmas.List.Folds.{list_any-append}
use Rattle.std.proofs.lemmas.List.Sums.{sum_by-append, sum_by-cons}
use Rattle.redo_logs.specs.Logs.{Log}
use Rattle.redo_outline.specs.declared.node.Node.{Node}
use Rattle.redo_outline.specs.Contents.{Contents}
use Rattle.redo_outline.specs.Contents.Contents.{Nothing, Shown, Opened}
use Rattle.redo_outline.specs.Facts.{saturated}
use Rattle.redo_outline.specs.Laws.{AllSumUp, SumsUp, fails_first, is_failed}
use Rattle.redo_outline.specs.Outline.{has_failed, has_failures, log_count, node_of, nodes_of, warning_count, warnings_in}

abbrev warnings_of : List Node → ℕ
warnings_of nodes = sum_by (λ (node : Node). node.warnings) nodes

-- More nodes at the end change nothing.
sums_up_more : (node : Node) (nodes more : List Node) → SumsUp node nodes → SumsUp node (nodes ++ more)
sums_up_more node nodes more sums =
    let same = sym (take-append-le node.below nodes more sums.within) in
    record {
      within = omega (arith, sums.within, length-append nodes more);
      failures = sums.failures ∙ ap (list_any is_failed) same;
      first_failures = sums.first_failures ∙ ap (list_any fails_first) same;
      warnings = sums.warnings ∙ ap (λ (ns : List Node). saturated (warnings_of ns)) same;
    }

both_sum_up : (nodes more : List Node) → AllSumUp nodes → AllSumUp more → AllSumUp (nodes ++ more)
both_sum_up [] more first second = second
both_sum_up (node ∷ nodes) more first second = (sums_up_more node nodes more first.0, both_sum_up nodes more first.1 second)

either : (failed below others : Bool) → ((failed && not below) || (below || others)) ≡ (failed || (below || others))
either true true others = refl
either true false others = refl
either false below others = refl

-- Sums are cut once, or at each step.
saturated_sum : (a b c : ℕ) → saturated (a + (saturated b + saturated c)) ≡ saturated (a + (b + c))
saturated_sum a b c = omega arith

module _ (logs : List Log) (status : ℕ → Option ℤ) where
  nodes_len : (parent : Option ℕ) (position : ℕ) (contents : Contents)
      → length (nodes_of logs status parent position contents) ≡ log_count contents
  nodes_len parent position Nothing = refl
  nodes_len parent position (Shown event rest) = nodes_len parent position rest
  nodes_len parent position (Opened event number inside rest) =
      ap suc (length-append (nodes_of logs status (Some position) (suc position) inside)
      (nodes_of logs status parent (suc position + log_count inside) rest)
      ∙ ap (λ n. n + length (nodes_of logs status parent (suc position + log_count inside) rest))
      (nodes_len (Some position) (suc position) inside)
      ∙ ap (λ n. log_count inside + n) (nodes_len parent (suc position + log_count inside) rest))

  nodes_failures : (parent : Option ℕ) (position : ℕ) (contents : Contents)
      → list_any is_failed (nodes_of logs status parent position contents) ≡ has_failures logs status contents
  nodes_failures parent position Nothing = refl
  nodes_failures parent position (Shown event rest) = nodes_failures parent position rest
  nodes_failures parent position (Opened event number inside rest) =
      ap (λ (b : Bool). has_failed logs status number || b)
      (list_any-append is_failed (nodes_of logs status (Some position) (suc position) inside)
      (nodes_of logs status parent (suc position + log_count inside) rest)
      ∙ ap (λ (b : Bool). b || list_any is_failed (nodes_of logs status parent (suc position + log_count inside) rest))
      (nodes_failures (Some position) (suc position) inside)
      ∙ ap (λ (b : Bool). has_failures logs status inside || b) (nodes_failures parent (suc position + log_count inside) rest))

  nodes_first_failures : (parent : Option ℕ) (position : ℕ) (contents : Contents)
      → list_any fails_first (nodes_of logs status parent position contents) ≡ has_failures logs status contents
  nodes_first_failures parent position Nothing = refl
  nodes_first_failures parent position (Shown event rest) = nodes_first_failures parent position rest
  nodes_first_failures parent position (Opened event number inside rest) =
      ap (λ (b : Bool). fails_first (node_of logs status parent number inside rest) || b)
      (list_any-append fails_first (nodes_of logs status (Some position) (suc position) inside)
      (nodes_of logs status parent (suc position + log_count inside) rest)
      ∙ ap (λ (b : Bool). b || list_any fails_first (nodes_of logs status parent (suc position + log_count inside) rest))
      (nodes_first_failures (Some position) (suc position) inside)
      ∙ ap (λ (b : Bool). has_failures logs status inside || b) (nodes_first_failures parent (suc position + log_count inside) rest))
      ∙ either (has_failed logs status number) (has_failures logs status inside) (has_failures logs status rest)

  nodes_warnings : (parent : Option ℕ) (position : ℕ) (contents : Contents)
      → warnings_in logs status contents ≡ saturated (warnings_of (nodes_of logs status parent position contents))
  nodes_warnings parent position Nothing = refl
  nodes_warnings parent position (Shown event rest) = nodes_warnings parent position rest
  nodes_warnings parent position (Opened event number inside rest) =
      let first = nodes_of logs status (Some position) (suc position) inside in
      let second = nodes_of logs status parent (suc position + log_count inside) rest in
      let own = warning_count logs status number in
      ap (λ n. saturated (own + (n + warnings_in logs status rest))) (nodes_warnings (Some position) (suc position) inside)
      ∙ ap (λ n. saturated (own + (saturated (warnings_of first) + n))) (nodes_warnings parent (suc position + log_count inside) rest)
      ∙ saturated_sum own (warnings_of first) (warnings_of second)
      ∙ ap (λ n. saturated (own + n)) (sym (sum_by-append (λ (node : Node). node.warnings) first second))
      ∙ ap saturated
      (sym (sum_by-cons (λ (node : Node). node.warnings) (node_of logs status parent number inside rest) (first ++ second)))

  pub all_sum_up : (parent : Option ℕ) (position : ℕ) (contents : Contents) → AllSumUp (nodes_of logs status parent position contents)
  all_sum_up parent position Nothing = tt
  all_sum_up parent position (Shown event rest) = all_sum_up parent position rest
  all_sum_up parent position (Opened event number inside rest) =
      let first = nodes_of logs status (Some position) (suc position) inside in
      let second = nodes_of logs status parent (suc position + log_count inside) rest in
      let len = nodes_len (Some position) (suc position) inside in
      let same : take (log_count inside) (first ++ second) ≡ first =
      ap (λ n. take n (first ++ second)) (sym len) ∙ take-append_seam first second in (
        record {
          within = omega (arith, len, length-append first second);
          failures = sym (nodes_failures (Some position) (suc position) inside) ∙ ap (list_any is_failed) (sym same);
          first_failures = sym (nodes_first_failures (Some position) (suc position) inside) ∙ ap (list_any fails_first) (sym same);
          warnings = nodes_warnings (Some position) (suc position) inside ∙ ap (λ (ns : List Node). saturated (warnings_of ns)) (sym same);
        },
        both_sum_up first second (all_sum_up (Some position) (suc position) inside)
            (all_sum_up parent (suc position + log_count inside) rest),
      )
