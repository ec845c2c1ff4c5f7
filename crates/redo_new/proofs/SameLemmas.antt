-- Nothing is new since the same build.
use Rattle.std.proofs.Common.{◌≡◌, ◌∙◌, ℕ, zero, Bool, true, false, not, ◌&&◌, ℤ, pos, negsuc, suc, List, [], ◌∷◌, ◌++◌, Option, None, Some, filter, map, refl, ap, ap₂}
use Rattle.std.specs.List.{flat_map}
use Rattle.redo_logs.specs.Logs.{Log}
use Rattle.redo_outline.specs.Facts.{is_failure, target_at}
use Rattle.redo_outline.specs.declared.node.Node.{Node}
use Rattle.redo_compare.specs.Baseline.{BaselineValue}
use Rattle.redo_compare.specs.LogChanges.{new_in_log}
use Rattle.redo_compare.specs.Outcomes as outcomes
use Rattle.redo_compare.specs.declared.outcome.Outcome.{Outcome}
use Rattle.redo_new.specs.Laws.{EndAsBefore, line_of}
use Rattle.redo_new.specs.News.{is_fixed, new_line, new_lines, newly_fails, news_of}
use Rattle.redo_new.proofs.LawLemmas.{failing, fixed, new_at}

no_new_failure : (outcome : Outcome) → outcomes.newly_fails (Some outcome) (Some outcome) ≡ false
no_new_failure outcome = by (is_failure outcome.status) (not outcome.fails_below)
  where
    by : (fails alone : Bool) → ((fails && alone) && not fails) ≡ false
    by true true = refl
    by true false = refl
    by false alone = refl

not_fixed : (outcome : Outcome) → outcomes.is_fixed (Some outcome) (Some outcome) ≡ false
not_fixed outcome = by outcome.status (not outcome.fails_below)
  where
    by : (status : Option ℤ) (alone : Bool) → ((is_failure status && alone) && outcomes.is_success status) ≡ false
    by None alone = refl
    by (Some (pos zero)) alone = refl
    by (Some (pos (suc n))) true = refl
    by (Some (pos (suc n))) false = refl
    by (Some (negsuc n)) true = refl
    by (Some (negsuc n)) false = refl

module _ (baseline : BaselineValue) (logs : List Log) where
  no_failing : (nodes : List Node) → EndAsBefore baseline logs nodes → filter (newly_fails baseline logs) nodes ≡ []
  no_failing [] same = refl
  no_failing (node ∷ nodes) same =
      let none : newly_fails baseline logs node ≡ false =
      ap (λ (before : Option Outcome). outcomes.newly_fails before (Some (outcomes.outcome_of node))) same.0
      ∙ no_new_failure (outcomes.outcome_of node) in
      rw none (no_failing nodes same.1)

  no_fixed : (nodes : List Node) → EndAsBefore baseline logs nodes → filter (is_fixed baseline logs) nodes ≡ []
  no_fixed [] same = refl
  no_fixed (node ∷ nodes) same =
      let none : is_fixed baseline logs node ≡ false =
      ap (λ (before : Option Outcome). outcomes.is_fixed before (Some (outcomes.outcome_of node))) same.0
      ∙ not_fixed (outcomes.outcome_of node) in
      rw none (no_fixed nodes same.1)

  module _ (is : (number : ℕ) → new_lines baseline.logs logs number ≡ map (line_of logs number) (new_in_log baseline.logs logs number))
      (none : (number : ℕ) → new_in_log baseline.logs logs number ≡ []) where
    no_new : (nodes : List Node) → flat_map (new_at baseline logs) nodes ≡ []
    no_new [] = refl
    no_new (node ∷ nodes) =
        ap₂ (λ (a b : List (List ℕ)). a ++ b)
        (ap (map (new_line (target_at logs node.number)))
        (is node.number ∙ ap (map (line_of logs node.number)) (none node.number))) (no_new nodes)

    pub no_news : (nodes : List Node) → EndAsBefore baseline logs nodes → news_of baseline logs nodes ≡ []
    no_news nodes same =
        ap₂ (λ (a b : List (List ℕ)). a ++ b) (ap (map (failing baseline logs)) (no_failing nodes same))
        (ap₂ (λ (a b : List (List ℕ)). a ++ b) (no_new nodes) (ap (map (fixed baseline logs)) (no_fixed nodes same)))
