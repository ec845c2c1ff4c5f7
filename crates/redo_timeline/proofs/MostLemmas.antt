-- The greatest number of spans that run at once is reached.
use Rattle.std.proofs.Common.{◌≡◌, ℕ, suc, ◌+◌, ◌≤◌, List, [], ◌∷◌, map, refl, ◌∙◌, arith, inl, inr}
use Rattle.std.specs.List.{Contains}
use Rattle.std.proofs.lemmas.Bool.{cases_lt}
use Rattle.redo_timeline.specs.declared.span.Span.{Span}
use Rattle.redo_timeline.specs.Laws.{IsReached}
use Rattle.redo_timeline.specs.Parallelism.{count_at, greatest}

module _ (count : Span → ℕ) where
  abbrev Attained : List Span → Type 0
  Attained spans = (span : Span) × Contains spans span × (greatest (map count spans) ≡ count span)

  attained : (first : Span) (spans : List Span) → Attained (first ∷ spans)
  attained first [] = (first, (0, omega arith, refl), omega arith)
  attained first (second ∷ spans) = by (attained second spans)
    where
      by : Attained (second ∷ spans) → Attained (first ∷ second ∷ spans)
      by (span, (k, below, at), is) =
          elim (cases_lt (count first) (count span)) [
            | inl less ↦ (span, (suc k, omega (arith, below), at), omega (arith, is, less))
            | inr other ↦ (first, (0, omega arith, refl), omega (arith, is, other))
          ]

pub is_reached : (spans : List Span) → IsReached spans
is_reached [] = inl refl
is_reached (span ∷ spans) = inr (attained (count_at (span ∷ spans)) span spans)
