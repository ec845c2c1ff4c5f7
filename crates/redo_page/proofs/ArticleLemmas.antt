-- The path to a target.
use Rattle.std.proofs.Common.{◌≡◌, ◌≢◌, ℕ, suc, ◌-◌, List, [], ◌∷◌, ◌++◌, Option, Some, sym, ap, ◌∙◌, arith}
use Rattle.redo_html.specs.Parts.Part.{TextPart}
use Rattle.redo_logs.specs.Logs.{Log}
use Rattle.redo_outline.specs.declared.node.Node.{Node}
use Rattle.redo_page.specs.declared.labels.TheConstants.{MORE_ABOVE, PATH_SEPARATOR}
use Rattle.redo_page.specs.Article.{path_parts}
use Rattle.redo_page.specs.Targets.{name_parts}
use Rattle.redo_outline.specs.Facts.{target_at}
use Rattle.redo_page.specs.Tree.{node_at}

module _ (logs : List Log) (nodes : List Node) where
  pub path_cut : (levels : ℕ) (position : Option ℕ) (at : ℕ) → levels ≡ 0 → position ≡ Some at
      → path_parts logs nodes levels position ≡ TextPart MORE_ABOVE.now ∷ []
  unfolding path_parts
  path_cut levels position at none is = ap (λ (left : ℕ). path_parts logs nodes left position) none ∙ ap (path_parts logs nodes 0) is

  pub path_next : (levels : ℕ) (position : Option ℕ) (at : ℕ) (node : Node) → levels ≢ 0 → position ≡ Some at → node ≡ node_at nodes at
      → path_parts logs nodes levels position
      ≡ path_parts logs nodes (levels - 1) node.parent ++ (name_parts (target_at logs node.number) ++ TextPart PATH_SEPARATOR.now ∷ [])
  unfolding path_parts
  path_next levels position at node some is node_is =
      let same : levels ≡ suc (levels - 1) = omega arith in
      ap (λ (left : ℕ). path_parts logs nodes left position) same ∙ ap (path_parts logs nodes (suc (levels - 1))) is
      ∙ ap (λ (now : Node). path_parts logs nodes (levels - 1) now.parent
      ++ (name_parts (target_at logs now.number) ++ TextPart PATH_SEPARATOR.now ∷ [])) (sym node_is)
