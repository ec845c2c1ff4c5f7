-- The text is its sections.
use Rattle.std.proofs.Common.{◌≡◌, ◌∙◌, ℕ, Bool, true, false, List, [], ◌∷◌, ◌++◌, filter, map, refl, sym, ap, ap₂}
use Rattle.std.specs.Prelude.{if◌then◌else◌}
use Rattle.std.proofs.lemmas.List.{append-nil}
use Rattle.std.proofs.lemmas.Simd.{map-map}
use Rattle.std.specs.List.{flat_map}
use Rattle.redo_line.specs.Lines.{with_line_feed}
use Rattle.redo_logs.specs.Logs.{Log}
use Rattle.redo_options.specs.declared.options.Options.{Options}
use Rattle.redo_view.specs.Expansion.{shown_events}
use Rattle.redo_outline.specs.Outline.{outline_of, without_warnings}
use Rattle.redo_outline.specs.declared.node.Node.{Node}
use Rattle.redo_compare.specs.Baseline.{BaselineValue, baseline_of}
use Rattle.redo_new.specs.declared.section.Section.TheVariants.{NewlyFailing, New, Fixed}
use Rattle.redo_new.specs.declared.target.TargetNews.{TargetNews}
use Rattle.redo_new.specs.News.{is_fixed, news_of, news_text, newly_fails, options_of}
use Rattle.redo_new.specs.Private.Sections.{line_if, news_at, section_text}
use Rattle.redo_new.proofs.LawLemmas.{failing, fixed, new_at, text-append, text_of}

module _ (baseline : BaselineValue) (logs : List Log) where
  abbrev targets : List Node → List TargetNews
  targets nodes = map (news_at baseline logs) nodes

  -- A section with at most one line for each target.
  one_line : (is : Node → Bool) (line : Node → List ℕ) (nodes : List Node)
      → flat_map (λ (node : Node). text_of (line_if (is node) (line node))) nodes ≡ text_of (map line (filter is nodes))
  one_line is line [] = refl
  one_line is line (node ∷ nodes) = by (one_line is line nodes) (is node)
    where
      by : flat_map (λ (node : Node). text_of (line_if (is node) (line node))) nodes ≡ text_of (map line (filter is nodes)) → (b : Bool)
          → text_of (line_if b (line node)) ++ flat_map (λ (node : Node). text_of (line_if (is node) (line node))) nodes
          ≡ text_of (map line (if b then node ∷ filter is nodes else filter is nodes))
      by others true = ap (λ (l : List ℕ). l ++ flat_map (λ (node : Node). text_of (line_if (is node) (line node))) nodes)
          (append-nil (with_line_feed (line node))) ∙ ap (λ (l : List ℕ). with_line_feed (line node) ++ l) others
      by others false = others

  of_targets : (f : TargetNews → List ℕ) (nodes : List Node)
      → flat_map f (targets nodes) ≡ flat_map (λ (node : Node). f (news_at baseline logs node)) nodes
  of_targets f [] = refl
  of_targets f (node ∷ nodes) = ap (λ (l : List ℕ). f (news_at baseline logs node) ++ l) (of_targets f nodes)

  failing_text : (nodes : List Node)
      → section_text logs NewlyFailing (targets nodes) ≡ text_of (map (failing baseline logs) (filter (newly_fails baseline logs) nodes))
  failing_text nodes = of_targets _ nodes ∙ one_line (newly_fails baseline logs) (failing baseline logs) nodes

  fixed_text : (nodes : List Node)
      → section_text logs Fixed (targets nodes) ≡ text_of (map (fixed baseline logs) (filter (is_fixed baseline logs) nodes))
  fixed_text nodes = of_targets _ nodes ∙ one_line (is_fixed baseline logs) (fixed baseline logs) nodes

  new_text : (nodes : List Node) → section_text logs New (targets nodes) ≡ text_of (flat_map (new_at baseline logs) nodes)
  new_text [] = refl
  new_text (node ∷ nodes) =
      ap (λ (l : List ℕ). text_of (new_at baseline logs node) ++ l) (new_text nodes)
      ∙ sym (text-append (new_at baseline logs node) (flat_map (new_at baseline logs) nodes))

  three_sections : (nodes : List Node)
      → section_text logs NewlyFailing (targets nodes) ++ (section_text logs New (targets nodes) ++ section_text logs Fixed (targets nodes))
      ≡ text_of (news_of baseline logs nodes)
  three_sections nodes =
      let fails = map (failing baseline logs) (filter (newly_fails baseline logs) nodes) in
      let new = flat_map (new_at baseline logs) nodes in
      let fixes = map (fixed baseline logs) (filter (is_fixed baseline logs) nodes) in
      ap₂ (λ (a b : List ℕ). a ++ b) (failing_text nodes)
      (ap₂ (λ (a b : List ℕ). a ++ b) (new_text nodes) (fixed_text nodes) ∙ sym (text-append new fixes))
      ∙ sym (text-append fails (new ++ fixes))

-- A target's news doesn't depend on its numbers of warnings.
pub sections_are : (unchanged : Bool) (earlier logs : List Log) (requested : List (List ℕ)) (options : Options) (baseline : BaselineValue)
    (nodes : List Node) (targets : List TargetNews) → options ≡ options_of unchanged → baseline ≡ baseline_of earlier options requested
    → nodes ≡ map without_warnings (outline_of logs (shown_events logs options requested)) → targets ≡ map (news_at baseline logs) nodes
    → section_text logs NewlyFailing targets ++ (section_text logs New targets ++ section_text logs Fixed targets)
    ≡ news_text unchanged earlier logs requested
sections_are unchanged earlier logs requested options baseline nodes targets options_are baseline_is nodes_are targets_are =
    let shown = outline_of logs (shown_events logs options requested) in
    let same : targets ≡ map (news_at baseline logs) shown =
    targets_are ∙ ap (map (news_at baseline logs)) nodes_are ∙ map-map (news_at baseline logs) without_warnings shown in
    rw (same, baseline_is, options_are)
    (three_sections (baseline_of earlier (options_of unchanged) requested) logs
    (outline_of logs (shown_events logs (options_of unchanged) requested)))
