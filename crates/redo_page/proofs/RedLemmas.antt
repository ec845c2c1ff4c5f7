-- A page is red exactly if a target failed.
use Rattle.std.proofs.Common.{◌≡◌, ℕ, suc, zero, Bool, true, false, List, [], ◌∷◌, ◌++◌, map, length, take, refl, sym, ◌∙◌, ap, subst, arith}
use Rattle.std.specs.Prelude.{◌&&◌, ◌||◌, nat_lt, not, slice_get, if◌then◌else◌}
use Rattle.std.specs.List.{flat_map, list_any}
use Rattle.std.proofs.lemmas.Bool.{lt-ltb}
use Rattle.std.proofs.lemmas.List.Sorted.{length_permutation}
use Rattle.redo_html.specs.Parts.{Part}
use Rattle.redo_logs.specs.Logs.{Log}
use Rattle.redo_outline.specs.declared.node.Node.{Node}
use Rattle.redo_outline.specs.declared.node.RunTimes.{RunTimes}
use Rattle.redo_outline.specs.Laws.{AllSumUp}
use Rattle.redo_outline.specs.Outline.{with_times}
use Rattle.redo_page.specs.declared.verdict.Verdict.{Verdict}
use Rattle.redo_page.specs.declared.verdict.Verdict.TheVariants.{Failed, Unfinished, Made}
use Rattle.redo_page.specs.Failed.{failed_parts}
use Rattle.redo_page.specs.Frame.{footer_parts, head_parts, header_parts}
use Rattle.redo_page.specs.Laws.{IsRed, says_failed, title_in}
use Rattle.redo_page.specs.Page.{Request, body_parts, options_of, page_view}
use Rattle.redo_page.specs.Scope.{View}
use Rattle.redo_page.specs.NewSection.{news_parts}
use Rattle.redo_page.specs.Summary.{summary_parts}
use Rattle.redo_page.specs.Tree.{failure_cmp, has_failed, root_failures, is_root_failure, positions_where}
use Rattle.redo_page.specs.Verdict.{is_unfinished, title_text, verdict_of}
use Rattle.redo_timeline.proofs.OrderLemmas.{sort-permutation}

any_taken : (nodes : List Node) (count : ℕ) → list_any has_failed (take count nodes) ≡ true → list_any has_failed nodes ≡ true
any_taken nodes zero any = absurd (cc)
any_taken [] (suc count) any = any
any_taken (node ∷ nodes) (suc count) any = by (has_failed node) any (any_taken nodes count)
  where
    by : (failed : Bool) → (failed || list_any has_failed (take count nodes)) ≡ true
        → (list_any has_failed (take count nodes) ≡ true → list_any has_failed nodes ≡ true) → (failed || list_any has_failed nodes) ≡ true
    by true any more = refl
    by false any more = more any

-- A node that says that a target below it failed is followed by a target that failed.
abbrev AllTell : List Node → Type 0
AllTell [] = Unit {0}
AllTell (node ∷ nodes) = (node.fails_below ≡ true → list_any has_failed nodes ≡ true) × AllTell nodes

tell : (nodes : List Node) → AllSumUp nodes → AllTell nodes
tell [] sums = tt
tell (node ∷ nodes) sums = (λ below. any_taken nodes node.below (sym sums.0.failures ∙ below), tell nodes sums.1)

any_timed : (times : List RunTimes) (nodes : List Node) → list_any has_failed (map (with_times times) nodes) ≡ list_any has_failed nodes
any_timed times [] = refl
any_timed times (node ∷ nodes) = ap (λ (any : Bool). has_failed node || any) (any_timed times nodes)

timed_tell : (times : List RunTimes) (nodes : List Node) → AllTell nodes → AllTell (map (with_times times) nodes)
timed_tell times [] tells = tt
timed_tell times (node ∷ nodes) tells = (λ below. any_timed times nodes ∙ tells.0 below, timed_tell times nodes tells.1)

-- There is a root failure exactly if a target failed.
some_root : (position : ℕ) (nodes : List Node) → AllTell nodes
    → nat_lt 0 (length (positions_where is_root_failure position nodes)) ≡ list_any has_failed nodes
some_root position [] tells = refl
some_root position (node ∷ nodes) tells = by (has_failed node) node.fails_below tells.0 (some_root (suc position) nodes tells.1)
  where
    by : (failed below : Bool) → (below ≡ true → list_any has_failed nodes ≡ true)
        → nat_lt 0 (length (positions_where is_root_failure (suc position) nodes)) ≡ list_any has_failed nodes
        → nat_lt 0 (length (if failed && not below then position ∷ positions_where is_root_failure (suc position) nodes
        else positions_where is_root_failure (suc position) nodes))
        ≡ (failed || list_any has_failed nodes)
    by true false tells more =
        lt-ltb 0 (suc (length (positions_where is_root_failure (suc position) nodes))) (omega arith)
    by true true tells more = more ∙ tells refl
    by false below tells more = more

failures_some : (nodes : List Node) → AllTell nodes → nat_lt 0 (length (root_failures nodes)) ≡ list_any has_failed nodes
failures_some nodes tells =
    ap (nat_lt 0) (length_permutation (positions_where is_root_failure 0 nodes) (root_failures nodes)
    (sort-permutation (failure_cmp nodes) (positions_where is_root_failure 0 nodes))) ∙ some_root 0 nodes tells

-- ---- the page

abbrev verdict_if : Bool → Bool → Verdict
verdict_if failed unfinished = if failed then Failed else if unfinished then Unfinished else Made

pub verdict_is : (times : List RunTimes) (nodes : List Node) → AllSumUp nodes
    → verdict_of (map (with_times times) nodes)
    ≡ verdict_if (list_any has_failed (map (with_times times) nodes)) (list_any is_unfinished (map (with_times times) nodes))
verdict_is times nodes sums =
    ap (λ (failed : Bool). verdict_if failed (list_any is_unfinished (map (with_times times) nodes)))
    (failures_some (map (with_times times) nodes) (timed_tell times nodes (tell nodes sums)))

-- A page that begins with the head of a build with this verdict.
abbrev page_of : View → List Part → Verdict → List Part
page_of view rest verdict = head_parts (record view { verdict = verdict; tab = title_text view.title verdict view.heading }) ++ rest

module _ (failed unfinished : Bool) (view : View) (rest : List Part) (verdict : Verdict) (is : verdict ≡ verdict_if failed unfinished) where
  pub red_if : failed ≡ true → IsRed (page_of view rest verdict)
  red_if failing =
      subst (λ (v : Verdict). IsRed (page_of view rest v)) (sym (is ∙ ap (λ (b : Bool). verdict_if b unfinished) failing)) refl

  pub red_only : failed ≡ false → IsRed (page_of view rest verdict) → ⊥
  red_only none red =
      by unfinished (subst (λ (v : Verdict). IsRed (page_of view rest v)) (is ∙ ap (λ (b : Bool). verdict_if b unfinished) none) red)
    where
      by : (unfinished : Bool) → IsRed (page_of view rest (if unfinished then Unfinished else Made)) → ⊥
      by true red = absurd (cc)
      by false red = absurd (cc)

  pub title_is : says_failed (slice_get (flat_map title_in (page_of view rest verdict)) 0) ≡ failed
  title_is = ap (λ (v : Verdict). says_failed (slice_get (flat_map title_in (page_of view rest v)) 0)) is ∙ by failed unfinished
    where
      by : (failed unfinished : Bool)
          → says_failed (slice_get (flat_map title_in (page_of view rest (verdict_if failed unfinished))) 0) ≡ failed
      by true unfinished = refl
      by false true = refl
      by false false = refl

-- The parts after the head of a page.
abbrev pub page_rest : Request → List Log → List (List ℕ) → List Part
page_rest request logs requested =
    let view = page_view request logs requested in
    (header_parts view ++ (failed_parts view ++ (news_parts view ++ summary_parts view)))
    ++ (body_parts view (options_of request) request.max_bytes requested ++ footer_parts view)
