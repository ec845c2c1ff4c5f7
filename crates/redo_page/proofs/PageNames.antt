-- The names of targets in the whole page.
use Rattle.std.proofs.Common.{◌≡◌, ℕ, zero, suc, ◌+◌, Bool, true, false, List, [], ◌∷◌, ◌++◌, Option, None, Some, map, refl, sym, ◌∙◌, ap, subst}
use Rattle.std.specs.Prelude.{◌&&◌, nat_lt, slice_get, take, if◌then◌else◌}
use Rattle.std.specs.List.{AllByRecursion}
use Rattle.std.proofs.lemmas.List.{append-nil, map-append}
use Rattle.std.proofs.lemmas.Option.{same_Some}
use Rattle.redo_facts.specs.Facts.{RecipeFacts}
use Rattle.redo_logs.specs.Logs.{Log, log_number}
use Rattle.redo_view.specs.Event.{Event}
use Rattle.redo_html.specs.declared.markup.Markup.{Markup}
use Rattle.redo_html.specs.Parts.{Part}
use Rattle.redo_html.specs.Parts.Part.{MarkupPart}
use Rattle.redo_outline.specs.declared.node.Node.{Node}
use Rattle.redo_outline.specs.Contents.{Contents, contents_of}
use Rattle.redo_outline.specs.Contents.Contents.{Nothing, Shown, Opened}
use Rattle.redo_outline.specs.Facts.{target_status}
use Rattle.redo_outline.specs.Outline.{log_count, nodes_of, outline_of, times_at, with_times}
use Rattle.redo_page.specs.declared.frame.TheConstants.{FOOTER, HEAD, HEADER}
use Rattle.redo_page.specs.declared.summary.TheConstants.{SECTION}
use Rattle.redo_page.specs.Laws.{IsOfTarget, TellsItsTarget}
use Rattle.redo_page.specs.Limits.{tree_limits}
use Rattle.redo_page.specs.Page.{Request, options_of, page_contents, page_events, page_facts, page_news, page_outline, page_parts, page_view, run_times, top_parts}
use Rattle.redo_page.specs.Scope.{View, max_rows}
use Rattle.redo_page.specs.Summary.{summary_parts}
use Rattle.redo_page.specs.Tree.{node_at}
use Rattle.redo_page.specs.declared.scope.Rows.TheVariants.{Longest, LongestAlone, MostMemory, Warned}
use Rattle.redo_page.specs.declared.scope.Rows.TheVariants as rows
use Rattle.redo_page.proofs.FailedNames.{HasValues, IsValueOf, failed_tells, known_in, news_tell, template_tells, timeline_tells}
use Rattle.redo_page.proofs.NameLemmas.{KnownRecipes, Tell, TellHere, Tells, from_here, then_tell}
use Rattle.redo_page.proofs.OpeningLemmas.{AreNamed, ArePlaced, contents_named, nodes_placed, same_placed, target_named, timed_node, trim_named, trim_placed}
use Rattle.redo_page.proofs.TreeItems.{tree_is_streamed}
use Rattle.redo_page.proofs.TreeNames.{event_name, tree_tells}
use Rattle.redo_page.specs.Frame.{footer_parts}
use Rattle.redo_summary.specs.declared.rank.Rank.{Rank}
use Rattle.redo_summary.specs.Laws.{HasDuration, HasMemory, HasTimeAlone, HasWarnings}
use Rattle.redo_summary.specs.Summary.{is_timed, summary_of}
use Rattle.redo_summary.specs.Targets.{duration_of, times_of}
use Rattle.redo_summary.specs.Usage.{usage_of}
use Rattle.redo_timeline.specs.declared.span.Span.{Span}
use Rattle.redo_times.specs.declared.times.Times.{Times}

-- ---- nodes

took_is : (times : List Times) (number : ℕ) → (times_at (map run_times times) number).took ≡ duration_of times number
took_is [] number = refl
took_is (one ∷ times) zero = refl
took_is (one ∷ times) (suc number) = took_is times number

ended_is : (times : List Times) (number : ℕ) → (times_at (map run_times times) number).ended ≡ (times_of times number).ended
ended_is [] number = refl
ended_is (one ∷ times) zero = refl
ended_is (one ∷ times) (suc number) = ended_is times number

module _ (logs : List Log) (events : List Event) (times : List Times) where
  abbrev Of : List Node → Type 0
  Of nodes = AllByRecursion (IsOfTarget logs events times) nodes

  both_of : (nodes others : List Node) → Of nodes → Of others → Of (nodes ++ others)
  both_of [] others first last = last
  both_of (node ∷ nodes) others first last = (first.0, both_of nodes others first.1 last)

  nodes_are : (parent : Option ℕ) (position : ℕ) (contents : Contents) → AreNamed logs contents
      → Of (map (with_times (map run_times times)) (nodes_of logs (target_status logs events) parent position contents))
  nodes_are parent position Nothing named = tt
  nodes_are parent position (Shown event rest) named = nodes_are parent position rest named.1
  nodes_are parent position (Opened event number inside rest) named =
      let inner = nodes_of logs (target_status logs events) (Some position) (suc position) inside in
      let others = nodes_of logs (target_status logs events) parent (suc position + log_count inside) rest in
      let name = event_name logs event number named.0 named.1 in (
        record {
          log = ap (λ (n : List ℕ). log_number n logs) (target_named logs name.0 number name.1) ∙ name.1;
          status = refl;
          took = took_is times number;
          ended = ended_is times number;
        },
        subst Of (sym (map-append (with_times (map run_times times)) inner others))
            (both_of (map (with_times (map run_times times)) inner) (map (with_times (map run_times times)) others)
            (nodes_are (Some position) (suc position) inside named.2)
            (nodes_are parent (suc position + log_count inside) rest named.3)),
      )

-- ---- parts

top_tells : (view : View) → HasValues view → Tells (known_in view) view.logs view.nodes (top_parts view)
unfolding top_parts summary_parts
top_tells view values =
    then_tell (known_in view) view.logs view.nodes (template_tells HEAD refl view values)
    (then_tell (known_in view) view.logs view.nodes (template_tells HEADER refl view values)
    (then_tell (known_in view) view.logs view.nodes (failed_tells view)
    (then_tell (known_in view) view.logs view.nodes (news_tell view) (template_tells SECTION refl view values))))

-- ---- rows of tables

-- The values of the ranks are of nodes: the law of the summary.
pub record RanksHaveValues : Type 0 where
  pub longest : (nodes : List Node) (times : List Times) → AllByRecursion (HasDuration nodes times) (summary_of nodes times).longest
  pub alone : (nodes : List Node) (times : List Times)
      → AllByRecursion (HasTimeAlone (summary_of nodes times).recipes) (summary_of nodes times).alone
  pub warned : (nodes : List Node) (times : List Times) → AllByRecursion (HasWarnings nodes) (summary_of nodes times).warned
  pub memory : (nodes : List Node) (facts : List RecipeFacts) (recipes : List Span)
      → AllByRecursion (HasMemory nodes facts) (usage_of nodes facts recipes).memory

found : (nodes : List Node) (position : ℕ) (node : Node) → slice_get nodes position ≡ Some node → node ≡ node_at nodes position
found [] position node is = absurd (cc)
found (other ∷ nodes) zero node is = sym (same_Some other node is)
found (other ∷ nodes) (suc position) node is = found nodes position node is

holds_at : (P : Node → Type 0) (nodes : List Node) (position : ℕ) (node : Node) → slice_get nodes position ≡ Some node
    → AllByRecursion P nodes → P node
holds_at P [] position node is all = absurd (cc)
holds_at P (other ∷ nodes) zero node is all = subst P (same_Some other node is) all.0
holds_at P (other ∷ nodes) (suc position) node is all = holds_at P nodes position node is all.1

module _ (request : Request) (logs : List Log) (requested : List (List ℕ)) where
  abbrev nodes : List Node
  nodes = page_outline request logs requested

  abbrev recipes : KnownRecipes
  recipes = record { facts = request.recipes; spans = (page_facts request logs requested).recipes }

  abbrev events : List Event
  events = page_events request logs requested

  abbrev shown : Contents
  shown = contents_of events

  named : AreNamed logs shown
  named = contents_named logs (options_of request) requested

  pub page_targets : AllByRecursion (IsOfTarget logs events request.times) nodes
  page_targets = nodes_are logs events request.times None 0 shown named

  pub page_placed : ArePlaced nodes 0 (page_contents request logs requested)
  page_placed =
      trim_placed (tree_limits logs nodes request.max_bytes) nodes [] 0 shown
      (same_placed (outline_of logs events) nodes (timed_node (map run_times request.times) (outline_of logs events)) 0 shown
      (nodes_placed logs (target_status logs events) None 0 shown [] [] (outline_of logs events) refl
      (append-nil (outline_of logs events))))

  module _ (ranks : RanksHaveValues) where
    duration_at : (rank : Rank) → HasDuration nodes request.times rank
        → IsValueOf recipes Longest (node_at nodes rank.position) rank
    duration_at rank (node, is, took, known, value) =
        subst (λ (n : Node). IsValueOf recipes Longest n rank) (found nodes rank.position node is)
        (took, (holds_at (IsOfTarget logs events request.times) nodes rank.position node is page_targets).took ∙ known, value)

    alone_at : (rank : Rank) → HasTimeAlone recipes.spans rank → IsValueOf recipes LongestAlone (node_at nodes rank.position) rank
    alone_at rank has = has

    memory_at : (rank : Rank) → HasMemory nodes request.recipes rank
        → IsValueOf recipes MostMemory (node_at nodes rank.position) rank
    memory_at rank (node, is, usage, known, value) =
        subst (λ (n : Node). IsValueOf recipes MostMemory n rank) (found nodes rank.position node is) (usage, known, value)

    warnings_at : (rank : Rank) → HasWarnings nodes rank → IsValueOf recipes Warned (node_at nodes rank.position) rank
    warnings_at rank (node, is, value) =
        subst (λ (n : Node). IsValueOf recipes Warned n rank) (found nodes rank.position node is) value

    each : {P Q : Rank → Type 0} → ((rank : Rank) → P rank → Q rank) → (all : List Rank) → AllByRecursion P all → AllByRecursion Q all
    each so [] have = tt
    each so (rank ∷ all) have = (so rank have.0, each so all have.1)

    each_new : (all : List Rank) → AllByRecursion (λ (rank : Rank). IsValueOf recipes rows.New (node_at nodes rank.position) rank) all
    each_new [] = tt
    each_new (rank ∷ all) = (tt, each_new all)

    values : HasValues (page_view request logs requested)
    values Longest = by (is_timed (page_facts request logs requested))
      where
        by : (timed : Bool) → AllByRecursion (λ (rank : Rank). IsValueOf recipes Longest (node_at nodes rank.position) rank)
            (if timed then (page_facts request logs requested).longest else [])
        by true = each duration_at (page_facts request logs requested).longest (ranks.longest nodes request.times)
        by false = tt
    values LongestAlone = by (is_timed (page_facts request logs requested) && nat_lt 1 (page_facts request logs requested).most)
      where
        by : (shown : Bool) → AllByRecursion (λ (rank : Rank). IsValueOf recipes LongestAlone (node_at nodes rank.position) rank)
            (if shown then (page_facts request logs requested).alone else [])
        by true = each alone_at (page_facts request logs requested).alone (ranks.alone nodes request.times)
        by false = tt
    values MostMemory = each memory_at (usage_of nodes request.recipes (page_facts request logs requested).recipes).memory
        (ranks.memory nodes request.recipes (page_facts request logs requested).recipes)
    values rows.New = each_new (take max_rows (page_news request logs requested).lines)
    values Warned = each warnings_at (page_facts request logs requested).warned (ranks.warned nodes request.times)

  page_tells : RanksHaveValues → Tells recipes logs nodes (page_parts request logs requested)
  unfolding page_parts footer_parts
  page_tells ranks =
      let view = page_view request logs requested in
      let limits = tree_limits logs nodes request.max_bytes in
      then_tell recipes logs nodes (top_tells view (values ranks))
      (then_tell recipes logs nodes
      (then_tell recipes logs nodes (timeline_tells view (values ranks))
      (subst (λ (tree : List Part). Tells recipes logs nodes tree) (sym (tree_is_streamed request logs requested))
      (tree_tells recipes logs (options_of request) nodes (page_contents request logs requested)
      (trim_named limits logs [] shown named)
      page_placed)))
      (template_tells FOOTER refl view (values ranks)))

  all_tell : RanksHaveValues → Tell recipes logs nodes (page_parts request logs requested)
  all_tell ranks =
      subst (Tell recipes logs nodes) (append-nil (page_parts request logs requested))
      ((page_tells ranks).before [] tt)

  pub page_names : RanksHaveValues → (before : List Part) (tag : Markup) (after : List Part)
      → before ++ (MarkupPart tag ∷ after) ≡ page_parts request logs requested
      → TellsItsTarget logs nodes recipes.facts recipes.spans tag after
  page_names ranks before tag after is =
      from_here (TellHere recipes logs nodes) before (MarkupPart tag) after
      (subst (Tell recipes logs nodes) (sym is) (all_tell ranks))
