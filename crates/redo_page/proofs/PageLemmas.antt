-- Parts that are written in stages, and the parts of templates.
use Rattle.std.proofs.Common.{◌≡◌, ℕ, ◌+◌, ◌≤◌, List, ◌++◌, Option, Result, Ok, Err, length, take, min, refl, sym, ◌∙◌, ap, subst, arith}
use Rattle.std.specs.Prelude.{IsErrAnd}
use Rattle.std.specs.List.{flat_map}
use Rattle.std.proofs.lemmas.Grind.{flat_map-append}
use Rattle.std.proofs.lemmas.List.{take-append-le, take_min}
use Rattle.std.proofs.Math.Seq.{take-append-add}
use Rattle.redo_device.specs.Sink.{Output, append_output}
use Rattle.redo_device.proofs.WritesLemmas.{append_output-append_output, then, stops, append_nothing}
use Rattle.redo_html.specs.Parts.{Part, part_html}
use Rattle.redo_view.specs.declared.form.FormFault.{FormFault}
use Rattle.redo_view.specs.declared.form.FormFault.TheVariants.{Write, OutOfMemory}
use Rattle.redo_view.specs.Form.{FormWrites}
use Rattle.redo_logs.specs.Logs.{Log}
use Rattle.redo_options.specs.declared.options.Options.{Options}
use Rattle.redo_outline.specs.declared.node.Node.{Node}
use Rattle.redo_page.specs.declared.page.Texts.{Texts}
use Rattle.redo_page.specs.Command.{command}
use Rattle.redo_page.specs.Failed.{is_dependent_failure, is_unclosed}
use Rattle.redo_page.specs.NewSection.{news_of}
use Rattle.redo_page.specs.News.{NewsValue}
use Rattle.redo_page.specs.Page.{Request, build_view, options_of, page_outline, page_view}
use Rattle.redo_page.specs.Private.PageTexts.{AreTexts}
use Rattle.redo_page.specs.Scope.{View}
use Rattle.redo_page.specs.Tree.{no_node, root_failures, positions_where}
use Rattle.redo_summary.specs.Summary.{Facts, summary_of}
use Rattle.redo_summary.specs.Usage.{UsageFacts, usage_of}

-- ---- stages

module _ (before : Option Output) where
  -- A later stage failed, or the last one was written.
  pub after_stage : (middle after : Option Output) (front stage : List ℕ) (done : Result (Unit {0}) FormFault)
      → middle ≡ append_output before front 0 → FormWrites middle after stage done → FormWrites before after (front ++ stage) done
  after_stage middle after front stage (Ok u) is wrote = then before middle after front stage (Ok u) is wrote
  after_stage middle after front stage (Err Write) is wrote = then before middle after front stage (Err (record {})) is wrote
  after_stage middle after front stage (Err OutOfMemory) is wrote = (
    length front + wrote.0,
    wrote.1 ∙ ap (λ t. append_output t (take wrote.0 stage) 0) is
        ∙ append_output-append_output before front (take wrote.0 stage) 0 0
        ∙ ap (λ b. append_output before b 0) (sym (take-append-add front stage wrote.0)),
  )

  -- More follows a stage that failed.
  pub stage_stops : (after : Option Output) (stage rest : List ℕ) (fault : FormFault) → FormWrites before after stage (Err fault)
      → FormWrites before after (stage ++ rest) (Err fault)
  stage_stops after stage rest Write wrote = stops before after stage rest (record {}) (Err (record {})) refl wrote
  stage_stops after stage rest OutOfMemory wrote =
      let n = min wrote.0 (length stage) in
      let within : n ≤ length stage = omega arith in
      (n, wrote.1 ∙ ap (λ b. append_output before b 0) (sym (take-append-le n stage rest within ∙ take_min wrote.0 stage)))

-- An allocation failed before anything was written.
pub no_memory : (output : Option Output) (text : List ℕ) (result : Result (Unit {0}) FormFault)
    → IsErrAnd result (λ fault. fault ≡ OutOfMemory) → FormWrites output output text result
no_memory output text (Ok done) is = absurd is
no_memory output text (Err Write) is = absurd (cc)
no_memory output text (Err OutOfMemory) is = (0, append_nothing output)

-- ---- parts in stages

pub stage_fails : (before after : Option Output) (first second : List Part) (fault : FormFault)
    → FormWrites before after (flat_map part_html first) (Err fault)
    → FormWrites before after (flat_map part_html (first ++ second)) (Err fault)
stage_fails before after first second fault wrote =
    subst (λ text. FormWrites before after text (Err fault)) (sym (flat_map-append part_html first second))
    (stage_stops before after (flat_map part_html first) (flat_map part_html second) fault wrote)

-- The second stage failed, or was written.
pub next_stage : (before middle after : Option Output) (first second : List Part) (done : Result (Unit {0}) FormFault)
    → FormWrites before middle (flat_map part_html first) (Ok tt) → FormWrites middle after (flat_map part_html second) done
    → FormWrites before after (flat_map part_html (first ++ second)) done
next_stage before middle after first second done wrote more =
    subst (λ text. FormWrites before after text done) (sym (flat_map-append part_html first second))
    (after_stage before middle after (flat_map part_html first) (flat_map part_html second) done wrote more)

-- ---- the parts of templates

module _ (request : Request) (options : Options) (logs : List Log) (requested : List (List ℕ)) (nodes : List Node) (texts : Texts)
    (facts : Facts) (usage : UsageFacts) (roots dependents unclosed : List ℕ) (news : NewsValue) where
  abbrev pub view_with : View
  view_with = record {
    title = request.title;
    dir = request.dir;
    verdict = texts.verdict;
    heading = texts.heading.items;
    tab = texts.title.items;
    command = texts.command.items;
    logs = logs;
    nodes = nodes;
    recipes = request.recipes;
    facts = facts;
    usage = usage;
    roots = roots;
    dependents = dependents;
    unclosed = unclosed;
    news = news;
    rank = record { value = 0; position = 0 };
    largest = 0;
    node = no_node;
  }

  pub view_is : options ≡ options_of request → nodes ≡ page_outline request logs requested → facts ≡ summary_of nodes request.times
      → usage ≡ usage_of nodes request.recipes facts.recipes → AreTexts request options requested nodes texts
      → roots ≡ root_failures nodes → dependents ≡ positions_where is_dependent_failure 0 nodes
      → unclosed ≡ positions_where is_unclosed 0 nodes → news ≡ news_of request.baseline logs nodes
      → view_with ≡ page_view request logs requested
  view_is options_are nodes_are facts_are usage_is are roots_are dependents_are unclosed_are news_are =
      let used : usage ≡ usage_of nodes request.recipes (summary_of nodes request.times).recipes =
      usage_is ∙ ap (λ (known : Facts). usage_of nodes request.recipes known.recipes) facts_are in
      (λ i. record view_with {
        verdict = are.verdict i;
        heading = are.heading i;
        tab = are.title i;
        command = are.command i;
        facts = facts_are i;
        usage = used i;
        roots = roots_are i;
        dependents = dependents_are i;
        unclosed = unclosed_are i;
        news = news_are i;
      })
      ∙ (λ i. build_view request.title request.dir (command request.dir (options_are i) requested) request.recipes logs (nodes_are i)
      (summary_of (nodes_are i) request.times) (news_of request.baseline logs (nodes_are i)))
