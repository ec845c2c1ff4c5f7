use Rattle.std.proofs.Common.{List, ◌++◌, ◌∙◌, ap, length, sym, subst}
use Rattle.std.specs.List.{flat_map}
use Rattle.redo_html.specs.Parts.{Part, part_html}
use Rattle.redo_view.specs.Form.{FormWrites}
use Rattle.redo_options.specs.declared.options.Options.{Options}
use Rattle.redo_outline.specs.Contents.{contents_of}
use Rattle.redo_outline.specs.Outline.{log_count}
use Rattle.redo_view.specs.Expansion.{shown_events}
use Rattle.redo_page.specs.Frame.{footer_parts}
use Rattle.redo_page.specs.Page.{page_parts, page_view, request_of, top_parts}
use Rattle.redo_page.specs.Private.Streaming.{streamed_body}
use Rattle.redo_page.specs.Timeline.{timeline_parts}
use Rattle.redo_summary.specs.Usage.{usage_of}
use Rattle.redo_page.proofs.PageIds.{outline_counted}
use Rattle.redo_page.proofs.PageLemmas.{no_memory, view_is}
use Rattle.redo_page.proofs.TreeItems.{tree_is_streamed}
use Rattle.redo_page.proofs.page.write_outlined.Goals as goal

pub returns-in_err-summary : goal.returns-in_err-summary
returns-in_err-summary g c = no_memory _ _ _ c.from_residual-in_err-summary.ensures.1

pub returns-in_err-usage : goal.returns-in_err-usage
returns-in_err-usage g c = no_memory _ _ _ c.from_residual-in_err-usage.ensures.1

pub returns-in_err-news : goal.returns-in_err-news
returns-in_err-news g c = no_memory _ _ _ c.from_residual-in_err-news.ensures.1

pub write_stages-requires-clause-count : goal.write_stages-requires-clause-count
write_stages-requires-clause-count g c =
    let request = request_of c.args.request.now in
    let logs = c.args.table.now in
    let requested = c.args.requested.now in
    ap length c.requires.outline ∙ outline_counted request logs requested
    ∙ ap (λ (options : Options). log_count (contents_of (shown_events logs options requested))) (sym c.requires.options)

pub returns : goal.returns
unfolding page_parts
returns g c =
    let request = request_of c.args.request.now in
    let logs = c.args.table.now in
    let requested = c.args.requested.now in
    let nodes = c.nodes-nodes.result.now in
    let view = page_view request logs requested in
    let roots = c.as_slice-roots.ensures.value ∙ c.in_ok-failures.ensures.roots in
    let dependents = c.as_slice-dependents.ensures.value ∙ c.in_ok-failures.ensures.dependents in
    let unclosed = c.as_slice-unclosed.ensures.value ∙ c.in_ok-failures.ensures.unclosed in
    let news = c.in_ok-news.ensures in
    let usage = c.in_ok-usage.ensures ∙ ap (usage_of nodes request.recipes) c.recipes.ensures in
    let is = view_is request c.args.options.now logs requested nodes c.in_ok-texts.texts c.in_ok-summary.summary c.in_ok-usage.usage
    c.as_slice-roots.result.now c.as_slice-dependents.result.now c.as_slice-unclosed.result.now c.in_ok-news.news c.requires.options
    (c.nodes-nodes.ensures ∙ c.requires.outline) c.in_ok-summary.ensures usage c.in_ok-texts.ensures roots dependents unclosed news in
    subst (λ text. FormWrites (g.W.Sink.written c.args.out.now) (g.W.Sink.written c.write_stages.new.out) text c.write_stages.result)
    ((λ i. flat_map part_html
    (top_parts (is i) ++ (streamed_body (is i) (c.requires.options i) request.max_bytes requested ++ footer_parts (is i))))
    ∙ ap (λ (tree : List Part). flat_map part_html (top_parts view ++ ((timeline_parts view ++ tree) ++ footer_parts view)))
    (sym (tree_is_streamed request logs requested)))
    c.write_stages.ensures
