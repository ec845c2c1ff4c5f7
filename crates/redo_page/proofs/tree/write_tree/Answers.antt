use Rattle.std.proofs.Common.{◌≡◌, List, ℕ, [], Err, length, subst, ap, ◌∙◌}
use Rattle.std.specs.List.{flat_map}
use Rattle.std.proofs.lemmas.Result.{err_from_is_err_and}
use Rattle.redo_html.specs.Parts.{part_html}
use Rattle.redo_trim.specs.Trim.{trimmed}
use Rattle.redo_trim.specs.declared.limit.Limit.{Limit}
use Rattle.redo_view.specs.declared.form.FormFault.TheVariants.{Write}
use Rattle.redo_view.specs.Expansion.{shown_events}
use Rattle.redo_view.specs.Form.{FormWrites}
use Rattle.redo_page.specs.Limits.{cap_for, limits_of, tree_limits}
use Rattle.redo_page.specs.Tree.{Build, section_start}
use Rattle.redo_page.specs.Private.Walking.{tree_text}
use Rattle.redo_page.proofs.FormLemmas.{cut_tree, form_stops, form_then}
use Rattle.redo_page.proofs.tree.write_tree.Goals as goal

pub returns-in_err-write_section_start : goal.returns-in_err-write_section_start
returns-in_err-write_section_start g c =
    let given = err_from_is_err_and c.from_residual-in_err-write_section_start.result
    c.from_residual-in_err-write_section_start.ensures.1 in
    let before = g.W.Sink.written c.args.out.now in
    let after = g.W.Sink.written c.write_section_start.new.out in
    let table = c.args.table.now in
    let options = c.args.options.now in
    let outline = c.args.outline.now in
    let shown = shown_events table options c.args.requested.now in
    let limits = tree_limits table outline c.args.budget in
    let build : Build = record { logs = table; options = options; nodes = outline; articles = c.args.positions.now } in
    let splits = cut_tree table options outline c.args.positions.now c.trimmed_events_are_in_tree.ensures.in_tree
    c.trimmed_events_are_in_tree.ensures.tree c.trimmed_events_are_in_tree.ensures.logs
    limits shown (c.events_are_in_contents.ensures table options c.args.requested.now c.requires.known) c.requires.outline
    c.requires.articles in
    rw (given.1, given.2) (subst (λ (text : List ℕ). FormWrites before after text (Err Write)) splits
    (form_stops before after (flat_map part_html section_start)
    (tree_text build (trimmed limits [] shown)) Write c.in_err-write_section_start.ensures))

pub returns : goal.returns
returns g c =
    let before = g.W.Sink.written c.args.out.now in
    let middle = g.W.Sink.written c.write_section_start.new.out in
    let after = g.W.Sink.written c.write_all.new.out in
    let table = c.args.table.now in
    let options = c.args.options.now in
    let outline = c.args.outline.now in
    let shown = shown_events table options c.args.requested.now in
    let limits = tree_limits table outline c.args.budget in
    let build : Build = record { logs = table; options = options; nodes = outline; articles = c.args.positions.now } in
    let limits_are : c.in_ok-limits.limits.items ≡ limits =
    c.in_ok-limits.ensures ∙ (λ i. limits_of (c.requires.articles i) outline
    ((c.cap_for.ensures ∙ ap (cap_for c.args.budget) c.nodes.ensures) i) (length table)) in
    let splits = cut_tree table options outline c.args.positions.now c.trimmed_events_are_in_tree.ensures.in_tree
    c.trimmed_events_are_in_tree.ensures.tree c.trimmed_events_are_in_tree.ensures.logs
    limits shown (c.events_are_in_contents.ensures table options c.args.requested.now c.requires.known) c.requires.outline
    c.requires.articles in
    subst (λ (text : List ℕ). FormWrites before after text c.write_all.result) splits
    (form_then before middle after (flat_map part_html section_start)
    (tree_text build (trimmed limits [] shown)) c.write_all.result c.in_ok-write_section_start.ensures
    (subst (λ (ls : List Limit). FormWrites middle after (tree_text build (trimmed ls [] shown)) c.write_all.result)
    (c.deref.ensures.value ∙ limits_are) c.write_all.ensures))
