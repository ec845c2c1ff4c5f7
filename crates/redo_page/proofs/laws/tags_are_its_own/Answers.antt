use Rattle.std.proofs.Common.{ℕ, List, refl, sym, ◌∙◌, ap, subst}
use Rattle.std.specs.List.{All}
use Rattle.redo_html.specs.Html.{Token, tags_of}
use Rattle.redo_logs.specs.Logs.{Log}
use Rattle.redo_options.specs.declared.options.Options.{Options}
use Rattle.redo_outline.specs.declared.node.Node.{Node}
use Rattle.redo_outline.specs.Contents.{Contents}
use Rattle.redo_page.specs.Laws.{IsOwnTag}
use Rattle.redo_page.proofs.PartNames.{markups}
use Rattle.redo_page.specs.Page.{Request, options_of, page_contents, page_outline, page_parts}
use Rattle.redo_page.proofs.ElementParts.{tree_inside}
use Rattle.redo_page.proofs.PageElements.{only_tree}
use Rattle.redo_page.proofs.PageTags.{each_own}
use Rattle.redo_page.proofs.TreeTags.{tree_same}
use Rattle.redo_page.proofs.laws.tags_are_its_own.Goals as goal

pub returns-clause-tags : goal.returns-clause-tags
returns-clause-tags c = λ request logs requested.
    subst (λ (tokens : List Token). All IsOwnTag (tags_of tokens)) (sym (c.page_is_read.ensures.parts request logs requested))
    (each_own c.passages_are_read_as_shown.ensures c.charts_have_no_text_in_tags.ensures (page_parts request logs requested))

pub returns-clause-tree : goal.returns-clause-tree
returns-clause-tree c = λ request other logs others requested other_requested rename shape inside other_inside is other_is.
    let options = options_of request in
    let nodes = page_outline request logs requested in
    let contents = page_contents request logs requested in
    let others_contents = page_contents other others other_requested in
    let only = λ (page : Request) (of : List Log) (names : List (List ℕ)). only_tree page of names c.positions_are_of_nodes.ensures.times
    c.positions_are_of_nodes.ensures.memory c.bars_lead_to_positions.ensures c.trimmed_events_are_in_tree.ensures.logs in
    ap markups (only other others other_requested other_inside other_is)
    ∙ ap (λ (these : Options). markups (tree_inside others these (page_outline other others other_requested) others_contents)) shape.options
    ∙ ap (λ (these : List Node). markups (tree_inside others options these others_contents)) shape.outline
    ∙ sym (tree_same others others (λ name. name) (λ name. refl) options nodes others_contents)
    ∙ ap (λ (these : Contents). markups (tree_inside others options nodes these)) shape.contents
    ∙ tree_same logs others rename shape.numbers options nodes contents
    ∙ ap markups (sym (only request logs requested inside is))
