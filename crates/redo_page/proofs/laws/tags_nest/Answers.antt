use Rattle.std.proofs.Common.{ℕ, List, [], ◌∷◌, refl, sym, ◌∙◌, ap, subst}
use Rattle.std.specs.Prelude.{codes}
use Rattle.std.specs.List.{flat_map}
use Rattle.std.proofs.lemmas.List.{append-nil}
use Rattle.redo_logs.specs.Logs.{Log}
use Rattle.redo_html.specs.Html.{nests_in, tags_of}
use Rattle.redo_html.specs.Parts.{part_tokens}
use Rattle.redo_page.specs.declared.failed.TheConstants.{FAILURES}
use Rattle.redo_page.specs.declared.frame.TheConstants.{FOOTER, HEAD, HEADER}
use Rattle.redo_page.specs.declared.news.TheConstants.{NEWS}
use Rattle.redo_page.specs.declared.summary.TheConstants.{SECTION}
use Rattle.redo_page.specs.Failed.{failed_parts}
use Rattle.redo_page.specs.Frame.{footer_parts}
use Rattle.redo_page.specs.NewSection.{news_parts}
use Rattle.redo_page.specs.Page.{Request, options_of, page_contents, page_parts, page_view, top_parts}
use Rattle.redo_page.specs.Scope.{View}
use Rattle.redo_page.specs.Summary.{summary_parts}
use Rattle.redo_page.proofs.Nesting.{Leads, Nest, lead_in, then_lead}
use Rattle.redo_page.proofs.TemplateNesting.{template_leads}
use Rattle.redo_page.proofs.TimelineLemmas.{timeline_nests}
use Rattle.redo_page.proofs.TreeItems.{tree_is_streamed}
use Rattle.redo_page.proofs.TreeNesting.{tree_nests}
use Rattle.redo_page.proofs.laws.tags_nest.Goals as goal

-- The elements around the content of a page.
abbrev body : List (List ℕ)
body = codes "body" ∷ codes "html" ∷ []

abbrev main : List (List ℕ)
main = codes "main" ∷ body

top_leads : (view : View) → Leads [] (top_parts view) main
unfolding top_parts failed_parts news_parts summary_parts
top_leads view =
    then_lead (template_leads HEAD view [] body refl) (then_lead (template_leads HEADER view body main refl)
    (then_lead (template_leads FAILURES view main main refl)
    (then_lead (template_leads NEWS view main main refl) (template_leads SECTION view main main refl))))

page_nests : (request : Request) (logs : List Log) (requested : List (List ℕ)) → Nest (page_parts request logs requested)
unfolding page_parts footer_parts
page_nests request logs requested =
    let view = page_view request logs requested in
    then_lead (top_leads view)
    (then_lead (then_lead (lead_in main (timeline_nests view))
    (lead_in main (subst Nest (sym (tree_is_streamed request logs requested))
    (tree_nests logs (options_of request) view.nodes (page_contents request logs requested)))))
    (template_leads FOOTER view main [] refl))

pub returns : goal.returns
returns c = λ request logs requested.
    let parts = page_parts request logs requested in
    ap (λ tokens. nests_in [] (tags_of tokens)) (c.page_is_read.ensures.parts request logs requested)
    ∙ ap (nests_in []) (sym (append-nil (tags_of (flat_map part_tokens parts))))
    ∙ c.only_markup_decides_nesting.ensures parts [] []
    ∙ (page_nests request logs requested).leads [] []
