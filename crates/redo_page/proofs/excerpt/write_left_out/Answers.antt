use Rattle.std.proofs.Common.{ℕ, List, [], ◌∷◌, ◌++◌, subst}
use Rattle.redo_html.specs.declared.markup.Markup.TheVariants.{CutParagraph, EndParagraph}
use Rattle.redo_html.specs.Parts.Part.{MarkupPart, TextPart, NumberPart}
use Rattle.redo_page.specs.declared.labels.TheConstants.{IN_ITS_LOG}
use Rattle.redo_page.specs.Excerpt.{in_tree_parts, left_out_parts}
use Rattle.redo_page.specs.Private.Writing.{WroteParts}
use Rattle.redo_page.proofs.WriterLemmas.{wrote_then}
use Rattle.redo_page.proofs.excerpt.write_left_out.Goals as goal

pub returns : goal.returns
unfolding left_out_parts
returns g c =
    subst (λ (text : List ℕ). WroteParts g.W.Sink.written c.args.page.now c.put-2.new.self
    (MarkupPart CutParagraph ∷ NumberPart c.args.count ∷ TextPart text
    ∷ (in_tree_parts c.args.position IN_ITS_LOG.now ++ MarkupPart EndParagraph ∷ [])))
    c.plural.ensures (wrote_then c.put.ensures (wrote_then c.write_in_tree.ensures c.put-2.ensures))
