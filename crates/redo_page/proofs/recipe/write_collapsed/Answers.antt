use Rattle.std.proofs.Common.{ℕ, List, [], ◌∷◌, ◌++◌, ap}
use Rattle.redo_html.specs.declared.markup.Markup.TheVariants.{EndDetails}
use Rattle.redo_html.specs.Parts.Part.{MarkupPart}
use Rattle.redo_page.specs.Recipe.{beginning_parts, collapsed_parts, command_block}
use Rattle.redo_page.proofs.PartLoops.{wrote_as}
use Rattle.redo_page.proofs.WriterLemmas.{wrote_then}
use Rattle.redo_page.proofs.recipe.write_collapsed.Goals as goal

pub returns : goal.returns
unfolding collapsed_parts
returns g c =
    wrote_as g.W.Sink.written c.args.page.now c.put.new.self _ _
    (ap (λ (text : List ℕ). beginning_parts text ++ (command_block c.args.command.now ++ MarkupPart EndDetails ∷ [])) c.beginning.ensures)
    (wrote_then c.write_beginning.ensures (wrote_then c.write_block.ensures c.put.ensures))
