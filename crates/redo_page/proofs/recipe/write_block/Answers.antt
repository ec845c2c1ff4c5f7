use Rattle.std.proofs.Common.{ℕ, Bool, List, ◌++◌, ◌∙◌, ap}
use Rattle.redo_page.specs.Excerpt.{cut_to}
use Rattle.redo_page.specs.Recipe.{command_block, max_command, rest_parts, text_block}
use Rattle.redo_page.proofs.PartLoops.{wrote_as}
use Rattle.redo_page.proofs.WriterLemmas.{wrote_then}
use Rattle.redo_page.proofs.recipe.write_block.Goals as goal

pub returns : goal.returns
unfolding command_block
returns g c =
    wrote_as g.W.Sink.written c.args.page.now c.write_rest.new.page _ _
    (ap (λ (text : List ℕ). text_block text ++ rest_parts c.is_complete.result) c.beginning.ensures
    ∙ ap (λ (is : Bool). text_block (cut_to max_command c.args.command.now.text) ++ rest_parts is) c.is_complete.ensures)
    (wrote_then c.write_text.ensures c.write_rest.ensures)
