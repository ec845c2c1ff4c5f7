-- The texts of a page that aren't in its logs, and which targets failed.
use Rattle.std.specs.Prelude.{◌≡◌, ℕ, List}
use Rattle.redo_options.specs.declared.options.Options.{Options}
use Rattle.redo_outline.specs.declared.node.Node.{Node}
use Rattle.redo_page.specs.declared.failed.Failures.{Failures}
use Rattle.redo_page.specs.declared.page.Texts.{Texts}
use Rattle.redo_page.specs.Command.{command}
use Rattle.redo_page.specs.Verdict.{title_text, verdict_of}
use Rattle.redo_page.specs.Failed.{is_dependent_failure, is_unclosed}
use Rattle.redo_page.specs.Page.{Request, heading_of}
use Rattle.redo_page.specs.Tree.{root_failures, positions_where}

pub record AreTexts (request : Request) (options : Options) (requested : List (List ℕ)) (nodes : List Node) (texts : Texts) : Type 0 where
  pub verdict : texts.verdict ≡ verdict_of nodes
  pub heading : texts.heading.items ≡ heading_of nodes
  pub title : texts.title.items ≡ title_text request.title (verdict_of nodes) (heading_of nodes)
  pub command : texts.command.items ≡ command request.dir options requested

-- Whether these are the positions of the targets that the section names.
pub record AreFailures (nodes : List Node) (failures : Failures) : Type 0 where
  pub roots : failures.roots.items ≡ root_failures nodes
  pub dependents : failures.dependents.items ≡ positions_where is_dependent_failure 0 nodes
  pub unclosed : failures.unclosed.items ≡ positions_where is_unclosed 0 nodes
