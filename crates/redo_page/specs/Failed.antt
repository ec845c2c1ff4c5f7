-- What failed: the section at the top of a page is the template `FAILURES` in src/failed.rt.
use Rattle.std.specs.Prelude.{◌==◌, ◌&&◌, Bool, List, is_none, is_some}
use Rattle.redo_html.specs.Parts.{Part}
use Rattle.redo_outline.specs.declared.node.Node.{Node}
use Rattle.redo_page.specs.declared.failed.TheConstants.{FAILURES}
use Rattle.redo_page.specs.Scope.{View}
use Rattle.redo_page.specs.Template.{template_parts}
use Rattle.redo_page.specs.Tree.{has_failed}

-- Whether a target failed, and one below it.
abbrev pub is_dependent_failure : Node → Bool
is_dependent_failure node = has_failed node && node.fails_below

-- Whether no record says how a target ended, though it is at the end of a path.
abbrev pub is_unclosed : Node → Bool
is_unclosed node = is_none node.status && (node.below == 0 && is_some node.parent)

-- If no target failed, there is no such section.
unfoldable pub failed_parts : View → List Part
failed_parts view = template_parts FAILURES view
