-- The section with sizes, and with the targets that took long: the template `SECTION` in src/summary.rt.
use Rattle.std.specs.Prelude.{List}
use Rattle.redo_html.specs.Parts.{Part}
use Rattle.redo_page.specs.declared.summary.TheConstants.{SECTION}
use Rattle.redo_page.specs.Scope.{View}
use Rattle.redo_page.specs.Template.{template_parts}

unfoldable pub summary_parts : View → List Part
summary_parts view = template_parts SECTION view
