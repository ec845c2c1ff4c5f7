-- The frame of a page, its head, its header and its end: the templates `HEAD`, `HEADER` and `FOOTER` in src/frame.rt.
use Rattle.std.specs.Prelude.{List}
use Rattle.redo_html.specs.Parts.{Part}
use Rattle.redo_page.specs.declared.frame.TheConstants.{HEAD, HEADER, FOOTER}
use Rattle.redo_page.specs.Scope.{View}
use Rattle.redo_page.specs.Template.{template_parts}

abbrev pub head_parts : View → List Part
head_parts view = template_parts HEAD view

abbrev pub header_parts : View → List Part
header_parts view = template_parts HEADER view

unfoldable pub footer_parts : View → List Part
footer_parts view = template_parts FOOTER view
