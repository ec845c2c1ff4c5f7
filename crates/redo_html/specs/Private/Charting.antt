-- The postconditions of the writers of charts.
use Rattle.std.specs.Prelude.{ℕ, List, ◌++◌, codes}
use Rattle.std.specs.List.{flat_map}
use Rattle.redo_html.specs.declared.chart.GroupKind.{GroupKind}
use Rattle.redo_html.specs.declared.chart.Fragment.{Fragment}
use Rattle.redo_html.specs.declared.chart.Fragment.TheVariants.{Html, Number, Percent, Words}
use Rattle.redo_html.specs.declared.text_kind.TextKind.TheVariants.{Title}
use Rattle.redo_html.specs.Chart.{Attribute, Layer, Shape, attribute_text, chart_attributes, group_attributes, layer_nodes, nodes_html, percent_text, shape_nodes, tag_text}
use Rattle.redo_html.specs.Passage.{passage_html}
use Rattle.redo_html.specs.Shown.{number_text}
use Rattle.redo_html.specs.Style.{plain_style}

abbrev pub fragment_html : Fragment → List ℕ
fragment_html (Html html) = html.now
fragment_html (Number number) = number_text number
fragment_html (Percent hundredths) = percent_text hundredths
fragment_html (Words words) = passage_html Title plain_style words.now

abbrev pub attributes_html : List Attribute → List ℕ
attributes_html attributes = flat_map attribute_text attributes

abbrev pub shape_html : GroupKind → Shape → List ℕ
shape_html kind shape = nodes_html (shape_nodes kind shape)

abbrev pub layer_html : Layer → List ℕ
layer_html layer = nodes_html (layer_nodes layer)

-- The start tags of a chart and of a group.
abbrev pub chart_start_html : ℕ → ℕ → List ℕ
chart_start_html height lanes = codes "<" ++ (tag_text (codes "svg") (chart_attributes height lanes) ++ codes ">")

abbrev pub group_start_html : GroupKind → List ℕ
group_start_html kind = codes "<" ++ (tag_text (codes "g") (group_attributes kind) ++ codes ">")
