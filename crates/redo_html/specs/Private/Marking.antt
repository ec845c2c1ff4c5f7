-- A tag as it is written: what is before its number, and the number.
use Rattle.std.specs.Prelude.{ℕ, List, ◌++◌, Option, None, Some, codes}
use Rattle.redo_html.specs.declared.markup.Markup.{Markup}
use Rattle.redo_html.specs.declared.markup.Markup.TheVariants.{TargetLink, OutputLink, Article, OrderedFrom, TargetItem, Details, OpenDetails}
use Rattle.redo_html.specs.Shown.{number_text}

-- The number in the last attribute of a tag, if it has one.
abbrev pub number_in_tag : Markup → Option ℕ
number_in_tag (TargetLink number) = Some number
number_in_tag (OutputLink number) = Some number
number_in_tag (Article number) = Some number
number_in_tag (OrderedFrom number) = Some number
number_in_tag (TargetItem number) = Some number
number_in_tag (Details number) = Some number
number_in_tag (OpenDetails number) = Some number
number_in_tag markup = None

-- A tag, from what is before its number.
abbrev pub with_number : List ℕ → Option ℕ → List ℕ
with_number text None = text
with_number text (Some number) = text ++ number_text number ++ codes "\">"
