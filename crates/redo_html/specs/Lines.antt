-- Lines of a log: each is a passage of its own, which begins with the style after the line before it.
use Rattle.std.specs.Prelude.{ℕ, Bool, ◌==◌, not, List, [], ◌∷◌, fold}
use Rattle.std.specs.List.{flat_map}
use Rattle.redo_line.specs.Lines.{with_line_feed}
use Rattle.redo_html.specs.declared.text_kind.TextKind.TheVariants.{Log}
use Rattle.redo_html.specs.declared.style.Style.{Style}
use Rattle.redo_html.specs.Parts.{Part, part_html}
use Rattle.redo_html.specs.Parts.Part.{LogPart}
use Rattle.redo_html.specs.Style.{restyled}
use Rattle.redo_html.specs.Symbols.{Symbol, symbols}
use Rattle.redo_html.specs.Symbols.Symbol.{CodePoint, Sequence}

-- The style after a symbol.
abbrev pub style_after_symbol : Style → Symbol → Style
style_after_symbol style (CodePoint code_point) = style
style_after_symbol style (Sequence numbers) = restyled style numbers

-- The style at the end of a log's text that begins with this style.
abbrev pub style_after : Style → List ℕ → Style
style_after style bytes = fold style_after_symbol style (symbols Log bytes)

-- The style at the end of lines. They are given without their line feeds.
abbrev pub style_after_lines : Style → List (List ℕ) → Style
style_after_lines style [] = style
style_after_lines style (line ∷ lines) = style_after_lines (style_after style (with_line_feed line)) lines

-- The parts of a page that show lines.
abbrev pub line_parts : Style → List (List ℕ) → List Part
line_parts style [] = []
line_parts style (line ∷ lines) = LogPart style (with_line_feed line) ∷ line_parts (style_after style (with_line_feed line)) lines

-- The HTML of lines.
abbrev pub lines_html : Style → List (List ℕ) → List ℕ
lines_html style lines = flat_map part_html (line_parts style lines)

-- Whether a byte is no escape character.
abbrev pub is_no_escape : ℕ → Bool
is_no_escape byte = not (byte == 27)
