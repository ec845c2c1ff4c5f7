-- The HTML of a passage from its middle on. There, a look has the style of the next code point and what is open.
use Rattle.std.specs.Prelude.{ℕ, Bool, false, ◌&&◌, not, List, [], ◌∷◌, ◌++◌, if◌then◌else◌}
use Rattle.std.specs.List.{flat_map}
use Rattle.redo_html.specs.declared.look.Look.{Look}
use Rattle.redo_html.specs.declared.style.Style.{Style}
use Rattle.redo_html.specs.declared.text_kind.TextKind.{TextKind}
use Rattle.redo_html.specs.Passage.{Inline, inline_html, is_same_style, style_start, style_end}
use Rattle.redo_html.specs.Passage.Inline.{UnprintableStart, UnprintableEnd, Text}
use Rattle.redo_html.specs.Shown.{Run, runs_of, is_unprintable}
use Rattle.redo_html.specs.Shown.Run.{CodePoints, Restyle}
use Rattle.redo_html.specs.Style.{plain_style, restyled}
use Rattle.redo_html.specs.Symbols.{symbols}

abbrev pub highlight_if : Bool → Inline → List Inline
highlight_if condition highlight = if condition then highlight ∷ [] else []

-- The highlights between two code points. `look.wanted` is the style of the next code point. Open are the highlight of the style
-- `look.current`, and within it, if `look.unprintable` is set, the highlight for unprintable code points. `unprintable` states whether the
-- next code point is unprintable.
abbrev pub highlights_between : Look → Bool → List Inline
highlights_between look unprintable =
    let same = is_same_style look.wanted look.current in
    highlight_if (look.unprintable && not (same && unprintable)) UnprintableEnd ++ (if same then [] else style_end look.current ++ style_start look.wanted) ++ highlight_if (unprintable && not (same && look.unprintable)) UnprintableStart

abbrev pub after_code_point : Look → Bool → Look
after_code_point look unprintable = record { wanted = look.wanted; current = look.wanted; unprintable = unprintable }

abbrev pub with_wanted : Look → Style → Look
with_wanted look style = record { wanted = style; current = look.current; unprintable = look.unprintable }

-- The look at the start of a passage that begins with this style: no highlight is open.
abbrev pub start_look : Style → Look
start_look style = record { wanted = style; current = plain_style; unprintable = false }

-- The parts of the rest of a passage. At its end, all highlights end.
abbrev pub inlines_from : Look → List Run → List Inline
inlines_from look [] = highlight_if look.unprintable UnprintableEnd ++ style_end look.current
inlines_from look (CodePoints code_point count ∷ runs) = highlights_between look (is_unprintable code_point) ++ Text code_point count ∷ inlines_from (after_code_point look (is_unprintable code_point)) runs
inlines_from look (Restyle numbers ∷ runs) = inlines_from (with_wanted look (restyled look.wanted numbers)) runs

-- The HTML of the rest of a passage.
unfoldable pub html_from : TextKind → Look → List ℕ → List ℕ
html_from kind look bytes = flat_map (inline_html kind) (inlines_from look (runs_of (symbols kind bytes)))
