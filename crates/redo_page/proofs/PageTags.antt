-- The tags of a page are its own.
use Rattle.std.proofs.Common.{◌≡◌, inl, inr, ℕ, true, List, [], ◌∷◌, ◌++◌, map, zero, suc, refl, sym, subst, arith}
use Rattle.std.specs.Prelude.{bytes_eq, codes}
use Rattle.std.specs.List.{All, AllByRecursion, flat_map, list_all}
use Rattle.std.proofs.lemmas.Bool.{and_parts, or_left, or_right}
use Rattle.std.proofs.lemmas.Grind.{flat_map-append}
use Rattle.std.proofs.lemmas.Slice.Eq.{bytes_eq-Decides}
use Rattle.redo_html.specs.declared.text_kind.TextKind.{TextKind}
use Rattle.redo_html.specs.declared.text_kind.TextKind.TheVariants.{Log, Monochrome, Title}
use Rattle.redo_html.specs.declared.style.Style.{Style}
use Rattle.redo_html.specs.Chart.{Drawing}
use Rattle.redo_html.specs.Html.{is_one_of, tag_of, tags_of}
use Rattle.redo_html.specs.Html.Token.{Character, Tag}
use Rattle.redo_html.specs.Laws.{IsReadAsShown, is_highlight, reworded}
use Rattle.redo_html.specs.Passage.{passage_tokens}
use Rattle.redo_html.specs.Parts.{Part, part_tokens}
use Rattle.redo_html.specs.Parts.Part.{MarkupPart, LogPart, TextPart, NumberPart, TitlePart, StylePart, ChartPart, MeterPart}
use Rattle.redo_html.specs.Shown.{number_text}
use Rattle.redo_html.specs.Style.{plain_style}
use Rattle.redo_html.specs.StyleSheet.{style_sheet}
use Rattle.redo_page.specs.Laws.{IsOwnTag}
use Rattle.redo_page.proofs.Nesting.{characters_tags}

abbrev AreOwn : List (List ℕ) → Type 0
AreOwn tags = AllByRecursion IsOwnTag tags

both_own : (tags others : List (List ℕ)) → AreOwn tags → AreOwn others → AreOwn (tags ++ others)
both_own [] others first last = last
both_own (tag ∷ tags) others first last = (first.0, both_own tags others first.1 last)

highlights_own : (tags : List (List ℕ)) → list_all is_highlight tags ≡ true → AreOwn tags
highlights_own [] highlights = tt
highlights_own (tag ∷ tags) highlights =
    let parts = and_parts (is_highlight tag) (list_all is_highlight tags) highlights in (
      inr (inl (or_left (is_highlight tag) (is_one_of tag (codes "title" ∷ codes "/title" ∷ codes "style" ∷ codes "/style" ∷ [])) parts.0)),
      highlights_own tags parts.1,
    )

-- The tags of a chart don't depend on its texts.
abbrev HaveNoText : Type 0
HaveNoText = (replace : List ℕ → List ℕ) (drawing : Drawing)
    → tags_of (part_tokens (ChartPart (reworded replace drawing))) ≡ tags_of (part_tokens (ChartPart drawing))

-- Each of some tags is one of them.
each_among : (tags : List (List ℕ)) → ((tag : List ℕ) → is_one_of tag tags ≡ true → IsOwnTag tag) → AreOwn tags
each_among [] own = tt
each_among (tag ∷ tags) own = (
  own tag (or_left (bytes_eq tag tag) (is_one_of tag tags) ((bytes_eq-Decides tag tag).1 refl)),
  each_among tags
      (λ other is. own other (or_right (bytes_eq other tag) (is_one_of other tags) is)),
)

chart_own : (drawing : Drawing) → AreOwn (tags_of (part_tokens (ChartPart (reworded (λ text. []) drawing))))
chart_own drawing = each_among (tags_of (part_tokens (ChartPart (reworded (λ text. []) drawing)))) (λ tag is. inr (inr (inl (drawing, is))))

meter_own : (width : ℕ) → AreOwn (tags_of (part_tokens (MeterPart width)))
meter_own width = each_among (tags_of (part_tokens (MeterPart width))) (λ tag is. inr (inr (inr (width, is))))

part_own : ((kind : TextKind) (style : Style) (bytes : List ℕ) → IsReadAsShown kind style bytes) → HaveNoText → (part : Part)
    → AreOwn (tags_of (part_tokens part))
part_own read charts (MarkupPart markup) = (inl (markup, refl), tt)
part_own read charts (LogPart style text) = highlights_own (tags_of (passage_tokens Log style text)) (read Log style text).highlights
part_own read charts (TextPart text) =
    highlights_own (tags_of (passage_tokens Monochrome plain_style text)) (read Monochrome plain_style text).highlights
part_own read charts (NumberPart number) = subst AreOwn (sym (characters_tags (number_text number))) tt
part_own read charts (TitlePart title) = (
  inr (inl refl),
  subst AreOwn (sym (flat_map-append tag_of (passage_tokens Title plain_style title) (Tag (codes "/title") ∷ [])))
      (both_own (tags_of (passage_tokens Title plain_style title)) (codes "/title" ∷ [])
      (highlights_own (tags_of (passage_tokens Title plain_style title)) (read Title plain_style title).highlights) (inr (inl refl), tt)),
)
part_own read charts StylePart = (
  inr (inl refl),
  subst AreOwn (sym (flat_map-append tag_of (map Character style_sheet) (Tag (codes "/style") ∷ [])))
      (both_own (tags_of (map Character style_sheet)) (codes "/style" ∷ []) (subst AreOwn (sym (characters_tags style_sheet)) tt)
      (inr (inl refl), tt)),
)
part_own read charts (ChartPart drawing) = subst AreOwn (charts (λ text. []) drawing) (chart_own drawing)
part_own read charts (MeterPart width) = meter_own width

parts_own : ((kind : TextKind) (style : Style) (bytes : List ℕ) → IsReadAsShown kind style bytes) → HaveNoText → (parts : List Part)
    → AreOwn (tags_of (flat_map part_tokens parts))
parts_own read charts [] = tt
parts_own read charts (part ∷ parts) =
    subst AreOwn (sym (flat_map-append tag_of (part_tokens part) (flat_map part_tokens parts)))
    (both_own (tags_of (part_tokens part)) (tags_of (flat_map part_tokens parts)) (part_own read charts part) (parts_own read charts parts))

own_at : (tags : List (List ℕ)) → AreOwn tags → All IsOwnTag tags
own_at [] own k d below = absurd (omega arith)
own_at (tag ∷ tags) own zero d below = own.0
own_at (tag ∷ tags) own (suc k) d below = own_at tags own.1 k d (omega arith)

pub each_own : ((kind : TextKind) (style : Style) (bytes : List ℕ) → IsReadAsShown kind style bytes) → HaveNoText → (parts : List Part)
    → All IsOwnTag (tags_of (flat_map part_tokens parts))
each_own read charts parts = own_at (tags_of (flat_map part_tokens parts)) (parts_own read charts parts)
