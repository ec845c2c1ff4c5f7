-- How passages and pages are read.
use Rattle.std.proofs.Common.{◌≡◌, ℕ, Bool, true, false, List, [], ◌∷◌, ◌++◌, map, refl, sym, ◌∙◌, ap, subst}
use Rattle.std.specs.Prelude.{◌==◌, ◌||◌, ◌&&◌, not, codes, if◌then◌else◌}
use Rattle.std.specs.List.{flat_map, list_all}
use Rattle.std.proofs.lemmas.Bool.{and_from, cond-true}
use Rattle.std.proofs.lemmas.List.{append_assoc, append-nil}
use Rattle.std.proofs.lemmas.List.Concat.{flat_map-append}
use Rattle.std.proofs.lemmas.List.Folds.{list_all-append}
use Rattle.redo_html.specs.declared.text_kind.TextKind.{TextKind}
use Rattle.redo_html.specs.declared.text_kind.TextKind.TheVariants.{Log, Monochrome, Title}
use Rattle.redo_html.specs.declared.look.Look.{Look}
use Rattle.redo_html.specs.declared.style.Hue.{Hue}
use Rattle.redo_html.specs.declared.style.Hue.TheVariants.{Plain, Red, Green, Yellow, Blue, Magenta, Cyan}
use Rattle.redo_html.specs.declared.style.Style.{Style}
use Rattle.redo_html.specs.Passage.{Inline, hue_class, style_name, highlight_text, has_highlights, highlight_html, highlight_tokens, inline_html, inline_tokens, hue_number, has_element, style_start, style_end, is_same_style, passage_html, passage_inlines, passage_tokens}
use Rattle.redo_html.specs.Private.Highlighting.{highlight_if, highlights_between, after_code_point, with_wanted, start_look, inlines_from}
use Rattle.redo_html.specs.Passage.Inline.{UnprintableStart, UnprintableEnd, StyleStart, StyleEnd, Text}
use Rattle.redo_html.specs.Html.{Context, Token, Normal, characters_of, text_of, tag_of, tags_of, nests_in}
use Rattle.redo_html.specs.Html.Token.{Character, Tag}
use Rattle.redo_html.specs.Laws.{ReadsAs, is_highlight, IsReadAsShown}
use Rattle.redo_html.specs.Shown.{Run, is_unprintable, code_points_text, run_text, runs_of, shown_text}
use Rattle.redo_html.specs.Shown.Run.{CodePoints, Restyle}
use Rattle.redo_html.specs.Style.{restyled}
use Rattle.redo_html.specs.Symbols.{symbols}
use Rattle.redo_html.proofs.PassageGroups.{any_runs, holds_of_passage, tokens_are}
use Rattle.redo_html.proofs.TextReading.{HasReferences, ReadsIn, each_reads, escaped_reads, code_points_clean}

-- ---- highlights and code points

style_reads : (bold : Bool) (hue : Hue)
    → ReadsAs (60 ∷ ((style_name bold ++ hue_class hue) ++ 62 ∷ [])) (Tag (style_name bold ++ hue_class hue) ∷ [])
style_reads true Plain behind = refl
style_reads true Red behind = refl
style_reads true Green behind = refl
style_reads true Yellow behind = refl
style_reads true Blue behind = refl
style_reads true Magenta behind = refl
style_reads true Cyan behind = refl
style_reads false Plain behind = refl
style_reads false Red behind = refl
style_reads false Green behind = refl
style_reads false Yellow behind = refl
style_reads false Blue behind = refl
style_reads false Magenta behind = refl
style_reads false Cyan behind = refl

style_end_reads : (bold : Bool) → ReadsAs (60 ∷ ((47 ∷ style_name bold) ++ 62 ∷ [])) (Tag (47 ∷ style_name bold) ∷ [])
style_end_reads true behind = refl
style_end_reads false behind = refl

highlight_reads : (kind : TextKind) (tag : List ℕ) → ReadsAs (60 ∷ (tag ++ 62 ∷ [])) (Tag tag ∷ [])
    → ReadsAs (highlight_html kind tag) (highlight_tokens kind tag)
highlight_reads Log tag reads = reads
highlight_reads Monochrome tag reads = reads
highlight_reads Title tag reads = λ behind. refl

inline_reads : (kind : TextKind) (inline : Inline) → ReadsAs (inline_html kind inline) (inline_tokens kind inline)
inline_reads kind UnprintableStart = highlight_reads kind (codes "i") (λ behind. refl)
inline_reads kind UnprintableEnd = highlight_reads kind (codes "/i") (λ behind. refl)
inline_reads kind (StyleStart style) =
    highlight_reads kind (style_name style.bold ++ hue_class style.hue) (style_reads style.bold style.hue)
inline_reads kind (StyleEnd style) = highlight_reads kind (47 ∷ style_name style.bold) (style_end_reads style.bold)
inline_reads kind (Text code_point count) = escaped_reads Normal tt (code_points_text code_point count) (code_points_clean code_point count)

title_inline_reads : (context : Context) → HasReferences context → (inline : Inline)
    → ReadsIn context (inline_html Title inline) (inline_tokens Title inline)
title_inline_reads context has UnprintableStart behind = refl
title_inline_reads context has UnprintableEnd behind = refl
title_inline_reads context has (StyleStart style) behind = refl
title_inline_reads context has (StyleEnd style) behind = refl
title_inline_reads context has (Text code_point count) behind =
    escaped_reads context has (code_points_text code_point count) (code_points_clean code_point count) behind

pub passage_reads : (kind : TextKind) (style : Style) (bytes : List ℕ)
    → ReadsAs (passage_html kind style bytes) (passage_tokens kind style bytes)
unfolding passage_html
passage_reads kind style bytes = each_reads Normal (inline_html kind) (inline_tokens kind) (inline_reads kind)
    (passage_inlines style (runs_of (symbols kind bytes)))

-- Text without highlights is read in each context whose text may have references.
pub title_passage_reads : (context : Context) → HasReferences context → (style : Style) (bytes : List ℕ)
    → ReadsIn context (passage_html Title style bytes) (passage_tokens Title style bytes)
unfolding passage_html
title_passage_reads context has style bytes =
    each_reads context (inline_html Title) (inline_tokens Title) (title_inline_reads context has)
    (passage_inlines style (runs_of (symbols Title bytes)))

-- ---- the text

pub text_characters : (text : List ℕ) → text_of (map Character text) ≡ text
text_characters [] = refl
text_characters (byte ∷ text) = ap (λ (t : List ℕ). byte ∷ t) (text_characters text)

pub tags_characters : (text : List ℕ) → tags_of (map Character text) ≡ []
tags_characters [] = refl
tags_characters (byte ∷ text) = tags_characters text

-- The text and the tags of parts of a passage.
abbrev text_in : TextKind → List Inline → List ℕ
text_in kind inlines = text_of (flat_map (inline_tokens kind) inlines)

abbrev tags_in : TextKind → List Inline → List (List ℕ)
tags_in kind inlines = tags_of (flat_map (inline_tokens kind) inlines)

text_in-append : (kind : TextKind) (a b : List Inline) → text_in kind (a ++ b) ≡ text_in kind a ++ text_in kind b
text_in-append kind a b = ap text_of (flat_map-append (inline_tokens kind) a b)
    ∙ flat_map-append characters_of (flat_map (inline_tokens kind) a) (flat_map (inline_tokens kind) b)

tags_in-append : (kind : TextKind) (a b : List Inline) → tags_in kind (a ++ b) ≡ tags_in kind a ++ tags_in kind b
tags_in-append kind a b = ap tags_of (flat_map-append (inline_tokens kind) a b)
    ∙ flat_map-append tag_of (flat_map (inline_tokens kind) a) (flat_map (inline_tokens kind) b)

no_text : (kind : TextKind) (tag : List ℕ) → text_of (highlight_tokens kind tag) ≡ []
no_text Log tag = refl
no_text Monochrome tag = refl
no_text Title tag = refl

abbrev IsSilent : TextKind → List Inline → Type 0
IsSilent kind inlines = text_in kind inlines ≡ []

silent_append : (kind : TextKind) (a b : List Inline) → IsSilent kind a → IsSilent kind b → IsSilent kind (a ++ b)
silent_append kind a b first second = text_in-append kind a b ∙ ap (λ (t : List ℕ). t ++ text_in kind b) first ∙ second

silent_if : (kind : TextKind) (wanted : Bool) (highlight : Inline)
    → inline_tokens kind highlight ≡ highlight_tokens kind (highlight_text highlight) → IsSilent kind (highlight_if wanted highlight)
silent_if kind false highlight is = refl
silent_if kind true highlight is = ap text_of (append-nil (inline_tokens kind highlight) ∙ is) ∙ no_text kind (highlight_text highlight)

silent_styles : (kind : TextKind) (look : Look) (same : Bool)
    → IsSilent kind (if same then [] else style_end look.current ++ style_start look.wanted)
silent_styles kind look true = refl
silent_styles kind look false =
    silent_append kind (style_end look.current) (style_start look.wanted)
    (silent_if kind (has_element look.current) (StyleEnd look.current) refl)
    (silent_if kind (has_element look.wanted) (StyleStart look.wanted) refl)

silent_highlights : (kind : TextKind) (look : Look) (unprintable : Bool) → IsSilent kind (highlights_between look unprintable)
silent_highlights kind look unprintable =
    let same = is_same_style look.wanted look.current in
    let styles = if same then [] else style_end look.current ++ style_start look.wanted in
    let first = highlight_if (look.unprintable && not (same && unprintable)) UnprintableEnd in
    let last = highlight_if (unprintable && not (same && look.unprintable)) UnprintableStart in
    silent_append kind (first ++ styles) last
    (silent_append kind first styles (silent_if kind (look.unprintable && not (same && unprintable)) UnprintableEnd refl)
    (silent_styles kind look same)) (silent_if kind (unprintable && not (same && look.unprintable)) UnprintableStart refl)

runs_text : (kind : TextKind) (look : Look) (runs : List Run) → text_in kind (inlines_from look runs) ≡ flat_map run_text runs
runs_text kind look [] = silent_append kind (highlight_if look.unprintable UnprintableEnd) (style_end look.current)
    (silent_if kind look.unprintable UnprintableEnd refl) (silent_if kind (has_element look.current) (StyleEnd look.current) refl)
runs_text kind look (Restyle numbers ∷ runs) = runs_text kind (with_wanted look (restyled look.wanted numbers)) runs
runs_text kind look (CodePoints code_point count ∷ runs) =
    let unprintable = is_unprintable code_point in
    let rest = inlines_from (after_code_point look unprintable) runs in
    let text = code_points_text code_point count in
    text_in-append kind (highlights_between look unprintable) (Text code_point count ∷ rest)
    ∙ ap (λ (t : List ℕ). t ++ text_in kind (Text code_point count ∷ rest)) (silent_highlights kind look unprintable)
    ∙ flat_map-append characters_of (map Character text) (flat_map (inline_tokens kind) rest)
    ∙ ap (λ (t : List ℕ). t ++ text_in kind rest) (text_characters text)
    ∙ ap (λ (t : List ℕ). text ++ t) (runs_text kind (after_code_point look unprintable) runs)

pub passage_text : (kind : TextKind) (style : Style) (bytes : List ℕ) → text_of (passage_tokens kind style bytes) ≡ shown_text kind bytes
passage_text kind style bytes =
    ap text_of (tokens_are kind style bytes) ∙ runs_text kind (start_look style) (runs_of (symbols kind bytes))

-- ---- the tags

-- Code points have no tags.
text_tags : (kind : TextKind) (code_point count : ℕ) (inlines : List Inline)
    → tags_in kind (Text code_point count ∷ inlines) ≡ tags_in kind inlines
text_tags kind code_point count inlines =
    flat_map-append tag_of (map Character (code_points_text code_point count)) (flat_map (inline_tokens kind) inlines)
    ∙ ap (λ (t : List (List ℕ)). t ++ tags_in kind inlines) (tags_characters (code_points_text code_point count))

no_tags : (inlines : List Inline) → tags_in Title inlines ≡ []
no_tags [] = refl
no_tags (UnprintableStart ∷ inlines) = no_tags inlines
no_tags (UnprintableEnd ∷ inlines) = no_tags inlines
no_tags (StyleStart style ∷ inlines) = no_tags inlines
no_tags (StyleEnd style ∷ inlines) = no_tags inlines
no_tags (Text code_point count ∷ inlines) = text_tags Title code_point count inlines ∙ no_tags inlines

pub title_tags : (style : Style) (bytes : List ℕ) → tags_of (passage_tokens Title style bytes) ≡ []
title_tags style bytes = no_tags (passage_inlines style (runs_of (symbols Title bytes)))

abbrev AreHighlights : List (List ℕ) → Type 0
AreHighlights tags = list_all is_highlight tags ≡ true

highlights_append : (a b : List (List ℕ)) → AreHighlights a → AreHighlights b → AreHighlights (a ++ b)
highlights_append a b first second =
    list_all-append is_highlight a b ∙ and_from (list_all is_highlight a) (list_all is_highlight b) first second

style_is_highlight : (bold : Bool) (hue : Hue) → (bold || not (hue_number hue == 0)) ≡ true
    → is_highlight (style_name bold ++ hue_class hue) ≡ true
style_is_highlight true Plain has = refl
style_is_highlight true Red has = refl
style_is_highlight true Green has = refl
style_is_highlight true Yellow has = refl
style_is_highlight true Blue has = refl
style_is_highlight true Magenta has = refl
style_is_highlight true Cyan has = refl
style_is_highlight false Plain has = absurd (cc)
style_is_highlight false Red has = refl
style_is_highlight false Green has = refl
style_is_highlight false Yellow has = refl
style_is_highlight false Blue has = refl
style_is_highlight false Magenta has = refl
style_is_highlight false Cyan has = refl

style_end_is_highlight : (bold : Bool) → is_highlight (47 ∷ style_name bold) ≡ true
style_end_is_highlight true = refl
style_end_is_highlight false = refl

abbrev highlights_in : TextKind → List Inline → Type 0
highlights_in kind inlines = AreHighlights (tags_in kind inlines)

highlights_in-append : (kind : TextKind) (a b : List Inline) → highlights_in kind a → highlights_in kind b → highlights_in kind (a ++ b)
highlights_in-append kind a b first second =
    subst AreHighlights (sym (tags_in-append kind a b)) (highlights_append (tags_in kind a) (tags_in kind b) first second)

highlight_in : (kind : TextKind) (highlight : Inline) → inline_tokens kind highlight ≡ highlight_tokens kind (highlight_text highlight)
    → is_highlight (highlight_text highlight) ≡ true → highlights_in kind (highlight ∷ [])
highlight_in kind highlight tokens is =
    subst (λ (ts : List Token). AreHighlights (tags_of ts)) (sym (append-nil (inline_tokens kind highlight) ∙ tokens))
    (one kind (highlight_text highlight) is)
  where
    one : (kind : TextKind) (tag : List ℕ) → is_highlight tag ≡ true → AreHighlights (tags_of (highlight_tokens kind tag))
    one Log tag is = and_from (is_highlight tag) true is refl
    one Monochrome tag is = and_from (is_highlight tag) true is refl
    one Title tag is = refl

passage_highlights : (kind : TextKind) (style : Style) (runs : List Run) → highlights_in kind (passage_inlines style runs)
passage_highlights kind style runs =
    holds_of_passage (highlights_in kind) (λ (run : Run). Unit {0}) refl (highlights_in-append kind)
    (λ code_point count given. subst AreHighlights (sym (text_tags kind code_point count [])) refl)
    (λ inlines are. highlights_in-append kind (UnprintableStart ∷ []) (inlines ++ UnprintableEnd ∷ [])
    (highlight_in kind UnprintableStart refl refl)
    (highlights_in-append kind inlines (UnprintableEnd ∷ []) are (highlight_in kind UnprintableEnd refl refl)))
    (λ style inlines has are. highlights_in-append kind (StyleStart style ∷ []) (inlines ++ StyleEnd style ∷ [])
    (highlight_in kind (StyleStart style) refl (style_is_highlight style.bold style.hue has))
    (highlights_in-append kind inlines (StyleEnd style ∷ []) are
    (highlight_in kind (StyleEnd style) refl (style_end_is_highlight style.bold))))
    style runs (any_runs runs)

-- ---- nesting

abbrev Nests : TextKind → List Inline → Type 0
Nests kind inlines = (around tags : List (List ℕ)) → nests_in around (tags_in kind inlines ++ tags) ≡ nests_in around tags

style_starts : (bold : Bool) (hue : Hue) (around tags : List (List ℕ))
    → nests_in around ((style_name bold ++ hue_class hue) ∷ tags) ≡ nests_in (style_name bold ∷ around) tags
style_starts true Plain around tags = refl
style_starts true Red around tags = refl
style_starts true Green around tags = refl
style_starts true Yellow around tags = refl
style_starts true Blue around tags = refl
style_starts true Magenta around tags = refl
style_starts true Cyan around tags = refl
style_starts false Plain around tags = refl
style_starts false Red around tags = refl
style_starts false Green around tags = refl
style_starts false Yellow around tags = refl
style_starts false Blue around tags = refl
style_starts false Magenta around tags = refl
style_starts false Cyan around tags = refl

style_ends : (bold : Bool) (around tags : List (List ℕ))
    → nests_in (style_name bold ∷ around) ((47 ∷ style_name bold) ∷ tags) ≡ nests_in around tags
style_ends true around tags = refl
style_ends false around tags = refl

module _ (kind : TextKind) (has : has_highlights kind ≡ true) where
  both_nest : (a b : List Inline) → Nests kind a → Nests kind b → Nests kind (a ++ b)
  both_nest a b first second around tags =
      ap (λ (t : List (List ℕ)). nests_in around (t ++ tags)) (tags_in-append kind a b)
      ∙ ap (nests_in around) (append_assoc (tags_in kind a) (tags_in kind b) tags) ∙ first around (tags_in kind b ++ tags)
      ∙ second around tags

  highlight_tag : (highlight : Inline) → inline_tokens kind highlight ≡ highlight_tokens kind (highlight_text highlight)
      → tags_in kind (highlight ∷ []) ≡ highlight_text highlight ∷ []
  highlight_tag highlight tokens = ap tags_of (append-nil (inline_tokens kind highlight) ∙ tokens
      ∙ cond-true (has_highlights kind) (Tag (highlight_text highlight) ∷ []) [] has)

  -- Parts within a highlight.
  within_nests : (start end : Inline) (name : List ℕ) (inlines : List Inline)
      → inline_tokens kind start ≡ highlight_tokens kind (highlight_text start)
      → inline_tokens kind end ≡ highlight_tokens kind (highlight_text end)
      → ((around tags : List (List ℕ)) → nests_in around (highlight_text start ∷ tags) ≡ nests_in (name ∷ around) tags)
      → ((around tags : List (List ℕ)) → nests_in (name ∷ around) (highlight_text end ∷ tags) ≡ nests_in around tags)
      → Nests kind inlines → Nests kind (start ∷ (inlines ++ end ∷ []))
  within_nests start end name inlines start_is end_is starts ends nest around tags =
      let inner = tags_in kind inlines in
      ap (λ (t : List (List ℕ)). nests_in around (t ++ tags))
      (tags_in-append kind (start ∷ []) (inlines ++ end ∷ [])
      ∙ ap (λ (t : List (List ℕ)). t ++ tags_in kind (inlines ++ end ∷ [])) (highlight_tag start start_is)
      ∙ ap (λ (t : List (List ℕ)). highlight_text start ∷ t) (tags_in-append kind inlines (end ∷ [])
      ∙ ap (λ (t : List (List ℕ)). inner ++ t) (highlight_tag end end_is)))
      ∙ starts around ((inner ++ highlight_text end ∷ []) ++ tags)
      ∙ ap (nests_in (name ∷ around)) (append_assoc inner (highlight_text end ∷ []) tags)
      ∙ nest (name ∷ around) (highlight_text end ∷ tags) ∙ ends around tags

  passage_nest : (style : Style) (runs : List Run) → Nests kind (passage_inlines style runs)
  passage_nest style runs =
      holds_of_passage (Nests kind) (λ (run : Run). Unit {0}) (λ around tags. refl) both_nest
      (λ code_point count given around tags. ap (λ (t : List (List ℕ)). nests_in around (t ++ tags)) (text_tags kind code_point count []))
      (λ inlines nest. within_nests UnprintableStart UnprintableEnd (codes "i") inlines refl refl (λ around tags. refl)
      (λ around tags. refl) nest)
      (λ style inlines has_one nest. within_nests (StyleStart style) (StyleEnd style) (style_name style.bold) inlines refl refl
      (style_starts style.bold style.hue) (style_ends style.bold) nest) style runs (any_runs runs)

pub passage_nests : (kind : TextKind) (style : Style) (bytes : List ℕ) (around tags : List (List ℕ))
    → nests_in around (tags_of (passage_tokens kind style bytes) ++ tags) ≡ nests_in around tags
passage_nests Log style bytes = passage_nest Log refl style (runs_of (symbols Log bytes))
passage_nests Monochrome style bytes = passage_nest Monochrome refl style (runs_of (symbols Monochrome bytes))
passage_nests Title style bytes = λ around tags. ap (λ (t : List (List ℕ)). nests_in around (t ++ tags)) (title_tags style bytes)

pub passage_is_read : (kind : TextKind) (style : Style) (bytes : List ℕ) → IsReadAsShown kind style bytes
passage_is_read kind style bytes = record {
  reads = passage_reads kind style bytes;
  text = passage_text kind style bytes;
  highlights = passage_highlights kind style (runs_of (symbols kind bytes));
  nests = passage_nests kind style bytes;
}
