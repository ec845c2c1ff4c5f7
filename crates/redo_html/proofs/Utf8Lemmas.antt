-- The shown text is UTF-8, and so is its HTML.
use Rattle.std.proofs.Common.{◌≡◌, ℕ, zero, suc, ◌+◌, ◌-◌, ◌/◌, ◌%◌, ◌<◌, ◌≤◌, Bool, true, false, List, [], ◌∷◌, ◌++◌, Option, None, Some, slice_index, refl, sym, ◌∙◌, ap, subst, arith}
use Rattle.std.specs.Char.{encode_utf8, IsScalar}
use Rattle.std.specs.Prelude.{⊤, IsUtf8, ◌==◌, ◌&&◌, nat_lt, nat_le, codes}
use Rattle.std.specs.Fmt.{digit_glyph}
use Rattle.std.specs.List.{AllByRecursion, flat_map, list_all, repeat}
use Rattle.std.proofs.lemmas.Bool.{agree_below_at, and_parts, and_from, cond_both, eqb-true, lt-ltb, ltb-true, leb-true}
use Rattle.std.proofs.lemmas.Bool.Decides.{nat_tests}
use Rattle.std.proofs.lemmas.Str.{IsUtf8-nil, IsUtf8-from_ascii, IsUtf8-append, IsUtf8-encode}
use Rattle.bstr.specs.Utf8.{decoded}
use Rattle.bstr.proofs.lemmas.SoundLemmas.{SpellsChar-decoded}
use Rattle.redo_html.specs.declared.text_kind.TextKind.{TextKind}
use Rattle.redo_html.specs.declared.text_kind.TextKind.TheVariants.{Log, Monochrome, Title}
use Rattle.redo_html.specs.declared.markup.Markup.{Markup}
use Rattle.redo_html.specs.declared.markup.Markup.TheVariants.{Doctype, Html, EndHtml, Head, EndHead, Charset, Viewport, ColorScheme, Referrer, Policy, BodyGood, BodyBad, BodyOpen, EndBody, Header, EndHeader, Title1, EndTitle1, Sign, EndSign, Nav, EndNav, Main, EndMain, FailedSection, NewSection, SummarySection, TreeSection, TimelineSection, EndSection, FailedHeading, NewHeading, SummaryHeading, TreeHeading, TimelineHeading, EndHeading, FailedLink, NewLink, SummaryLink, TreeLink, TimelineLink, TargetLink, OutputLink, EndLink, Article, EndArticle, Title3, EndTitle3, Paragraph, MetaParagraph, QuietParagraph, CutParagraph, ProblemParagraph, EndParagraph, Unordered, Tree, EndUnordered, Ordered, OrderedFrom, EndOrdered, Item, NoteItem, TargetItem, EndItem, Details, OpenDetails, QuietDetails, MoreDetails, EndDetails, Summary, EndSummary, Pre, EndPre, Bdi, EndBdi, Code, EndCode, ExitBadge, OpenBadge, EndBadge, Emphasis, EndEmphasis, Small, EndSmall, Footer, EndFooter, DescriptionList, EndDescriptionList, Div, EndDiv, Term, EndTerm, Description, EndDescription, Columns, Table, EndTable, TableBody, EndTableBody, TableRow, EndTableRow, RowHeading, EndRowHeading, NumberCell, MeterCell, EndCell, TimelineScroll}
use Rattle.redo_html.specs.declared.style.Hue.{Hue}
use Rattle.redo_html.specs.declared.style.Hue.TheVariants.{Plain, Red, Green, Yellow, Blue, Magenta, Cyan}
use Rattle.redo_html.specs.declared.style.Style.{Style}
use Rattle.redo_html.specs.Chart.{Node, drawing_nodes, meter_nodes, node_html, nodes_html, tag_text}
use Rattle.redo_html.specs.Chart.Node.{StartTag, EndTag, Words}
use Rattle.redo_html.specs.Html.{Normal, is_digit}
use Rattle.redo_html.specs.Laws.{is_byte, has_bytes, node_has_bytes}
use Rattle.redo_html.specs.Parts.{Part, part_html}
use Rattle.redo_html.specs.Parts.Part.{MarkupPart, LogPart, TextPart, NumberPart, TitlePart, StylePart, ChartPart, MeterPart}
use Rattle.redo_html.specs.Passage.{Inline, escaped, hue_class, style_name, has_highlights, highlight_html, inline_html, passage_html, passage_inlines}
use Rattle.redo_html.specs.Passage.Inline.{UnprintableStart, UnprintableEnd, StyleStart, StyleEnd, Text}
use Rattle.redo_html.specs.Shown.{is_between, is_unprintable, lower_hex, upper_hex, notation, number_text, unprintable_text, Run, with_code_point, runs_of, code_points_text, run_text, shown_text}
use Rattle.redo_html.specs.Shown.Run.{CodePoints, Restyle}
use Rattle.redo_html.specs.Style.{plain_style}
use Rattle.redo_html.specs.StyleSheet.{style_sheet}
use Rattle.redo_html.specs.Symbols.{Symbol, code_point_of, first_code_point, is_sequence, first_symbol, symbol_len, symbols_after, symbols}
use Rattle.redo_html.specs.Symbols.Symbol.{CodePoint, Sequence}
use Rattle.redo_html.specs.Tags.{markup_html}
use Rattle.redo_html.proofs.ChartReading.{drawing_contexts, is_well_formed, meter_contexts, nodes_well_formed}
use Rattle.redo_html.proofs.PassageGroups.{holds_of_passage}
use Rattle.redo_html.proofs.SymbolLemmas.{unprintable_byte}
use Rattle.redo_html.proofs.TagReading.{element_name_low, is_attribute, is_element, is_low, tag_low}
use Rattle.redo_html.proofs.TextReading.{all_append, all_weaker, number_digits, unprintable_safe, safe_escaped, encoded_escaped}

-- ---- ASCII

low_at : (bytes : List ℕ) → list_all is_low bytes ≡ true → (i : ℕ) → slice_index bytes i < 128
low_at [] low i = omega arith
low_at (byte ∷ bytes) low zero = ltb-true byte 128 (and_parts (is_low byte) (list_all is_low bytes) low).0
low_at (byte ∷ bytes) low (suc i) = low_at bytes (and_parts (is_low byte) (list_all is_low bytes) low).1 i

ascii : (bytes : List ℕ) → list_all is_low bytes ≡ true → IsUtf8 bytes
ascii bytes low = IsUtf8-from_ascii bytes (low_at bytes low)

digit_low : (byte : ℕ) → is_digit byte ≡ true → is_low byte ≡ true
digit_low byte is = let high : byte ≤ 57 = leb-true byte 57 (and_parts (nat_le 48 byte) (nat_le byte 57) is).1 in
    lt-ltb byte 128 (omega (arith, high))

number_low : (number : ℕ) → list_all is_low (number_text number) ≡ true
number_low number = all_weaker is_digit is_low digit_low (number_text number) (number_digits number)

lower_low : (n : ℕ) → is_low (lower_hex n) ≡ true
lower_low n = agree_below_at (λ d. is_low (digit_glyph false d)) (λ d. true) 16 (n % 16) refl (omega arith)

upper_low : (n : ℕ) → is_low (upper_hex n) ≡ true
upper_low n = agree_below_at (λ d. is_low (digit_glyph true d)) (λ d. true) 16 (n % 16) refl (omega arith)

notation_low : (code_point : ℕ) → list_all is_low (notation code_point) ≡ true
unfolding notation
notation_low code_point =
    let Low : List ℕ → Type 0 = λ bytes. list_all is_low bytes ≡ true in
    let four : Low (upper_hex (code_point / 4096) ∷ upper_hex (code_point / 256) ∷ upper_hex (code_point / 16) ∷ upper_hex code_point
    ∷ 93 ∷ []) =
    and_from _ _ (upper_low (code_point / 4096))
    (and_from _ _ (upper_low (code_point / 256)) (and_from _ _ (upper_low (code_point / 16)) (and_from _ _ (upper_low code_point) refl))) in
    let five = and_from _ _ (upper_low (code_point / 65536)) four in
    cond_both (nat_lt code_point 32) _ _ Low
    (λ is. let small = ltb-true code_point 32 is in
    and_from (is_low (code_point + 64)) true (lt-ltb (code_point + 64) 128 (omega (arith, small))) refl)
    (λ not_low. cond_both (code_point == 127) _ _ Low (λ is. refl)
    (λ not_delete. cond_both (is_between code_point (0xDC00, 0xDCFF)) _ _ Low
    (λ is. and_from _ _ (lower_low ((code_point - 0xDC00) / 16)) (and_from _ _ (lower_low (code_point - 0xDC00)) refl))
    (λ not_byte. cond_both (nat_lt code_point 0x10000) _ _ Low
    (λ is. four)
    (λ large. cond_both (nat_lt code_point 0x100000) _ _ Low (λ is. five)
    (λ last. and_from _ _ (upper_low (code_point / 0x100000)) five)))))

repeat_low : (count : ℕ) (bytes : List ℕ) → list_all is_low bytes ≡ true → list_all is_low (repeat count bytes) ≡ true
repeat_low zero bytes low = refl
repeat_low (suc count) bytes low = all_append is_low bytes (repeat count bytes) low (repeat_low count bytes low)

-- ---- code points

-- The character `×`.
times_utf8 : IsUtf8 (0xC3 ∷ 0x97 ∷ [])
unfolding encode_utf8
times_utf8 = IsUtf8-encode 0xD7 (grind (arith, nat_tests))

unprintable_utf8 : (code_point count : ℕ) → IsUtf8 (unprintable_text code_point count)
unfolding unprintable_text
unprintable_utf8 code_point count =
    cond_both (nat_lt count 5) _ _ IsUtf8
    (λ few. ascii (repeat count (notation code_point)) (repeat_low count (notation code_point) (notation_low code_point)))
    (λ many. IsUtf8-append ((notation code_point ++ (0xC3 ∷ 0x97 ∷ [])) ++ number_text count) (codes " ")
    (IsUtf8-append (notation code_point ++ (0xC3 ∷ 0x97 ∷ [])) (number_text count)
    (IsUtf8-append (notation code_point) (0xC3 ∷ 0x97 ∷ []) (ascii (notation code_point) (notation_low code_point)) times_utf8)
    (ascii (number_text count) (number_low count)))
    (ascii (codes " ") refl))

-- A code point that is unprintable or a character.
abbrev IsShowable : ℕ → Type 0
IsShowable code_point = is_unprintable code_point ≡ false → IsScalar code_point

code_points_utf8 : (code_point count : ℕ) → IsShowable code_point → IsUtf8 (code_points_text code_point count)
code_points_utf8 code_point count showable =
    cond_both (is_unprintable code_point) (unprintable_text code_point count) (encode_utf8 code_point) IsUtf8
    (λ unprintable. unprintable_utf8 code_point count) (λ visible. IsUtf8-encode code_point (showable visible))

escaped_encoded : (code_point : ℕ) → IsScalar code_point → IsUtf8 (escaped (encode_utf8 code_point))
unfolding encode_utf8
escaped_encoded code_point scalar = amp (code_point == 38) refl
  where
    gt : (code_point == 38) ≡ false → (code_point == 60) ≡ false → (is : Bool) → (code_point == 62) ≡ is
        → IsUtf8 (escaped (encode_utf8 code_point))
    gt a l true is = subst (λ n. IsUtf8 (escaped (encode_utf8 n))) (sym (eqb-true code_point 62 is)) (ascii (codes "&gt;") refl)
    gt a l false is = subst IsUtf8 (sym (encoded_escaped code_point a l is)) (IsUtf8-encode code_point scalar)

    lt : (code_point == 38) ≡ false → (is : Bool) → (code_point == 60) ≡ is → IsUtf8 (escaped (encode_utf8 code_point))
    lt a true is = subst (λ n. IsUtf8 (escaped (encode_utf8 n))) (sym (eqb-true code_point 60 is)) (ascii (codes "&lt;") refl)
    lt a false is = gt a is (code_point == 62) refl

    amp : (is : Bool) → (code_point == 38) ≡ is → IsUtf8 (escaped (encode_utf8 code_point))
    amp true is = subst (λ n. IsUtf8 (escaped (encode_utf8 n))) (sym (eqb-true code_point 38 is)) (ascii (codes "&amp;") refl)
    amp false is = lt is (code_point == 60) refl

escaped_utf8 : (code_point count : ℕ) → IsShowable code_point → IsUtf8 (escaped (code_points_text code_point count))
escaped_utf8 code_point count showable =
    cond_both (is_unprintable code_point) (unprintable_text code_point count) (encode_utf8 code_point) (λ text. IsUtf8 (escaped text))
    (λ unprintable. subst IsUtf8 (sym (safe_escaped (unprintable_text code_point count) (unprintable_safe code_point count)))
    (unprintable_utf8 code_point count))
    (λ visible. escaped_encoded code_point (showable visible))

-- ---- symbols and runs

abbrev IsShowableSymbol : Symbol → Type 0
IsShowableSymbol (CodePoint code_point) = IsShowable code_point
IsShowableSymbol (Sequence numbers) = ⊤

first_showable : (kind : TextKind) (bytes : List ℕ) → slice_index bytes 0 < 256 → IsShowableSymbol (first_symbol kind bytes)
unfolding first_symbol first_code_point
first_showable kind bytes below = cond_both (is_sequence kind bytes) _ _ IsShowableSymbol (λ is. tt) (λ is. by (decoded bytes).char refl)
  where
    by : (char : Option ℕ) → (decoded bytes).char ≡ char → IsShowable (code_point_of (decoded bytes).char (slice_index bytes 0))
    by None is visible = absurd (let e : true ≡ false = sym (unprintable_byte (slice_index bytes 0) below)
        ∙ ap (λ (o : Option ℕ). is_unprintable (code_point_of o (slice_index bytes 0))) (sym is) ∙ visible in cc)
    by (Some c) is visible = subst (λ (o : Option ℕ). IsScalar (code_point_of o (slice_index bytes 0))) (sym is)
        (SpellsChar-decoded bytes c is).scalar

symbols_showable : (kind : TextKind) (skipped : ℕ) (bytes : List ℕ) → list_all is_byte bytes ≡ true
    → AllByRecursion IsShowableSymbol (symbols_after kind skipped bytes)
unfolding symbols_after
symbols_showable kind skipped [] are = tt
symbols_showable kind zero (byte ∷ bytes) are =
    let parts = and_parts (is_byte byte) (list_all is_byte bytes) are in (
      first_showable kind (byte ∷ bytes) (ltb-true byte 256 parts.0),
      symbols_showable kind
          (symbol_len kind (byte ∷ bytes) - 1) bytes parts.1,
    )
symbols_showable kind (suc skipped) (byte ∷ bytes) are =
    symbols_showable kind skipped bytes (and_parts (is_byte byte) (list_all is_byte bytes) are).1

abbrev IsShowableRun : Run → Type 0
IsShowableRun (CodePoints code_point count) = IsShowable code_point
IsShowableRun (Restyle numbers) = ⊤

code_point_showable : (code_point : ℕ) (runs : List Run) → IsShowable code_point → AllByRecursion IsShowableRun runs
    → AllByRecursion IsShowableRun (with_code_point code_point runs)
code_point_showable code_point [] one all = (one, tt)
code_point_showable code_point (Restyle numbers ∷ runs) one all = (one, all)
code_point_showable code_point (CodePoints next count ∷ runs) one all =
    cond_both (is_unprintable code_point && code_point == next) _ _ (AllByRecursion IsShowableRun) (λ same. (all.0, all.1))
    (λ other. (one, all))

runs_showable : (symbols : List Symbol) → AllByRecursion IsShowableSymbol symbols → AllByRecursion IsShowableRun (runs_of symbols)
runs_showable [] all = tt
runs_showable (CodePoint code_point ∷ symbols) all = code_point_showable code_point (runs_of symbols) all.0 (runs_showable symbols all.1)
runs_showable (Sequence numbers ∷ symbols) all = (tt, runs_showable symbols all.1)

each_utf8 : {X : Type 0} (f : X → List ℕ) (P : X → Type 0) → ((x : X) → P x → IsUtf8 (f x)) → (xs : List X) → AllByRecursion P xs
    → IsUtf8 (flat_map f xs)
each_utf8 f P one [] all = IsUtf8-nil
each_utf8 f P one (x ∷ xs) all = IsUtf8-append (f x) (flat_map f xs) (one x all.0) (each_utf8 f P one xs all.1)

run_utf8 : (run : Run) → IsShowableRun run → IsUtf8 (run_text run)
run_utf8 (CodePoints code_point count) showable = code_points_utf8 code_point count showable
run_utf8 (Restyle numbers) showable = IsUtf8-nil

-- The runs of bytes are showable.
text_showable : (kind : TextKind) (bytes : List ℕ) → list_all is_byte bytes ≡ true
    → AllByRecursion IsShowableRun (runs_of (symbols kind bytes))
text_showable kind bytes are = runs_showable (symbols kind bytes) (symbols_showable kind 0 bytes are)

pub shown_utf8 : (kind : TextKind) (bytes : List ℕ) → list_all is_byte bytes ≡ true → IsUtf8 (shown_text kind bytes)
shown_utf8 kind bytes are = each_utf8 run_text IsShowableRun run_utf8 (runs_of (symbols kind bytes)) (text_showable kind bytes are)

-- ---- HTML

abbrev IsShowableInline : Inline → Type 0
IsShowableInline UnprintableStart = ⊤
IsShowableInline UnprintableEnd = ⊤
IsShowableInline (StyleStart style) = ⊤
IsShowableInline (StyleEnd style) = ⊤
IsShowableInline (Text code_point count) = IsShowable code_point

highlight_utf8 : (kind : TextKind) (tag : List ℕ) → list_all is_low tag ≡ true → IsUtf8 (highlight_html kind tag)
highlight_utf8 kind tag low = cond_both (has_highlights kind) _ _ IsUtf8
    (λ has. ascii (60 ∷ (tag ++ 62 ∷ [])) (and_from true _ refl (all_append is_low tag (62 ∷ []) low refl))) (λ none. IsUtf8-nil)

style_low : (bold : Bool) (hue : Hue) → list_all is_low (style_name bold ++ hue_class hue) ≡ true
style_low true Plain = refl
style_low true Red = refl
style_low true Green = refl
style_low true Yellow = refl
style_low true Blue = refl
style_low true Magenta = refl
style_low true Cyan = refl
style_low false Plain = refl
style_low false Red = refl
style_low false Green = refl
style_low false Yellow = refl
style_low false Blue = refl
style_low false Magenta = refl
style_low false Cyan = refl

style_end_low : (bold : Bool) → list_all is_low (47 ∷ style_name bold) ≡ true
style_end_low true = refl
style_end_low false = refl

inline_utf8 : (kind : TextKind) (inline : Inline) → IsShowableInline inline → IsUtf8 (inline_html kind inline)
inline_utf8 kind UnprintableStart showable = highlight_utf8 kind (codes "i") refl
inline_utf8 kind UnprintableEnd showable = highlight_utf8 kind (codes "/i") refl
inline_utf8 kind (StyleStart style) showable =
    highlight_utf8 kind (style_name style.bold ++ hue_class style.hue) (style_low style.bold style.hue)
inline_utf8 kind (StyleEnd style) showable = highlight_utf8 kind (47 ∷ style_name style.bold) (style_end_low style.bold)
inline_utf8 kind (Text code_point count) showable = escaped_utf8 code_point count showable

both_showable : (a b : List Inline) → AllByRecursion IsShowableInline a → AllByRecursion IsShowableInline b
    → AllByRecursion IsShowableInline (a ++ b)
both_showable [] b first second = second
both_showable (inline ∷ a) b first second = (first.0, both_showable a b first.1 second)

inlines_showable : (style : Style) (runs : List Run) → AllByRecursion IsShowableRun runs
    → AllByRecursion IsShowableInline (passage_inlines style runs)
inlines_showable = holds_of_passage (AllByRecursion IsShowableInline) IsShowableRun tt both_showable
    (λ code_point count showable. (showable, tt)) (λ inlines are. (tt, both_showable inlines (UnprintableEnd ∷ []) are (tt, tt)))
    (λ style inlines has are. (tt, both_showable inlines (StyleEnd style ∷ []) are (tt, tt)))

pub passage_utf8 : (kind : TextKind) (style : Style) (bytes : List ℕ) → list_all is_byte bytes ≡ true
    → IsUtf8 (passage_html kind style bytes)
unfolding passage_html
passage_utf8 kind style bytes are =
    let runs = runs_of (symbols kind bytes) in
    each_utf8 (inline_html kind) IsShowableInline (inline_utf8 kind) (passage_inlines style runs)
    (inlines_showable style runs (text_showable kind bytes are))

-- ---- tags

numbered_low : (begin : List ℕ) (number : ℕ) → list_all is_low begin ≡ true
    → list_all is_low (codes "<" ++ (begin ++ number_text number ++ codes "\"") ++ codes ">" ++ []) ≡ true
numbered_low begin number low =
    let tag = (begin ++ number_text number) ++ codes "\"" in
    all_append is_low ((codes "<" ++ tag) ++ codes ">") []
    (all_append is_low (codes "<" ++ tag) (codes ">")
    (and_from true _ refl (all_append is_low (begin ++ number_text number) (codes "\"")
    (all_append is_low begin (number_text number) low (number_low number)) refl)) refl) refl

markup_low : (markup : Markup) → list_all is_low (markup_html markup) ≡ true
markup_low Doctype = refl
markup_low Html = refl
markup_low EndHtml = refl
markup_low Head = refl
markup_low EndHead = refl
markup_low Charset = refl
markup_low Viewport = refl
markup_low ColorScheme = refl
markup_low Referrer = refl
markup_low Policy = refl
markup_low BodyGood = refl
markup_low BodyBad = refl
markup_low BodyOpen = refl
markup_low EndBody = refl
markup_low Header = refl
markup_low EndHeader = refl
markup_low Title1 = refl
markup_low EndTitle1 = refl
markup_low Sign = refl
markup_low EndSign = refl
markup_low Nav = refl
markup_low EndNav = refl
markup_low Main = refl
markup_low EndMain = refl
markup_low FailedSection = refl
markup_low NewSection = refl
markup_low SummarySection = refl
markup_low TreeSection = refl
markup_low TimelineSection = refl
markup_low EndSection = refl
markup_low FailedHeading = refl
markup_low NewHeading = refl
markup_low SummaryHeading = refl
markup_low TreeHeading = refl
markup_low TimelineHeading = refl
markup_low EndHeading = refl
markup_low FailedLink = refl
markup_low NewLink = refl
markup_low SummaryLink = refl
markup_low TreeLink = refl
markup_low TimelineLink = refl
markup_low (TargetLink number) = numbered_low (codes "a href=\"#t") number refl
markup_low (OutputLink number) = numbered_low (codes "a href=\"#f") number refl
markup_low EndLink = refl
markup_low (Article number) = numbered_low (codes "article id=\"f") number refl
markup_low EndArticle = refl
markup_low Title3 = refl
markup_low EndTitle3 = refl
markup_low Paragraph = refl
markup_low MetaParagraph = refl
markup_low QuietParagraph = refl
markup_low CutParagraph = refl
markup_low ProblemParagraph = refl
markup_low EndParagraph = refl
markup_low Unordered = refl
markup_low Tree = refl
markup_low EndUnordered = refl
markup_low Ordered = refl
markup_low (OrderedFrom number) = numbered_low (codes "ol class=\"list\" start=\"") number refl
markup_low EndOrdered = refl
markup_low Item = refl
markup_low NoteItem = refl
markup_low (TargetItem number) = numbered_low (codes "li id=\"t") number refl
markup_low EndItem = refl
markup_low (Details number) = numbered_low (codes "details id=\"t") number refl
markup_low (OpenDetails number) = numbered_low (codes "details open id=\"t") number refl
markup_low QuietDetails = refl
markup_low MoreDetails = refl
markup_low EndDetails = refl
markup_low Summary = refl
markup_low EndSummary = refl
markup_low Pre = refl
markup_low EndPre = refl
markup_low Bdi = refl
markup_low EndBdi = refl
markup_low Code = refl
markup_low EndCode = refl
markup_low ExitBadge = refl
markup_low OpenBadge = refl
markup_low EndBadge = refl
markup_low Emphasis = refl
markup_low EndEmphasis = refl
markup_low Small = refl
markup_low EndSmall = refl
markup_low Footer = refl
markup_low EndFooter = refl
markup_low DescriptionList = refl
markup_low EndDescriptionList = refl
markup_low Div = refl
markup_low EndDiv = refl
markup_low Term = refl
markup_low EndTerm = refl
markup_low Description = refl
markup_low EndDescription = refl
markup_low Columns = refl
markup_low Table = refl
markup_low EndTable = refl
markup_low TableBody = refl
markup_low EndTableBody = refl
markup_low TableRow = refl
markup_low EndTableRow = refl
markup_low RowHeading = refl
markup_low EndRowHeading = refl
markup_low NumberCell = refl
markup_low MeterCell = refl
markup_low EndCell = refl
markup_low TimelineScroll = refl

-- ---- pages

sheet_low : list_all is_low style_sheet ≡ true
unfolding style_sheet
sheet_low = refl

node_utf8 : (node : Node) → is_well_formed node ≡ true → node_has_bytes node ≡ true → IsUtf8 (node_html node)
node_utf8 (StartTag element attributes) well are =
    let parts = and_parts (is_element element) (list_all is_attribute attributes) well in
    ascii (node_html (StartTag element attributes))
    (all_append is_low (codes "<") (tag_text element attributes ++ codes ">") refl
    (all_append is_low (tag_text element attributes) (codes ">") (tag_low element attributes parts.0 parts.1) refl))
node_utf8 (EndTag element) well are =
    ascii (node_html (EndTag element)) (all_append is_low (codes "</") (element ++ codes ">") refl
    (all_append is_low element (codes ">") (element_name_low element well) refl))
node_utf8 (Words text) well are = passage_utf8 Title plain_style text are

nodes_utf8 : (nodes : List Node) → list_all is_well_formed nodes ≡ true → list_all node_has_bytes nodes ≡ true → IsUtf8 (nodes_html nodes)
nodes_utf8 [] well are = IsUtf8-nil
nodes_utf8 (node ∷ nodes) well are =
    let first = and_parts (is_well_formed node) (list_all is_well_formed nodes) well in
    let both = and_parts (node_has_bytes node) (list_all node_has_bytes nodes) are in
    IsUtf8-append (node_html node) (nodes_html nodes) (node_utf8 node first.0 both.0) (nodes_utf8 nodes first.1 both.1)

part_utf8 : (part : Part) → has_bytes part ≡ true → IsUtf8 (part_html part)
part_utf8 (MarkupPart markup) are = ascii (markup_html markup) (markup_low markup)
part_utf8 (LogPart style text) are = passage_utf8 Log style text are
part_utf8 (TextPart text) are = passage_utf8 Monochrome plain_style text are
part_utf8 (NumberPart number) are = ascii (number_text number) (number_low number)
part_utf8 (TitlePart title) are =
    IsUtf8-append (codes "<title>" ++ passage_html Title plain_style title) (codes "</title>")
    (IsUtf8-append (codes "<title>") (passage_html Title plain_style title) (ascii (codes "<title>") refl)
    (passage_utf8 Title plain_style title are)) (ascii (codes "</title>") refl)
part_utf8 StylePart are = ascii (codes "<style>" ++ style_sheet ++ codes "</style>")
    (all_append is_low (codes "<style>" ++ style_sheet) (codes "</style>")
    (all_append is_low (codes "<style>") style_sheet refl sheet_low) refl)
part_utf8 (ChartPart drawing) are = nodes_utf8 (drawing_nodes drawing)
    (nodes_well_formed Normal Normal (drawing_nodes drawing) (drawing_contexts drawing)) are
part_utf8 (MeterPart width) are = nodes_utf8 (meter_nodes width)
    (nodes_well_formed Normal Normal (meter_nodes width) (meter_contexts width)) refl

pub parts_utf8 : (parts : List Part) → list_all has_bytes parts ≡ true → IsUtf8 (flat_map part_html parts)
parts_utf8 [] are = IsUtf8-nil
parts_utf8 (part ∷ parts) are =
    let both = and_parts (has_bytes part) (list_all has_bytes parts) are in
    IsUtf8-append (part_html part) (flat_map part_html parts) (part_utf8 part both.0) (parts_utf8 parts both.1)
