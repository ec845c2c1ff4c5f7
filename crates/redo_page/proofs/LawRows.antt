-- Rows of the definitions that state the laws.
use Rattle.std.proofs.Common.{◌≡◌, ℕ, true, false, List, [], ◌∷◌, Option, None, Some, pos, refl, inl, inr, arith, ◌++◌, length, length-append, map, ap, replicate}
use Rattle.std.specs.Prelude.{codes, drop}
use Rattle.std.specs.Char.{encode_utf8}
use Rattle.std.specs.Fmt.{digits}
use Rattle.std.specs.List.{flat_map}
use Rattle.std.proofs.lemmas.Option.{none-some, same_Some}
use Rattle.redo_line.specs.declared.entry.Entry.TheVariants.{Text, Done, Closing, Note}
use Rattle.redo_line.specs.declared.entry.How.TheVariants.{Made}
use Rattle.redo_view.specs.declared.event.Opening.TheVariants.{NotOpened, OpensHere}
use Rattle.redo_view.specs.Event.Event.{Requested, Mentioned, EntryShown}
use Rattle.redo_html.specs.declared.chart.GroupKind.TheVariants.{Recipes}
use Rattle.redo_html.specs.declared.markup.Markup.TheVariants as markup
use Rattle.redo_html.specs.Chart.{Drawing, Shape}
use Rattle.redo_html.specs.Chart.Shape.{BarShape}
use Rattle.redo_html.specs.Html.Token.{Character, Lost, Tag}
use Rattle.redo_html.specs.Parts.{Part}
use Rattle.redo_html.specs.Parts.Part.{MarkupPart, LogPart, TextPart, NumberPart, TitlePart, StylePart, ChartPart, MeterPart}
use Rattle.redo_html.specs.Shown.{is_unprintable, notation, number_text, unprintable_text}
use Rattle.redo_html.specs.Style.{plain_style}
use Rattle.redo_html.specs.Symbols.{code_point_len, first_code_point, first_symbol, is_sequence, symbol_len, symbols_after}
use Rattle.redo_outline.specs.declared.node.Node.{Node}
use Rattle.redo_outline.specs.Contents.{Contents}
use Rattle.redo_outline.specs.Contents.Contents.{Nothing, Shown, Opened}
use Rattle.redo_page.specs.Laws.{IsListedBefore, PositionedLine, blank_event, blanked, event_lines, lines_at, positioned_bytes, positioned_lines, texts_of, IsPartOf, IsOwnTag, are_timed, article_id, article_link, log_text, markup_of, section_id, section_link, target_id, target_link, text_tokens, part_chart, unmoved_lines, is_moved_at}
use Rattle.redo_page.specs.Tree.{no_node, is_among}
use Rattle.redo_summary.specs.declared.target.Target.{Target}
use Rattle.redo_page.proofs.OtherTags.{script_is_not_own}

-- ---- parts

-- A bar that leads to a target.
abbrev bar : ℕ → Shape
bar position = BarShape (record { target = position; x = 1; y = 2; width = 3; height = 4; failed = false; title = codes "e"; label = None })

abbrev drawing : Drawing
drawing = record { height = 9; lanes = 1; layers = record { kind = Recipes; shapes = bar 11 ∷ bar 10 ∷ [] } ∷ [] }

abbrev parts : List Part
parts =
    MarkupPart (markup.TargetItem 3) ∷ MarkupPart (markup.Details 4) ∷ LogPart plain_style (codes "a\n") ∷ MarkupPart (markup.OpenDetails 5)
    ∷ MarkupPart (markup.TargetLink 6)
    ∷ TextPart (codes "b") ∷ MarkupPart (markup.OutputLink 7) ∷ NumberPart 9 ∷ MarkupPart (markup.Article 8) ∷ TitlePart (codes "c")
    ∷ StylePart ∷ LogPart plain_style (codes "d\n")
    ∷ ChartPart drawing ∷ MeterPart 12 ∷ []

target_ids_are : flat_map target_id parts ≡ 3 ∷ 4 ∷ 5 ∷ []
target_ids_are = refl

target_links_are : flat_map target_link parts ≡ 6 ∷ 11 ∷ 10 ∷ []
target_links_are = refl

article_links_are : flat_map article_link parts ≡ 7 ∷ []
article_links_are = refl

article_ids_are : flat_map article_id parts ≡ 8 ∷ []
article_ids_are = refl

charts_are : flat_map part_chart parts ≡ drawing ∷ []
charts_are = refl

-- Tags that begin sections or lead to them, and others.
abbrev framed : List Part
framed =
    MarkupPart markup.FailedLink ∷ MarkupPart markup.NewLink ∷ MarkupPart markup.TreeLink ∷ MarkupPart markup.EndLink
    ∷ MarkupPart markup.SummaryLink ∷ MarkupPart markup.TreeSection ∷ MarkupPart markup.TreeHeading ∷ MarkupPart markup.SummarySection
    ∷ MarkupPart markup.NewSection ∷ MarkupPart markup.FailedSection ∷ MarkupPart markup.TimelineLink ∷ MarkupPart markup.TimelineSection
    ∷ MarkupPart markup.EndSection ∷ []

section_links_are : flat_map section_link framed ≡ codes "failed" ∷ codes "new" ∷ codes "tree" ∷ codes "summary" ∷ codes "timeline" ∷ []
section_links_are = refl

section_ids_are : flat_map section_id framed ≡ codes "tree" ∷ codes "summary" ∷ codes "new" ∷ codes "failed" ∷ codes "timeline" ∷ []
section_ids_are = refl

-- ESC is unprintable in words.
tokens_are :
    flat_map text_tokens (MarkupPart markup.Title1 ∷ TextPart (97 ∷ 27 ∷ codes "[m") ∷ NumberPart 12 ∷ [])
    ≡ Tag (codes "h1") ∷ Character 97 ∷ Tag (codes "i") ∷ Character 94 ∷ Character 91 ∷ Tag (codes "/i") ∷ Character 91 ∷ Character 109
    ∷ Character 49 ∷ Character 50 ∷ []
unfolding symbols_after first_symbol symbol_len is_sequence first_code_point code_point_len is_unprintable notation unprintable_text number_text encode_utf8 digits
tokens_are = refl

no_words_are :
    flat_map text_tokens (LogPart plain_style (codes "a") ∷ TitlePart (codes "a") ∷ StylePart ∷ ChartPart drawing ∷ MeterPart 1 ∷ [])
    ≡ Lost ∷ Lost ∷ Lost ∷ Lost ∷ Lost ∷ []
no_words_are = refl

log_bytes_are : flat_map log_text parts ≡ codes "a\nd\n"
log_bytes_are = refl

markups_are :
    flat_map markup_of parts ≡ markup.TargetItem 3 ∷ markup.Details 4 ∷ markup.OpenDetails 5 ∷ markup.TargetLink 6 ∷ markup.OutputLink 7
    ∷ markup.Article 8 ∷ []
markups_are = refl

-- ---- parts of parts

abbrev number : ℕ → Part
number value = NumberPart value

abbrev first_number : List Part → ℕ
first_number (NumberPart value ∷ others) = value
first_number others = 0

no_part : IsPartOf (number 1 ∷ []) [] → ⊥
no_part part = let count : length (part.before ++ (number 1 ∷ part.after)) ≡ 0 = ap length part.splits in
    omega (arith, count, length-append part.before (number 1 ∷ part.after))

-- Parts in another order, and parts that are not next to each other.
no_other_order : IsPartOf (number 1 ∷ number 2 ∷ []) (number 2 ∷ number 1 ∷ []) → ⊥
no_other_order part = by part.before part.splits
  where
    by : (before : List Part) → before ++ (number 1 ∷ number 2 ∷ part.after) ≡ number 2 ∷ number 1 ∷ [] → ⊥
    by [] splits = let first : 1 ≡ 2 = ap first_number splits in omega (arith, first)
    by (other ∷ others) splits =
        let count : length (other ∷ (others ++ (number 1 ∷ number 2 ∷ part.after))) ≡ 2 = ap length splits in
        omega (arith, count, length-append others (number 1 ∷ number 2 ∷ part.after))

no_gap : IsPartOf (number 1 ∷ number 2 ∷ []) (number 1 ∷ number 3 ∷ number 2 ∷ []) → ⊥
no_gap part = by part.before part.splits
  where
    by : (before : List Part) → before ++ (number 1 ∷ number 2 ∷ part.after) ≡ number 1 ∷ number 3 ∷ number 2 ∷ [] → ⊥
    by [] splits = let next : 2 ≡ 3 = ap (λ parts. first_number (drop 1 parts)) splits in omega (arith, next)
    by (other ∷ []) splits = let next : 1 ≡ 3 = ap (λ parts. first_number (drop 1 parts)) splits in omega (arith, next)
    by (other ∷ another ∷ others) splits =
        let count : length (other ∷ another ∷ (others ++ (number 1 ∷ number 2 ∷ part.after))) ≡ 3 = ap length splits in
        omega (arith, count, length-append others (number 1 ∷ number 2 ∷ part.after))

-- ---- tags

-- A page has no scripts.
scripts_are_not_own : IsOwnTag (codes "script") → ⊥
scripts_are_not_own = script_is_not_own

-- ---- numbers

among_are : is_among (1 ∷ 2 ∷ []) 2 ∷ is_among (1 ∷ 2 ∷ []) 3 ∷ [] ≡ true ∷ false ∷ []
among_are = refl

-- ---- what failed

abbrev ended : Option ℕ → Node
ended time = record no_node { ended = time }

-- The last two ended at the same time, and it is unknown when the first two ended.
abbrev nodes : List Node
nodes = ended None ∷ ended None ∷ ended (Some 9) ∷ ended (Some 5) ∷ ended (Some 5) ∷ []

in_order :
    IsListedBefore nodes 3 4 × IsListedBefore nodes 4 2 × IsListedBefore nodes 2 0 × IsListedBefore nodes 4 1 × IsListedBefore nodes 0 1
in_order = (inr (refl, omega arith), inl (omega arith), inl tt, inl tt, inr (refl, omega arith))

-- One that ended later, an unknown end before a known one, and equal ends not in the order of the tree.
not_in_order :
    ¬ IsListedBefore nodes 2 3 × ¬ IsListedBefore nodes 0 2 × ¬ IsListedBefore nodes 4 3 × ¬ IsListedBefore nodes 1 0
    × ¬ IsListedBefore nodes 3 3
not_in_order = (
  λ is. elim is [ inl less ↦ omega (arith, less) | inr same ↦ let equal = same_Some 9 5 same.0 in omega (arith, equal) ],
  λ is. elim is [ inl less ↦ less | inr same ↦ none-some 9 same.0 ],
  λ is. elim is [ inl less ↦ omega (arith, less) | inr same ↦ omega (arith, same.1) ],
  λ is. elim is [ inl less ↦ less | inr same ↦ omega (arith, same.1) ],
  λ is. elim is [ inl less ↦ omega (arith, less) | inr same ↦ omega (arith, same.1) ],
)

-- ---- lines

-- A requested target, in whose log another one is opened.
abbrev contents : Contents
contents =
    Opened (Requested (codes "all") (OpensHere 0)) 0
    (Shown (EntryShown 1 (Text (codes "a")))
    (Opened (Mentioned 1 9 Made (codes "x") (OpensHere 1)) 1
    (Shown (EntryShown 2 (Text (codes "bc"))) (Shown (EntryShown 2 (Note 9 (codes "n") (codes "t"))) Nothing))
    (Shown (EntryShown 1 (Text (codes "d"))) Nothing)))
    (Opened (Requested (codes "y") (OpensHere 2)) 2 (Shown (EntryShown 1 (Text (codes "e"))) Nothing)
    (Shown (Requested (codes "z") NotOpened) Nothing))

abbrev at : ℕ → List ℕ → PositionedLine
at position line = record { position = Some position; line = line }

lines_are : positioned_lines None 0 contents ≡ at 0 (codes "a") ∷ at 1 (codes "bc") ∷ at 0 (codes "d") ∷ at 2 (codes "e") ∷ []
lines_are = refl

texts_are : texts_of (positioned_lines None 0 contents) ≡ codes "a" ∷ codes "bc" ∷ codes "d" ∷ codes "e" ∷ []
texts_are = refl

bytes_are : positioned_bytes (positioned_lines None 0 contents) ≡ codes "a\nbc\nd\ne\n"
bytes_are = refl

lines_at_are : lines_at 0 (positioned_lines None 0 contents) ≡ at 0 (codes "a") ∷ at 0 (codes "d") ∷ []
lines_at_are = refl

-- The target at position 1 failed. So it has an article, which shows its output.
abbrev one_failed : List Node
one_failed = no_node ∷ record no_node { status = Some (pos 1); lines = 1; bytes = 3 } ∷ no_node ∷ []

moved_are :
    map (is_moved_at one_failed) (None ∷ Some 0 ∷ Some 1 ∷ Some 2 ∷ []) ≡ false ∷ false ∷ true ∷ false ∷ []
    × (is_moved_at (no_node ∷ record no_node { status = Some (pos 1); lines = 301; bytes = 3 } ∷ []) (Some 1) ≡ false)
moved_are = (refl, refl)

unmoved_are : unmoved_lines one_failed (positioned_lines None 0 contents) ≡ at 0 (codes "a") ∷ at 0 (codes "d") ∷ at 2 (codes "e") ∷ []
unmoved_are = refl

event_lines_are : event_lines (EntryShown 1 (Text (codes "a"))) ∷ event_lines (EntryShown 1 (Note 9 (codes "n") (codes "t")))
    ∷ event_lines (Requested (codes "z") NotOpened) ∷ [] ≡ (codes "a" ∷ []) ∷ [] ∷ [] ∷ []
event_lines_are = refl

-- ---- blanks

abbrev rename : List ℕ → List ℕ
rename name = 114 ∷ name

blanks_are : blanked rename contents
    ≡ Opened (Requested (codes "rall") (OpensHere 0)) 0
    (Shown (EntryShown 1 (Text (codes " ")))
    (Opened (Mentioned 1 9 Made (codes "rx") (OpensHere 1)) 1
    (Shown (EntryShown 2 (Text (codes "  "))) (Shown (EntryShown 2 (Note 9 [] [])) Nothing))
    (Shown (EntryShown 1 (Text (codes " "))) Nothing)))
    (Opened (Requested (codes "ry") (OpensHere 2)) 2 (Shown (EntryShown 1 (Text (codes " "))) Nothing)
    (Shown (Requested (codes "rz") NotOpened) Nothing))
blanks_are = refl

blank_entries_are : blank_event rename (EntryShown 1 (Done 9 (pos 2) (codes "x"))) ∷ blank_event rename (EntryShown 1 (Closing 9 (pos 2)))
    ∷ [] ≡ EntryShown 1 (Done 9 (pos 2) (codes "rx")) ∷ EntryShown 1 (Closing 9 (pos 2)) ∷ []
blank_entries_are = refl

-- ---- times

-- The target at position 0 contains the one at position 1.
abbrev target_at_times : Option ℕ → ℕ → Option ℕ → Option ℕ → Target
target_at_times parent position began ended = record {
  position = position;
  parent = parent;
  failed = false;
  times = record { began = began; ended = ended; ran_others = false };
}

-- Callers, and targets that ran no others, of which the last one has a mark.
abbrev timed_targets : ℕ → ℕ → List Target
timed_targets callers recipes =
    replicate callers (record (target_at_times None 0 None None) { times = record { began = Some 1; ended = Some 9; ran_others = true } })
    ++ (replicate recipes (target_at_times (Some 0) 1 (Some 2) (Some 3)) ++ target_at_times (Some 0) 2 (Some 4) None ∷ [])

-- One of ten may have a mark.
timed_are :
    map (λ targets. are_timed targets) (timed_targets 0 9 ∷ timed_targets 0 8 ∷ timed_targets 8 1 ∷ timed_targets 7 1 ∷ [] ∷ [])
    ≡ true ∷ false ∷ true ∷ false ∷ false ∷ []
timed_are = refl
