-- How the tags of a page are read.
use Rattle.std.proofs.Common.{◌≡◌, ℕ, List, [], ◌∷◌, ◌++◌, refl, ◌∙◌, ap}
use Rattle.std.specs.Prelude.{codes}
use Rattle.std.proofs.lemmas.List.{append_assoc}
use Rattle.redo_html.specs.declared.markup.Markup.{Markup}
use Rattle.redo_html.specs.declared.markup.Markup.TheVariants.{Doctype, Html, EndHtml, Head, EndHead, Charset, Viewport, ColorScheme, Referrer, Policy, BodyGood, BodyBad, BodyOpen, EndBody, Header, EndHeader, Title1, EndTitle1, Sign, EndSign, Nav, EndNav, Main, EndMain, FailedSection, NewSection, SummarySection, TreeSection, TimelineSection, EndSection, FailedHeading, NewHeading, SummaryHeading, TreeHeading, TimelineHeading, EndHeading, FailedLink, NewLink, SummaryLink, TreeLink, TimelineLink, TargetLink, OutputLink, EndLink, Article, EndArticle, Title3, EndTitle3, Paragraph, MetaParagraph, QuietParagraph, CutParagraph, ProblemParagraph, EndParagraph, Unordered, Tree, EndUnordered, Ordered, OrderedFrom, EndOrdered, Item, NoteItem, TargetItem, EndItem, Details, OpenDetails, QuietDetails, MoreDetails, EndDetails, Summary, EndSummary, Pre, EndPre, Bdi, EndBdi, Code, EndCode, ExitBadge, OpenBadge, EndBadge, Emphasis, EndEmphasis, Small, EndSmall, Footer, EndFooter, DescriptionList, EndDescriptionList, Div, EndDiv, Term, EndTerm, Description, EndDescription, Columns, Table, EndTable, TableBody, EndTableBody, TableRow, EndTableRow, RowHeading, EndRowHeading, NumberCell, MeterCell, EndCell, TimelineScroll}
use Rattle.redo_html.specs.Html.{DataState, Normal, AttributeValue, Step, emit_tag, read_from}
use Rattle.redo_html.specs.Html.Token.{Tag}
use Rattle.redo_html.specs.Laws.{ReadsAs}
use Rattle.redo_html.specs.Shown.{number_text}
use Rattle.redo_html.specs.Tags.{markup_text, markup_html}
use Rattle.redo_html.proofs.TagReading.{names_after_number, number_value, value_read}

-- ---- numbers in an attribute

-- A tag whose last attribute ends with a number. `begin` precedes the number.
abbrev numbered : List ℕ → ℕ → List ℕ
numbered begin number = begin ++ number_text number ++ codes "\""

number_tail : (begin digits behind : List ℕ)
    → ((begin ++ digits ++ codes "\"") ++ codes ">" ++ []) ++ behind ≡ begin ++ (digits ++ 34 ∷ 62 ∷ behind)
number_tail begin digits behind = simp append_assoc

numbered_reads : (begin : List ℕ) (number : ℕ)
    → ((rest : List ℕ) → read_from (DataState Normal) (60 ∷ (begin ++ rest)) ≡ read_from (AttributeValue Normal begin) rest)
    → emit_tag Normal (numbered begin number) ≡ (DataState Normal, Tag (numbered begin number) ∷ [])
    → ReadsAs (codes "<" ++ numbered begin number ++ codes ">" ++ []) (Tag (numbered begin number) ∷ [])
numbered_reads begin number opens emits behind =
    ap (λ b. read_from (DataState Normal) (60 ∷ b)) (number_tail begin (number_text number) behind)
    ∙ opens (number_text number ++ 34 ∷ 62 ∷ behind)
    ∙ value_read Normal (number_text number) begin (34 ∷ 62 ∷ behind) (number_value number)
    ∙ ap (λ (step : Step). step.1 ++ read_from step.0 behind) emits

-- ---- tags

pub markup_reads : (markup : Markup) → ReadsAs (markup_html markup) (Tag (markup_text markup) ∷ [])
markup_reads Doctype behind = refl
markup_reads Html behind = refl
markup_reads EndHtml behind = refl
markup_reads Head behind = refl
markup_reads EndHead behind = refl
markup_reads Charset behind = refl
markup_reads Viewport behind = refl
markup_reads ColorScheme behind = refl
markup_reads Referrer behind = refl
markup_reads Policy behind = refl
markup_reads BodyGood behind = refl
markup_reads BodyBad behind = refl
markup_reads BodyOpen behind = refl
markup_reads EndBody behind = refl
markup_reads Header behind = refl
markup_reads EndHeader behind = refl
markup_reads Title1 behind = refl
markup_reads EndTitle1 behind = refl
markup_reads Sign behind = refl
markup_reads EndSign behind = refl
markup_reads Nav behind = refl
markup_reads EndNav behind = refl
markup_reads Main behind = refl
markup_reads EndMain behind = refl
markup_reads FailedSection behind = refl
markup_reads NewSection behind = refl
markup_reads SummarySection behind = refl
markup_reads TreeSection behind = refl
markup_reads TimelineSection behind = refl
markup_reads EndSection behind = refl
markup_reads FailedHeading behind = refl
markup_reads NewHeading behind = refl
markup_reads SummaryHeading behind = refl
markup_reads TreeHeading behind = refl
markup_reads TimelineHeading behind = refl
markup_reads EndHeading behind = refl
markup_reads FailedLink behind = refl
markup_reads NewLink behind = refl
markup_reads SummaryLink behind = refl
markup_reads TreeLink behind = refl
markup_reads TimelineLink behind = refl
markup_reads (TargetLink number) behind = numbered_reads (codes "a href=\"#t") number (λ rest. refl) (rw (names_after_number number) refl) behind
markup_reads (OutputLink number) behind = numbered_reads (codes "a href=\"#f") number (λ rest. refl) (rw (names_after_number number) refl) behind
markup_reads EndLink behind = refl
markup_reads (Article number) behind = numbered_reads (codes "article id=\"f") number (λ rest. refl) (rw (names_after_number number) refl) behind
markup_reads EndArticle behind = refl
markup_reads Title3 behind = refl
markup_reads EndTitle3 behind = refl
markup_reads Paragraph behind = refl
markup_reads MetaParagraph behind = refl
markup_reads QuietParagraph behind = refl
markup_reads CutParagraph behind = refl
markup_reads ProblemParagraph behind = refl
markup_reads EndParagraph behind = refl
markup_reads Unordered behind = refl
markup_reads Tree behind = refl
markup_reads EndUnordered behind = refl
markup_reads Ordered behind = refl
markup_reads (OrderedFrom number) behind = numbered_reads (codes "ol class=\"list\" start=\"") number (λ rest. refl) (rw (names_after_number number) refl) behind
markup_reads EndOrdered behind = refl
markup_reads Item behind = refl
markup_reads NoteItem behind = refl
markup_reads (TargetItem number) behind = numbered_reads (codes "li id=\"t") number (λ rest. refl) (rw (names_after_number number) refl) behind
markup_reads EndItem behind = refl
markup_reads (Details number) behind = numbered_reads (codes "details id=\"t") number (λ rest. refl) (rw (names_after_number number) refl) behind
markup_reads (OpenDetails number) behind = numbered_reads (codes "details open id=\"t") number (λ rest. refl) (rw (names_after_number number) refl) behind
markup_reads QuietDetails behind = refl
markup_reads MoreDetails behind = refl
markup_reads EndDetails behind = refl
markup_reads Summary behind = refl
markup_reads EndSummary behind = refl
markup_reads Pre behind = refl
markup_reads EndPre behind = refl
markup_reads Bdi behind = refl
markup_reads EndBdi behind = refl
markup_reads Code behind = refl
markup_reads EndCode behind = refl
markup_reads ExitBadge behind = refl
markup_reads OpenBadge behind = refl
markup_reads EndBadge behind = refl
markup_reads Emphasis behind = refl
markup_reads EndEmphasis behind = refl
markup_reads Small behind = refl
markup_reads EndSmall behind = refl
markup_reads Footer behind = refl
markup_reads EndFooter behind = refl
markup_reads DescriptionList behind = refl
markup_reads EndDescriptionList behind = refl
markup_reads Div behind = refl
markup_reads EndDiv behind = refl
markup_reads Term behind = refl
markup_reads EndTerm behind = refl
markup_reads Description behind = refl
markup_reads EndDescription behind = refl
markup_reads Columns behind = refl
markup_reads Table behind = refl
markup_reads EndTable behind = refl
markup_reads TableBody behind = refl
markup_reads EndTableBody behind = refl
markup_reads TableRow behind = refl
markup_reads EndTableRow behind = refl
markup_reads RowHeading behind = refl
markup_reads EndRowHeading behind = refl
markup_reads NumberCell behind = refl
markup_reads MeterCell behind = refl
markup_reads EndCell behind = refl
markup_reads TimelineScroll behind = refl
