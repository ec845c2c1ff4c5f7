-- Rows of tags and their texts, as docs/page.md, tests/page/style.css and tests/page/page_model.py have them.
use Rattle.std.proofs.Common.{◌≡◌, ℕ, true, List, [], ◌∷◌, ◌++◌, map, refl}
use Rattle.std.specs.Fmt.{digits}
use Rattle.std.specs.List.{AllByRecursion}
use Rattle.std.specs.Prelude.{codes}
use Rattle.redo_html.specs.declared.markup.Markup.{Markup}
use Rattle.redo_html.specs.declared.markup.Markup.TheVariants.{Doctype, Html, EndHtml, Head, EndHead, Charset, Viewport, ColorScheme, Referrer, Policy, BodyGood, BodyBad, BodyOpen, EndBody, Header, EndHeader, Title1, EndTitle1, Sign, EndSign, Nav, EndNav, Main, EndMain, FailedSection, NewSection, SummarySection, TreeSection, TimelineSection, EndSection, FailedHeading, NewHeading, SummaryHeading, TreeHeading, TimelineHeading, EndHeading, FailedLink, NewLink, SummaryLink, TreeLink, TimelineLink, TargetLink, OutputLink, EndLink, Article, EndArticle, Title3, EndTitle3, Paragraph, MetaParagraph, QuietParagraph, CutParagraph, ProblemParagraph, EndParagraph, Unordered, Tree, EndUnordered, Ordered, OrderedFrom, EndOrdered, Item, NoteItem, TargetItem, EndItem, Details, OpenDetails, QuietDetails, MoreDetails, EndDetails, Summary, EndSummary, Pre, EndPre, Bdi, EndBdi, Code, EndCode, ExitBadge, OpenBadge, EndBadge, Emphasis, EndEmphasis, Small, EndSmall, Footer, EndFooter, DescriptionList, EndDescriptionList, Div, EndDiv, Term, EndTerm, Description, EndDescription, Columns, Table, EndTable, TableBody, EndTableBody, TableRow, EndTableRow, RowHeading, EndRowHeading, NumberCell, MeterCell, EndCell, TimelineScroll}
use Rattle.redo_html.specs.declared.style.Hue.TheVariants.{Plain}
use Rattle.redo_html.specs.Html.{plain_elements, start_name, void_elements}
use Rattle.redo_html.specs.Passage.{Inline, highlight_text}
use Rattle.redo_html.specs.Passage.Inline.{UnprintableStart, StyleStart}
use Rattle.redo_html.specs.Shown.{number_text}
use Rattle.redo_html.specs.Tags.{markup_text}

abbrev HaveTexts : List (Markup × List ℕ) → Type 0
HaveTexts rows = AllByRecursion (λ (row : Markup × List ℕ). markup_text row.0 ≡ row.1) rows

-- The frame of a page, and its heading.
abbrev frame : List (Markup × List ℕ)
frame =
    (Doctype, codes "!doctype html") ∷ (Html, codes "html lang=\"en\"") ∷ (EndHtml, codes "/html") ∷ (Head, codes "head")
    ∷ (EndHead, codes "/head") ∷ (Charset, codes "meta charset=\"utf-8\"")
    ∷ (Viewport, codes "meta name=\"viewport\" content=\"width=device-width, initial-scale=1\"")
    ∷ (ColorScheme, codes "meta name=\"color-scheme\" content=\"light dark\"")
    ∷ (Referrer, codes "meta name=\"referrer\" content=\"no-referrer\"")
    ∷ (Policy, codes "meta http-equiv=\"Content-Security-Policy\" content=\"default-src 'none'; style-src 'unsafe-inline'\"")
    ∷ (BodyGood, codes "body class=\"good\"") ∷ (BodyBad, codes "body class=\"bad\"") ∷ (BodyOpen, codes "body class=\"open\"")
    ∷ (EndBody, codes "/body") ∷ (Header, codes "header") ∷ (EndHeader, codes "/header") ∷ (Title1, codes "h1") ∷ (EndTitle1, codes "/h1")
    ∷ (Sign, codes "span class=\"sign\" aria-hidden=\"true\"") ∷ (EndSign, codes "/span")
    ∷ (Nav, codes "nav aria-label=\"Parts of this page\"") ∷ (EndNav, codes "/nav") ∷ (Main, codes "main") ∷ (EndMain, codes "/main")
    ∷ (Footer, codes "footer") ∷ (EndFooter, codes "/footer") ∷ []

these_frame : HaveTexts frame
these_frame = (
  refl,
  (
    refl,
    (
      refl,
      (
        refl,
        (
          refl,
          (
            refl,
            (
              refl,
              (
                refl,
                (
                  refl,
                  (
                    refl,
                    (
                      refl,
                      (
                        refl,
                        (
                          refl,
                          (
                            refl,
                            (refl, (refl, (refl, (refl, (refl, (refl, (refl, (refl, (refl, (refl, (refl, (refl, tt)))))))))))),
                          ),
                        ),
                      ),
                    ),
                  ),
                ),
              ),
            ),
          ),
        ),
      ),
    ),
  ),
)

-- Each section has an id and is named by its heading. Each link leads to the section's id.
abbrev sections : List (Markup × List ℕ)
sections =
    (FailedSection, codes "section id=\"failed\" aria-labelledby=\"h-failed\"") ∷ (FailedHeading, codes "h2 id=\"h-failed\"")
    ∷ (FailedLink, codes "a href=\"#failed\"") ∷ (NewSection, codes "section id=\"new\" aria-labelledby=\"h-new\"")
    ∷ (NewHeading, codes "h2 id=\"h-new\"") ∷ (NewLink, codes "a href=\"#new\"")
    ∷ (SummarySection, codes "section id=\"summary\" aria-labelledby=\"h-summary\"")
    ∷ (SummaryHeading, codes "h2 id=\"h-summary\"") ∷ (SummaryLink, codes "a href=\"#summary\"")
    ∷ (TimelineSection, codes "section id=\"timeline\" aria-labelledby=\"h-timeline\"") ∷ (TimelineHeading, codes "h2 id=\"h-timeline\"")
    ∷ (TimelineLink, codes "a href=\"#timeline\"") ∷ (TreeSection, codes "section id=\"tree\" aria-labelledby=\"h-tree\"")
    ∷ (TreeHeading, codes "h2 id=\"h-tree\"") ∷ (TreeLink, codes "a href=\"#tree\"") ∷ (EndSection, codes "/section")
    ∷ (EndHeading, codes "/h2") ∷ (EndLink, codes "/a")
    ∷ (TimelineScroll, codes "div class=\"scroll\" tabindex=\"0\" role=\"region\" aria-labelledby=\"h-timeline\"") ∷ []

these_sections : HaveTexts sections
these_sections = (
  refl,
  (
    refl,
    (
      refl,
      (
        refl,
        (
          refl,
          (
            refl,
            (refl, (refl, (refl, (refl, (refl, (refl, (refl, (refl, (refl, (refl, (refl, (refl, (refl, tt))))))))))))),
          ),
        ),
      ),
    ),
  ),
)

-- Elements in sections: paragraphs, lists, logs and texts. The style sheet has these classes.
abbrev blocks : List (Markup × List ℕ)
blocks =
    (EndArticle, codes "/article") ∷ (Title3, codes "h3") ∷ (EndTitle3, codes "/h3") ∷ (Paragraph, codes "p")
    ∷ (MetaParagraph, codes "p class=\"meta\"") ∷ (QuietParagraph, codes "p class=\"quiet\"") ∷ (CutParagraph, codes "p class=\"cut\"")
    ∷ (ProblemParagraph, codes "p class=\"problem\"") ∷ (EndParagraph, codes "/p") ∷ (Unordered, codes "ul")
    ∷ (Tree, codes "ul class=\"tree\"") ∷ (EndUnordered, codes "/ul") ∷ (Ordered, codes "ol class=\"list\"") ∷ (EndOrdered, codes "/ol")
    ∷ (Item, codes "li") ∷ (NoteItem, codes "li class=\"note\"") ∷ (EndItem, codes "/li") ∷ (QuietDetails, codes "details class=\"s\"")
    ∷ (MoreDetails, codes "details class=\"more\"") ∷ (EndDetails, codes "/details") ∷ (Summary, codes "summary")
    ∷ (EndSummary, codes "/summary") ∷ (Pre, codes "pre") ∷ (EndPre, codes "/pre") ∷ (Bdi, codes "bdi") ∷ (EndBdi, codes "/bdi")
    ∷ (Code, codes "code") ∷ (EndCode, codes "/code") ∷ (ExitBadge, codes "strong class=\"x\"") ∷ (OpenBadge, codes "strong class=\"o\"")
    ∷ (EndBadge, codes "/strong") ∷ (Emphasis, codes "em") ∷ (EndEmphasis, codes "/em") ∷ (Small, codes "small")
    ∷ (EndSmall, codes "/small") ∷ []

these_blocks : HaveTexts blocks
these_blocks = (
  refl,
  (
    refl,
    (
      refl,
      (
        refl,
        (
          refl,
          (
            refl,
            (
              refl,
              (
                refl,
                (
                  refl,
                  (
                    refl,
                    (
                      refl,
                      (
                        refl,
                        (
                          refl,
                          (
                            refl,
                            (
                              refl,
                              (
                                refl,
                                (
                                  refl,
                                  (
                                    refl,
                                    (
                                      refl,
                                      (
                                        refl,
                                        (
                                          refl,
                                          (
                                            refl,
                                            (
                                              refl,
                                              (
                                                refl,
                                                (
                                                  refl,
                                                  (
                                                    refl,
                                                    (
                                                      refl,
                                                      (refl, (refl, (refl, (refl, (refl, (refl, (refl, (refl, tt)))))))),
                                                    ),
                                                  ),
                                                ),
                                              ),
                                            ),
                                          ),
                                        ),
                                      ),
                                    ),
                                  ),
                                ),
                              ),
                            ),
                          ),
                        ),
                      ),
                    ),
                  ),
                ),
              ),
            ),
          ),
        ),
      ),
    ),
  ),
)

-- The tiles and the tables of the summary.
abbrev tables : List (Markup × List ℕ)
tables =
    (DescriptionList, codes "dl") ∷ (EndDescriptionList, codes "/dl") ∷ (Div, codes "div") ∷ (EndDiv, codes "/div") ∷ (Term, codes "dt")
    ∷ (EndTerm, codes "/dt") ∷ (Description, codes "dd") ∷ (EndDescription, codes "/dd") ∷ (Columns, codes "div class=\"cols\"")
    ∷ (Table, codes "table") ∷ (EndTable, codes "/table") ∷ (TableBody, codes "tbody") ∷ (EndTableBody, codes "/tbody")
    ∷ (TableRow, codes "tr") ∷ (EndTableRow, codes "/tr") ∷ (RowHeading, codes "th scope=\"row\"") ∷ (EndRowHeading, codes "/th")
    ∷ (NumberCell, codes "td class=\"n\"") ∷ (MeterCell, codes "td class=\"m\"") ∷ (EndCell, codes "/td") ∷ []

these_tables : HaveTexts tables
these_tables = (
  refl,
  (
    refl,
    (
      refl,
      (
        refl,
        (refl, (refl, (refl, (refl, (refl, (refl, (refl, (refl, (refl, (refl, (refl, (refl, (refl, (refl, (refl, (refl, tt)))))))))))))))),
      ),
    ),
  ),
)

-- Tags that have a number.
abbrev numbered : List (Markup × List ℕ)
numbered =
    (TargetLink 0, codes "a href=\"#t0\"") ∷ (TargetLink 12, codes "a href=\"#t12\"") ∷ (OutputLink 0, codes "a href=\"#f0\"")
    ∷ (OutputLink 12, codes "a href=\"#f12\"") ∷ (Article 0, codes "article id=\"f0\"") ∷ (Article 12, codes "article id=\"f12\"")
    ∷ (TargetItem 0, codes "li id=\"t0\"") ∷ (TargetItem 12, codes "li id=\"t12\"") ∷ (Details 0, codes "details id=\"t0\"")
    ∷ (Details 12, codes "details id=\"t12\"") ∷ (OpenDetails 0, codes "details open id=\"t0\"")
    ∷ (OpenDetails 12, codes "details open id=\"t12\"") ∷ (OrderedFrom 11, codes "ol class=\"list\" start=\"11\"")
    ∷ (OrderedFrom 0, codes "ol class=\"list\" start=\"0\"") ∷ []

these_numbered : HaveTexts numbered
unfolding number_text digits
these_numbered = (refl, (refl, (refl, (refl, (refl, (refl, (refl, (refl, (refl, (refl, (refl, (refl, (refl, (refl, tt))))))))))))))

-- ---- elements

-- Each element that is read has a tag above, or is a highlight.
abbrev names_of : List Markup → List (List ℕ)
names_of tags = map (λ (tag : Markup). start_name (markup_text tag)) tags

abbrev highlight_name : Inline → List ℕ
highlight_name inline = start_name (highlight_text inline)

elements : plain_elements
    ≡ names_of (Html ∷ Head ∷ Charset ∷ BodyGood ∷ Header ∷ Nav ∷ Main ∷ FailedSection ∷ Article 0 ∷ Footer ∷ Title1 ∷ FailedHeading
    ∷ Title3 ∷ Paragraph ∷ Unordered ∷ Ordered ∷ Item ∷ Details 0 ∷ Summary ∷ TreeLink ∷ [])
    ++ highlight_name (StyleStart (record { bold = true; hue = Plain })) ∷ names_of (Bdi ∷ Code ∷ Emphasis ∷ [])
    ++ highlight_name UnprintableStart ∷ names_of (Small ∷ Sign ∷ ExitBadge ∷ Table ∷ TableBody ∷ TableRow ∷ RowHeading ∷ NumberCell
    ∷ DescriptionList ∷ Term ∷ Description ∷ Div ∷ [])
elements = refl

-- The tags that begin no element.
void_elements_are : void_elements ≡ names_of (Doctype ∷ Charset ∷ [])
void_elements_are = refl
