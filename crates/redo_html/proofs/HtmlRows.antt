-- Rows of reading: tokens of a browser, and bytes that are lost because it would go to a state that isn't modelled.
use Rattle.std.proofs.Common.{◌≡◌, ℕ, true, false, List, [], ◌∷◌, ◌++◌, map, refl}
use Rattle.std.specs.Prelude.{codes}
use Rattle.std.specs.List.{AllByRecursion}
use Rattle.redo_html.specs.Html.{Token, read, nests_in}
use Rattle.redo_html.specs.Html.Token.{Character, Tag, Lost}

record Row : Type 0 where
  html : List ℕ
  tokens : List Token

abbrev row : List ℕ → List Token → Row
row html tokens = record { html = html; tokens = tokens }

abbrev text : List ℕ → List Token
text bytes = map Character bytes

abbrev tag : List ℕ → List Token
tag bytes = Tag bytes ∷ []

abbrev is_lost : List ℕ → Row
is_lost html = row html (Lost ∷ [])

-- Bytes that are read.
abbrev read_rows : List Row
read_rows =
    row (codes "a\n\"'") (text (codes "a\n\"'"))
    ∷ row (codes "&lt;&gt;&amp;lt;") (text (codes "<>&lt;"))
    ∷ row (codes "<p>a</p>") (tag (codes "p") ++ text (codes "a") ++ tag (codes "/p"))
    ∷ row (codes "<h1>a</h1>") (tag (codes "h1") ++ text (codes "a") ++ tag (codes "/h1"))
    ∷ row (codes "<!doctype html><html lang=\"en\">") (tag (codes "!doctype html") ++ tag (codes "html lang=\"en\""))
    ∷ row (codes "<p class=\"a>b<i\" id=\"x\">") (tag (codes "p class=\"a>b<i\" id=\"x\""))
    ∷ row (codes "<details open id=\"t1\">") (tag (codes "details open id=\"t1\""))
    ∷ row (codes "<details open>") (tag (codes "details open"))
    ∷ row (codes "<p a=\"b a c=\" ab=\"a\" b>") (tag (codes "p a=\"b a c=\" ab=\"a\" b"))
    ∷ row (codes "<p p=\"p\">") (tag (codes "p p=\"p\""))
    ∷ row (codes "<meta http-equiv=\"a\">") (tag (codes "meta http-equiv=\"a\""))
    ∷ row (codes "<pre>\n\na</pre>") (tag (codes "pre") ++ text (codes "\na") ++ tag (codes "/pre"))
    ∷ row (codes "<pre>\n\n\na") (tag (codes "pre") ++ text (codes "\n\na"))
    ∷ row (codes "<pre>a") (tag (codes "pre") ++ text (codes "a"))
    ∷ row (codes "<pre>") (tag (codes "pre"))
    ∷ row (codes "<pre><i>") (tag (codes "pre") ++ tag (codes "i"))
    ∷ row (codes "<title>a&lt;b>c</title>d") (tag (codes "title") ++ text (codes "a<b>c") ++ tag (codes "/title") ++ text (codes "d"))
    ∷ row (codes "<style>a>b&c\"</style>d") (tag (codes "style") ++ text (codes "a>b&c\"") ++ tag (codes "/style") ++ text (codes "d"))
    ∷ row (codes "<table><tbody><tr><th scope=\"row\">a</th><td class=\"n\">1</td></tr></tbody></table>")
    (tag (codes "table") ++ tag (codes "tbody") ++ tag (codes "tr") ++ tag (codes "th scope=\"row\"") ++ text (codes "a")
    ++ tag (codes "/th") ++ tag (codes "td class=\"n\"") ++ text (codes "1") ++ tag (codes "/td") ++ tag (codes "/tr")
    ++ tag (codes "/tbody") ++ tag (codes "/table"))
    ∷ row (codes "<div><dl><dt>a</dt><dd>b</dd></dl></div>")
    (tag (codes "div") ++ tag (codes "dl") ++ tag (codes "dt") ++ text (codes "a") ++ tag (codes "/dt") ++ tag (codes "dd")
    ++ text (codes "b") ++ tag (codes "/dd") ++ tag (codes "/dl") ++ tag (codes "/div"))
    ∷ []

reads : AllByRecursion (λ r. read r.html ≡ r.tokens) read_rows
reads = (
  refl,
  (
    refl,
    (
      refl,
      (
        refl,
        (
          refl,
          (
            refl,
            (
              refl,
              (
                refl,
                (
                  refl,
                  (
                    refl,
                    (
                      refl,
                      (
                        refl,
                        (
                          refl,
                          (
                            refl,
                            (
                              refl,
                              (
                                refl,
                                (refl, (refl, (refl, (refl, tt)))),
                              ),
                            ),
                          ),
                        ),
                      ),
                    ),
                  ),
                ),
              ),
            ),
          ),
        ),
      ),
    ),
  ),
)

-- Bytes that are lost: other elements, whose content a browser may read by other rules; comments; other references; bytes that a browser
-- rejects or changes; attributes without quotes; text that ends in a tag.
abbrev lost_rows : List Row
lost_rows =
    is_lost (codes "<script>x")
    ∷ is_lost (codes "<textarea>x")
    ∷ is_lost (codes "<math>x")
    ∷ is_lost (codes "<plaintext>x")
    ∷ is_lost (codes "<iframe>x")
    ∷ is_lost (codes "<noscript>x")
    ∷ is_lost (codes "<xmp>x")
    ∷ is_lost (codes "<pres>x")
    ∷ is_lost (codes "<!-- x -->")
    ∷ is_lost (codes "<!doctype>")
    ∷ is_lost (codes "<![CDATA[x]]>")
    ∷ is_lost (codes "<?x>")
    ∷ is_lost (codes "<P>x")
    ∷ is_lost (codes "</P>")
    ∷ is_lost (codes "< p>")
    ∷ is_lost (codes "</>")
    ∷ is_lost (codes "<br/>")
    ∷ is_lost (codes "&copy;x")
    ∷ is_lost (codes "&lt x")
    ∷ is_lost (codes "&#60;x")
    ∷ is_lost (codes "& x")
    ∷ is_lost (codes "&ltx;")
    ∷ is_lost (0 ∷ [])
    ∷ is_lost (13 ∷ [])
    ∷ is_lost (codes "<p a=b>")
    ∷ is_lost (codes "<p a='b'>")
    ∷ is_lost (codes "<p a=\"&lt;\">")
    ∷ is_lost (codes "<p a=\"b\"c=\"d\">")
    ∷ is_lost (codes "<p a=\"b\"cd=\"e\">")
    ∷ is_lost (codes "<p  a>")
    ∷ is_lost (codes "<p a=\"\r\">")
    ∷ is_lost (codes "<p")
    ∷ is_lost (codes "<p a")
    ∷ is_lost (codes "<p a=")
    ∷ is_lost (codes "<p a=\"")
    ∷ is_lost (codes "<p a=\"b\"")
    ∷ is_lost (codes "<p ")
    ∷ is_lost (codes "<")
    ∷ is_lost (codes "</")
    ∷ is_lost (codes "<!")
    ∷ is_lost (codes "&lt")
    ∷ row (codes "<title>") (tag (codes "title") ++ Lost ∷ [])
    ∷ row (codes "<title><i></i></title>") (tag (codes "title") ++ Lost ∷ [])
    ∷ row (codes "<title></style>") (tag (codes "title") ++ Lost ∷ [])
    ∷ row (codes "<title>\r</title>") (tag (codes "title") ++ Lost ∷ [])
    ∷ row (codes "<style>") (tag (codes "style") ++ Lost ∷ [])
    ∷ row (codes "<style><i></style>") (tag (codes "style") ++ Lost ∷ [])
    ∷ row (codes "<style></title>") (tag (codes "style") ++ Lost ∷ [])
    ∷ row (codes "<style>\r</style>") (tag (codes "style") ++ Lost ∷ [])
    ∷ []

loses : AllByRecursion (λ r. read r.html ≡ r.tokens) lost_rows
loses = (
  refl,
  (
    refl,
    (
      refl,
      (
        refl,
        (
          refl,
          (
            refl,
            (
              refl,
              (
                refl,
                (
                  refl,
                  (
                    refl,
                    (
                      refl,
                      (
                        refl,
                        (
                          refl,
                          (
                            refl,
                            (
                              refl,
                              (
                                refl,
                                (
                                  refl,
                                  (
                                    refl,
                                    (
                                      refl,
                                      (
                                        refl,
                                        (
                                          refl,
                                          (
                                            refl,
                                            (
                                              refl,
                                              (
                                                refl,
                                                (
                                                  refl,
                                                  (
                                                    refl,
                                                    (
                                                      refl,
                                                      (
                                                        refl,
                                                        (
                                                          refl,
                                                          (
                                                            refl,
                                                            (
                                                              refl,
                                                              (
                                                                refl,
                                                                (
                                                                  refl,
                                                                  (
                                                                    refl,
                                                                    (
                                                                      refl,
                                                                      (
                                                                        refl,
                                                                        (
                                                                          refl,
                                                                          (
                                                                            refl,
                                                                            (
                                                                              refl,
                                                                              (
                                                                                refl,
                                                                                (
                                                                                  refl,
                                                                                  (
                                                                                    refl,
                                                                                    (
                                                                                      refl,
                                                                                      (
                                                                                        refl,
                                                                                        (
                                                                                          refl,
                                                                                          (
                                                                                            refl,
                                                                                            (
                                                                                              refl,
                                                                                              (
                                                                                                refl,
                                                                                                (refl, tt),
                                                                                              ),
                                                                                            ),
                                                                                          ),
                                                                                        ),
                                                                                      ),
                                                                                    ),
                                                                                  ),
                                                                                ),
                                                                              ),
                                                                            ),
                                                                          ),
                                                                        ),
                                                                      ),
                                                                    ),
                                                                  ),
                                                                ),
                                                              ),
                                                            ),
                                                          ),
                                                        ),
                                                      ),
                                                    ),
                                                  ),
                                                ),
                                              ),
                                            ),
                                          ),
                                        ),
                                      ),
                                    ),
                                  ),
                                ),
                              ),
                            ),
                          ),
                        ),
                      ),
                    ),
                  ),
                ),
              ),
            ),
          ),
        ),
      ),
    ),
  ),
)

-- Elements that no page has; names and references that the model doesn't know; attributes that a browser drops.
abbrev lost_tags : List Row
lost_tags =
    is_lost (codes "<noframes>x")
    ∷ is_lost (codes "<noembed>x")
    ∷ is_lost (codes "<template>x")
    ∷ is_lost (codes "<select>x")
    ∷ is_lost (codes "<wbr>x")
    ∷ is_lost (codes "<p-p>")
    ∷ is_lost (codes "</p-p>")
    ∷ is_lost (codes "<p:p>")
    ∷ is_lost (codes "<p a:b=\"c\">")
    ∷ is_lost (codes "<p a.b=\"c\">")
    ∷ is_lost (codes "&quot;")
    ∷ is_lost (codes "&nbsp;")
    ∷ is_lost (codes "<p a a>")
    ∷ is_lost (codes "<p c a=\"b\" a>")
    ∷ is_lost (codes "<p a=\"b\" a=\"c\">")
    ∷ is_lost (codes "<p a=\"b\" c=\"d\" a>")
    ∷ is_lost (codes "<details open class=\"s\" open=\"\">")
    ∷ is_lost (codes "</p a>")
    ∷ is_lost (codes "</p a=\"b\">")
    ∷ row (codes "<title></title a>") (tag (codes "title") ++ Lost ∷ [])
    ∷ row (codes "<title></title >") (tag (codes "title") ++ Lost ∷ [])
    ∷ []

loses_tags : AllByRecursion (λ r. read r.html ≡ r.tokens) lost_tags
loses_tags = (
  refl,
  (
    refl,
    (
      refl,
      (
        refl,
        (
          refl,
          (
            refl,
            (
              refl,
              (
                refl,
                (
                  refl,
                  (
                    refl,
                    (
                      refl,
                      (
                        refl,
                        (
                          refl,
                          (
                            refl,
                            (
                              refl,
                              (refl, (refl, (refl, (refl, (refl, (refl, tt)))))),
                            ),
                          ),
                        ),
                      ),
                    ),
                  ),
                ),
              ),
            ),
          ),
        ),
      ),
    ),
  ),
)

-- Bytes that are read in an `svg`, and after it.
abbrev svg_rows : List Row
svg_rows =
    row (codes "<svg width=\"100%\"><rect x1=\"0.50%\" stroke-width=\".5\" fill=\"#8886\"></rect></svg>")
    (tag (codes "svg width=\"100%\"") ++ tag (codes "rect x1=\"0.50%\" stroke-width=\".5\" fill=\"#8886\"") ++ tag (codes "/rect")
    ++ tag (codes "/svg"))
    ∷ row (codes "a<svg>b<g>c<a href=\"#t1\">d<text>e</text></a><line></line></g></svg>f")
    (text (codes "a") ++ tag (codes "svg") ++ text (codes "b") ++ tag (codes "g") ++ text (codes "c") ++ tag (codes "a href=\"#t1\"")
    ++ text (codes "d") ++ tag (codes "text") ++ text (codes "e") ++ tag (codes "/text") ++ tag (codes "/a") ++ tag (codes "line")
    ++ tag (codes "/line") ++ tag (codes "/g") ++ tag (codes "/svg") ++ text (codes "f"))
    ∷ row (codes "<svg><svg></svg>a</svg><p>b</p>")
    (tag (codes "svg") ++ tag (codes "svg") ++ tag (codes "/svg") ++ text (codes "a") ++ tag (codes "/svg") ++ tag (codes "p")
    ++ text (codes "b") ++ tag (codes "/p"))
    ∷ row (codes "<svg><g><rect><title>a</title></rect></g></svg><b>c</b>")
    (tag (codes "svg") ++ tag (codes "g") ++ tag (codes "rect") ++ tag (codes "title") ++ text (codes "a") ++ tag (codes "/title")
    ++ tag (codes "/rect") ++ tag (codes "/g") ++ tag (codes "/svg") ++ tag (codes "b") ++ text (codes "c") ++ tag (codes "/b"))
    ∷ row (codes "<svg><title>&lt;b>&amp;</title>&gt;</svg>")
    (tag (codes "svg") ++ tag (codes "title") ++ text (codes "<b>&") ++ tag (codes "/title") ++ text (codes ">") ++ tag (codes "/svg"))
    -- the `title` of HTML again
    ∷ row (codes "<svg></svg><title>&lt;</title><p>")
    (tag (codes "svg") ++ tag (codes "/svg") ++ tag (codes "title") ++ text (codes "<") ++ tag (codes "/title") ++ tag (codes "p"))
    -- nothing to end: as any other end tag in HTML
    ∷ row (codes "</svg>a<p>") (tag (codes "/svg") ++ text (codes "a") ++ tag (codes "p"))
    ∷ []

reads_svg : AllByRecursion (λ r. read r.html ≡ r.tokens) svg_rows
reads_svg = (refl, (refl, (refl, (refl, (refl, (refl, (refl, tt)))))))

-- Bytes that are lost there: HTML elements, which would end the `svg`; other elements of SVG; declarations and CDATA; start tags in a
-- `title`, which are HTML; end tags of other elements than the innermost one. Elements of SVG alone are lost in HTML.
abbrev lost_svg_rows : List Row
lost_svg_rows =
    row (codes "<svg><b>x") (tag (codes "svg") ++ Lost ∷ [])
    ∷ row (codes "<svg><p>") (tag (codes "svg") ++ Lost ∷ [])
    ∷ row (codes "<svg><i>a</i>") (tag (codes "svg") ++ Lost ∷ [])
    ∷ row (codes "<svg><style>x") (tag (codes "svg") ++ Lost ∷ [])
    ∷ row (codes "<svg><script>x") (tag (codes "svg") ++ Lost ∷ [])
    ∷ row (codes "<svg><foreignobject>") (tag (codes "svg") ++ Lost ∷ [])
    ∷ row (codes "<svg><desc>") (tag (codes "svg") ++ Lost ∷ [])
    ∷ row (codes "<svg><path>") (tag (codes "svg") ++ Lost ∷ [])
    ∷ row (codes "<svg><!doctype html>") (tag (codes "svg") ++ Lost ∷ [])
    ∷ row (codes "<svg><![CDATA[x]]>") (tag (codes "svg") ++ Lost ∷ [])
    ∷ row (codes "<svg><!-- x -->") (tag (codes "svg") ++ Lost ∷ [])
    ∷ row (codes "<svg><rect/>") (tag (codes "svg") ++ Lost ∷ [])
    ∷ row (codes "<svg></g>") (tag (codes "svg") ++ Lost ∷ [])
    ∷ row (codes "<svg></b>") (tag (codes "svg") ++ Lost ∷ [])
    ∷ row (codes "<svg></svg a=\"b\">") (tag (codes "svg") ++ Lost ∷ [])
    ∷ row (codes "<svg></title>") (tag (codes "svg") ++ Lost ∷ [])
    ∷ row (codes "<svg><a href=\"&lt;\">") (tag (codes "svg") ++ Lost ∷ [])
    ∷ row (codes "<svg><font>") (tag (codes "svg") ++ Lost ∷ [])
    ∷ row (codes "<svg><g a=\"b\" a=\"c\">") (tag (codes "svg") ++ Lost ∷ [])
    ∷ row (codes "<svg><g></g a>") (tag (codes "svg") ++ tag (codes "g") ++ Lost ∷ [])
    ∷ row (codes "<svg><Rect>") (tag (codes "svg") ++ Lost ∷ [])
    ∷ row (codes "<svg>&copy;") (tag (codes "svg") ++ Lost ∷ [])
    ∷ row (codes "<svg><") (tag (codes "svg") ++ Lost ∷ [])
    ∷ row (codes "<svg>") (tag (codes "svg") ++ Lost ∷ [])
    ∷ row (codes "<svg>\r</svg>") (tag (codes "svg") ++ Lost ∷ [])
    ∷ row (codes "<svg><title><title>") (tag (codes "svg") ++ tag (codes "title") ++ Lost ∷ [])
    ∷ row (codes "<svg><title><g>") (tag (codes "svg") ++ tag (codes "title") ++ Lost ∷ [])
    ∷ row (codes "<svg><title><svg>") (tag (codes "svg") ++ tag (codes "title") ++ Lost ∷ [])
    ∷ row (codes "<svg><title></svg>") (tag (codes "svg") ++ tag (codes "title") ++ Lost ∷ [])
    ∷ row (codes "<svg><title>a<b></title></svg>") (tag (codes "svg") ++ tag (codes "title") ++ text (codes "a") ++ Lost ∷ [])
    ∷ row (codes "<svg><g></svg>") (tag (codes "svg") ++ tag (codes "g") ++ Lost ∷ [])
    ∷ row (codes "<svg><g></g></g>") (tag (codes "svg") ++ tag (codes "g") ++ tag (codes "/g") ++ Lost ∷ [])
    ∷ row (codes "<a><svg></a>") (tag (codes "a") ++ tag (codes "svg") ++ Lost ∷ [])
    ∷ row (codes "<svg><svg></svg><p>") (tag (codes "svg") ++ tag (codes "svg") ++ tag (codes "/svg") ++ Lost ∷ [])
    ∷ row (codes "<svg></svg><g>") (tag (codes "svg") ++ tag (codes "/svg") ++ Lost ∷ [])
    ∷ is_lost (codes "<g>x")
    ∷ is_lost (codes "<rect>x")
    ∷ is_lost (codes "<line>x")
    ∷ is_lost (codes "<text>x")
    ∷ []

loses_svg : AllByRecursion (λ r. read r.html ≡ r.tokens) lost_svg_rows
loses_svg = (
  refl,
  (
    refl,
    (
      refl,
      (
        refl,
        (
          refl,
          (
            refl,
            (
              refl,
              (
                refl,
                (
                  refl,
                  (
                    refl,
                    (
                      refl,
                      (
                        refl,
                        (
                          refl,
                          (
                            refl,
                            (
                              refl,
                              (
                                refl,
                                (
                                  refl,
                                  (
                                    refl,
                                    (
                                      refl,
                                      (
                                        refl,
                                        (
                                          refl,
                                          (
                                            refl,
                                            (
                                              refl,
                                              (
                                                refl,
                                                (
                                                  refl,
                                                  (
                                                    refl,
                                                    (
                                                      refl,
                                                      (
                                                        refl,
                                                        (
                                                          refl,
                                                          (
                                                            refl,
                                                            (
                                                              refl,
                                                              (refl, (refl, (refl, (refl, (refl, (refl, (refl, (refl, tt)))))))),
                                                            ),
                                                          ),
                                                        ),
                                                      ),
                                                    ),
                                                  ),
                                                ),
                                              ),
                                            ),
                                          ),
                                        ),
                                      ),
                                    ),
                                  ),
                                ),
                              ),
                            ),
                          ),
                        ),
                      ),
                    ),
                  ),
                ),
              ),
            ),
          ),
        ),
      ),
    ),
  ),
)

-- Tags that nest, and tags that don't.
nesting : (nests_in [] (codes "!doctype html" ∷ codes "p class=\"a\"" ∷ codes "b" ∷ codes "/b" ∷ codes "meta charset=\"utf-8\"" ∷ codes "/p" ∷ []) ≡ true)
    × (nests_in [] (codes "p" ∷ []) ≡ false)
    × (nests_in [] (codes "/p" ∷ []) ≡ false) × (nests_in [] (codes "p" ∷ codes "b" ∷ codes "/p" ∷ codes "/b" ∷ []) ≡ false)
    × (nests_in [] ([] ∷ []) ≡ false) × (nests_in [] (codes "meta" ∷ codes "/meta" ∷ []) ≡ false)
nesting = (refl, refl, refl, refl, refl, refl)
