-- Rows of the frame of a page: its head, its heading, and its end with the command that writes the same as one text.
use Rattle.std.proofs.Common.{◌≡◌, ℕ, Bool, true, false, List, [], ◌∷◌, ◌++◌, Option, None, Some, ℤ, pos, replicate, refl}
use Rattle.std.specs.Char.{encode_utf8}
use Rattle.std.specs.Fmt.{digits}
use Rattle.std.specs.List.{AllByRecursion, filter, flat_map, range_with_len}
use Rattle.std.specs.Prelude.{◌==◌, codes, length}
use Rattle.redo_html.specs.Shown.{is_unprintable, number_text}
use Rattle.redo_html.specs.Symbols.{code_point_len, first_code_point, first_symbol, is_sequence, symbol_len, symbols_after}
use Rattle.redo_html.specs.declared.markup.Markup.{Markup}
use Rattle.redo_html.specs.declared.markup.Markup.TheVariants as markup
use Rattle.redo_html.specs.Parts.{Part}
use Rattle.redo_html.specs.Parts.Part.{MarkupPart, TextPart, NumberPart, TitlePart, StylePart}
use Rattle.redo_logs.specs.declared.log_state.LogState.TheVariants.{Ended}
use Rattle.redo_logs.specs.Logs.{Log}
use Rattle.redo_options.specs.declared.options.Options.{Options}
use Rattle.redo_outline.specs.declared.node.Node.{Node}
use Rattle.redo_page.specs.Laws.{section_link}
use Rattle.redo_page.specs.declared.verdict.Verdict.TheVariants.{Failed, Unfinished, Made}
use Rattle.redo_summary.specs.Summary.{Facts}
use Rattle.redo_timeline.specs.declared.span.Window.{Window}
use Rattle.redo_units.specs.Dates as dates
use Rattle.redo_units.specs.Durations.{duration_words}
use Rattle.redo_page.specs.Command.{argument, command, format_byte, is_safe, octal, quoted}
use Rattle.redo_page.specs.Frame.{footer_parts, head_parts, header_parts}
use Rattle.redo_page.specs.NewSection.{no_news}
use Rattle.redo_page.specs.Page.{build_view}
use Rattle.redo_page.specs.Scope.{View, began_parts}
use Rattle.redo_page.specs.Verdict.{body_markup, sign_text, title_text, titled, verdict_of, verdict_text}
use Rattle.redo_page.specs.Tree.{no_node}

abbrev tag : Markup → Part
tag markup = MarkupPart markup

abbrev words : List ℕ → Part
words text = TextPart text

abbrev number : ℕ → Part
number value = NumberPart value

-- ---- the verdict

-- The facts about a target that is in the log at `parent`.
abbrev node : Option ℕ → Option ℤ → Bool → Node
node parent status fails = record no_node { parent = parent; status = status; fails_below = fails }

abbrev begun : Node
begun = node None None false

abbrev made : Node
made = node None (Some (pos 0)) false

abbrev failed : Node
failed = node (Some 0) (Some (pos 2)) false

-- A target that isn't requested doesn't make a build unfinished. A target that failed does, if no record says how the requested one ended.
verdicts_are :
    (verdict_of [] ≡ Made) × (verdict_of (made ∷ begun ∷ []) ≡ Unfinished) × (verdict_of (made ∷ node (Some 0) None false ∷ []) ≡ Made)
    × (verdict_of (begun ∷ failed ∷ []) ≡ Failed) × (verdict_of (node None None true ∷ failed ∷ []) ≡ Failed)
verdicts_are = (refl, refl, refl, refl, refl)

failed_texts_are :
    (verdict_text Failed (failed ∷ []) ≡ codes "1 of 1 target failed")
    × (verdict_text Failed (made ∷ failed ∷ []) ≡ codes "1 of 2 targets failed")
    × (verdict_text Failed (node None (Some (pos 1)) true ∷ failed ∷ failed ∷ []) ≡ codes "2 of 3 targets failed")
unfolding number_text digits
failed_texts_are = (refl, refl, refl)

unfinished_texts_are :
    (verdict_text Unfinished (begun ∷ []) ≡ codes "1 of 1 target unfinished")
    × (verdict_text Unfinished (begun ∷ made ∷ []) ≡ codes "1 of 2 targets unfinished")
    × (verdict_text Unfinished (begun ∷ made ∷ node (Some 0) None false ∷ []) ≡ codes "2 of 3 targets unfinished")
unfolding number_text digits
unfinished_texts_are = (refl, refl, refl)

made_texts_are :
    (verdict_text Made [] ≡ codes "0 targets made, none failed") × (verdict_text Made (made ∷ []) ≡ codes "1 target made, none failed")
unfolding number_text digits
made_texts_are = (refl, refl)

signs_are : (sign_text Failed ≡ encode_utf8 0x2717) × (sign_text Unfinished ≡ encode_utf8 0x2026) × (sign_text Made ≡ encode_utf8 0x2713)
unfolding encode_utf8
signs_are = (refl, refl, refl)

bodies_are : (body_markup Failed ≡ markup.BodyBad) × (body_markup Unfinished ≡ markup.BodyOpen) × (body_markup Made ≡ markup.BodyGood)
bodies_are = (refl, refl, refl)

-- ---- the head

titles_are :
    (titled [] (codes "h") ≡ codes "h") × (titled (codes "t") (codes "h") ≡ codes "t" ++ 32 ∷ (encode_utf8 0xB7 ++ 32 ∷ codes "h"))
    × (title_text [] Made (codes "h") ≡ encode_utf8 0x2713 ++ codes " h")
    × (title_text (codes "t") Failed (codes "h") ≡ encode_utf8 0x2717 ++ (codes " t " ++ (encode_utf8 0xB7 ++ codes " h")))
unfolding encode_utf8
titles_are = (refl, refl, refl, refl)

abbrev logs : List Log
logs = record { target = codes "a"; entries = []; state = Ended } ∷ record { target = codes "b"; entries = []; state = Ended } ∷ []

-- The facts about times: a window, how long it took, and how many recipes have known and unknown times.
abbrev facts : Option Window → ℕ → ℕ → ℕ → Facts
facts window took recipes marks = record {
  window = window;
  took = took;
  callers = [];
  recipes = replicate recipes (record { began = 7; position = 0; ended = 8; failed = false });
  marks = replicate marks (record { began = 7; position = 0; ended = 7; failed = false });
  sum = 0;
  most = 0;
  warnings = 0;
  bytes = 0;
  longest = [];
  alone = [];
  warned = [];
}

-- A page that was asked to have this title.
abbrev view : List ℕ → List Node → Facts → View
view title nodes facts =
    record (build_view title (codes "d") (codes "c") [] logs nodes facts no_news) { heading = codes "h"; tab = codes "tab" }

head_is :
    (head_parts (view (codes "t") (begun ∷ []) (facts None 0 0 0))
    ≡ tag markup.Doctype ∷ tag markup.Html ∷ tag markup.Head ∷ tag markup.Charset ∷ tag markup.Viewport ∷ tag markup.ColorScheme
    ∷ tag markup.Referrer ∷ tag markup.Policy
    ∷ TitlePart (codes "tab") ∷ StylePart ∷ tag markup.EndHead ∷ tag markup.BodyOpen ∷ [])
head_is = refl

-- ---- the header

-- A number of seconds from the year 10000 on has no date.
began_are :
    (began_parts None ≡ []) × (began_parts (Some (record { began = 253402300800000; width = 1 })) ≡ [])
    × (began_parts (Some (record { began = 1795829211999; width = 1 }))
    ≡ words (codes "Sat, 28 Nov 2026 01:26:51 GMT") ∷ words (32 ∷ 0xC2 ∷ 0xB7 ∷ 32 ∷ []) ∷ [])
unfolding dates.date_text_of dates.date_parts dates.period_of
began_are = (refl, refl, refl)

abbrev heading : List ℕ → List Part → List Part
heading sign rest =
    tag markup.Header ∷ tag markup.Title1 ∷ tag markup.Sign ∷ words sign ∷ tag markup.EndSign ∷ words (codes " ")
    ∷ words (codes "h") ∷ tag markup.EndTitle1 ∷ rest

abbrev name : List ℕ → List Part → List Part
name text rest = tag markup.Paragraph ∷ tag markup.Bdi ∷ words text ∷ tag markup.EndBdi ∷ rest

abbrev item : Markup → List ℕ → List Part → List Part
item link text rest = tag markup.Item ∷ tag link ∷ words text ∷ tag markup.EndLink ∷ tag markup.EndItem ∷ rest

abbrev nav : List Part → List Part
nav rest = tag markup.EndHeader ∷ tag markup.Nav ∷ tag markup.Unordered ∷ rest

abbrev last_item : List Part
last_item = item markup.TreeLink (codes "All logs") (tag markup.EndUnordered ∷ tag markup.EndNav ∷ tag markup.Main ∷ [])

-- A target that failed below a requested one, with a title and with times. The links are in the order of the sections.
header_is :
    header_parts (view (codes "t") (node None (Some (pos 0)) true ∷ failed ∷ [])
    (facts (Some (record { began = 1795829211999; width = 1 })) 61000 1 0))
    ≡ heading (0xE2 ∷ 0x9C ∷ 0x97 ∷ []) (tag markup.Paragraph ∷ words (codes "t") ∷ tag markup.EndParagraph
    ∷ name (codes "a") (tag markup.EndParagraph
    ∷ tag markup.MetaParagraph ∷ words (codes "Sat, 28 Nov 2026 01:26:51 GMT") ∷ words (32 ∷ 0xC2 ∷ 0xB7 ∷ 32 ∷ []) ∷ words (codes "took ")
    ∷ number 1 ∷ words (codes " min ") ∷ number 0 ∷ number 1 ∷ words (codes " s") ∷ tag markup.EndParagraph
    ∷ nav (item markup.FailedLink (codes "What failed") (item markup.SummaryLink (codes "Summary")
    (item markup.TimelineLink (codes "Timeline") last_item)))))
unfolding duration_words dates.date_text_of dates.date_parts dates.period_of
header_is = refl

-- Too few times are known for a timeline.
untimed_is :
    header_parts (view [] [] (facts (Some (record { began = 253402300800000; width = 1 })) 0 1 1))
    ≡ heading (0xE2 ∷ 0x9C ∷ 0x93 ∷ []) (tag markup.MetaParagraph ∷ words (codes "took ") ∷ number 0 ∷ words (codes ".") ∷ number 0 ∷ number 0
    ∷ words (codes " s") ∷ tag markup.EndParagraph ∷ nav (item markup.SummaryLink (codes "Summary") last_item))
unfolding duration_words dates.date_text_of dates.date_parts dates.period_of
untimed_is = refl

-- Two requested targets, with the name and the status of each. The one that is shown first has the second log, and another target is below it.
requested_are :
    header_parts (view [] (record made { number = 1 } ∷ node (Some 0) (Some (pos 0)) false ∷ begun ∷ []) (facts None 0 0 0))
    ≡ heading (0xE2 ∷ 0x80 ∷ 0xA6 ∷ []) (name (codes "b") (tag markup.EndParagraph
    ∷ name (codes "a") (words (codes " ") ∷ tag markup.OpenBadge ∷ words (codes "unfinished") ∷ tag markup.EndBadge ∷ tag markup.EndParagraph
    ∷ nav (item markup.SummaryLink (codes "Summary") last_item))))
requested_are = refl

-- There is a link to what failed only if a target failed, and one to the timeline only if most times are known.
header_links_are :
    (flat_map section_link (header_parts (view [] [] (facts None 0 1 0))) ≡ codes "summary" ∷ codes "tree" ∷ [])
    × (flat_map section_link (header_parts (view [] (failed ∷ []) (facts (Some (record { began = 7; width = 1 })) 1 9 1)))
    ≡ codes "failed" ∷ codes "summary" ∷ codes "timeline" ∷ codes "tree" ∷ [])
unfolding duration_words dates.date_text_of dates.date_parts dates.period_of
header_links_are = (refl, refl)

-- A build that is compared with an earlier one has a link to what is new, after the one to what failed.
compared_is :
    header_parts (record (view [] [] (facts None 0 0 0)) { news = record no_news { is_compared = true } })
    ≡ heading (0xE2 ∷ 0x9C ∷ 0x93 ∷ []) (nav (item markup.NewLink (codes "New since the baseline")
    (item markup.SummaryLink (codes "Summary") last_item)))
compared_is = refl

compared_links_are :
    flat_map section_link
    (header_parts (record (view [] (failed ∷ []) (facts None 0 0 0)) { news = record no_news { is_compared = true } }))
    ≡ codes "failed" ∷ codes "new" ∷ codes "summary" ∷ codes "tree" ∷ []
compared_links_are = refl

-- ---- the end

-- A shell changes no other byte: these are the ones that Python's `shlex.quote` leaves alone.
safe_are : filter is_safe (range_with_len 0 256) ≡ codes "%+,-./0123456789:=@ABCDEFGHIJKLMNOPQRSTUVWXYZ_abcdefghijklmnopqrstuvwxyz"
unfolding is_safe symbols_after first_symbol symbol_len is_sequence first_code_point code_point_len is_unprintable
safe_are = refl

-- A word, and how a shell is given it.
record Word : Type 0 where
  word : List ℕ
  quoted : List ℕ

abbrev word : List ℕ → List ℕ → Word
word text result = record { word = text; quoted = result }

abbrev quotes : List Word
quotes = word (codes "out/a-1.o") (codes "out/a-1.o") ∷ word [] (codes "''") ∷ word (codes "a b") (codes "'a b'")
    ∷ word (codes "a'b") (codes "'a'\\''b'") ∷ word (codes "$a") (codes "'$a'") ∷ []

words_are : AllByRecursion (λ row. quoted false row.word ≡ row.quoted) quotes
unfolding is_safe symbols_after first_symbol symbol_len is_sequence first_code_point code_point_len is_unprintable
words_are = (refl, (refl, (refl, (refl, (refl, tt)))))

-- In the format of `printf`, these bytes are themselves, and the others have three octal digits.
formats_are :
    (filter (λ byte. length (format_byte byte) == 1) (range_with_len 0 256)
    ≡ codes "+,./0123456789:=@ABCDEFGHIJKLMNOPQRSTUVWXYZ_abcdefghijklmnopqrstuvwxyz")
    × (length (flat_map format_byte (range_with_len 0 256)) ≡ 814)
    × (octal 0 ≡ codes "\\000") × (octal 7 ≡ codes "\\007") × (octal 27 ≡ codes "\\033") × (octal 64 ≡ codes "\\100") × (octal 255 ≡ codes "\\377")
unfolding is_safe
formats_are = (refl, refl, refl, refl, refl, refl, refl)

-- In ASCII alone, a word with other bytes is printed. An `é` is two bytes.
ascii_words_are :
    (quoted true (codes "a.o") ≡ codes "a.o") × (quoted true (codes "a b~") ≡ codes "'a b~'")
    × (quoted true (codes "a1" ++ 27 ∷ codes "b") ≡ codes "\"$(printf 'a1\\033b')\"")
    × (quoted true (0xC3 ∷ 0xA9 ∷ codes "-%'") ≡ codes "\"$(printf '\\303\\251\\055\\045\\047')\"")
    × (quoted true (codes "a" ++ 127 ∷ []) ≡ codes "\"$(printf 'a\\177')\"") × (quoted false (97 ∷ 27 ∷ []) ≡ 39 ∷ 97 ∷ 27 ∷ 39 ∷ [])
unfolding is_safe
ascii_words_are = (refl, refl, refl, refl, refl, refl)

arguments_are :
    (argument false (codes "a") ≡ codes " a") × (argument false (codes "-r") ≡ codes " ./-r") × (argument false (codes "- ") ≡ codes " ./'- '")
    × (argument false (codes "a-") ≡ codes " a-") × (argument true (45 ∷ 27 ∷ []) ≡ codes " ./\"$(printf '\\055\\033')\"")
unfolding is_safe
arguments_are = (refl, refl, refl, refl, refl)

abbrev options : Bool → Bool → Options
options unchanged locks = record { recursive = true; unchanged = unchanged; details = true; debug_locks = locks; debug_pids = false }

commands_are :
    (command (codes "d") (options false false) (codes "a" ∷ codes "b" ∷ []) ≡ codes "redo-log -r --dir=d a b")
    × (command (codes "d e") (options true false) (codes "a" ∷ []) ≡ codes "redo-log -r -u --dir='d e' a")
    × (command (codes "d") (options false true) [] ≡ codes "redo-log -r --debug-locks --dir=d")
    × (command (codes "d") (options true true) [] ≡ codes "redo-log -r -u --debug-locks --dir=d")
unfolding is_safe symbols_after first_symbol symbol_len is_sequence first_code_point code_point_len is_unprintable
commands_are = (refl, refl, refl, refl)

-- A command that is shown unchanged has an `é`. An escape byte, or a character that changes the direction of text (U+202E), would not be.
printed_commands_are :
    (command (codes "d e") (options false false) ((0xC3 ∷ 0xA9 ∷ []) ∷ [])
    ≡ codes "redo-log -r --dir='d e' '" ++ 0xC3 ∷ 0xA9 ∷ codes "'")
    × (command (codes "d e") (options false true) ((97 ∷ 27 ∷ []) ∷ (0xC3 ∷ 0xA9 ∷ []) ∷ codes "b" ∷ [])
    ≡ codes "redo-log -r --debug-locks --dir='d e' \"$(printf 'a\\033')\" \"$(printf '\\303\\251')\" b")
    × (command (0xE2 ∷ 0x80 ∷ 0xAE ∷ []) (options true false) [] ≡ codes "redo-log -r -u --dir=\"$(printf '\\342\\200\\256')\"")
unfolding is_safe symbols_after first_symbol symbol_len is_sequence first_code_point code_point_len is_unprintable
printed_commands_are = (refl, refl, refl)

abbrev footer : ℕ → List ℕ → List Part
footer count logs_in =
    tag markup.EndMain ∷ tag markup.Footer ∷ tag markup.Paragraph ∷ words (codes "Made by ") ∷ tag markup.Code
    ∷ words (codes "redo-log-html") ∷ tag markup.EndCode ∷ words (codes " of ")
    ∷ number count ∷ words logs_in ∷ tag markup.Code ∷ words (codes "d") ∷ tag markup.EndCode ∷ words (codes ". As one text: ")
    ∷ tag markup.Code ∷ words (codes "c") ∷ tag markup.EndCode
    ∷ tag markup.EndParagraph ∷ tag markup.EndFooter ∷ tag markup.EndBody ∷ tag markup.EndHtml ∷ words (codes "\n") ∷ []

footers_are :
    (footer_parts (view [] (made ∷ []) (facts None 0 0 0)) ≡ footer 1 (codes " log in "))
    × (footer_parts (view [] (made ∷ made ∷ failed ∷ []) (facts None 0 0 0)) ≡ footer 3 (codes " logs in "))
unfolding footer_parts
footers_are = (refl, refl)
