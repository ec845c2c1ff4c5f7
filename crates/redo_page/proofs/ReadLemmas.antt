-- Parts that a browser reads as tags, words and numbers.
use Rattle.std.proofs.Common.{◌≡◌, ℕ, Bool, true, false, List, [], ◌∷◌, ◌++◌, ℤ, Option, None, Some, refl, sym, ◌∙◌, ap}
use Rattle.std.specs.Prelude.{◌/◌, ◌==◌, ◌&&◌, is_none, is_some, length, nat_lt, not, unwrap_or}
use Rattle.std.specs.List.{flat_map, list_all, list_any}
use Rattle.std.proofs.lemmas.Bool.{and_from}
use Rattle.std.proofs.lemmas.Grind.{flat_map-append}
use Rattle.std.proofs.lemmas.List.Folds.{list_all-append}
use Rattle.redo_compare.specs.Baseline.{BaselineValue}
use Rattle.redo_html.specs.declared.markup.Markup.TheVariants as markup
use Rattle.redo_html.specs.Html.{read}
use Rattle.redo_html.specs.Parts.{Part, part_tokens}
use Rattle.redo_html.specs.Parts.Part.{MarkupPart, LogPart, TextPart, NumberPart, TitlePart, StylePart, ChartPart, MeterPart}
use Rattle.redo_logs.specs.Logs.{Log}
use Rattle.redo_outline.specs.declared.node.Node.{Node}
use Rattle.redo_outline.specs.Facts.{is_failure}
use Rattle.redo_page.specs.declared.labels.TheConstants.{AND_COUNT, AT_MOST, AT_ONCE, BUILD_TOOK, DEPENDENT, FAILED, LOGS, NOTHING_NEW, PROCESSOR_TIME, SUM_OF_TIMES, TARGETS, TOOK, WARNED_LINES}
use Rattle.redo_page.specs.Failed.{is_dependent_failure}
use Rattle.redo_page.specs.Laws.{IsPartOf, IsRead, are_timed, end_shown, heading_shown, news_shown, requested_shown, root_count, summary_shown, text_tokens, tile, took_shown}
use Rattle.redo_page.specs.NewSection.{new_lines, newly_failing}
use Rattle.redo_page.specs.Page.{Request, page_html, page_parts}
use Rattle.redo_page.specs.Scope.{began_parts, date_parts}
use Rattle.redo_page.specs.Targets.{badge_parts, exit_parts, parts_if}
use Rattle.redo_page.specs.Tree.{positions_where}
use Rattle.redo_page.specs.Verdict.{is_unfinished}
use Rattle.redo_page.specs.Words.{words_parts}
use Rattle.redo_page.proofs.PageNumbers.{heading_if}
use Rattle.redo_summary.specs.declared.target.Target.{Target}
use Rattle.redo_summary.specs.Spans.{recipes_of}
use Rattle.redo_summary.specs.Summary.{bytes_of, sum_of, warnings_of}
use Rattle.redo_summary.specs.Window.{known_times, time_over, window_over}
use Rattle.redo_timeline.specs.Parallelism.{most_of}
use Rattle.redo_timeline.specs.declared.span.Window.{Window}
use Rattle.redo_units.specs.Dates.{date_text_of}
use Rattle.redo_units.specs.Durations.{duration_words}
use Rattle.redo_units.specs.Sizes.{size_words, tenths_words}
use Rattle.redo_units.specs.Words.{WordValue}
use Rattle.redo_units.specs.Words.WordValue.{NumberWord, TextWord}

abbrev is_word : Part → Bool
is_word (MarkupPart markup) = true
is_word (TextPart text) = true
is_word (NumberPart number) = true
is_word part = false

abbrev pub AreWords : List Part → Type 0
AreWords parts = list_all is_word parts ≡ true

words_same : (parts : List Part) → AreWords parts → flat_map text_tokens parts ≡ flat_map part_tokens parts
words_same [] are = refl
words_same (MarkupPart markup ∷ parts) are = ap (λ t. text_tokens (MarkupPart markup) ++ t) (words_same parts are)
words_same (TextPart text ∷ parts) are = ap (λ t. text_tokens (TextPart text) ++ t) (words_same parts are)
words_same (NumberPart number ∷ parts) are = ap (λ t. text_tokens (NumberPart number) ++ t) (words_same parts are)
words_same (LogPart style text ∷ parts) are = absurd (cc)
words_same (TitlePart title ∷ parts) are = absurd (cc)
words_same (StylePart ∷ parts) are = absurd (cc)
words_same (ChartPart drawing ∷ parts) are = absurd (cc)
words_same (MeterPart width ∷ parts) are = absurd (cc)

-- ---- what consists of them

both : (parts others : List Part) → AreWords parts → AreWords others → AreWords (parts ++ others)
both parts others first last =
    list_all-append is_word parts others ∙ and_from (list_all is_word parts) (list_all is_word others) first last

words_if : (shown : Bool) (parts : List Part) → AreWords parts → AreWords (parts_if shown parts)
words_if true parts are = are
words_if false parts are = refl

units_are : (words : List WordValue) → AreWords (words_parts words)
units_are [] = refl
units_are (NumberWord number ∷ words) = units_are words
units_are (TextWord text ∷ words) = units_are words

badge_are : (status : Option ℤ) → AreWords (badge_parts status)
badge_are None = refl
badge_are (Some status) = words_if (is_failure (Some status)) (exit_parts status) refl

tile_are : (term : List ℕ) (value : List Part) → AreWords value → AreWords (tile term value)
tile_are term value are = both value (MarkupPart markup.EndDescription ∷ MarkupPart markup.EndDiv ∷ []) are refl

-- ---- what the laws name

pub heading_are : (nodes : List Node) → AreWords (heading_shown nodes)
heading_are nodes = by (nat_lt 0 (root_count nodes)) (list_any is_unfinished nodes)
  where
    by : (failed unfinished : Bool) → AreWords (heading_if nodes failed unfinished)
    by true unfinished = refl
    by false true = refl
    by false false = refl

pub summary_are : (nodes : List Node) (targets : List Target) (processor : Option ℕ) → AreWords (summary_shown nodes targets processor)
summary_are nodes targets processor =
    let end = MarkupPart markup.EndDescriptionList ∷ [] in
    let took = time_over (known_times targets) in
    let sum = sum_of (recipes_of targets) in
    let dependents = length (positions_where is_dependent_failure 0 nodes) in
    let with_dependents = parts_if (not (dependents == 0)) (TextPart AND_COUNT.now ∷ NumberPart dependents ∷ TextPart DEPENDENT.now ∷ []) in
    let size = words_parts (size_words (bytes_of nodes)) in
    let at_once = words_parts (tenths_words sum took) ++ TextPart AT_MOST.now ∷ NumberPart (most_of (recipes_of targets)) ∷ [] in
    let processor_time = words_parts (duration_words (unwrap_or processor 0)) in
    let sum_time = words_parts (duration_words sum) in
    let took_time = words_parts (duration_words took) in
    let last = tile PROCESSOR_TIME.now processor_time in
    let timed = tile SUM_OF_TIMES.now sum_time ++ tile AT_ONCE.now at_once in
    let lasting = tile TOOK.now took_time in
    let shown_last = parts_if (is_some processor) last in
    let shown_timed = parts_if (are_timed targets) timed in
    let shown_lasting = parts_if (is_some (window_over (known_times targets))) lasting in
    let after_size = shown_lasting ++ (shown_timed ++ shown_last) in
    let after_warned = tile LOGS.now size ++ after_size in
    let after_failed = tile WARNED_LINES.now (NumberPart (warnings_of nodes) ∷ []) ++ after_warned in
    let failed = tile FAILED.now (NumberPart (root_count nodes) ∷ with_dependents) in
    let all = tile TARGETS.now (NumberPart (length nodes) ∷ []) ++ (failed ++ after_failed) in
    both all end
    (both failed after_failed
    (tile_are FAILED.now (NumberPart (root_count nodes) ∷ with_dependents) (words_if (not (dependents == 0)) _ refl))
    (both (tile LOGS.now size) after_size (tile_are LOGS.now size (units_are (size_words (bytes_of nodes))))
    (both shown_lasting (shown_timed ++ shown_last)
    (words_if (is_some (window_over (known_times targets))) lasting (tile_are TOOK.now took_time (units_are (duration_words took))))
    (both shown_timed shown_last
    (words_if (are_timed targets) timed
    (both (tile SUM_OF_TIMES.now sum_time) (tile AT_ONCE.now at_once)
    (tile_are SUM_OF_TIMES.now sum_time (units_are (duration_words sum)))
    (tile_are AT_ONCE.now at_once (both (words_parts (tenths_words sum took)) _ (units_are (tenths_words sum took)) refl))))
    (words_if (is_some processor) last
    (tile_are PROCESSOR_TIME.now processor_time (units_are (duration_words (unwrap_or processor 0)))))))))
    refl

date_are : (date : Option (List ℕ)) → AreWords (date_parts date)
date_are None = refl
date_are (Some date) = refl

began_are : (window : Option Window) → AreWords (began_parts window)
began_are None = refl
began_are (Some window) = date_are (date_text_of (window.began / 1000))

pub took_are : (times : List ℕ) → AreWords (took_shown times)
took_are times =
    let words = words_parts (duration_words (time_over times)) in
    let after = words ++ MarkupPart markup.EndParagraph ∷ [] in
    words_if (is_some (window_over times)) _
    (both (began_parts (window_over times)) (TextPart BUILD_TOOK.now ∷ after) (began_are (window_over times))
    (both words (MarkupPart markup.EndParagraph ∷ []) (units_are (duration_words (time_over times))) refl))

pub requested_are : (logs : List Log) (nodes : List Node) → AreWords (flat_map (requested_shown logs) nodes)
requested_are logs [] = refl
requested_are logs (node ∷ nodes) =
    both (requested_shown logs node) (flat_map (requested_shown logs) nodes)
    (words_if (is_none node.parent) _
    (both (badge_parts node.status) (MarkupPart markup.EndParagraph ∷ []) (badge_are node.status) refl))
    (requested_are logs nodes)

pub end_are : (request : Request) (requested : List (List ℕ)) (nodes : List Node) → AreWords (end_shown request requested nodes)
end_are request requested nodes = refl

pub news_are : (baseline : BaselineValue) (logs : List Log) (nodes : List Node) → AreWords (news_shown baseline logs nodes)
news_are baseline logs nodes =
    let none = length (new_lines baseline logs 0 nodes) == 0 && length (newly_failing baseline logs nodes) == 0 in
    both (parts_if none (TextPart NOTHING_NEW.now ∷ [])) _ (words_if none (TextPart NOTHING_NEW.now ∷ []) refl) refl

-- ---- the page

module _ (request : Request) (logs : List Log) (requested : List (List ℕ)) where
  -- A browser reads the words that a page has.
  pub part_read : read (page_html request logs requested) ≡ flat_map part_tokens (page_parts request logs requested)
      → (inner : List Part) → AreWords inner → IsPartOf inner (page_parts request logs requested) → IsRead inner request logs requested
  part_read are_read inner are part = record {
    before = flat_map part_tokens part.before;
    after = flat_map part_tokens part.after;
    splits =
        ap (λ t. flat_map part_tokens part.before ++ (t ++ flat_map part_tokens part.after)) (words_same inner are)
        ∙ ap (λ t. flat_map part_tokens part.before ++ t) (sym (flat_map-append part_tokens inner part.after))
        ∙ sym (flat_map-append part_tokens part.before (inner ++ part.after)) ∙ ap (flat_map part_tokens) part.splits ∙ sym are_read;
  }
