-- Lines that are written through a buffer, some bytes of a line after others.
use Rattle.std.proofs.Common.{◌≡◌, ℕ, suc, ◌+◌, ◌-◌, ◌<◌, ◌≤◌, List, [], ◌∷◌, ◌++◌, Option, Result, Ok, Err, length, drop, take, slice_index, refl, sym, ◌∙◌, ap, subst, arith, ⊎_elim}
use Rattle.std.specs.Prelude.{fold}
use Rattle.std.specs.Result.{IsErr}
use Rattle.std.proofs.lemmas.Bool.{cases_lt}
use Rattle.std.proofs.lemmas.List.{append_assoc, append-nil, drop-append-le, drop-drop, drop_all, drop_at, get_or-drop, length-append, length-drop}
use Rattle.redo_device.specs.declared.feed.Broken.{Broken}
use Rattle.redo_device.specs.Sink.{Output, Writes}
use Rattle.redo_line.specs.Lines.{ended, rest, with_line_feed}
use Rattle.redo_line.proofs.LineLemmas.{ended-free, ended-line, rest-line}
use Rattle.redo_html.specs.declared.text_kind.TextKind.TheVariants.{Log}
use Rattle.redo_html.specs.declared.look.Look.{Look}
use Rattle.redo_html.specs.declared.style.Style.{Style}
use Rattle.redo_html.specs.Lines.{lines_html, style_after_lines, style_after_symbol}
use Rattle.redo_html.specs.Passage.{passage_html}
use Rattle.redo_html.specs.Private.Highlighting.{html_from, start_look, with_wanted}
use Rattle.redo_html.specs.Private.Buffering.{PutSome, PutSomeLines, PutSomeOrFailed, PutLines, PutPassage, html_left}
use Rattle.redo_html.specs.Private.Writing.{BeginsPassage, SkipsSequences, WroteUpTo, style_in}
use Rattle.redo_html.proofs.BufferLemmas.{extended}
use Rattle.redo_html.proofs.LineParts.{HasLine, feed_at_end, feed_of_line, free_behind, has_line, some_line}
use Rattle.redo_html.proofs.LineWriting.{lines_wrote, lines_failed}
use Rattle.redo_html.proofs.PassageGroups.{passage_is}
use Rattle.redo_html.proofs.PassageLemmas.{html-nil}
use Rattle.redo_html.proofs.SymbolLemmas.{symbols-nil}
use Rattle.redo_html.proofs.WritingLemmas.{begin_parts, failed_part, same_error, wrote_on}

-- Before a line, no highlight is open.
pub start_left : (style : Style) (lines : List (List ℕ)) → html_left (start_look style) lines ≡ lines_html style lines
start_left style [] = sym (html-nil Log (start_look style))
start_left style (line ∷ lines) =
    let left = lines_html (style_in Log style (with_line_feed line)) lines in
    ap (λ (t : List ℕ). t ++ left) (sym (passage_is Log style (with_line_feed line)))

module _ (before middle after : Option Output) (text old : List ℕ) (look : Look) (left line : List ℕ) (lines : List (List ℕ))
    (has : HasLine left line lines) (so_far : WroteUpTo before middle text (old ++ html_left look (line ∷ lines))) where
  abbrev own : List ℕ
  own = with_line_feed line

  abbrev behind : List ℕ
  behind = lines_html (style_in Log look.wanted own) lines

  parts : WroteUpTo before middle text ((old ++ html_from Log look own) ++ behind)
  parts = subst (WroteUpTo before middle text) (sym (append_assoc old (html_from Log look own) behind)) so_far

  pub some_failed : (broken : Broken) (done : Result (Unit {0}) Broken) → IsErr done
      → Writes middle after (old ++ html_from Log look own) (Err broken) → Writes before after text done
  some_failed broken done failed wrote =
      failed_part before middle after text (old ++ html_from Log look own) behind broken done failed parts wrote

  module _ (now : List ℕ) (next : Look) (count : ℕ) (some : PutSome middle after old look own now next count) where
    wrote : WroteUpTo before after text (now ++ (html_from Log next (drop count own) ++ behind))
    wrote = subst (WroteUpTo before after text) (append_assoc now (html_from Log next (drop count own)) behind)
        (wrote_on before middle after text ((old ++ html_from Log look own) ++ behind)
        ((now ++ html_from Log next (drop count own)) ++ behind) parts
        (extended middle after (old ++ html_from Log look own) (now ++ html_from Log next (drop count own)) behind some.wrote))

    -- In the line.
    module _ (inside : count ≤ length line) where
      own_left : drop count own ≡ with_line_feed (drop count line)
      own_left = drop-append-le count line (10 ∷ []) inside

      all_left : drop count left ≡ drop count line ++ 10 ∷ has.more
      all_left = ap (drop count) has.bytes_are ∙ drop-append-le count line (10 ∷ has.more) inside

      lines_left : ended (drop count left) ≡ drop count line ∷ lines
      lines_left = ap ended all_left ∙ ended-line (drop count line) has.more (free_behind count line has.free)
          ∙ ap (λ (ls : List (List ℕ)). drop count line ∷ ls) has.lines_are

      pub inside_wrote : WroteUpTo before after text (now ++ html_left next (ended (drop count left)))
      inside_wrote =
          subst (λ (ls : List (List ℕ)). WroteUpTo before after text (now ++ html_left next ls)) (sym lines_left)
          (subst (λ (b : List ℕ). WroteUpTo before after text
          (now ++ (html_from Log next b ++ lines_html (style_in Log next.wanted b) lines)))
          own_left
          (subst (λ (s : Style). WroteUpTo before after text (now ++ (html_from Log next (drop count own) ++ lines_html s lines)))
          (sym some.style) wrote))

      pub inside_style : style_after_lines next.wanted (ended (drop count left)) ≡ style_after_lines look.wanted (line ∷ lines)
      inside_style =
          ap (style_after_lines next.wanted) lines_left
          ∙ ap (λ (b : List ℕ). style_after_lines (style_in Log next.wanted b) lines) (sym own_left)
          ∙ ap (λ (s : Style). style_after_lines s lines) some.style

      pub inside_complete : rest (drop count left) ≡ rest left
      inside_complete = ap rest all_left ∙ rest-line (drop count line) has.more (free_behind count line has.free) ∙ has.rest_is

    -- At its end.
    module _ (last : count ≡ length line + 1) where
      size : length own ≡ count
      size = let both = length-append line (10 ∷ []) in omega (arith, both, last)

      pub end_left : drop count left ≡ has.more
      end_left = ap (drop count) (has.bytes_are ∙ sym (append_assoc line (10 ∷ []) has.more)) ∙ drop_at own has.more count size

      nothing_left : drop count own ≡ []
      nothing_left = drop_all count own (omega (arith, size))

      next_style : next.wanted ≡ style_in Log look.wanted own
      next_style = sym (ap (style_in Log next.wanted) nothing_left ∙ ap (fold style_after_symbol next.wanted) (symbols-nil Log))
          ∙ some.style

      end_parts : WroteUpTo before after text ((now ++ html_from Log next []) ++ lines_html next.wanted lines)
      end_parts = subst (WroteUpTo before after text) (sym (append_assoc now (html_from Log next []) (lines_html next.wanted lines)))
          (subst (λ (s : Style). WroteUpTo before after text (now ++ (html_from Log next [] ++ lines_html s lines))) (sym next_style)
          (subst (λ (b : List ℕ). WroteUpTo before after text (now ++ (html_from Log next b ++ behind))) nothing_left wrote))

      pub end_failed : (final : Option Output) (broken : Broken) (done : Result (Unit {0}) Broken) → IsErr done
          → Writes after final (now ++ html_from Log next []) (Err broken) → Writes before final text done
      end_failed final broken done failed wrote_end =
          failed_part before after final text (now ++ html_from Log next []) (lines_html next.wanted lines) broken done failed end_parts
          wrote_end

      lines_left_at_end : ended (drop count left) ≡ lines
      lines_left_at_end = ap ended end_left ∙ has.lines_are

      pub end_wrote : (final : Option Output) (kept : List ℕ) → WroteUpTo after final (now ++ html_from Log next []) kept
          → WroteUpTo before final text (kept ++ lines_html next.wanted (ended (drop count left)))
      end_wrote final kept put =
          subst (λ (ls : List (List ℕ)). WroteUpTo before final text (kept ++ lines_html next.wanted ls)) (sym lines_left_at_end)
          (wrote_on before after final text ((now ++ html_from Log next []) ++ lines_html next.wanted lines)
          (kept ++ lines_html next.wanted lines) end_parts
          (extended after final (now ++ html_from Log next []) kept (lines_html next.wanted lines) put))

      pub end_style : style_after_lines next.wanted (ended (drop count left)) ≡ style_after_lines look.wanted (line ∷ lines)
      end_style = ap (style_after_lines next.wanted) lines_left_at_end ∙ ap (λ (s : Style). style_after_lines s lines) next_style

      pub end_complete : rest (drop count left) ≡ rest left
      end_complete = ap rest end_left ∙ has.rest_is

-- ---- a step

module _ (all : List ℕ) (done : ℕ) (complete : rest (drop done all) ≡ []) (below : done < length all) where
  abbrev left : List ℕ
  left = drop done all

  found : (line : List ℕ) × (lines : List (List ℕ)) × (ended left ≡ line ∷ lines)
  found = some_line left complete (let size = length-drop done all in omega (arith, size, below))

  abbrev line : List ℕ
  line = found.0

  abbrev lines : List (List ℕ)
  lines = found.1

  has : HasLine left line lines
  has = has_line left line lines found.2

  pub step_bounds : (middle after : Option Output) (old : List ℕ) (look : Look) (now : List ℕ) (next : Look) (count : ℕ)
      → ((l : List ℕ) (ls : List (List ℕ)) → ended left ≡ l ∷ ls → PutSome middle after old look (with_line_feed l) now next count)
      → (0 < count) × (done + count ≤ length all)
  step_bounds middle after old look now next count put =
      let some = put line lines found.2 in
      let within = some.within in
      let own = length-append line (10 ∷ []) in
      let size : length left ≡ length line + suc (length has.more) =
      ap length has.bytes_are ∙ length-append line (10 ∷ has.more) in
      let all_size = length-drop done all in
      (some.some, omega (arith, within, own, size, all_size, below))

  module _ (before middle : Option Output) (text old : List ℕ) (look : Look)
      (so_far : WroteUpTo before middle text (old ++ html_left look (ended left))) where
    here : WroteUpTo before middle text (old ++ html_left look (line ∷ lines))
    here = subst (λ (ls : List (List ℕ)). WroteUpTo before middle text (old ++ html_left look ls)) found.2 so_far

    pub step_failed : (after : Option Output) (broken : Broken) (done_with : Result (Unit {0}) Broken) → IsErr done_with
        → ((l : List ℕ) (ls : List (List ℕ)) → ended left ≡ l ∷ ls
        → Writes middle after (old ++ html_from Log look (with_line_feed l)) (Err broken)) → Writes before after text done_with
    step_failed after broken done_with failed put =
        some_failed before middle after text old look left line lines has here broken done_with failed (put line lines found.2)

    module _ (after : Option Output) (now : List ℕ) (next : Look) (count : ℕ)
        (put : (l : List ℕ) (ls : List (List ℕ)) → ended left ≡ l ∷ ls
        → PutSome middle after old look (with_line_feed l) now next count) where
      some : PutSome middle after old look (with_line_feed line) now next count
      some = put line lines found.2

      step_some : 0 < count
      step_some = some.some

      few : count ≤ length line + 1
      few = let within = some.within in let size = length-append line (10 ∷ []) in omega (arith, within, size)

      behind_is : drop count left ≡ drop (done + count) all
      behind_is = drop-drop count done all

      byte_is : (n : ℕ) → slice_index all (done + n) ≡ slice_index (line ++ 10 ∷ has.more) n
      byte_is n = sym (get_or-drop done all n 0) ∙ ap (λ (b : List ℕ). slice_index b n) has.bytes_are

      -- The last byte is no line feed.
      module _ (other : slice_index all (done + count - 1) ≡ 10 → ⊥) where
        inside : count ≤ length line
        inside = ⊎_elim (λ low. omega (arith, low)) (λ past.
            let at : done + count - 1 ≡ done + length line = let positive = step_some in omega (arith, past, few, positive) in
            absurd (other (ap (slice_index all) at ∙ byte_is (length line) ∙ feed_of_line line has.more)))
            (cases_lt count (length line + 1))

        pub step_wrote : WroteUpTo before after text (now ++ html_left next (ended (drop (done + count) all)))
        step_wrote = subst (λ (b : List ℕ). WroteUpTo before after text (now ++ html_left next (ended b))) behind_is
            (inside_wrote before middle after text old look left line lines has here now next count some inside)

        pub step_style : style_after_lines next.wanted (ended (drop (done + count) all)) ≡ style_after_lines look.wanted (ended left)
        step_style = ap (λ (b : List ℕ). style_after_lines next.wanted (ended b)) (sym behind_is)
            ∙ inside_style before middle after text old look left line lines has here now next count some inside
            ∙ ap (style_after_lines look.wanted) (sym found.2)

        pub step_complete : rest (drop (done + count) all) ≡ []
        step_complete = ap rest (sym behind_is)
            ∙ inside_complete before middle after text old look left line lines has here now next count some inside ∙ complete

      -- The last byte is a line feed.
      module _ (feed : slice_index all (done + count - 1) ≡ 10) where
        last : count ≡ length line + 1
        last =
            let positive = step_some in
            let at : done + (count - 1) ≡ done + count - 1 = omega (arith, positive) in
            let past = feed_at_end line has.more (count - 1) has.free (sym (byte_is (count - 1)) ∙ ap (slice_index all) at ∙ feed) in
            omega (arith, past, few, positive)

        pub line_failed : (final : Option Output) (broken : Broken) (done_with : Result (Unit {0}) Broken) → IsErr done_with
            → Writes after final (now ++ html_from Log next []) (Err broken) → Writes before final text done_with
        line_failed = end_failed before middle after text old look left line lines has here now next count some last

        pub line_wrote : (final : Option Output) (kept : List ℕ) → WroteUpTo after final (now ++ html_from Log next []) kept
            → WroteUpTo before final text (kept ++ lines_html next.wanted (ended (drop (done + count) all)))
        line_wrote final kept put_end =
            subst (λ (b : List ℕ). WroteUpTo before final text (kept ++ lines_html next.wanted (ended b))) behind_is
            (end_wrote before middle after text old look left line lines has here now next count some last final kept put_end)

        pub line_style : style_after_lines next.wanted (ended (drop (done + count) all)) ≡ style_after_lines look.wanted (ended left)
        line_style = ap (λ (b : List ℕ). style_after_lines next.wanted (ended b)) (sym behind_is)
            ∙ end_style before middle after text old look left line lines has here now next count some last
            ∙ ap (style_after_lines look.wanted) (sym found.2)

        pub line_complete : rest (drop (done + count) all) ≡ []
        line_complete = ap rest (sym behind_is)
            ∙ end_complete before middle after text old look left line lines has here now next count some last ∙ complete

-- ---- a step after sequences

skipped_some : (before after : Option Output) (old : List ℕ) (look : Look) (line now : List ℕ) (style : Style) (skipped : ℕ) (next : Look)
    (count : ℕ) → SkipsSequences look.wanted (with_line_feed line) style skipped → skipped ≤ length line
    → PutSome before after old (with_wanted look style) (with_line_feed (drop skipped line)) now next count
    → PutSome before after old look (with_line_feed line) now next (skipped + count)
skipped_some before after old look line now style skipped next count skips few put = record {
  some = let some = put.some in omega (arith, some);
  within =
      let within = put.within in
      let own = length-append line (10 ∷ []) in
      let left = length-append (drop skipped line) (10 ∷ []) in
      let size = length-drop skipped line in
      omega (arith, within, own, left, size, few);
  wrote = subst (λ (t : List ℕ). WroteUpTo before after (old ++ t) (now ++ html_from Log next (drop (skipped + count) own)))
      (ap (html_from Log (with_wanted look style)) (sym behind) ∙ skips.html look refl)
      (subst (λ (t : List ℕ). WroteUpTo before after (old ++ html_from Log (with_wanted look style) (with_line_feed (drop skipped line)))
      (now ++ html_from Log next t)) rest_is put.wrote);
  style = ap (style_in Log next.wanted) (sym rest_is) ∙ put.style ∙ ap (style_in Log style) (sym behind) ∙ skips.style_left;
}
  where
    own : List ℕ
    own = with_line_feed line

    behind : drop skipped own ≡ with_line_feed (drop skipped line)
    behind = drop-append-le skipped line (10 ∷ []) few

    rest_is : drop count (with_line_feed (drop skipped line)) ≡ drop (skipped + count) own
    rest_is = ap (drop count) (sym behind) ∙ drop-drop count skipped own

skipped_failed : (before after : Option Output) (old : List ℕ) (look : Look) (line : List ℕ) (style : Style) (skipped : ℕ) (broken : Broken)
    → SkipsSequences look.wanted (with_line_feed line) style skipped → skipped ≤ length line
    → Writes before after (old ++ html_from Log (with_wanted look style) (with_line_feed (drop skipped line))) (Err broken)
    → Writes before after (old ++ html_from Log look (with_line_feed line)) (Err broken)
skipped_failed before after old look line style skipped broken skips few wrote =
    subst (λ (t : List ℕ). Writes before after (old ++ t) (Err broken))
    (ap (html_from Log (with_wanted look style)) (sym (drop-append-le skipped line (10 ∷ []) few)) ∙ skips.html look refl) wrote

module _ (all : List ℕ) (done at : ℕ) (after_done : done ≤ at) (style next : Style)
    (skips : (line more : List ℕ) → drop done all ≡ line ++ 10 ∷ more
    → SkipsSequences style (line ++ 10 ∷ []) next (at - done) × (at - done ≤ length line)) where
  abbrev skipped : ℕ
  skipped = at - done

  module _ (line : List ℕ) (lines : List (List ℕ)) (is : ended (drop done all) ≡ line ∷ lines) where
    after_line : HasLine (drop done all) line lines
    after_line = has_line (drop done all) line lines is

    skip : SkipsSequences style (with_line_feed line) next skipped
    skip = (skips line after_line.more after_line.bytes_are).0

    in_line : skipped ≤ length line
    in_line = (skips line after_line.more after_line.bytes_are).1

    behind_skip : ended (drop at all) ≡ drop skipped line ∷ lines
    behind_skip =
        let same : at ≡ done + skipped = omega (arith, after_done) in
        ap ended (ap (λ (n : ℕ). drop n all) same ∙ sym (drop-drop skipped done all) ∙ ap (drop skipped) after_line.bytes_are
        ∙ drop-append-le skipped line (10 ∷ after_line.more) in_line)
        ∙ ended-line (drop skipped line) after_line.more (free_behind skipped line after_line.free)
        ∙ ap (λ (ls : List (List ℕ)). drop skipped line ∷ ls) after_line.lines_are

    line_size : length line < length (drop done all)
    line_size =
        let parts = ap length after_line.bytes_are ∙ length-append line (10 ∷ after_line.more) in
        omega (arith, parts)

    module _ (before after : Option Output) (old : List ℕ) (look : Look) (same : look.wanted ≡ style) (now : List ℕ) (last : Look) where
      look_skip : SkipsSequences look.wanted (with_line_feed line) next skipped
      look_skip = subst (λ (s : Style). SkipsSequences s (with_line_feed line) next skipped) (sym same) skip

      pub put_after_skip : (count : ℕ)
          → ((l : List ℕ) (ls : List (List ℕ)) → ended (drop at all) ≡ l ∷ ls
          → PutSome before after old (with_wanted look next) (with_line_feed l) now last count)
          → PutSome before after old look (with_line_feed line) now last (at - done + count)
      put_after_skip count put =
          skipped_some before after old look line now next skipped last count look_skip in_line (put (drop skipped line) lines behind_skip)

      pub failed_after_skip : (broken : Broken) (done_with : Result ℕ Broken) → IsErr done_with
          → ((l : List ℕ) (ls : List (List ℕ)) → ended (drop at all) ≡ l ∷ ls
          → Writes before after (old ++ html_from Log (with_wanted look next) (with_line_feed l)) (Err broken))
          → PutSomeOrFailed before after old look (with_line_feed line) now last done_with
      failed_after_skip broken (Ok count) failed put = absurd (cc)
      failed_after_skip broken (Err other) failed put =
          same_error before after (old ++ html_from Log look (with_line_feed line)) broken (Err other) refl
          (skipped_failed before after old look line next skipped broken look_skip in_line (put (drop skipped line) lines behind_skip))

  module _ (below : done < length all) (complete : rest (drop done all) ≡ []) where
    next_line : (line : List ℕ) × (lines : List (List ℕ)) × (ended (drop done all) ≡ line ∷ lines)
    next_line = some_line (drop done all) complete (let size = length-drop done all in omega (arith, size, below))

    -- A line feed comes after the sequences.
    pub skip_below : at < length all
    skip_below =
        let few = in_line next_line.0 next_line.1 next_line.2 in
        let inside = line_size next_line.0 next_line.1 next_line.2 in
        let size = length-drop done all in
        omega (arith, few, inside, size, below, after_done)

    pub skip_fits : (before after : Option Output) (old : List ℕ) (look : Look) (now : List ℕ) (last : Look) (count : ℕ)
        → ((l : List ℕ) (ls : List (List ℕ)) → ended (drop at all) ≡ l ∷ ls
        → PutSome before after old look (with_line_feed l) now last count) → at - done + count ≤ length all
    skip_fits before after old look now last count put =
        let few = in_line next_line.0 next_line.1 next_line.2 in
        let inside = line_size next_line.0 next_line.1 next_line.2 in
        let left = drop skipped next_line.0 in
        let some = put left next_line.1 (behind_skip next_line.0 next_line.1 next_line.2) in
        let within = some.within in
        let own = length-append left (10 ∷ []) in
        let left_size = length-drop skipped next_line.0 in
        let size = length-drop done all in
        omega (arith, few, inside, within, own, left_size, size)

-- Lines that were written as one passage.
pub passage_lines : (before after : Option Output) (old : List ℕ) (style : Style) (left : List ℕ) (len : ℕ) (now : List ℕ) (next : Style)
    → BeginsPassage style left len → PutPassage before after old style (take len left) now (Ok next)
    → PutSomeLines before after old style left now next len
passage_lines before after old style left len now next begins put = record {
  some = begins.some;
  within = begins.within;
  complete = begins.complete;
  wrote = subst (λ (s : Style). WroteUpTo before after (old ++ lines_html style (ended left)) (now ++ lines_html s (ended (drop len left))))
      (sym put.1)
      (lines_wrote before before after (old ++ lines_html style (ended left)) old style left len begins
      (begin_parts before (old ++ lines_html style (ended left)) (old ++ lines_html style (ended left)) refl) now put.0);
  style_left = ap (λ (s : Style). style_after_lines s (ended (drop len left))) put.1 ∙ begins.style_after_them;
}

pub passage_lines_failed : (before after : Option Output) (old : List ℕ) (style : Style) (left : List ℕ) (len : ℕ) (now : List ℕ)
    (broken : Broken) (done : Result (Style × ℕ) Broken) → IsErr done → BeginsPassage style left len
    → Writes before after (old ++ passage_html Log style (take len left)) (Err broken) → PutLines before after old style left now done
passage_lines_failed before after old style left len now broken (Ok result) failed begins wrote = absurd (cc)
passage_lines_failed before after old style left len now broken (Err other) failed begins wrote =
    lines_failed before before after (old ++ lines_html style (ended left)) old style left len begins
    (begin_parts before (old ++ lines_html style (ended left)) (old ++ lines_html style (ended left)) refl) broken (Err other) refl wrote

pub lines_failed_as : (before after : Option Output) (old : List ℕ) (style : Style) (left now : List ℕ) (done : Result (Style × ℕ) Broken)
    → ((ended_with : Result (Unit {0}) Broken) → IsErr ended_with → Writes before after (old ++ lines_html style (ended left)) ended_with)
    → IsErr done → PutLines before after old style left now done
lines_failed_as before after old style left now (Ok result) wrote failed = absurd (cc)
lines_failed_as before after old style left now (Err broken) wrote failed = wrote (Err broken) refl

-- ---- the end of all lines

module _ (before after : Option Output) (old now : List ℕ) (style : Style) (all : List ℕ) (done : ℕ) (past : length all ≤ done) where
  nothing : ended (drop done all) ≡ []
  nothing = ap ended (drop_all done all past) ∙ ended-free [] tt

  pub last_left : (look : Look)
      → WroteUpTo before after (old ++ lines_html style (ended all)) (now ++ html_left look (ended (drop done all)))
      → WroteUpTo before after (old ++ lines_html style (ended all)) (now ++ html_from Log look [])
  last_left look so_far =
      subst (λ (ls : List (List ℕ)). WroteUpTo before after (old ++ lines_html style (ended all)) (now ++ html_left look ls)) nothing so_far

  pub all_wrote : (last : Style) → WroteUpTo before after (old ++ lines_html style (ended all)) now
      → WroteUpTo before after (old ++ lines_html style (ended all)) (now ++ lines_html last (ended (drop done all)))
  all_wrote last so_far =
      subst (WroteUpTo before after (old ++ lines_html style (ended all)))
      (sym (ap (λ (ls : List (List ℕ)). now ++ lines_html last ls) nothing ∙ append-nil now)) so_far
