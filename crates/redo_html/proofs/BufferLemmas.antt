-- Texts that are written through a buffer.
use Rattle.std.proofs.Common.{◌≡◌, ℕ, ◌<◌, ◌≤◌, Bool, false, true, List, [], ◌++◌, Option, Result, Ok, Err, OnOk, length, drop, refl, sym, ◌∙◌, ap, ap₂, subst}
use Rattle.std.specs.List.{flat_map}
use Rattle.std.specs.Result.{IsErr}
use Rattle.std.proofs.lemmas.List.{append_assoc, append-nil}
use Rattle.redo_device.specs.declared.feed.Broken.{Broken}
use Rattle.redo_device.specs.Sink.{Output, append_output, Writes}
use Rattle.redo_device.proofs.WritesLemmas.{at_first}
use Rattle.redo_html.specs.declared.look.Look.{Look}
use Rattle.redo_html.specs.declared.style.Style.{Style}
use Rattle.redo_html.specs.declared.text_kind.TextKind.TheVariants.{Log}
use Rattle.redo_html.specs.Passage.{inline_html, is_same_style, passage_html}
use Rattle.redo_html.specs.Private.Highlighting.{after_code_point, html_from, highlights_between, with_wanted}
use Rattle.redo_html.specs.Private.Buffering.{Puts, PutSome, PutSomeOrFailed, PutPassage}
use Rattle.redo_html.specs.Private.Writing.{WroteUpTo, WroteSomeOrFailed, WrotePassage, SkipsSequences, style_in}
use Rattle.redo_html.proofs.StyleLemmas.{same_style}
use Rattle.redo_html.proofs.WritingLemmas.{begin_parts, wrote_more, wrote_on, wrote_rest, writes_as}

-- A text with more after it.
pub extended : (before after : Option Output) (text rest more : List ℕ) → WroteUpTo before after text rest
    → WroteUpTo before after (text ++ more) (rest ++ more)
extended before after text rest more so_far = record {
  prefix = so_far.prefix;
  wrote = so_far.wrote;
  splits = sym (append_assoc so_far.prefix rest more) ∙ ap (λ (t : List ℕ). t ++ more) so_far.splits;
}

pub puts_nothing : (before : Option Output) (old : List ℕ) → WroteUpTo before before (old ++ []) old
puts_nothing before old = begin_parts before (old ++ []) old (sym (append-nil old))

-- The bytes of the buffer were written.
pub flushed : (before after : Option Output) (old now : List ℕ) (done : Result (Unit {0}) Broken) → Writes before after old done
    → OnOk done (now ≡ []) → Puts before after old [] now done
flushed before after old now (Ok u) wrote empty =
    record { prefix = old; wrote = wrote; splits = ap (λ (t : List ℕ). old ++ t) empty }
flushed before after old now (Err broken) wrote empty = writes_as before after old (old ++ []) (Err broken) (sym (append-nil old)) wrote

-- One more part was put into the buffer.
pub puts_more : (before middle after : Option Output) (old part mid more now : List ℕ) (done : Result (Unit {0}) Broken)
    → WroteUpTo before middle (old ++ part) mid → Puts middle after mid more now done → Puts before after old (part ++ more) now done
puts_more before middle after old part mid more now (Ok u) first second =
    subst (λ (t : List ℕ). WroteUpTo before after t now) (append_assoc old part more)
    (wrote_on before middle after ((old ++ part) ++ more) (mid ++ more) now
    (extended before middle (old ++ part) mid more first) second)
puts_more before middle after old part mid more now (Err broken) first second =
    writes_as before after ((old ++ part) ++ more) (old ++ (part ++ more)) (Err broken) (append_assoc old part more)
    (wrote_rest before middle after ((old ++ part) ++ more) (mid ++ more) (Err broken)
    (extended before middle (old ++ part) mid more first) second)

pub puts_failed : (before after : Option Output) (old part more now : List ℕ) (broken : Broken) (done : Result (Unit {0}) Broken)
    → IsErr done → Writes before after (old ++ part) (Err broken) → Puts before after old (part ++ more) now done
puts_failed before after old part more now broken (Ok u) failed wrote = absurd (cc)
puts_failed before after old part more now broken (Err other) failed wrote =
    at_first before (old ++ (part ++ more)) after (old ++ part) more broken (Err other) failed wrote (append_assoc old part more)

pub puts_as : (before after : Option Output) (old text other now : List ℕ) (done : Result (Unit {0}) Broken) → text ≡ other
    → Puts before after old text now done → Puts before after old other now done
puts_as before after old text other now done is put = subst (λ (t : List ℕ). Puts before after old t now done) is put

-- There was room, and bytes were added to the buffer.
pub added : (before after : Option Output) (old part mid now : List ℕ) → WroteUpTo before after (old ++ []) mid → now ≡ mid ++ part
    → WroteUpTo before after (old ++ part) now
added before after old part mid now room is =
    subst (λ (t : List ℕ). WroteUpTo before after t now) (ap (λ (t : List ℕ). t ++ part) (append-nil old))
    (subst (λ (n : List ℕ). WroteUpTo before after ((old ++ []) ++ part) n) (sym is) (extended before after (old ++ []) mid part room))

-- Writing the bytes of the buffer failed.
pub flush_failed : (before after : Option Output) (old text now : List ℕ) (broken : Broken) (done : Result (Unit {0}) Broken) → IsErr done
    → Writes before after old (Err broken) → Puts before after old text now done
flush_failed before after old text now broken (Ok u) failed wrote = absurd (cc)
flush_failed before after old text now broken (Err other) failed wrote =
    at_first before (old ++ text) after old text broken (Err other) failed wrote refl

pub some_unflushed : (before after : Option Output) (old : List ℕ) (look : Look) (bytes now : List ℕ) (broken : Broken) (next : Look)
    (done : Result ℕ Broken) → IsErr done → Writes before after old (Err broken) → PutSomeOrFailed before after old look bytes now next done
some_unflushed before after old look bytes now broken next (Ok count) failed wrote = absurd (cc)
some_unflushed before after old look bytes now broken next (Err other) failed wrote =
    at_first before (old ++ html_from Log look bytes) after old (html_from Log look bytes) broken (Err other) refl wrote refl

pub passage_unflushed : (before after : Option Output) (old : List ℕ) (style : Style) (bytes now : List ℕ) (broken : Broken)
    (done : Result Style Broken) → IsErr done → Writes before after old (Err broken) → PutPassage before after old style bytes now done
passage_unflushed before after old style bytes now broken (Ok last) failed wrote = absurd (cc)
passage_unflushed before after old style bytes now broken (Err other) failed wrote =
    at_first before (old ++ passage_html Log style bytes) after old (passage_html Log style bytes) broken (Err other) refl wrote refl

-- What was written after the bytes of the buffer.
pub after_flush : (before middle : Option Output) (old text : List ℕ) → middle ≡ append_output before old 0
    → WroteUpTo before middle (old ++ text) text
after_flush before middle old text wrote = record { prefix = old; wrote = wrote; splits = refl }

pub flushed_before : (before middle after : Option Output) (old text now : List ℕ) (done : Result (Unit {0}) Broken)
    → middle ≡ append_output before old 0 → now ≡ [] → Writes middle after text done → Puts before after old text now done
flushed_before before middle after old text now (Ok u) flush empty wrote =
    subst (WroteUpTo before after (old ++ text)) (sym empty)
    (wrote_more before middle after (old ++ text) text [] (subst (WroteUpTo before middle (old ++ text)) (sym (append-nil text))
    (after_flush before middle old text flush)) wrote)
flushed_before before middle after old text now (Err broken) flush empty wrote =
    wrote_rest before middle after (old ++ text) text (Err broken) (after_flush before middle old text flush) wrote

pub some_flushed : (before middle after : Option Output) (old : List ℕ) (look : Look) (bytes now : List ℕ) (next : Look)
    (done : Result ℕ Broken) → middle ≡ append_output before old 0 → now ≡ [] → WroteSomeOrFailed middle after Log look bytes next done
    → PutSomeOrFailed before after old look bytes now next done
some_flushed before middle after old look bytes now next (Ok count) flush empty some = record {
  some = some.some;
  within = some.within;
  wrote = subst (λ (n : List ℕ). WroteUpTo before after (old ++ html_from Log look bytes) (n ++ html_from Log next (drop count bytes)))
      (sym empty) (wrote_on before middle after (old ++ html_from Log look bytes) (html_from Log look bytes)
      (html_from Log next (drop count bytes)) (after_flush before middle old (html_from Log look bytes) flush) some.wrote);
  style = some.style;
}
some_flushed before middle after old look bytes now next (Err broken) flush empty wrote =
    wrote_rest before middle after (old ++ html_from Log look bytes) (html_from Log look bytes) (Err broken)
    (after_flush before middle old (html_from Log look bytes) flush) wrote

-- The same for an equal text.
pub some_flushed_as : (before middle after : Option Output) (old : List ℕ) (look : Look) (bytes part now : List ℕ) (next : Look)
    (done : Result ℕ Broken) → part ≡ bytes → middle ≡ append_output before old 0 → now ≡ []
    → WroteSomeOrFailed middle after Log look part next done → PutSomeOrFailed before after old look bytes now next done
some_flushed_as before middle after old look bytes part now next done is flush empty wrote =
    some_flushed before middle after old look bytes now next done flush empty
    (subst (λ (b : List ℕ). WroteSomeOrFailed middle after Log look b next done) is wrote)

pub passage_flushed : (before middle after : Option Output) (old : List ℕ) (style : Style) (bytes now : List ℕ)
    (done : Result Style Broken) → middle ≡ append_output before old 0 → now ≡ [] → WrotePassage middle after Log style bytes done
    → PutPassage before after old style bytes now done
passage_flushed before middle after old style bytes now (Ok last) flush empty wrote =
    (flushed_before before middle after old (passage_html Log style bytes) now (Ok tt) flush empty wrote.0, wrote.1)
passage_flushed before middle after old style bytes now (Err broken) flush empty wrote =
    wrote_rest before middle after (old ++ passage_html Log style bytes) (passage_html Log style bytes) (Err broken)
    (after_flush before middle old (passage_html Log style bytes) flush) wrote

-- ---- parts of a passage

pub some_failed : (before after : Option Output) (old part rest : List ℕ) (look : Look) (bytes now : List ℕ) (broken : Broken) (next : Look)
    (done : Result ℕ Broken) → part ++ rest ≡ html_from Log look bytes → IsErr done → Writes before after (old ++ part) (Err broken)
    → PutSomeOrFailed before after old look bytes now next done
some_failed before after old part rest look bytes now broken next (Ok count) is failed wrote = absurd (cc)
some_failed before after old part rest look bytes now broken next (Err other) is failed wrote =
    at_first before (old ++ html_from Log look bytes) after (old ++ part) rest broken (Err other) refl wrote
    (append_assoc old part rest ∙ ap (λ (t : List ℕ). old ++ t) is)

pub passage_failed : (before after : Option Output) (old : List ℕ) (style : Style) (bytes now : List ℕ) (broken : Broken)
    (done : Result Style Broken) → IsErr done → Writes before after (old ++ passage_html Log style bytes) (Err broken)
    → PutPassage before after old style bytes now done
passage_failed before after old style bytes now broken (Ok last) failed wrote = absurd (cc)
passage_failed before after old style bytes now broken (Err other) failed wrote = wrote

module _ (before : Option Output) (old : List ℕ) (look : Look) (bytes highlights part : List ℕ) (len : ℕ)
    (step : highlights ++ (part ++ html_from Log (after_code_point look false) (drop len bytes)) ≡ html_from Log look bytes) where
  abbrev rest : List ℕ
  rest = html_from Log (after_code_point look false) (drop len bytes)

  whole : (highlights ++ part) ++ rest ≡ html_from Log look bytes
  whole = append_assoc highlights part rest ∙ step

  pub change_failed : (after : Option Output) (now : List ℕ) (broken : Broken) (next : Look) (done : Result ℕ Broken) → IsErr done
      → Writes before after (old ++ highlights) (Err broken) → PutSomeOrFailed before after old look bytes now next done
  change_failed after now broken next done failed wrote =
      some_failed before after old highlights (part ++ rest) look bytes now broken next done step failed wrote

  pub part_failed : (middle after : Option Output) (mid now : List ℕ) (broken : Broken) (next : Look) (done : Result ℕ Broken) → IsErr done
      → WroteUpTo before middle (old ++ highlights) mid → Writes middle after (mid ++ part) (Err broken)
      → PutSomeOrFailed before after old look bytes now next done
  part_failed middle after mid now broken next done failed first second =
      some_failed before after old (highlights ++ part) rest look bytes now broken next done whole failed
      (puts_more before middle after old highlights mid part now (Err broken) first second)

  pub both_put : (middle after : Option Output) (mid now : List ℕ) (next : Look) → next ≡ after_code_point look false
      → style_in Log look.wanted (drop len bytes) ≡ style_in Log look.wanted bytes → 0 < len → len ≤ length bytes
      → WroteUpTo before middle (old ++ highlights) mid → WroteUpTo middle after (mid ++ part) now
      → PutSome before after old look bytes now next len
  both_put middle after mid now next is style some within first second = record {
    some = some;
    within = within;
    wrote = subst (λ (l : Look). WroteUpTo before after (old ++ html_from Log look bytes) (now ++ html_from Log l (drop len bytes)))
        (sym is)
        (subst (λ (t : List ℕ). WroteUpTo before after t (now ++ rest))
        (append_assoc old (highlights ++ part) rest ∙ ap (λ (t : List ℕ). old ++ t) whole)
        (extended before after (old ++ (highlights ++ part)) now rest
        (puts_more before middle after old highlights mid part now (Ok tt) first second)));
    style = ap (λ (l : Look). style_in Log l.wanted (drop len bytes)) is ∙ style;
  }

-- Sequences write nothing.
pub sequences_put : (before : Option Output) (old : List ℕ) (look : Look) (bytes : List ℕ) (style : Style) (len : ℕ) → 0 < len
    → SkipsSequences look.wanted bytes style len → PutSome before before old look bytes old (with_wanted look style) len
sequences_put before old look bytes style len some skips = record {
  some = some;
  within = skips.within;
  wrote = begin_parts before (old ++ html_from Log look bytes) (old ++ html_from Log (with_wanted look style) (drop len bytes))
      (ap (λ (t : List ℕ). old ++ t) (skips.html look refl));
  style = skips.style_left;
}

-- Between two visible code points with the same style there are no highlights.
pub same_style_html : (look : Look) → look.unprintable ≡ false → is_same_style look.wanted look.current ≡ true
    → flat_map (inline_html Log) (highlights_between look false) ≡ []
same_style_html look visible same = rw (visible, same) refl

abbrev look_with : Style → Style → Bool → Look
look_with wanted current unprintable = record { wanted = wanted; current = current; unprintable = unprintable }

-- Then the look stays the same.
pub same_look : (look : Look) → look.unprintable ≡ false → is_same_style look.wanted look.current ≡ true
    → look ≡ after_code_point look false
same_look look visible same = ap₂ (look_with look.wanted) (sym (same_style look.wanted look.current same)) visible
