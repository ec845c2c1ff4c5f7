-- The text lines of a log, entry by entry.
use Rattle.std.proofs.Common.{◌≡◌, ℕ, suc, ◌+◌, ◌<◌, ◌≤◌, List, [], ◌∷◌, ◌++◌, Option, None, Some, length, refl, sym, ap, ◌∙◌, arith}
use Rattle.std.specs.Prelude.{◌==◌, false, true}
use Rattle.std.specs.List.{cons_option, flat_map}
use Rattle.std.proofs.lemmas.Bool.{eqb-false, eqb-true}
use Rattle.std.proofs.lemmas.List.{append-nil}
use Rattle.memchr.specs.Find.{Nowhere, Passes, is_byte}
use Rattle.redo_line.proofs.CutLemmas.{holds_none}
use Rattle.redo_line.proofs.LineLemmas.{are_lines, ended-free, only_lines, rest-free}
use Rattle.redo_line.specs.Lines.{ended, line_feed, rest, with_line_feed}
use Rattle.redo_line.specs.declared.entry.Entry.{Entry}
use Rattle.redo_line.specs.declared.entry.Entry.TheVariants.{Text, Mention, Done, Closing, Note}
use Rattle.redo_logs.specs.Logs.{Log, entry_at}
use Rattle.redo_logs.specs.Numbering.{AreLinesAt, AreTexts, HasText}
use Rattle.redo_outline.proofs.LogEntries.{drop_here, drop_none, entry_is}
use Rattle.redo_outline.specs.Facts.{entries_at, text_of, texts_of}
use Rattle.redo_outline.specs.TextLines.{AreNextLines, IsStretch}
use Rattle.redo_outline.specs.Private.TextLines.{IsNextStretch, IsRefilled, texts_from}

module _ (logs : List Log) (number : ℕ) where
  -- No text line is left after the last entry.
  pub none_left : (k : ℕ) → entry_at number k logs ≡ None → texts_from logs number k ≡ []
  none_left k is = ap texts_of (drop_none (entries_at number logs) k (sym (entry_is logs number k) ∙ is))

  -- An entry that is no text line.
  skipped : (entry : Entry) (k : ℕ) → entry_at number k logs ≡ Some entry → (HasText logs number k → ⊥) → text_of entry ≡ None
  skipped (Text line) k is none = absurd (none (line, is))
  skipped (Mention pid how name) k is none = refl
  skipped (Done pid status name) k is none = refl
  skipped (Closing pid status) k is none = refl
  skipped (Note pid kind text) k is none = refl

  pub no_text : (entry : Entry) (k : ℕ) → entry_at number k logs ≡ Some entry → (HasText logs number k → ⊥)
      → texts_from logs number k ≡ texts_from logs number (k + 1)
  no_text entry k is none =
      ap texts_of (drop_here (entries_at number logs) k entry (sym (entry_is logs number k) ∙ is))
      ∙ ap (λ (text : Option (List ℕ)). cons_option text (texts_from logs number (k + 1))) (skipped entry k is none)

  texts_are : (k : ℕ) (texts : List (List ℕ)) → AreTexts logs number k texts
      → texts_from logs number k ≡ texts ++ texts_from logs number (k + length texts)
  texts_are k [] are = let same : k ≡ k + 0 = omega arith in ap (texts_from logs number) same
  texts_are k (text ∷ texts) are =
      let same : k + 1 + length texts ≡ k + suc (length texts) = omega arith in
      ap texts_of (drop_here (entries_at number logs) k (Text text) (sym (entry_is logs number k) ∙ are.0))
      ∙ ap (λ (left : List (List ℕ)). text ∷ left) (texts_are (k + 1) texts are.1 ∙ ap (λ (n : ℕ). texts ++ texts_from logs number n) same)

  only_texts : (k : ℕ) (bytes : List ℕ) (count : ℕ) (lines : AreLinesAt logs number k bytes count)
      → (lines.texts ≡ ended bytes) × ([] ≡ rest bytes)
  only_texts k bytes count lines = only_lines bytes lines.texts [] (record {
    whole = lines.bytes_are ∙ sym (append-nil (flat_map with_line_feed lines.texts));
    lines_hold_none = lines.no_line_feeds;
    rest_holds_none = tt;
  })

  pub count_of : (k : ℕ) (bytes : List ℕ) (count : ℕ) → AreLinesAt logs number k bytes count → count ≡ length (ended bytes)
  count_of k bytes count lines = sym lines.count_is ∙ ap length (only_texts k bytes count lines).0

  -- Lines that are stored together.
  pub next_texts : (k : ℕ) (bytes : List ℕ) (count : ℕ) → 0 < count → AreLinesAt logs number k bytes count
      → IsNextStretch logs number k bytes (k + count)
  next_texts k bytes count some lines = record {
    complete = sym only.1;
    split = texts_are k lines.texts lines.are
        ∙ ap (λ (texts : List (List ℕ)). texts ++ texts_from logs number (k + length lines.texts)) only.0
        ∙ ap (λ (n : ℕ). ended bytes ++ texts_from logs number (k + n)) lines.count_is;
    count = let same = ap length only.0 in let count_is = lines.count_is in omega (arith, same, count_is);
    none = λ empty. let no_lines = ap length (only.0 ∙ ap ended empty ∙ ended-free [] tt) in let count_is = lines.count_is in
        absurd (omega (arith, no_lines, count_is, some));
  }
    where
      only : (lines.texts ≡ ended bytes) × ([] ≡ rest bytes)
      only = only_texts k bytes count lines

  -- Lines that follow entries which are no text lines.
  pub later_lines : (next k : ℕ) (bytes : List ℕ) (after : ℕ) → next ≤ k → texts_from logs number next ≡ texts_from logs number k
      → IsNextStretch logs number k bytes after → IsNextStretch logs number next bytes after
  later_lines next k bytes after low same lines = record {
    complete = lines.complete;
    split = same ∙ lines.split;
    count = let count = lines.count in omega (arith, low, count);
    none = λ empty. same ∙ lines.none empty;
  }

  pub no_lines : (k : ℕ) → entry_at number k logs ≡ None → IsNextStretch logs number k [] k
  no_lines k is = record {
    complete = rest-free [] tt;
    split = ap (λ (lines : List (List ℕ)). lines ++ texts_from logs number k) (sym (ended-free [] tt));
    count = let none = ap length (ended-free [] tt) in omega (arith, none);
    none = λ empty. none_left k is;
  }

  -- A stretch that isn't used up.
  pub goes_on : (stretch : List ℕ) (next : ℕ) → rest stretch ≡ [] → (stretch ≡ [] → ⊥) → IsRefilled logs number stretch next stretch next
  goes_on stretch next complete some = record {
    complete = complete;
    left = refl;
    count = omega arith;
    none = λ empty. absurd (some empty);
  }

  pub refilled : (stretch : List ℕ) (next : ℕ) (lines : List ℕ) (after : ℕ) → stretch ≡ [] → IsNextStretch logs number next lines after
      → IsRefilled logs number stretch next lines after
  refilled stretch next lines after empty are = record {
    complete = are.complete;
    left = ap (λ (texts : List (List ℕ)). texts ++ texts_from logs number next) none ∙ are.split;
    count = let size = ap length none in let count = are.count in omega (arith, size, count);
    none = λ no_lines. ap (λ (texts : List (List ℕ)). texts ++ texts_from logs number next) none ∙ are.none no_lines;
  }
    where
      none : ended stretch ≡ []
      none = ap ended empty ∙ ended-free [] tt

pub no_line : (bytes : List ℕ) → rest bytes ≡ [] → Nowhere (Passes (is_byte line_feed) bytes) 0 (length bytes) → bytes ≡ []
no_line bytes complete nowhere = sym (rest-free bytes (holds_none bytes nowhere)) ∙ complete

pub is_nothing : (bytes : List ℕ) → (length bytes == 0) ≡ true → bytes ≡ []
is_nothing [] is = refl
is_nothing (byte ∷ bytes) is = let none = eqb-true (length (byte ∷ bytes)) 0 is in absurd (omega (arith, none))

-- Complete lines that are not empty.
pub some_lines : (bytes : List ℕ) → rest bytes ≡ [] → (bytes ≡ [] → ⊥) → 0 < length (ended bytes)
some_lines bytes complete some = by (ended bytes) refl
  where
    by : (lines : List (List ℕ)) → ended bytes ≡ lines → 0 < length lines
    by [] none = absurd (some ((are_lines bytes).whole ∙ ap (λ (lines : List (List ℕ)). flat_map with_line_feed lines ++ rest bytes) none
        ∙ complete))
    by (line ∷ lines) is = omega arith

pub are_stretch : (bytes : List ℕ) → rest bytes ≡ [] → (length bytes == 0) ≡ false → IsStretch bytes
are_stretch bytes complete some = record {
  complete = complete;
  some = some_lines bytes complete (λ empty. eqb-false (length bytes) 0 some (ap length empty));
}

-- A stretch that is taken as a whole.
pub all_taken : (stretch : List ℕ) (others : List (List ℕ)) (count done : ℕ) → count ≡ length (ended stretch)
    → AreNextLines stretch (record { left = ended stretch ++ others; stretch = stretch; done = done })
    (record { left = ended [] ++ others; stretch = []; done = done + count })
all_taken stretch others count done is = record {
  lines = ap (λ (lines : List (List ℕ)). ended stretch ++ (lines ++ others)) (sym (ended-free [] tt));
  done = ap (λ (n : ℕ). done + n) is;
}
