-- Consecutive text lines.
use Rattle.std.proofs.Common.{◌≡◌, ℕ, ◌+◌, Bool, true, false, ltb, List, [], ◌∷◌, ◌++◌, length, take, drop, nat_eq, refl, sym, ◌∙◌, ap, subst, arith}
use Rattle.std.specs.Cmp.Lexicographic.{pointwise, unequal}
use Rattle.std.specs.List.{AllByRecursion, starts_with}
use Rattle.std.proofs.lemmas.Bool.{ltb-true, ltb-false}
use Rattle.std.proofs.lemmas.List.{length-append, length-take, take-take}
use Rattle.std.proofs.Math.Seq.{take-add}
use Rattle.memchr.specs.Find.{Passes, NoneBefore, is_byte}
use Rattle.redo_line.specs.Lines.{HasNoLineFeed, split_lines, line_feed, ended, rest}
use Rattle.redo_line.specs.Record.{record_prefix}
use Rattle.redo_line.specs.Private.CutLine.{AreTextLines}
use Rattle.redo_line.proofs.CutLemmas.{free_before, upto_feed}
use Rattle.redo_line.proofs.LineLemmas.{ended-append, ended-free, ended-line, rest-append, rest-free, rest-line}

abbrev BeginsNot : List ℕ → Type 0
BeginsNot line = starts_with nat_eq line record_prefix ≡ false

-- If bytes don't begin with the record prefix, no prefix of them does.
front_begins_not : (bytes : List ℕ) (n : ℕ) → BeginsNot bytes → BeginsNot (take n bytes)
front_begins_not bytes n none = by (ltb n 7) refl
  where
    by : (short : Bool) → ltb n 7 ≡ short → BeginsNot (take n bytes)
    by true short =
        let few = ltb-true n 7 short in
        let size = length-take n bytes in
        let cut = length-take 7 (take n bytes) in
        unequal nat_eq record_prefix (take 7 (take n bytes)) (λ same. omega (arith, few, size, cut, same))
    by false long =
        let many = ltb-false n 7 long in
        ap (pointwise nat_eq record_prefix) (take-take 7 n bytes many) ∙ none

all_then : (lines more : List (List ℕ)) → AllByRecursion BeginsNot lines → AllByRecursion BeginsNot more
    → AllByRecursion BeginsNot (lines ++ more)
all_then [] more all others = others
all_then (line ∷ lines) more all others = (all.0, all_then lines more all.1 others)

pub none_yet : (bytes : List ℕ) → AreTextLines (take 0 bytes) 0
unfolding split_lines ended rest
none_yet bytes = record { count_is = refl; no_rest = refl; texts = tt }

-- After `upto` bytes of text lines, one more text line follows.
module _ (bytes left : List ℕ) (upto count at : ℕ) (are : AreTextLines (take upto bytes) count) (left_is : left ≡ drop upto bytes)
    (found : NoneBefore (Passes (is_byte line_feed) left) 0 (length left) at × Passes (is_byte line_feed) left at)
    (none : BeginsNot left) where
  pub next_text : AreTextLines (take (upto + (at + 1)) bytes) (count + 1)
  next_text =
      let front = take upto bytes in
      let line = take at left in
      let free : HasNoLineFeed line = free_before left at found.0.before in
      let whole : take (upto + (at + 1)) bytes ≡ front ++ (line ++ line_feed ∷ []) =
      take-add upto (at + 1) bytes ∙ ap (λ (b : List ℕ). front ++ take (at + 1) b) (sym left_is)
      ∙ ap (λ (b : List ℕ). front ++ b) (upto_feed left at found.0.high found.1) in
      let lines : ended (take (upto + (at + 1)) bytes) ≡ ended front ++ line ∷ [] =
      ap ended whole ∙ ended-append front (line ++ line_feed ∷ [])
      ∙ ap (λ (r : List ℕ). ended front ++ ended (r ++ (line ++ line_feed ∷ []))) are.no_rest
      ∙ ap (λ ls. ended front ++ ls) (ended-line line [] free ∙ ap (λ ls. line ∷ ls) (ended-free [] tt)) in
      record {
        count_is = ap length lines ∙ length-append (ended front) (line ∷ []) ∙ ap (λ n. n + 1) are.count_is;
        no_rest =
            ap rest whole ∙ rest-append front (line ++ line_feed ∷ [])
            ∙ ap (λ (r : List ℕ). rest (r ++ (line ++ line_feed ∷ []))) are.no_rest
            ∙ rest-line line [] free ∙ rest-free [] tt;
        texts = subst (AllByRecursion BeginsNot) (sym lines)
            (all_then (ended front) (line ∷ []) are.texts (front_begins_not left at none, tt));
      }
