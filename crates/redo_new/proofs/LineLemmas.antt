-- The lines of a log whose diagnostics are new, line by line.
use Rattle.std.proofs.Common.{◌≡◌, ◌∙◌, ◌<◌, ◌+◌, ℕ, zero, suc, Bool, true, false, List, [], ◌∷◌, ◌++◌, Option, None, drop, filter, is_some, length, refl, sym, ap, arith, append_assoc}
use Rattle.std.specs.List.{AllByRecursion, list_any}
use Rattle.std.proofs.lemmas.List.{length-append}
use Rattle.redo_diagnostics.specs.Diagnostic.{DiagnosticValue, diagnostic_of}
use Rattle.redo_line.specs.Lines.{with_line_feed}
use Rattle.redo_outline.specs.TextLines.{LinesLeft}
use Rattle.redo_compare.specs.Rounds.{picked}
use Rattle.redo_compare.specs.Skipping.{AreSkipped}
use Rattle.redo_new.specs.News.{new_line}
use Rattle.redo_new.specs.Private.Sections.{flagged, new_among, new_text}
use Rattle.redo_new.proofs.LawLemmas as laws

picked-nil : (flags : List Bool) → picked {X = List ℕ} flags [] ≡ []
picked-nil [] = refl
picked-nil (flag ∷ flags) = refl

drop-nil : (n : ℕ) → drop {A = Bool} n [] ≡ []
drop-nil zero = refl
drop-nil (suc n) = refl

picked-first : (flags : List Bool) (next : ℕ) (line : List ℕ) (lines : List (List ℕ))
    → picked (drop next flags) (line ∷ lines) ≡ flagged flags next line ++ picked (drop (next + 1) flags) lines
picked-first [] zero line lines = refl
picked-first [] (suc next) line lines = sym (ap (λ (left : List Bool). picked left lines) (drop-nil (suc next + 1)))
picked-first (true ∷ flags) zero line lines = refl
picked-first (false ∷ flags) zero line lines = refl
picked-first (flag ∷ flags) (suc next) line lines =
    let same : suc (next + 1) ≡ suc next + 1 = omega arith in
    picked-first flags next line lines ∙ ap (λ (n : ℕ). flagged flags next line ++ picked (drop n (flag ∷ flags)) lines) same

pub none_set : (flags : List Bool) (lines : List (List ℕ)) → list_any (λ (is : Bool). is) flags ≡ false → picked flags lines ≡ []
none_set [] lines none = refl
none_set (flag ∷ flags) [] none = refl
none_set (true ∷ flags) (line ∷ lines) none = absurd (cc)
none_set (false ∷ flags) (line ∷ lines) none = none_set flags lines none

module _ (target : List ℕ) (flags : List Bool) (next : ℕ) where
  abbrev left : List (List ℕ) → List ℕ
  left lines = new_text target (new_among flags next lines)

  pub nothing_left : (lines : List (List ℕ)) → lines ≡ [] → left lines ≡ []
  nothing_left lines is = ap left is ∙ ap (new_text target) (picked-nil (drop next flags))

  -- A line that is no diagnostic.
  other_line : (line : List ℕ) (lines : List (List ℕ)) → is_some (diagnostic_of line) ≡ false → left (line ∷ lines) ≡ left lines
  other_line line lines is = rw is refl

  -- A line that is one.
  diagnostic_line : (line : List ℕ) (lines : List (List ℕ)) → is_some (diagnostic_of line) ≡ true
      → left (line ∷ lines) ≡ new_text target (flagged flags next line) ++ new_text target (new_among flags (next + 1) lines)
  diagnostic_line line lines is =
      let others = filter laws.is_diagnostic lines in
      let rest = picked (drop (next + 1) flags) others in
      rw is (ap (new_text target) (picked-first flags next line others)
      ∙ new_text-append (flagged flags next line) rest)
    where
      new_text-append : (one other : List (List ℕ)) → new_text target (one ++ other) ≡ new_text target one ++ new_text target other
      new_text-append [] other = refl
      new_text-append (first ∷ one) other =
          ap (λ (l : List ℕ). with_line_feed (new_line target first) ++ l) (new_text-append one other)
          ∙ sym (append_assoc (with_line_feed (new_line target first)) (new_text target one) (new_text target other))

  -- Lines that were skipped.
  pub after_skipped : (before after : LinesLeft) → AreSkipped before after → left before.left ≡ left after.left
  after_skipped before after skipped = ap left skipped.left ∙ others_skipped skipped.lines after.left skipped.others
    where
      others_skipped : (lines more : List (List ℕ)) → AllByRecursion (λ line. diagnostic_of line ≡ None) lines
          → left (lines ++ more) ≡ left more
      others_skipped [] more none = refl
      others_skipped (line ∷ lines) more none =
          other_line line (lines ++ more) (ap (λ (found : Option DiagnosticValue). is_some found) none.0)
          ∙ others_skipped lines more none.1

  -- After skipped lines, a line that is no diagnostic.
  pub other_next : (before between : LinesLeft) (line : List ℕ) (after : List (List ℕ)) → AreSkipped before between
      → between.left ≡ line ∷ after → is_some (diagnostic_of line) ≡ false → left before.left ≡ left after
  other_next before between line after skipped is none = after_skipped before between skipped ∙ ap left is ∙ other_line line after none

  -- After skipped lines, a line that is one.
  pub diagnostic_next : (before between : LinesLeft) (line : List ℕ) (after : List (List ℕ)) → AreSkipped before between
      → between.left ≡ line ∷ after → is_some (diagnostic_of line) ≡ true
      → left before.left ≡ new_text target (flagged flags next line) ++ new_text target (new_among flags (next + 1) after)
  diagnostic_next before between line after skipped is one =
      after_skipped before between skipped ∙ ap left is ∙ diagnostic_line line after one

-- Fewer lines are left after skipped lines and another one.
pub fewer_after : (before between : LinesLeft) (line : List ℕ) (after : List (List ℕ)) → AreSkipped before between
    → between.left ≡ line ∷ after → length after < length before.left
fewer_after before between line after skipped is =
    let split = ap length skipped.left in
    let size = ap length is in
    omega (arith, split, size, length-append skipped.lines between.left)
