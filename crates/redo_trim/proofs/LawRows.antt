-- Rows of the definitions that the laws cite: trees, limits, the lines of one log, and entries of logs. The values are worked out
-- by hand.
use Rattle.std.proofs.Common.{◌≡◌, ℕ, [], ◌∷◌, false, inl, arith, refl}
use Rattle.std.proofs.lemmas.Bool.{false≢true}
use Rattle.std.specs.Prelude.{codes}
use Rattle.redo_line.specs.declared.entry.Entry.TheVariants.{Text}
use Rattle.redo_view.specs.declared.event.Opening.TheVariants.{OpensHere}
use Rattle.redo_view.specs.Event.Event.{Requested, EntryShown, LogEnds}
use Rattle.redo_trim.specs.Laws.{AreInTree, AreNoLimits, FitsInto64Bits, IsInNoLog, after_head, head_and_tail, lines_before, lines_from, marked_lines, marker_for}
use Rattle.redo_trim.specs.Trim.{marker}
use Rattle.redo_trim.proofs.TrimRows.{events, five, limit, text}

-- ---- trees

-- Each log that is opened ends, one level deeper than where it is opened.
in_tree : AreInTree events
in_tree = refl

-- The end of no log; then a log without an end; then an end at another depth.
not_in_tree :
    ¬ AreInTree (LogEnds 1 ∷ []) × ¬ AreInTree (Requested [] (OpensHere 0) ∷ []) × ¬ AreInTree (Requested [] (OpensHere 0) ∷ LogEnds 2 ∷ [])
not_in_tree = (
  λ are. absurd (cc),
  λ are. absurd (cc),
  λ are. let depths : ◌≡◌ {A = ℕ} 1 2 = cc in omega (arith, depths),
)

-- ---- limits

-- A tail at byte 0 has all lines, for any head.
no_limits : AreNoLimits (limit 5 0 ∷ limit 0 0 ∷ [])
no_limits = (refl, (refl, tt))

not_no_limits : ¬ AreNoLimits (limit 0 0 ∷ limit 0 1 ∷ [])
not_no_limits = λ are. let same = are.1.0 in omega (arith, same)

fits : FitsInto64Bits (limit 0xFFFFFFFFFFFFFFFF 0xFFFFFFFFFFFFFFFF)
fits = record { head = omega arith; tail = omega arith }

not_fits : ¬ FitsInto64Bits (limit 0x10000000000000000 0) × ¬ FitsInto64Bits (limit 0 0x10000000000000000)
not_fits = (λ fits. let low = fits.head in omega (arith, low), λ fits. let low = fits.tail in omega (arith, low))

-- ---- the lines of one log

-- They begin at the bytes 0, 4, 8, 14 and 19.
after_heads : (after_head 8 five ≡ codes "three" ∷ codes "four" ∷ codes "five" ∷ [])
    × (after_head 7 five ≡ codes "two" ∷ codes "three" ∷ codes "four" ∷ codes "five" ∷ []) × (after_head 24 five ≡ [])
after_heads = (refl, refl, refl)

-- The first line begins at byte 100.
by_beginning :
    (lines_from 114 100 five ≡ codes "four" ∷ codes "five" ∷ [])
    × (lines_before 114 100 five ≡ codes "one" ∷ codes "two" ∷ codes "three" ∷ []) × (lines_from 100 100 five ≡ five)
    × (lines_before 100 100 five ≡ [])
    × (lines_from 120 100 five ≡ []) × (lines_before 120 100 five ≡ five)
by_beginning = (refl, refl, refl, refl, refl, refl)

heads_and_tails : (head_and_tail (limit 8 19) five ≡ codes "one" ∷ codes "two" ∷ codes "five" ∷ []) × (head_and_tail (limit 0 25) five ≡ [])
    × (head_and_tail (limit 8 0) five ≡ five)
heads_and_tails = (refl, refl, refl)

markers : (marker_for 3 [] ≡ []) × (marker_for 3 ([] ∷ codes "a" ∷ []) ≡ marker 3 ∷ [])
markers = (refl, refl)

all_marked :
    (marked_lines 1 (limit 8 19) five ≡ text (codes "one") ∷ text (codes "two") ∷ marker 1 ∷ text (codes "five") ∷ [])
    × (marked_lines 1 (limit 8 8) five ≡ text (codes "one") ∷ text (codes "two") ∷ text (codes "three") ∷ text (codes "four")
    ∷ text (codes "five") ∷ [])
    × (marked_lines 1 (limit 0 25) five ≡ marker 1 ∷ [])
all_marked = (refl, refl, refl)

-- ---- entries of logs

-- The line `a` is the text `a`, at any depth.
not_in_no_log : ¬ IsInNoLog (EntryShown 3 (Text (codes "a")))
not_in_no_log = λ none. none 3 [] (codes "a") false (Text (codes "a")) (inl ((λ candidate. false≢true candidate.0), refl)) refl
