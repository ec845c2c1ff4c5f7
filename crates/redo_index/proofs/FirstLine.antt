-- The first line of some bytes, and the lines after it.
use Rattle.std.proofs.Common.{◌≡◌, ℕ, ◌+◌, ◌-◌, ◌<◌, List, [], ◌∷◌, ◌++◌, length, take, drop, option_to_list, sym, ◌∙◌, ap, subst, arith, le_refl, le_of_eq}
use Rattle.std.proofs.lemmas.List.{append_assoc, take-append-drop, take_all, length-drop}
use Rattle.memchr.specs.Find.{Passes, Nowhere, NoneBefore, is_byte}
use Rattle.redo_line.specs.Lines.{line_feed, HasNoLineFeed, ended, rest, unended, all_lines}
use Rattle.redo_line.proofs.CutLemmas.{free_before, upto_feed}
use Rattle.redo_line.proofs.LineLemmas.{ended-line, rest-line, ended-free, rest-free}

pub no_lines : all_lines [] ≡ []
no_lines = rw (ended-free [] tt, rest-free [] tt)

pub first_ended : (bytes : List ℕ) (at : ℕ)
    → NoneBefore (Passes (is_byte line_feed) bytes) 0 (length bytes) at × Passes (is_byte line_feed) bytes at
    → all_lines bytes ≡ take at bytes ∷ all_lines (take (length bytes - (at + 1)) (drop (at + 1) bytes))
first_ended bytes at found =
    let free = free_before bytes at found.0.before in
    let suffix : take (length bytes - (at + 1)) (drop (at + 1) bytes) ≡ drop (at + 1) bytes =
    take_all _ _ (le_of_eq (length-drop (at + 1) bytes)) in
    let joined : take at bytes ++ line_feed ∷ drop (at + 1) bytes ≡ bytes =
    sym (append_assoc (take at bytes) (line_feed ∷ []) (drop (at + 1) bytes))
    ∙ ap (λ b. b ++ drop (at + 1) bytes) (sym (upto_feed bytes at found.0.high found.1)) ∙ take-append-drop (at + 1) bytes in
    ap all_lines (sym joined)
    ∙ ap (λ ls. ls ++ option_to_list (unended (rest (take at bytes ++ line_feed ∷ drop (at + 1) bytes))))
    (ended-line (take at bytes) (drop (at + 1) bytes) free)
    ∙ ap (λ last. take at bytes ∷ ended (drop (at + 1) bytes) ++ option_to_list (unended last))
    (rest-line (take at bytes) (drop (at + 1) bytes) free)
    ∙ ap (λ b. take at bytes ∷ all_lines b) (sym suffix)

pub first_unended : (bytes : List ℕ) → 0 < length bytes → Nowhere (Passes (is_byte line_feed) bytes) 0 (length bytes)
    → all_lines bytes ≡ bytes ∷ all_lines []
first_unended [] some nowhere = absurd (omega arith)
first_unended (byte ∷ bytes) some nowhere =
    let free = subst HasNoLineFeed (take_all _ (byte ∷ bytes) (le_refl (length (byte ∷ bytes))))
    (free_before (byte ∷ bytes) (length (byte ∷ bytes)) nowhere) in
    rw (ended-free (byte ∷ bytes) free, rest-free (byte ∷ bytes) free, no_lines)
