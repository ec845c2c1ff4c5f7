-- How many bytes of a log are left.
use Rattle.std.proofs.Common.{◌≡◌, ℕ, ◌+◌, ◌-◌, ◌≤◌, Bool, true, false, List, [], ◌∷◌, refl, arith}
use Rattle.std.specs.Prelude.{length, nat_le, if◌then◌else◌}
use Rattle.std.proofs.lemmas.Bool.{leb-true}
use Rattle.std.proofs.lemmas.List.Sums.{sum_by-append, sum_by-cons}
use Rattle.redo_outline.specs.Facts.{text_size}
use Rattle.redo_trim.specs.declared.limit.Limit.{Limit}
use Rattle.redo_trim.specs.Laws.{after_head, head_and_tail, head_lines, lines_from, tail_lines}
use Rattle.redo_trim.specs.Trim.{line_size}

more : (line : List ℕ) (lines : List (List ℕ)) → text_size (line ∷ lines) ≡ line_size line + text_size lines
more line lines = sum_by-cons (λ text. length text + 1) line lines

-- The head has at most as many bytes as it may have.
head_size : (bytes : ℕ) (lines : List (List ℕ)) → text_size (head_lines bytes lines) ≤ bytes
head_size bytes [] = omega arith
head_size bytes (line ∷ lines) = by (nat_le (line_size line) bytes) refl (head_size (bytes - line_size line) lines)
  where
    by : (fits : Bool) → nat_le (line_size line) bytes ≡ fits
        → text_size (head_lines (bytes - line_size line) lines) ≤ bytes - line_size line
        → text_size (if fits then line ∷ head_lines (bytes - line_size line) lines else []) ≤ bytes
    by true is rest =
        let fits : line_size line ≤ bytes = leb-true (line_size line) bytes is in
        let size = more line (head_lines (bytes - line_size line) lines) in
        omega (arith, fits, rest, size)
    by false is rest = omega arith

-- The head and the lines after it have all bytes.
both_sizes : (bytes : ℕ) (lines : List (List ℕ))
    → text_size lines ≡ text_size (head_lines bytes lines) + text_size (after_head bytes lines)
both_sizes bytes [] = refl
both_sizes bytes (line ∷ lines) = by (nat_le (line_size line) bytes) (both_sizes (bytes - line_size line) lines)
  where
    by : (fits : Bool) → text_size lines ≡ text_size (head_lines (bytes - line_size line) lines)
        + text_size (after_head (bytes - line_size line) lines)
        → text_size (line ∷ lines) ≡ text_size (if fits then line ∷ head_lines (bytes - line_size line) lines else [])
        + text_size (if fits then after_head (bytes - line_size line) lines else line ∷ lines)
    by true rest =
        let all = more line lines in
        let size = more line (head_lines (bytes - line_size line) lines) in
        omega (arith, rest, all, size)
    by false rest = omega arith

-- Of lines that begin at byte `begin`, those from byte `tail` on have at most the bytes after it.
rest_size : (tail begin : ℕ) (lines : List (List ℕ)) → text_size (lines_from tail begin lines) ≤ begin + text_size lines - tail
rest_size tail begin [] = omega arith
rest_size tail begin (line ∷ lines) = by (nat_le tail begin) refl (rest_size tail (begin + line_size line) lines)
  where
    by : (after : Bool) → nat_le tail begin ≡ after
        → text_size (lines_from tail (begin + line_size line) lines) ≤ begin + line_size line + text_size lines - tail
        → text_size (if after then line ∷ lines else lines_from tail (begin + line_size line) lines)
        ≤ begin + text_size (line ∷ lines) - tail
    by true is rest = let from : tail ≤ begin = leb-true tail begin is in omega (arith, from)
    by false is rest = let all = more line lines in omega (arith, rest, all)

pub left_size : (limit : Limit) (lines : List (List ℕ))
    → text_size (head_and_tail limit lines) ≤ limit.head + (text_size lines - limit.tail)
left_size limit lines =
    let head = head_size limit.head lines in
    let sizes = both_sizes limit.head lines in
    let rest = rest_size limit.tail (text_size (head_lines limit.head lines)) (after_head limit.head lines) in
    let joined = sum_by-append (λ text. length text + 1) (head_lines limit.head lines) (tail_lines limit lines) in
    omega (arith, head, sizes, rest, joined)
