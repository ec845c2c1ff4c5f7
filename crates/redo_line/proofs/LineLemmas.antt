-- How bytes are split into lines: one more byte, further bytes, and that there is only one split.
use Rattle.std.proofs.Common.{◌≡◌, ℕ, ◌≤◌, length, arith, List, [], ◌∷◌, ◌++◌, Bool, true, false, eqb, refl, sym, ◌∙◌, ap, subst}
use Rattle.std.specs.List.{AllByRecursion, flat_map}
use Rattle.std.proofs.lemmas.Bool.{ne_eqb, eqb-false, eqb-true}
use Rattle.std.proofs.lemmas.List.{append_assoc, length-append}
use Rattle.redo_line.specs.Lines.{line_feed, HasNoLineFeed, with_line_feed, AreLines, SplitLines, prepend_byte, split_lines, ended, rest}

-- A byte before bytes that were split, by whether it is a line feed.
abbrev step : Bool → ℕ → SplitLines → SplitLines
step true byte after = record { lines = [] ∷ after.lines; last = after.last }
step false byte after = prepend_byte byte after.lines after.last

split_lines-cons : (byte : ℕ) (bytes : List ℕ) (is : Bool) → eqb byte line_feed ≡ is
    → split_lines (byte ∷ bytes) ≡ step is byte (split_lines bytes)
unfolding split_lines
split_lines-cons byte bytes true h = rw h
split_lines-cons byte bytes false h = rw h

-- The split of bytes that were split before, and of further bytes.
abbrev then : SplitLines → List ℕ → SplitLines
then before bytes = let more = split_lines (before.last ++ bytes) in record { lines = before.lines ++ more.lines; last = more.last }

step-then : (byte : ℕ) (lines : List (List ℕ)) (last more : List ℕ) (is : Bool) → eqb byte line_feed ≡ is
    → step is byte (then (record { lines = lines; last = last }) more) ≡ then (step is byte (record { lines = lines; last = last })) more
step-then byte lines last more true h = refl
step-then byte [] last more false h = sym (split_lines-cons byte (last ++ more) false h)
step-then byte (line ∷ lines) last more false h = refl

is_feed : (byte : ℕ) → (is : Bool) × (eqb byte line_feed ≡ is)
is_feed byte = (eqb byte line_feed, refl)

split_lines-append : (bytes more : List ℕ) → split_lines (bytes ++ more) ≡ then (split_lines bytes) more
unfolding split_lines
split_lines-append [] more = refl
split_lines-append (byte ∷ bytes) more =
    let is = is_feed byte in
    split_lines-cons byte (bytes ++ more) is.0 is.1 ∙ ap (step is.0 byte) (split_lines-append bytes more)
    ∙ step-then byte (split_lines bytes).lines (split_lines bytes).last more is.0 is.1
    ∙ ap (λ c. then c more) (sym (split_lines-cons byte bytes is.0 is.1))

-- How bytes are split depends only on the remainder of the bytes before them.
pub ended-append : (bytes more : List ℕ) → ended (bytes ++ more) ≡ ended bytes ++ ended (rest bytes ++ more)
unfolding ended rest
ended-append bytes more = ap (λ c. c.lines) (split_lines-append bytes more)

pub rest-append : (bytes more : List ℕ) → rest (bytes ++ more) ≡ rest (rest bytes ++ more)
unfolding ended rest
rest-append bytes more = ap (λ c. c.last) (split_lines-append bytes more)

-- Bytes without a line feed are a remainder.
split_lines-free : (bytes : List ℕ) → HasNoLineFeed bytes → split_lines bytes ≡ record { lines = []; last = bytes }
unfolding split_lines
split_lines-free [] free = refl
split_lines-free (byte ∷ bytes) free =
    split_lines-cons byte bytes false (ne_eqb byte line_feed free.0) ∙ ap (step false byte) (split_lines-free bytes free.1)

pub ended-free : (bytes : List ℕ) → HasNoLineFeed bytes → ended bytes ≡ []
unfolding ended
ended-free bytes free = ap (λ c. c.lines) (split_lines-free bytes free)

pub rest-free : (bytes : List ℕ) → HasNoLineFeed bytes → rest bytes ≡ bytes
unfolding rest
rest-free bytes free = ap (λ c. c.last) (split_lines-free bytes free)

-- A line and the bytes after it.
split_lines-line : (line more : List ℕ) → HasNoLineFeed line
    → split_lines (line ++ line_feed ∷ more) ≡ record { lines = line ∷ ended more; last = rest more }
unfolding ended rest
split_lines-line [] more free = split_lines-cons line_feed more true refl
split_lines-line (byte ∷ line) more free =
    split_lines-cons byte (line ++ line_feed ∷ more) false (ne_eqb byte line_feed free.0)
    ∙ ap (step false byte) (split_lines-line line more free.1)

pub ended-line : (line more : List ℕ) → HasNoLineFeed line → ended (line ++ line_feed ∷ more) ≡ line ∷ ended more
unfolding ended rest
ended-line line more free = ap (λ c. c.lines) (split_lines-line line more free)

pub rest-line : (line more : List ℕ) → HasNoLineFeed line → rest (line ++ line_feed ∷ more) ≡ rest more
unfolding ended rest
rest-line line more free = ap (λ c. c.last) (split_lines-line line more free)

-- The bytes consist of the lines and the remainder.
abbrev Of : List ℕ → SplitLines → Type 0
Of bytes c = AreLines bytes c.lines c.last

Of-step : (byte : ℕ) (bytes : List ℕ) (lines : List (List ℕ)) (last : List ℕ) (is : Bool) → eqb byte line_feed ≡ is
    → AreLines bytes lines last → Of (byte ∷ bytes) (step is byte (record { lines = lines; last = last }))
Of-step byte bytes lines last true h are = record {
  whole = ap (λ b. b ∷ bytes) (eqb-true byte line_feed h) ∙ ap (λ bs. line_feed ∷ bs) are.whole;
  lines_hold_none = (tt, are.lines_hold_none);
  rest_holds_none = are.rest_holds_none;
}
Of-step byte bytes [] last false h are = record {
  whole = ap (λ bs. byte ∷ bs) are.whole;
  lines_hold_none = tt;
  rest_holds_none = (eqb-false byte line_feed h, are.rest_holds_none);
}
Of-step byte bytes (line ∷ lines) last false h are = record {
  whole = ap (λ bs. byte ∷ bs) are.whole;
  lines_hold_none = ((eqb-false byte line_feed h, are.lines_hold_none.0), are.lines_hold_none.1);
  rest_holds_none = are.rest_holds_none;
}

Of-split_lines : (bytes : List ℕ) → Of bytes (split_lines bytes)
unfolding split_lines
Of-split_lines [] = record { whole = refl; lines_hold_none = tt; rest_holds_none = tt }
Of-split_lines (byte ∷ bytes) =
    let is = is_feed byte in
    subst (Of (byte ∷ bytes)) (sym (split_lines-cons byte bytes is.0 is.1))
    (Of-step byte bytes (split_lines bytes).lines (split_lines bytes).last is.0 is.1 (Of-split_lines bytes))

-- The split of bytes satisfies `AreLines`.
pub are_lines : (bytes : List ℕ) → AreLines bytes (ended bytes) (rest bytes)
unfolding ended rest
are_lines bytes = Of-split_lines bytes

-- Splitting lines and a remainder that were concatenated gives them back.
split_lines-joined : (lines : List (List ℕ)) (last : List ℕ) → AllByRecursion HasNoLineFeed lines → HasNoLineFeed last
    → split_lines (flat_map with_line_feed lines ++ last) ≡ record { lines = lines; last = last }
unfolding ended rest
split_lines-joined [] last each free = split_lines-free last free
split_lines-joined (line ∷ lines) last each free =
    ap split_lines (append_assoc (with_line_feed line) (flat_map with_line_feed lines) last
    ∙ append_assoc line (line_feed ∷ []) (flat_map with_line_feed lines ++ last))
    ∙ split_lines-line line (flat_map with_line_feed lines ++ last) each.0
    ∙ ap (λ c. record { lines = line ∷ c.lines; last = c.last }) (split_lines-joined lines last each.1 free)

pub only_lines : (bytes : List ℕ) (lines : List (List ℕ)) (last : List ℕ) → AreLines bytes lines last
    → (lines ≡ ended bytes) × (last ≡ rest bytes)
unfolding ended rest
only_lines bytes lines last are =
    let same = ap split_lines are.whole ∙ split_lines-joined lines last are.lines_hold_none are.rest_holds_none in
    (sym (ap (λ c. c.lines) same), sym (ap (λ c. c.last) same))

-- A line has at least its line feed.
few_in : (lines : List (List ℕ)) → length lines ≤ length (flat_map with_line_feed lines)
few_in [] = omega arith
few_in (line ∷ lines) =
    let more = few_in lines in
    let size = length-append (with_line_feed line) (flat_map with_line_feed lines) in
    let own = length-append line (line_feed ∷ []) in
    omega (arith, more, size, own)

pub few_lines : (bytes : List ℕ) → length (ended bytes) ≤ length bytes
few_lines bytes =
    let few = few_in (ended bytes) in
    let size = ap length (are_lines bytes).whole ∙ length-append (flat_map with_line_feed (ended bytes)) (rest bytes) in
    omega (arith, few, size)
