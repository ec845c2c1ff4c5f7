-- The cause of a failure, line by line.
use Rattle.std.proofs.Common.{◌≡◌, false, true, Bool, List, ℕ, [], ◌∷◌, ◌++◌, Option, None, Some, reverse, refl, ap, ◌∙◌}
use Rattle.std.proofs.lemmas.List.{reverse-append}
use Rattle.std.specs.Prelude.{cond, not, if◌then◌else◌}
use Rattle.std.specs.List.{find}
use Rattle.std.specs.Option.{option_or}
use Rattle.redo_page.specs.Errors.{cause_of, is_blank, is_error}

-- ---- the last line that isn't blank

abbrev unless_blank : List ℕ → Option (List ℕ)
unless_blank line = if is_blank line then None else Some line

abbrev pub last_filled : List (List ℕ) → Option (List ℕ)
last_filled [] = None
last_filled (line ∷ lines) = option_or (last_filled lines) (unless_blank line)

abbrev filled : List (List ℕ) → Option (List ℕ)
filled lines = find (λ line. not (is_blank line)) lines

filled_later : (lines others : List (List ℕ)) → filled (lines ++ others) ≡ option_or (filled lines) (filled others)
filled_later [] others = refl
filled_later (line ∷ lines) others = by (is_blank line) (filled_later lines others)
  where
    by : (blank : Bool) → filled (lines ++ others) ≡ option_or (filled lines) (filled others)
        → cond (not blank) (Some line) (filled (lines ++ others))
        ≡ option_or (cond (not blank) (Some line) (filled lines)) (filled others)
    by true later = later
    by false later = refl

filled_alone : (line : List ℕ) → filled (line ∷ []) ≡ unless_blank line
filled_alone line = by (is_blank line)
  where
    by : (blank : Bool) → cond (not blank) (Some line) None ≡ (if blank then None else Some line)
    by true = refl
    by false = refl

last_is : (lines : List (List ℕ)) → filled (reverse lines) ≡ last_filled lines
last_is [] = refl
last_is (line ∷ lines) =
    ap filled (reverse-append (line ∷ []) lines)
    ∙ filled_later (reverse lines) (line ∷ [])
    ∙ ap (λ (last : Option (List ℕ)). option_or last (filled (line ∷ []))) (last_is lines)
    ∙ ap (option_or (last_filled lines)) (filled_alone line)

-- ---- the cause

-- The cause, if these lines are left, and `last` is the last one before them that isn't blank.
abbrev pub cause_from : List (List ℕ) → Option (List ℕ) → Option (List ℕ)
cause_from lines last = option_or (find is_error lines) (option_or (last_filled lines) last)

or_none : {A : Type 0} (one : Option A) → one ≡ option_or one None
or_none None = refl
or_none (Some x) = refl

or_assoc : {A : Type 0} (one two three : Option A) → option_or (option_or one two) three ≡ option_or one (option_or two three)
or_assoc None two three = refl
or_assoc (Some x) two three = refl

pub cause_begins : (lines : List (List ℕ)) → cause_of lines ≡ cause_from lines None
cause_begins lines = ap (option_or (find is_error lines)) (last_is lines ∙ or_none (last_filled lines))

pub cause_here : (line : List ℕ) (lines : List (List ℕ)) (last : Option (List ℕ)) → is_error line ≡ true
    → cause_from (line ∷ lines) last ≡ Some line
cause_here line lines last is = ap (λ (b : Bool).
    option_or (cond b (Some line) (find is_error lines)) (option_or (last_filled (line ∷ lines)) last)) is

last_with : (line : List ℕ) (last : Option (List ℕ)) → option_or (unless_blank line) last ≡ (if is_blank line then last else Some line)
last_with line last = by (is_blank line)
  where
    by : (blank : Bool) → option_or (if blank then None else Some line) last ≡ (if blank then last else Some line)
    by true = refl
    by false = refl

pub cause_later : (line : List ℕ) (lines : List (List ℕ)) (last : Option (List ℕ)) → is_error line ≡ false
    → cause_from (line ∷ lines) last ≡ cause_from lines (if is_blank line then last else Some line)
cause_later line lines last is =
    ap (λ (b : Bool). option_or (cond b (Some line) (find is_error lines)) (option_or (last_filled (line ∷ lines)) last)) is
    ∙ ap (option_or (find is_error lines)) (or_assoc (last_filled lines) (unless_blank line) last)
    ∙ ap (cause_from lines) (last_with line last)
