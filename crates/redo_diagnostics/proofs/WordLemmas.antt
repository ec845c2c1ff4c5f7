-- The first word of a plain line.
use Rattle.std.proofs.Common.{◌≡◌, ◌≢◌, ℕ, zero, suc, ◌+◌, ◌-◌, ◌<◌, ◌≤◌, ◌==◌, Bool, true, false, cond, ◌&&◌, ◌||◌, List, [], ◌∷◌, Option, None, Some, length, take, drop, get_or, refl, sym, ◌∙◌, ap, subst, arith, zero-le, ⊎_elim}
use Rattle.std.specs.Prelude.{is_some, option_map, slice_index}
use Rattle.std.specs.Str.{bytes_eq}
use Rattle.std.proofs.lemmas.Bool.{and_parts, cases_lt, eq-eqb, false_from_ne_true}
use Rattle.std.proofs.lemmas.List.{get_or-drop, get_or-take, length-drop, length-take}
use Rattle.std.proofs.lemmas.Option.{none-some, same_Some}
use Rattle.memchr.specs.Find.{NoneBefore, Nowhere, OccursAt, Passes, is_byte, occurs_at}
use Rattle.memchr.proofs.lemmas.MatchLemmas.{OccursAt-true}
use Rattle.redo_line.specs.Record.{colon, space}
use Rattle.redo_line.proofs.PartLemmas.{HasNo}
use Rattle.redo_diagnostics.specs.declared.severity.Severity.{Severity}
use Rattle.redo_diagnostics.specs.declared.severity.Severity.TheVariants.{Warning, Error, FatalError}
use Rattle.redo_diagnostics.specs.Diagnostic.{first_place, is_word_at, severity_at, severity_in, word_of, word_place}
use Rattle.redo_diagnostics.specs.Private.Words.{EndAfter, IsColonOf, IsFirstBefore, IsFirstColon, IsWordBefore}
use Rattle.redo_diagnostics.proofs.FlagLemmas.{nowhere_free, passes_inside}

-- ---- the severities at a place

abbrev one_of : Bool → Severity → Option Severity → Option Severity
one_of is severity others = cond is (Some severity) others

abbrev all_severities : List Severity
all_severities = Warning ∷ Error ∷ FatalError ∷ []

-- A severity at a place is one whose word is there.
pub has_word : (plain : List ℕ) (one : Severity) (place : ℕ) (severities : List Severity)
    → severity_in severities plain place ≡ Some one → is_word_at plain one place ≡ true
has_word plain one place [] some = absurd (none-some one some)
has_word plain one place (first ∷ others) some =
    by (is_word_at plain first place) refl (severity_in others plain place) some (λ some. has_word plain one place others some)
  where
    by : (is : Bool) → is_word_at plain first place ≡ is → (found : Option Severity) → one_of is first found ≡ Some one
        → (found ≡ Some one → is_word_at plain one place ≡ true) → is_word_at plain one place ≡ true
    by true here found some later = subst (λ severity. is_word_at plain severity place ≡ true) (same_Some first one some) here
    by false here found some later = later some

pub some_letters : (severity : Severity) → 1 ≤ length (word_of severity)
some_letters severity = grind arith

-- There is no severity at a place without a word.
pub no_severity : (plain : List ℕ) (place : ℕ) (severities : List Severity)
    → ((severity : Severity) → is_word_at plain severity place ≡ false) → severity_in severities plain place ≡ None
no_severity plain place [] never = refl
no_severity plain place (first ∷ others) never =
    ap (λ b. one_of b first (severity_in others plain place)) (never first) ∙ no_severity plain place others never

-- The severity at a place is the one whose word is there, if words of other lengths aren't.
pub only_severity : (plain : List ℕ) (place : ℕ) (one : Severity) → is_word_at plain one place ≡ true
    → ((severity : Severity) → is_word_at plain severity place ≡ true → length (word_of severity) ≡ length (word_of one))
    → severity_at plain place ≡ Some one
only_severity plain place one here same = by one here same
  where
    not_here : (one severity : Severity)
        → ((severity : Severity) → is_word_at plain severity place ≡ true → length (word_of severity) ≡ length (word_of one))
        → length (word_of severity) ≢ length (word_of one) → is_word_at plain severity place ≡ false
    not_here one severity same other = false_from_ne_true (is_word_at plain severity place) (λ is. other (same severity is))

    by : (one : Severity) → is_word_at plain one place ≡ true
        → ((severity : Severity) → is_word_at plain severity place ≡ true → length (word_of severity) ≡ length (word_of one))
        → severity_at plain place ≡ Some one
    by Warning here same = ap (λ b. one_of b Warning (severity_in (Error ∷ FatalError ∷ []) plain place)) here
    by Error here same =
        ap (λ b. one_of b Warning (severity_in (Error ∷ FatalError ∷ []) plain place))
        (not_here Error Warning same (λ is. omega (arith, is)))
        ∙ ap (λ b. one_of b Error (severity_in (FatalError ∷ []) plain place)) here
    by FatalError here same =
        ap (λ b. one_of b Warning (severity_in (Error ∷ FatalError ∷ []) plain place))
        (not_here FatalError Warning same (λ is. omega (arith, is)))
        ∙ ap (λ b. one_of b Error (severity_in (FatalError ∷ []) plain place)) (not_here FatalError Error same (λ is. omega (arith, is)))
        ∙ ap (λ b. one_of b FatalError None) here

-- ---- the search for a word

abbrev pub starts_well : List ℕ → ℕ → Bool
starts_well plain place = place == 0 || get_or plain (place - 1) 0 == space

abbrev pub ends_well : List ℕ → ℕ → Bool
ends_well plain behind = behind == length plain || get_or plain behind 0 == space

pub word_occurs : (plain : List ℕ) (severity : Severity) (place : ℕ) → is_word_at plain severity place ≡ true
    → OccursAt plain (word_of severity) place
word_occurs plain severity place is = OccursAt-true plain (word_of severity) place (and_parts
    (occurs_at plain (word_of severity) place) (starts_well plain place) (and_parts
    (occurs_at plain (word_of severity) place && starts_well plain place)
    (ends_well plain (place + length (word_of severity))) is).0).0

pub word_ends : (plain : List ℕ) (severity : Severity) (place : ℕ) → is_word_at plain severity place ≡ true
    → ends_well plain (place + length (word_of severity)) ≡ true
word_ends plain severity place is = (and_parts (occurs_at plain (word_of severity) place && starts_well plain place)
    (ends_well plain (place + length (word_of severity))) is).1

-- The word of a place is in the line.
pub word_fits : (plain : List ℕ) (severity : Severity) (place : ℕ) → is_word_at plain severity place ≡ true
    → place + length (word_of severity) ≤ length plain
word_fits plain severity place is = (word_occurs plain severity place is).fits

-- ---- the place of the first word

first_at : (test : ℕ → Bool) (from k count : ℕ) → k < count → test (from + k) ≡ true → ((p : ℕ) → p < k → test (from + p) ≡ false)
    → first_place test from count ≡ Some (from + k)
unfolding first_place
first_at test from k zero below here before = absurd (omega (arith, below))
first_at test from zero (suc count) below here before =
    let same : from + 0 ≡ from = omega arith in
    ap (λ b. cond b (Some from) (first_place test (from + 1) count)) (subst (λ n. test n ≡ true) same here) ∙ ap Some (sym same)
first_at test from (suc k) (suc count) below here before =
    let start : from + 0 ≡ from = omega arith in
    let same : from + suc k ≡ from + 1 + k = omega arith in
    ap (λ b. cond b (Some from) (first_place test (from + 1) count)) (subst (λ n. test n ≡ false) start (before 0 (omega arith)))
    ∙ first_at test (from + 1) k count (omega (arith, below)) (subst (λ n. test n ≡ true) same here)
    (λ p sooner. let next : from + suc p ≡ from + 1 + p = omega arith in
    subst (λ n. test n ≡ false) next (before (suc p) (omega (arith, sooner))))
    ∙ ap Some (sym same)

nowhere_at : (test : ℕ → Bool) (from count : ℕ) → ((p : ℕ) → test p ≡ false) → first_place test from count ≡ None
unfolding first_place
nowhere_at test from zero never = refl
nowhere_at test from (suc count) never =
    ap (λ b. cond b (Some from) (first_place test (from + 1) count)) (never from) ∙ nowhere_at test (from + 1) count never

pub place_found : (plain : List ℕ) (place : ℕ) (severity : Severity) → severity_at plain place ≡ Some severity
    → ((sooner : ℕ) → sooner < place → severity_at plain sooner ≡ None) → word_place plain ≡ Some place
place_found plain place severity is before =
    let fits = word_fits plain severity place (has_word plain severity place (Warning ∷ Error ∷ FatalError ∷ []) is) in
    let some = some_letters severity in
    first_at (λ place. is_some (severity_at plain place)) 0 place (length plain) (omega (arith, fits, some))
    (subst (λ n. is_some (severity_at plain n) ≡ true) (sym (zero-add place)) (ap is_some is))
    (λ sooner below. subst (λ n. is_some (severity_at plain n) ≡ false) (sym (zero-add sooner)) (ap is_some (before sooner below)))
    ∙ ap Some (zero-add place)
  where
    zero-add : (n : ℕ) → 0 + n ≡ n
    zero-add n = omega arith

pub place_nowhere : (plain : List ℕ) → ((place : ℕ) → severity_at plain place ≡ None) → word_place plain ≡ None
place_nowhere plain never =
    nowhere_at (λ place. is_some (severity_at plain place)) 0 (length plain) (λ place. ap is_some (never place))

-- ---- the colon of a word

-- The letters of a word, before its colon.
abbrev letters : Severity → List ℕ
letters severity = take (length (word_of severity) - 1) (word_of severity)

count_letters : (severity : Severity) → length (letters severity) + 1 ≡ length (word_of severity)
count_letters Warning = refl
count_letters Error = refl
count_letters FatalError = refl

no_colon : (severity : Severity) → HasNo colon (letters severity)
no_colon Warning = grind arith
no_colon Error = grind arith
no_colon FatalError = grind arith

last_is_colon : (severity : Severity) → slice_index (word_of severity) (length (word_of severity) - 1) ≡ colon
last_is_colon Warning = refl
last_is_colon Error = refl
last_is_colon FatalError = refl

module _ (plain : List ℕ) (severity : Severity) (place : ℕ) (is : is_word_at plain severity place ≡ true) where
  occurs : OccursAt plain (word_of severity) place
  occurs = word_occurs plain severity place is

  -- A word ends with a colon.
  has_colon : Passes (is_byte colon) plain (place + (length (word_of severity) - 1))
  has_colon = eq-eqb (slice_index plain (place + (length (word_of severity) - 1))) colon
      (occurs.reads (length (word_of severity) - 1) (let some = some_letters severity in omega (arith, some)) ∙ last_is_colon severity)

  -- It has no other one.
  only_colon : (k : ℕ) → place ≤ k → k + 1 < place + length (word_of severity) → Passes (is_byte colon) plain k → ⊥
  only_colon k low high passes =
      let same : place + (k - place) ≡ k = omega (arith, low) in
      let below : k - place < length (word_of severity) - 1 = omega (arith, low, high) in
      passes_inside colon (letters severity) (k - place) (let count = count_letters severity in omega (arith, low, high, count))
      (subst (λ byte. is_byte colon byte ≡ true)
      (ap (slice_index plain) (sym same) ∙ occurs.reads (k - place) (omega (arith, below))
      ∙ sym (get_or-take (length (word_of severity) - 1) (word_of severity) (k - place) 0 below)) passes)
      (no_colon severity)

pub no_colon_no_word : (plain : List ℕ) → HasNo colon plain → word_place plain ≡ None
no_colon_no_word plain free = place_nowhere plain (λ place. no_severity plain place all_severities (λ severity.
    false_from_ne_true (is_word_at plain severity place) (λ is.
    passes_inside colon plain (place + (length (word_of severity) - 1))
    (let fits = word_fits plain severity place is in let some = some_letters severity in omega (arith, fits, some))
    (has_colon plain severity place is) free)))

-- ---- the first word

pub end_after_start : (plain : List ℕ) → EndAfter plain 0
end_after_start plain severity place is = let some = some_letters severity in omega (arith, some)

module _ (plain left : List ℕ) (from : ℕ) (left_is : left ≡ drop from plain) (few : from ≤ length plain) (after : EndAfter plain from) where
  size : length left + from ≡ length plain
  size = let same = ap length left_is ∙ length-drop from plain in omega (arith, same, few)

  byte_is : (k : ℕ) → slice_index left k ≡ slice_index plain (from + k)
  byte_is k = ap (λ (bytes : List ℕ). get_or bytes k 0) left_is ∙ get_or-drop from plain k 0

  -- The place of a word's colon in the bytes that are left.
  abbrev colon_of : Severity → ℕ → ℕ
  colon_of severity place = place + length (word_of severity) - 1 - from

  colon_fits : (severity : Severity) (place : ℕ) → is_word_at plain severity place ≡ true → colon_of severity place < length left
  colon_fits severity place is =
      let fits = word_fits plain severity place is in let later = after severity place is in omega (arith, fits, later, size)

  colon_passes : (severity : Severity) (place : ℕ) → is_word_at plain severity place ≡ true
      → Passes (is_byte colon) left (colon_of severity place)
  colon_passes severity place is =
      let later = after severity place is in let some = some_letters severity in
      let same : from + colon_of severity place ≡ place + (length (word_of severity) - 1) = omega (arith, later, some) in
      subst (λ byte. is_byte colon byte ≡ true)
      (sym (byte_is (colon_of severity place) ∙ ap (slice_index plain) same)) (has_colon plain severity place is)

  -- No colon is left.
  module _ (nowhere : Nowhere (Passes (is_byte colon) left) 0 (length left)) where
    none_left : (place : ℕ) → severity_at plain place ≡ None
    none_left place = no_severity plain place all_severities (λ severity.
        false_from_ne_true (is_word_at plain severity place) (λ is.
        nowhere (colon_of severity place) zero-le (colon_fits severity place is) (colon_passes severity place is)))

    pub place_none : None ≡ word_place plain
    place_none = sym (place_nowhere plain none_left)

  -- The next colon.
  module _ (at : ℕ) (found : NoneBefore (Passes (is_byte colon) left) 0 (length left) at × Passes (is_byte colon) left at) where
    pub end_fits : from + at + 1 ≤ length plain
    end_fits = let below = found.0.high in omega (arith, below, size)

    ends_from : (severity : Severity) (place : ℕ) → is_word_at plain severity place ≡ true
        → from + at + 1 ≤ place + length (word_of severity)
    ends_from severity place is = ⊎_elim
        (λ (sooner : colon_of severity place < at).
        absurd (found.0.before (colon_of severity place) zero-le sooner (colon_passes severity place is)))
        (λ (later : at ≤ colon_of severity place). let after = after severity place is in omega (arith, later, after))
        (cases_lt (colon_of severity place) at)

    -- A word that ends later begins after the colon.
    begins_later : (severity : Severity) (place : ℕ) → is_word_at plain severity place ≡ true
        → from + at + 1 < place + length (word_of severity) → from + at + 1 ≤ place
    begins_later severity place is later = ⊎_elim
        (λ (sooner : place < from + at + 1).
        absurd (only_colon plain severity place is (from + at) (omega (arith, sooner)) (omega (arith, later))
        (subst (λ byte. is_byte colon byte ≡ true) (byte_is at) found.1)))
        (λ (behind : from + at + 1 ≤ place). behind)
        (cases_lt place (from + at + 1))

    ends_here_or_later : (severity : Severity) (place : ℕ) → is_word_at plain severity place ≡ true → place < from + at + 1
        → place + length (word_of severity) ≡ from + at + 1
    ends_here_or_later severity place is below = ⊎_elim
        (λ (later : from + at + 1 < place + length (word_of severity)).
        let behind = begins_later severity place is later in absurd (omega (arith, behind, below)))
        (λ (here : place + length (word_of severity) ≤ from + at + 1).
        let from_here = ends_from severity place is in omega (arith, here, from_here))
        (cases_lt (from + at + 1) (place + length (word_of severity)))

    pub none_here : ((severity : Severity) (place : ℕ) → ¬ IsWordBefore plain (from + at + 1) severity place)
        → EndAfter plain (from + at + 1)
    none_here none severity place is = ⊎_elim
        (λ (later : from + at + 1 < place + length (word_of severity)). later)
        (λ (here : place + length (word_of severity) ≤ from + at + 1). let from_here = ends_from severity place is in
        absurd (none severity place (is, omega (arith, here, from_here))))
        (cases_lt (from + at + 1) (place + length (word_of severity)))

    module _ (one : ℕ × Severity) (first : IsFirstBefore plain (from + at + 1) (Some one)) where
      one_below : one.0 < from + at + 1
      one_below = let some = some_letters one.1 in let ends = first.0.1 in omega (arith, some, ends)

      pub severity_found : severity_at plain one.0 ≡ Some one.1
      severity_found = only_severity plain one.0 one.1 first.0.0 (λ severity is.
          let same = ends_here_or_later severity one.0 is one_below in let ends = first.0.1 in omega (arith, same, ends))

      none_sooner : (place : ℕ) → place < one.0 → severity_at plain place ≡ None
      none_sooner place below = no_severity plain place all_severities (λ severity.
          false_from_ne_true (is_word_at plain severity place) (λ is.
          let behind = first.1 severity place (is, ends_here_or_later severity place is (omega (arith, below, one_below))) in
          omega (arith, below, behind)))

      pub place_is : Some one.0 ≡ word_place plain
      place_is = sym (place_found plain one.0 one.1 severity_found none_sooner)

      pub range_is : one.0 + length (word_of one.1) ≤ length plain
      range_is = word_fits plain one.1 one.0 first.0.0

-- ---- the words that end before a byte

-- The word that ends before `end` is the bytes there, and may begin there.
module _ (plain word : List ℕ) (end : ℕ) (severity : Severity) (place : ℕ) (same : word ≡ word_of severity)
    (is : IsWordBefore plain end severity place) where
  place_of_end : end - length word ≡ place
  place_of_end = let ends = is.1 in let size = ap length same in omega (arith, ends, size)

  size_of_word : end - (end - length word) ≡ length (word_of severity)
  size_of_word = let ends = is.1 in let size = ap length same in omega (arith, ends, size)

  abbrev is_copy : ℕ → ℕ → List ℕ → Bool
  is_copy size at letters = bytes_eq (take size (drop at plain)) letters

  pub has_letters : is_copy (end - (end - length word)) (end - length word) word ≡ true
  has_letters = ap (λ n. is_copy n (end - length word) word) size_of_word
      ∙ ap (λ n. is_copy (length (word_of severity)) n word) place_of_end
      ∙ ap (λ (letters : List ℕ). is_copy (length (word_of severity)) place letters) same
      ∙ (and_parts _ _ (and_parts (occurs_at plain (word_of severity) place) (starts_well plain place)
      (and_parts (occurs_at plain (word_of severity) place && starts_well plain place)
      (ends_well plain (place + length (word_of severity))) is.0).0).0).1

  pub begins_well : starts_well plain (end - length word) ≡ true
  begins_well = ap (starts_well plain) place_of_end
      ∙ (and_parts (occurs_at plain (word_of severity) place) (starts_well plain place)
      (and_parts (occurs_at plain (word_of severity) place && starts_well plain place)
      (ends_well plain (place + length (word_of severity))) is.0).0).1

-- ---- the first colon

module _ (plain : List ℕ) (at : ℕ) (first : IsFirstColon plain at) where
  one : at + 1 ≡ 0 + at + 1
  one = omega arith

  pub end_fits_first : at + 1 ≤ length plain
  end_fits_first = let below = first.0.high in omega (arith, below)

  module _ (found : ℕ × Severity) (is : IsFirstBefore plain (at + 1) (Some found)) where
    pub place_is_first : option_map (λ (one : ℕ × Severity). one.0) (Some found) ≡ word_place plain
    place_is_first = place_is plain plain 0 refl zero-le (end_after_start plain) at first found
        (subst (λ (n : ℕ). IsFirstBefore plain n (Some found)) one is)

    pub severity_first : severity_at plain found.0 ≡ Some found.1
    severity_first = severity_found plain plain 0 refl zero-le (end_after_start plain) at first found
        (subst (λ (n : ℕ). IsFirstBefore plain n (Some found)) one is)

  pub none_first : IsFirstBefore plain (at + 1) None → EndAfter plain (at + 1)
  none_first none = subst (EndAfter plain) (sym one) (none_here plain plain 0 refl zero-le (end_after_start plain) at first
      (subst (λ (n : ℕ). IsFirstBefore plain n None) one none))

  -- The bytes before a word.
  pub colon_of_head : (place : ℕ) → place ≤ length plain → IsColonOf (take place plain) at
  colon_of_head place within =
      let size = length-take place plain in
      let byte : (k : ℕ) → k < place → Passes (is_byte colon) (take place plain) k → Passes (is_byte colon) plain k =
      (λ k below. subst (λ (b : ℕ). is_byte colon b ≡ true) (get_or-take place plain k 0 below)) in
      record {
        within = λ below.
            let short : at < place = omega (arith, below, size) in (
              record {
                low = zero-le;
                high = below;
                before = λ k low sooner passes. first.0.before k low sooner (byte k (omega (arith, sooner, short)) passes);
              },
              subst (λ (b : ℕ). is_byte colon b ≡ true) (sym (get_or-take place plain at 0 short)) first.1,
            );
        none = λ past.
            nowhere_free colon (take place plain) (λ k low below passes.
            let short : k < place = omega (arith, below, size) in
            first.0.before k low (omega (arith, past, below)) (byte k short passes));
      }
