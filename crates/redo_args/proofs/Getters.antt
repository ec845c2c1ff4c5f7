-- The results of the getters of `ArgMatches`, as parts of a job.
use Rattle.std.proofs.Common.{◌≡◌, ◌∙◌, ◌<◌, ◌≤◌, ◌^◌, ℕ, Bool, true, false, List, [], Option, Some, None, Ok, Result, map, refl, sym, ap, inl, inr, codes}
use Rattle.std.specs.Prelude.{IfSome, option_map, unwrap_or}
use Rattle.std.specs.Borrow.{Bor}
use Rattle.std.specs.Option.{option_map_or}
use Rattle.std.specs.Str.Parse.{ExplainsUnsignedError, HasUnsignedDigitsIfOk, ParsesUnsigned}
use Rattle.clap.specs.Matches.{ReadsOne, first_value, matched_of, one_text, raw_values}
use Rattle.clap.specs.Walk.{Text, all_of, first_of, one_of, rows_of}
use Rattle.clap.specs.declared.parser.matches.Found.{Found}
use Rattle.clap.proofs.CallerReads.{signed_reads}
use Rattle.clap.proofs.WalkLemmas.{first_value-rows, one_text-rows, raw_values-rows}
use Rattle.redo_args.specs.Job.{is_on, is_true, number_of, number_or, targets_of}
use Rattle.redo_args.specs.Private.Matches.{IsFlag, IsFlagText, IsNumber, IsNumberTo}

abbrev pub nows : List (Bor Text) → List Text
nows = map (λ word. word.now)

-- The value of a flag.
pub flag_is : (found : Found) (id : Text) (answer : Bool) → IsFlag id (rows_of found)
    → (one_text found id ≡ None → answer ≡ false) → (one_text found id ≡ Some (codes "true") → answer ≡ true)
    → (one_text found id ≡ Some (codes "false") → answer ≡ false)
    → answer ≡ is_on id (rows_of found)
flag_is found id answer is none on off = go (one_of id (rows_of found)) refl is
  where
    go : (text : Option Text) → one_of id (rows_of found) ≡ text → IfSome text IsFlagText → answer ≡ option_map_or is_true text false
    go None at is = none (one_text-rows found id ∙ at)
    go (Some text) at (inl yes_is) = on (one_text-rows found id ∙ at ∙ ap Some yes_is) ∙ sym (ap is_true yes_is)
    go (Some text) at (inr no_is) = off (one_text-rows found id ∙ at ∙ ap Some no_is) ∙ sym (ap is_true no_is)

-- The number of an option, or the default if the option is not given.
number_is : (E : Type 0) (G : List ℕ → Result ℕ E → Type 0) (found : Found) (id : Text) (max default : ℕ) (answer : Option ℕ)
    → ((text : List ℕ) (read : Result ℕ E) → G text read → ParsesUnsigned 32 10 text read) → max < 2 ^ 32 → 1 ≤ default → default ≤ max
    → IsNumber max id (rows_of found)
    → (one_text found id ≡ None → answer ≡ None) → ((text : List ℕ) → one_text found id ≡ Some text → ReadsOne G text answer)
    → (unwrap_or answer default ≡ number_or default id (rows_of found)) × (1 ≤ number_or default id (rows_of found))
    × (number_or default id (rows_of found) ≤ max)
number_is E G found id max default answer only fits low high is none some = go (one_of id (rows_of found)) refl is
  where
    go : (text : Option Text) → one_of id (rows_of found) ≡ text → IfSome text (IsNumberTo max)
        → (unwrap_or answer default ≡ option_map_or number_of text default) × (1 ≤ option_map_or number_of text default)
        × (option_map_or number_of text default ≤ max)
    go None at is = (rw (none (one_text-rows found id ∙ at)) refl, low, high)
    go (Some text) at (written, text_is, signed) =
        let read : ReadsOne G text answer = some text (one_text-rows found id ∙ at) in
        let number = signed_reads E G 32 1 max written answer (rw text_is at read) only fits signed in
        let read_ok : G text (Ok number.0) = rw number.1 at read in
        let value : number.0 ≡ number_of text = (only text (Ok number.0) read_ok).1 in
        (rw number.1 value, rw (← value) number.2, rw (← value) number.3)

-- The same for a number that `get_one` reads as `u32`.
pub u32_is : (found : Found) (id : Text) (max default : ℕ) (answer : Option ℕ) (result : ℕ) → result ≡ unwrap_or answer default
    → max < 2 ^ 32 → 1 ≤ default → default ≤ max → IsNumber max id (rows_of found) → (one_text found id ≡ None → answer ≡ None)
    → ((text : List ℕ) → one_text found id ≡ Some text
    → ReadsOne (λ text read. ParsesUnsigned 32 10 text read × ExplainsUnsignedError 10 text read × HasUnsignedDigitsIfOk text read)
    text answer)
    → (result ≡ number_or default id (rows_of found)) × (1 ≤ number_or default id (rows_of found))
    × (number_or default id (rows_of found) ≤ max)
u32_is found id max default answer result result_is fits low high is none some =
    let number = number_is _ (λ text read. ParsesUnsigned 32 10 text read × ExplainsUnsignedError 10 text read
    × HasUnsignedDigitsIfOk text read) found id max default answer (λ text read parses. parses.0) fits low high is none some in
    (result_is ∙ number.0, number.1, number.2)

-- The text of an option, or the default if the option is not given.
pub text_is : (found : Found) (id : Text) (answer : Option (Bor Text)) (result default : Bor Text) → result ≡ unwrap_or answer default
    → option_map (λ text. text.now) answer ≡ first_value found id
    → result.now ≡ unwrap_or (first_of id (rows_of found)) default.now
text_is found id answer result default result_is is =
    ap (λ (text : Bor Text). text.now) result_is ∙ go answer ∙ ap (λ text. unwrap_or text default.now) (is ∙ first_value-rows found id)
  where
    go : (answer : Option (Bor Text)) → (unwrap_or answer default).now ≡ unwrap_or (option_map (λ text. text.now) answer) default.now
    go None = refl
    go (Some text) = refl

-- The text of an option, if it is given.
pub given_text_is : (found : Found) (id : Text) (answer : Option (Bor Text)) → option_map (λ text. text.now) answer ≡ first_value found id
    → option_map (λ (text : Bor Text). text.now) answer ≡ first_of id (rows_of found)
given_text_is found id answer is = is ∙ first_value-rows found id

-- The arguments that are not options, or the default if there are none.
pub words_are : (found : Found) (id : Text) (answer : Option (Bor (List (Bor Text)))) (result default : Bor (List (Bor Text)))
    → result ≡ unwrap_or answer default
    → option_map (λ words. nows words.now) answer ≡ option_map raw_values (matched_of found id)
    → nows result.now ≡ unwrap_or (all_of id (rows_of found)) (nows default.now)
words_are found id answer result default result_is is =
    ap (λ (words : Bor (List (Bor Text))). nows words.now) result_is ∙ go answer
    ∙ ap (λ words. unwrap_or words (nows default.now)) (is ∙ raw_values-rows found id)
  where
    go : (answer : Option (Bor (List (Bor Text))))
        → nows (unwrap_or answer default).now ≡ unwrap_or (option_map (λ words. nows words.now) answer) (nows default.now)
    go None = refl
    go (Some words) = refl

-- The arguments that name targets; none by default.
pub targets_are : (found : Found) (answer : Option (Bor (List (Bor Text)))) (result none : Bor (List (Bor Text)))
    → result ≡ unwrap_or answer none → none.now ≡ []
    → option_map (λ words. nows words.now) answer ≡ option_map raw_values (matched_of found (codes "target"))
    → nows result.now ≡ targets_of (rows_of found)
targets_are found answer result none result_is empty is =
    words_are found (codes "target") answer result none result_is is
    ∙ ap (λ words. unwrap_or (all_of (codes "target") (rows_of found)) (nows words)) empty
