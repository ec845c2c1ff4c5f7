-- The result of a getter of `ArgMatches` for an option with a number that `u64` can hold.
use Rattle.std.proofs.Common.{◌≡◌, ◌∙◌, ℕ, List, Option, Some, None, Ok, Err, Result, refl}
use Rattle.std.specs.Prelude.{IfSome, unwrap_or}
use Rattle.std.specs.Option.{option_map_or}
use Rattle.std.specs.Str.Parse.{ParsesUnsigned}
use Rattle.clap.specs.Matches.{ReadsOne, one_text}
use Rattle.clap.specs.Values.{IsUnsignedIn}
use Rattle.clap.specs.Walk.{Text, one_of, rows_of}
use Rattle.clap.specs.declared.parser.matches.Found.{Found}
use Rattle.clap.proofs.WalkLemmas.{one_text-rows}
use Rattle.redo_args.specs.Job.{number_of, number_or}
use Rattle.redo_args.specs.Private.HtmlMatches.{IsUnsigned}

-- The number of an option, or the default if the option is not given.
pub unsigned_is : (E : Type 0) (G : List ℕ → Result ℕ E → Type 0) (found : Found) (id : Text) (default : ℕ) (answer : Option ℕ)
    → ((text : List ℕ) (read : Result ℕ E) → G text read → ParsesUnsigned 64 10 text read) → IsUnsigned id (rows_of found)
    → (one_text found id ≡ None → answer ≡ None) → ((text : List ℕ) → one_text found id ≡ Some text → ReadsOne G text answer)
    → unwrap_or answer default ≡ number_or default id (rows_of found)
unsigned_is E G found id default answer only is none some = go (one_of id (rows_of found)) refl is
  where
    value : (text : Text) (read : Option ℕ) → IsUnsignedIn 0 18446744073709551615 text → ReadsOne G text read
        → unwrap_or read default ≡ number_of text
    value text (Some n) is read = (only text (Ok n) read).1
    value text None is read = absurd (only text (Err read.0) read.1 (is.0, is.1))

    go : (text : Option Text) → one_of id (rows_of found) ≡ text → IfSome text (IsUnsignedIn 0 18446744073709551615)
        → unwrap_or answer default ≡ option_map_or number_of text default
    go None at is = rw (none (one_text-rows found id ∙ at)) refl
    go (Some text) at is = value text answer is (some text (one_text-rows found id ∙ at))
