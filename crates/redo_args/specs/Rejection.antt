-- Why command-line arguments are rejected, as a text for people: which argument, and the reason.
use Rattle.std.specs.Prelude.{ℕ, zero, suc, ◌-◌, ◌==◌, ◌&&◌, ◌||◌, nat_eq, Bool, not, List, [], ◌∷◌, ◌++◌, Option, None, Some, take, length, get_or, codes, unwrap_or, if◌then◌else◌}
use Rattle.std.specs.List.{starts_with}
use Rattle.std.specs.Str.{bytes_eq}
use Rattle.clap.specs.Faults.{fault_of}
use Rattle.clap.specs.Kinds.{Kinds}
use Rattle.clap.specs.Simple.{App}
use Rattle.clap.specs.Values.{kind_text}
use Rattle.clap.specs.Walk.{Text}
use Rattle.clap.specs.declared.error.kind.ErrorKind.{ErrorKind}
use Rattle.clap.specs.declared.error.kind.ErrorKind.TheVariants as kind

-- ---- which argument

-- The kind of a fault as a list of kinds: empty without a fault.
abbrev pub kinds_of : Option ErrorKind → Kinds
kinds_of None = []
kinds_of (Some kind) = kind ∷ []

-- A text for the kind of a fault, empty if there is none. Faults of arguments have different texts if their kinds differ.
abbrev pub kind_name : Kinds → Text
kind_name [] = []
kind_name (kind ∷ kinds) = unwrap_or (kind_text kind) []

-- Whether the first `n` arguments alone have the same kind of fault as all of them.
abbrev pub fails_alike : App → List Text → ℕ → Bool
fails_alike app words n = bytes_eq (kind_name (fault_of app (take n words))) (kind_name (fault_of app words))

-- How many of the first `n` arguments there are up to the last one that changes the kind of the fault.
unfoldable pub rejected_within : App → List Text → ℕ → ℕ
rejected_within app words zero = 0
rejected_within app words (suc n) = if fails_alike app words n then rejected_within app words n else suc n

-- How many arguments there are up to the rejected one: the arguments before it fail differently or not at all, and from it on
-- they fail as all arguments do.
abbrev pub rejected_count : App → List Text → ℕ
rejected_count app words = rejected_within app words (length words)

-- Whether an argument is read as an option, and not as a value.
abbrev pub is_option : Text → Bool
is_option word = starts_with nat_eq word (codes "-") && not (length word == 1)

-- The last one of the first `n` arguments. The option before it comes first if it is a value.
abbrev pub argument_at : List Text → ℕ → Text
argument_at words n =
    if n == 0 then []
    else if n == 1 || is_option (get_or words (n - 1) []) then get_or words (n - 1) []
    else get_or words (n - 2) [] ++ codes " " ++ get_or words (n - 1) []

-- ---- the reason

-- Which numbers an option takes. `argument` begins with its name.
abbrev pub out_of_range : Text → Text
out_of_range argument =
    if starts_with nat_eq argument (codes "--senders") then codes ": not in 1 to 64"
    else if starts_with nat_eq argument (codes "--capacity") then codes ": not in 1 to 65536"
    else codes ": not in 0 to 18446744073709551615"

-- The mistake in a known option, except for its number.
abbrev pub mistake : ErrorKind → Text
mistake kind.InvalidValue = codes ": a value is missing"
mistake kind.TooManyValues = codes ": this option takes no value"
mistake kind.ArgumentConflict = codes ": this option is given twice"
mistake other = codes ": rejected"

-- What arguments lack: a target, if the command accepts a target alone, and otherwise the option that it requires.
abbrev pub missing : Kinds → Text
missing [] = codes "no target"
missing (kind ∷ kinds) = codes "no --baseline DIR"

-- The reason for a rejection, from the kind of the fault. `alone` is the fault of a target alone.
abbrev pub reason : Kinds → Kinds → Text → Text
reason alone [] argument = []
reason alone (kind.UnknownArgument ∷ kinds) argument = codes "unknown option '" ++ argument ++ codes "'"
reason alone (kind.ValueValidation ∷ kinds) argument = argument ++ out_of_range argument
reason alone (kind.MissingRequiredArgument ∷ kinds) argument = missing alone
reason alone (other ∷ kinds) argument = argument ++ mistake other

-- Why the arguments are rejected.
abbrev pub rejection : App → List Text → Text
rejection app words =
    reason (fault_of app (codes "all" ∷ [])) (fault_of app words) (argument_at words (rejected_count app words))
