-- A job: what the command-line arguments ask for, computed from the values that `clap` found.
--
-- The values are a list of rows, one for each argument of the command line that has a value, given or by default. A row is
-- looked up by the id of its argument.
use Rattle.std.specs.Prelude.{ℕ, Bool, false, List, [], ◌∷◌, codes, unwrap_or}
use Rattle.std.specs.Option.{option_map_or}
use Rattle.std.specs.Str.{bytes_eq}
use Rattle.std.specs.Str.Parse.{digits_value, without_leading_plus}
use Rattle.clap.specs.Walk.{Row, Text, all_of, first_of, one_of}
use Rattle.redo_options.specs.declared.options.Options.{Options}

-- The options of the text, the capture directory, the number of senders, the capacity of the mailbox, and the arguments that
-- name the requested targets.
pub record JobParts : Type 0 where
  pub options : Options
  pub dir : List ℕ
  pub senders : ℕ
  pub capacity : ℕ
  pub targets : List (List ℕ)

-- ---- an option

-- Whether `text`, the value of an option without a value, is `true`; otherwise it is `false`.
abbrev pub is_true : Text → Bool
is_true text = bytes_eq text (codes "true")

abbrev pub is_on : Text → List Row → Bool
is_on id rows = option_map_or is_true (one_of id rows) false

abbrev pub options_of : List Row → Options
options_of rows = record {
  recursive = is_on (codes "recursive") rows;
  unchanged = is_on (codes "unchanged") rows;
  details = is_on (codes "details") rows;
  debug_locks = is_on (codes "debug_locks") rows;
  debug_pids = is_on (codes "debug_pids") rows;
}

-- ---- a value

-- The number that decimal digits denote, optionally after a plus sign.
abbrev pub number_of : Text → ℕ
number_of text = digits_value 10 (without_leading_plus text)

-- The number of an option, or `default` if the option is not given.
abbrev pub number_or : ℕ → Text → List Row → ℕ
number_or default id rows = option_map_or number_of (one_of id rows) default

abbrev pub dir_of : List Row → Text
dir_of rows = unwrap_or (first_of (codes "dir") rows) (codes ".")

abbrev pub targets_of : List Row → List Text
targets_of rows = unwrap_or (all_of (codes "target") rows) []

-- The arguments that are not options, or `all` if there are none.
abbrev pub targets_or_all : List Row → List Text
targets_or_all rows = unwrap_or (all_of (codes "target") rows) (codes "all" ∷ [])

-- ---- all of it

abbrev pub parts_of : List Row → JobParts
parts_of rows = record {
  options = options_of rows;
  dir = dir_of rows;
  senders = number_or 4 (codes "senders") rows;
  capacity = number_or 64 (codes "capacity") rows;
  targets = targets_of rows;
}
