-- A job: what the command-line arguments ask for, computed from the values that `clap` found.
--
-- The values are a list of rows, one for each argument of the command line that has a value, given or by default. A row is
-- looked up by the id of its argument.
use Rattle.std.specs.Prelude.{ℕ, Bool, List, Option, codes}
use Rattle.clap.specs.Walk.{Row, first_of}
use Rattle.redo_args.specs.Job.{dir_of, is_on, number_or, targets_or_all}

-- The capture directory, the baseline's directory, the output file, whether targets that needed no rebuild are included, whether all other
-- listed targets follow, the number of senders, and the arguments that name the requested targets.
pub record JsonParts : Type 0 where
  pub dir : List ℕ
  pub baseline : Option (List ℕ)
  pub output : Option (List ℕ)
  pub unchanged : Bool
  pub every : Bool
  pub senders : ℕ
  pub targets : List (List ℕ)

abbrev pub json_parts_of : List Row → JsonParts
json_parts_of rows = record {
  dir = dir_of rows;
  baseline = first_of (codes "baseline") rows;
  output = first_of (codes "output") rows;
  unchanged = is_on (codes "unchanged") rows;
  every = is_on (codes "every") rows;
  senders = number_or 4 (codes "senders") rows;
  targets = targets_or_all rows;
}
