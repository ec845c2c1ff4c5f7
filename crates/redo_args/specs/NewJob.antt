-- A job: what the command-line arguments ask for, computed from the values that `clap` found.
--
-- The values are a list of rows, one for each argument of the command line that has a value, given or by default. A row is
-- looked up by the id of its argument.
use Rattle.std.specs.Prelude.{ℕ, Bool, List, [], Option, codes, unwrap_or}
use Rattle.clap.specs.Walk.{Row, first_of}
use Rattle.redo_args.specs.Job.{dir_of, is_on, number_or, targets_or_all}

-- The baseline's directory, the capture directory, the output file, whether targets that needed no rebuild are included, whether all other
-- listed targets follow, the number of senders, and the arguments that name the requested targets.
pub record NewParts : Type 0 where
  pub baseline : List ℕ
  pub dir : List ℕ
  pub output : Option (List ℕ)
  pub unchanged : Bool
  pub every : Bool
  pub senders : ℕ
  pub targets : List (List ℕ)

-- The baseline is given, because a command line without it is rejected.
abbrev pub new_parts_of : List Row → NewParts
new_parts_of rows = record {
  baseline = unwrap_or (first_of (codes "baseline") rows) [];
  dir = dir_of rows;
  output = first_of (codes "output") rows;
  unchanged = is_on (codes "unchanged") rows;
  every = is_on (codes "every") rows;
  senders = number_or 4 (codes "senders") rows;
  targets = targets_or_all rows;
}
