-- What holds for the rows that `clap` finds in valid arguments, and for the job that is built from them.
use Rattle.std.specs.Prelude.{ℕ, ◌<◌, Bool, List, Option, codes, length}
use Rattle.std.specs.Global.{Vec}
use Rattle.clap.specs.Walk.{Row}
use Rattle.redo_options.specs.Limits.{IsSenderCount}
use Rattle.redo_options.specs.Arguments.{argument_bytes}
use Rattle.redo_args.specs.Job.{targets_or_all}
use Rattle.redo_args.specs.Private.Matches.{IsFlag, IsNumber}
use Rattle.redo_args.specs.JsonJob.{JsonParts}

-- Whether the rows of the arguments are ones that their rules allow.
pub record AreSound (rows : List Row) : Type 0 where
  pub unchanged_is : IsFlag (codes "unchanged") rows
  pub every_is : IsFlag (codes "every") rows
  pub senders_are : IsNumber 64 (codes "senders") rows
  pub some_target : 0 < length (targets_or_all rows)

-- The parts of a job with these fields. Its targets are stored as bytes.
abbrev pub parts_with : List ℕ → Option (List ℕ) → Option (List ℕ) → Bool → Bool → ℕ → List (Vec ℕ) → JsonParts
parts_with dir baseline output unchanged every senders targets = record {
  dir = dir;
  baseline = baseline;
  output = output;
  unchanged = unchanged;
  every = every;
  senders = senders;
  targets = argument_bytes targets;
}

-- Whether the number of senders of a job is in range, and a target is requested.
pub record IsJsonJob (parts : JsonParts) : Type 0 where
  pub senders_are : IsSenderCount parts.senders
  pub some_target : 0 < length parts.targets
