-- Properties of the rows that `clap` finds in valid arguments, and of the job that is built from them.
use Rattle.std.specs.Prelude.{ℕ, ◌<◌, Bool, List, Option, IfSome, codes, length}
use Rattle.std.specs.Global.{Vec}
use Rattle.clap.specs.Values.{IsUnsignedIn}
use Rattle.clap.specs.Walk.{Row, Text, one_of}
use Rattle.redo_options.specs.Limits.{IsSenderCount}
use Rattle.redo_options.specs.Arguments.{argument_bytes}
use Rattle.redo_args.specs.Job.{targets_or_all}
use Rattle.redo_args.specs.Private.Matches.{IsFlag, IsNumber}
use Rattle.redo_args.specs.HtmlJob.{PageParts}

-- Whether the text of an option is a number that `u64` can hold.
abbrev pub IsUnsigned : Text → List Row → Type 0
IsUnsigned id rows = IfSome (one_of id rows) (IsUnsignedIn 0 18446744073709551615)

-- Whether the rows of the arguments are ones that their rules allow.
pub record AreSound (rows : List Row) : Type 0 where
  pub unchanged_is : IsFlag (codes "unchanged") rows
  pub debug_locks_are : IsFlag (codes "debug_locks") rows
  pub max_bytes_are : IsUnsigned (codes "max-bytes") rows
  pub senders_are : IsNumber 64 (codes "senders") rows
  pub some_target : 0 < length (targets_or_all rows)

-- The parts of a job with these fields. Its targets are stored as bytes.
abbrev pub parts_with : List ℕ → Option (List ℕ) → Option (List ℕ) → Option (List ℕ) → Bool → Bool → ℕ → ℕ → List (Vec ℕ) → PageParts
parts_with dir baseline output title unchanged debug_locks max_bytes senders targets = record {
  dir = dir;
  baseline = baseline;
  output = output;
  title = title;
  unchanged = unchanged;
  debug_locks = debug_locks;
  max_bytes = max_bytes;
  senders = senders;
  targets = argument_bytes targets;
}

-- Whether the number of senders of a job is in range, and a target is requested.
pub record IsPageJob (parts : PageParts) : Type 0 where
  pub senders_are : IsSenderCount parts.senders
  pub some_target : 0 < length parts.targets
