-- Properties of the rows that `clap` finds in valid arguments, and of the job that is built from them.
use Rattle.std.specs.Prelude.{◌≡◌, ◌⊎◌, ℕ, ◌<◌, pos, List, IfSome, codes, length}
use Rattle.std.specs.Global.{Vec}
use Rattle.clap.specs.Lexer.{without_minus}
use Rattle.clap.specs.Values.{IsSignedIn}
use Rattle.clap.specs.Walk.{Row, Text, one_of}
use Rattle.redo_options.specs.Limits.{IsSenderCount, IsCapacity}
use Rattle.redo_options.specs.Arguments.{argument_bytes}
use Rattle.redo_options.specs.declared.options.Options.{Options}
use Rattle.redo_args.specs.Job.{JobParts, targets_of}

-- Whether `text` is one of the two values of an option without a value.
abbrev pub IsFlagText : Text → Type 0
IsFlagText text = (text ≡ codes "true") ⊎ (text ≡ codes "false")

abbrev pub IsFlag : Text → List Row → Type 0
IsFlag id rows = IfSome (one_of id rows) IsFlagText

-- Whether a text denotes a number from 1 to `greatest`. The number is read without a hyphen before it, which zero may have.
abbrev pub IsNumberTo : ℕ → Text → Type 0
IsNumberTo max text = (written : Text) × (text ≡ without_minus written) × IsSignedIn (pos 1) (pos max) written

abbrev pub IsNumber : ℕ → Text → List Row → Type 0
IsNumber max id rows = IfSome (one_of id rows) (IsNumberTo max)

-- Whether the rows of the arguments are ones that their rules allow.
pub record AreSound (rows : List Row) : Type 0 where
  pub recursive_is : IsFlag (codes "recursive") rows
  pub unchanged_is : IsFlag (codes "unchanged") rows
  pub details_are : IsFlag (codes "details") rows
  pub debug_locks_are : IsFlag (codes "debug_locks") rows
  pub debug_pids_are : IsFlag (codes "debug_pids") rows
  pub senders_are : IsNumber 64 (codes "senders") rows
  pub capacity_is : IsNumber 65536 (codes "capacity") rows
  pub some_target : 0 < length (targets_of rows)

-- The parts of a job with these fields. Its targets are stored as bytes.
abbrev pub parts_with : Options → List ℕ → ℕ → ℕ → List (Vec ℕ) → JobParts
parts_with options dir senders capacity targets = record { options = options; dir = dir; senders = senders; capacity = capacity; targets = argument_bytes targets }

-- Whether the numbers of a job are in range, and a target is requested.
pub record IsJob (parts : JobParts) : Type 0 where
  pub senders_are : IsSenderCount parts.senders
  pub capacity_is : IsCapacity parts.capacity
  pub some_target : 0 < length parts.targets
