-- Examples of command lines, computed: the jobs that they describe, and which of them are rejected or request help.
use Rattle.std.proofs.Common.{◌≡◌, ℕ, Bool, true, false, List, [], ◌∷◌, Some, None, refl}
use Rattle.std.specs.Prelude.{codes}
use Rattle.std.specs.List.{AllByRecursion}
use Rattle.clap.proofs.OnLiterals.{clap_on_literals}
use Rattle.redo_options.specs.declared.options.Options.{Options}
use Rattle.redo_args.specs.declared.words_fault.WordsFault.TheVariants.{Help, Refused}
use Rattle.redo_args.specs.CommandLine.{redo_log}
use Rattle.redo_args.specs.Job.{JobParts}
use Rattle.redo_args.specs.Words.{fault_of_words, parse_parts}

record Row : Type 0 where
  words : List (List ℕ)
  parts_are : JobParts

abbrev options : Bool → Bool → Bool → Bool → Bool → Options
options recursive unchanged details debug_locks debug_pids = record {
  recursive = recursive;
  unchanged = unchanged;
  details = details;
  debug_locks = debug_locks;
  debug_pids = debug_pids;
}

-- A row: the arguments, and their options, directory, number of senders, capacity and targets.
abbrev asks : List (List ℕ) → Options → List ℕ → ℕ → ℕ → List (List ℕ) → Row
asks words shown dir senders capacity targets =
    record { words = words; parts_are = record { options = shown; dir = dir; senders = senders; capacity = capacity; targets = targets } }

abbrev plain : Options
plain = options false false true false false

abbrev jobs : List Row
jobs =
    asks (codes "all" ∷ []) plain (codes ".") 4 64 (codes "all" ∷ []) ∷
    asks (codes "-r" ∷ codes "all" ∷ []) (options true false true false false) (codes ".") 4 64 (codes "all" ∷ []) ∷
    asks (codes "-r" ∷ codes "-u" ∷ codes "--no-details" ∷ codes "--debug-locks" ∷ codes "--dir" ∷ codes "d" ∷ codes "--senders" ∷ codes "2"
    ∷ codes "--capacity" ∷ codes "1" ∷ codes "--" ∷ codes "-x" ∷ [])
    (options true true false true false) (codes "d") 2 1 (codes "-x" ∷ []) ∷
    asks (codes "--debug-pids" ∷ codes "all" ∷ []) (options false false true false true) (codes ".") 4 64 (codes "all" ∷ []) ∷
    asks (codes "b" ∷ codes "-ru" ∷ codes "--dir=" ∷ [] ∷ codes "--senders=64" ∷ codes "-" ∷ codes "--capacity=65536" ∷ [])
    (options true true true false false) [] 64 65536 (codes "b" ∷ [] ∷ codes "-" ∷ []) ∷
    []

these_jobs : AllByRecursion (λ row. (fault_of_words row.words ≡ None) × (parse_parts row.words ≡ row.parts_are)) jobs
unfolding redo_log clap_on_literals
these_jobs = ((refl, refl), ((refl, refl), ((refl, refl), ((refl, refl), ((refl, refl), tt)))))

abbrev refused : List (List (List ℕ))
refused =
    [] ∷
    (codes "-f" ∷ codes "all" ∷ []) ∷
    (codes "--senders" ∷ codes "0" ∷ codes "all" ∷ []) ∷
    (codes "--senders" ∷ codes "65" ∷ codes "all" ∷ []) ∷
    (codes "--capacity" ∷ codes "65537" ∷ codes "all" ∷ []) ∷
    (codes "--dir" ∷ codes "d" ∷ []) ∷
    (codes "all" ∷ codes "--dir" ∷ []) ∷
    (codes "-r" ∷ codes "-r" ∷ codes "all" ∷ []) ∷
    (codes "--debug-pids" ∷ codes "--debug-pids" ∷ codes "all" ∷ []) ∷
    (codes "--recursive=true" ∷ codes "all" ∷ []) ∷
    (codes "-f" ∷ codes "--help" ∷ []) ∷
    []

these_refused : AllByRecursion (λ words. fault_of_words words ≡ Some Refused) refused
unfolding redo_log clap_on_literals
these_refused = (refl, (refl, (refl, (refl, (refl, (refl, (refl, (refl, (refl, (refl, (refl, tt)))))))))))

abbrev asking_for_help : List (List (List ℕ))
asking_for_help =
    (codes "--help" ∷ []) ∷
    (codes "-h" ∷ []) ∷
    (codes "all" ∷ codes "--help" ∷ []) ∷
    (codes "-rh" ∷ codes "all" ∷ []) ∷
    []

these_ask_for_help : AllByRecursion (λ words. fault_of_words words ≡ Some Help) asking_for_help
unfolding redo_log clap_on_literals
these_ask_for_help = (refl, (refl, (refl, (refl, tt))))
