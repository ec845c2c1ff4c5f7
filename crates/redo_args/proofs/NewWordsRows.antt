-- Examples of command lines, computed: the jobs that they describe, and which of them are rejected or request help.
use Rattle.std.proofs.Common.{◌≡◌, ℕ, Bool, true, false, List, [], ◌∷◌, Option, Some, None, replicate, refl}
use Rattle.std.specs.Prelude.{codes}
use Rattle.std.specs.List.{AllByRecursion}
use Rattle.clap.proofs.OnLiterals.{clap_on_literals}
use Rattle.redo_args.specs.declared.words_fault.WordsFault.TheVariants.{Help, Refused}
use Rattle.redo_args.specs.NewCommandLine.{redo_log_new}
use Rattle.redo_args.specs.NewJob.{NewParts}
use Rattle.redo_args.specs.NewWords.{new_fault_of_words, parse_new_parts}

record Row : Type 0 where
  words : List (List ℕ)
  parts_are : NewParts

-- A row: the arguments, and their baseline, directory, output file, whether unchanged and all other targets are included, number of
-- senders, and targets.
abbrev asks : List (List ℕ) → List ℕ → List ℕ → Option (List ℕ) → Bool → Bool → ℕ → List (List ℕ) → Row
asks words baseline dir output unchanged every senders targets =
    record {
      words = words;
      parts_are =
          record {
            baseline = baseline;
            dir = dir;
            output = output;
            unchanged = unchanged;
            every = every;
            senders = senders;
            targets = targets;
          };
    }

-- Whether arguments are valid and describe a job.
abbrev AsksFor : Row → Type 0
AsksFor row = (new_fault_of_words row.words ≡ None) × (parse_new_parts row.words ≡ row.parts_are)

-- A baseline alone, and with each other option.
abbrev options : List Row
options =
    asks (codes "--baseline" ∷ codes "b" ∷ [])
    (codes "b") (codes ".") None false false 4 (codes "all" ∷ []) ∷
    asks (codes "--baseline=b" ∷ [])
    (codes "b") (codes ".") None false false 4 (codes "all" ∷ []) ∷
    asks (codes "--baseline" ∷ codes "b" ∷ codes "--dir" ∷ codes "d" ∷ [])
    (codes "b") (codes "d") None false false 4 (codes "all" ∷ []) ∷
    asks (codes "--baseline" ∷ codes "b" ∷ codes "-u" ∷ [])
    (codes "b") (codes ".") None true false 4 (codes "all" ∷ []) ∷
    asks (codes "--baseline" ∷ codes "b" ∷ codes "--unchanged" ∷ [])
    (codes "b") (codes ".") None true false 4 (codes "all" ∷ []) ∷
    asks (codes "--baseline" ∷ codes "b" ∷ codes "--every" ∷ [])
    (codes "b") (codes ".") None false true 4 (codes "all" ∷ []) ∷
    asks (codes "--baseline" ∷ codes "b" ∷ codes "--output" ∷ codes "f" ∷ [])
    (codes "b") (codes ".") (Some (codes "f")) false false 4 (codes "all" ∷ []) ∷
    asks (codes "--baseline" ∷ codes "b" ∷ codes "--senders" ∷ codes "2" ∷ [])
    (codes "b") (codes ".") None false false 2 (codes "all" ∷ []) ∷
    []

these_options : AllByRecursion AsksFor options
unfolding redo_log_new clap_on_literals
these_options = (
  (refl, refl),
  (
    (refl, refl),
    (
      (refl, refl),
      (
        (refl, refl),
        (
          (refl, refl),
          ((refl, refl), ((refl, refl), ((refl, refl), tt))),
        ),
      ),
    ),
  ),
)

-- Targets, values after `=`, empty values, arguments after `--`, and several options.
abbrev combinations : List Row
combinations =
    asks (codes "b" ∷ codes "--baseline" ∷ codes "c" ∷ codes "a" ∷ [])
    (codes "c") (codes ".") None false false 4 (codes "b" ∷ codes "a" ∷ []) ∷
    asks (codes "--dir=d" ∷ codes "--output=-" ∷ codes "--senders=64" ∷ codes "--baseline=b" ∷ codes "a" ∷ [])
    (codes "b") (codes "d") (Some (codes "-")) false false 64 (codes "a" ∷ []) ∷
    asks (codes "--dir=" ∷ codes "b" ∷ [] ∷ codes "--output=" ∷ codes "-" ∷ codes "--senders=1" ∷ codes "--baseline=" ∷ [])
    [] [] (Some []) false false 1 (codes "b" ∷ [] ∷ codes "-" ∷ []) ∷
    asks (codes "--every" ∷ codes "--baseline" ∷ codes "e" ∷ codes "--" ∷ codes "-u" ∷ codes "--baseline" ∷ [])
    (codes "e") (codes ".") None false true 4 (codes "-u" ∷ codes "--baseline" ∷ []) ∷
    asks (codes "a" ∷ codes "-u" ∷ codes "a" ∷ codes "--every" ∷ codes "--output" ∷ codes "f" ∷ codes "--dir" ∷ codes "d"
    ∷ codes "--senders" ∷ codes "+5" ∷ codes "--baseline" ∷ codes "all" ∷ [])
    (codes "all") (codes "d") (Some (codes "f")) true true 5 (codes "a" ∷ codes "a" ∷ []) ∷
    []

these_combinations : AllByRecursion AsksFor combinations
unfolding redo_log_new clap_on_literals
these_combinations = ((refl, refl), ((refl, refl), ((refl, refl), ((refl, refl), ((refl, refl), tt)))))

-- Command lines without a baseline.
abbrev without_baseline : List (List (List ℕ))
without_baseline =
    [] ∷
    (codes "all" ∷ []) ∷
    (codes "--dir" ∷ codes "d" ∷ []) ∷
    (codes "-u" ∷ codes "--every" ∷ codes "--output" ∷ codes "f" ∷ codes "--senders" ∷ codes "2" ∷ codes "all" ∷ []) ∷
    (codes "--" ∷ codes "--baseline" ∷ codes "b" ∷ []) ∷
    []

these_without_baseline : AllByRecursion (λ words. new_fault_of_words words ≡ Some Refused) without_baseline
unfolding redo_log_new clap_on_literals
these_without_baseline = (refl, (refl, (refl, (refl, (refl, tt)))))

-- Options that are given twice.
abbrev given_twice : List (List (List ℕ))
given_twice =
    (codes "--baseline" ∷ codes "a" ∷ codes "--baseline" ∷ codes "b" ∷ []) ∷
    (codes "--baseline" ∷ codes "b" ∷ codes "--dir" ∷ codes "a" ∷ codes "--dir" ∷ codes "b" ∷ []) ∷
    (codes "--baseline" ∷ codes "b" ∷ codes "-u" ∷ codes "-u" ∷ []) ∷
    (codes "--baseline" ∷ codes "b" ∷ codes "-u" ∷ codes "--unchanged" ∷ []) ∷
    (codes "--baseline" ∷ codes "b" ∷ codes "-uu" ∷ []) ∷
    (codes "--baseline" ∷ codes "b" ∷ codes "--every" ∷ codes "--every" ∷ []) ∷
    (codes "--baseline" ∷ codes "b" ∷ codes "--output" ∷ codes "a" ∷ codes "--output" ∷ codes "b" ∷ []) ∷
    (codes "--baseline" ∷ codes "b" ∷ codes "--senders" ∷ codes "1" ∷ codes "--senders" ∷ codes "1" ∷ []) ∷
    []

these_given_twice : AllByRecursion (λ words. new_fault_of_words words ≡ Some Refused) given_twice
unfolding redo_log_new clap_on_literals
these_given_twice = (refl, (refl, (refl, (refl, (refl, (refl, (refl, (refl, tt))))))))

-- Values that are out of range or missing, or that an option doesn't take.
abbrev bad_values : List (List (List ℕ))
bad_values =
    (codes "--baseline" ∷ codes "b" ∷ codes "--senders" ∷ codes "0" ∷ []) ∷
    (codes "--baseline" ∷ codes "b" ∷ codes "--senders" ∷ codes "65" ∷ []) ∷
    (codes "--baseline" ∷ codes "b" ∷ codes "--senders" ∷ codes "-1" ∷ []) ∷
    (codes "--baseline" ∷ codes "b" ∷ codes "--senders=" ∷ []) ∷
    (codes "--baseline" ∷ codes "b" ∷ codes "--unchanged=true" ∷ []) ∷
    (codes "--baseline" ∷ codes "b" ∷ codes "--every=all" ∷ []) ∷
    (codes "--baseline" ∷ codes "b" ∷ codes "--dir" ∷ []) ∷
    (codes "--baseline" ∷ []) ∷
    (codes "--baseline" ∷ codes "b" ∷ codes "all" ∷ codes "--output" ∷ []) ∷
    (codes "--baseline" ∷ codes "b" ∷ codes "--output" ∷ codes "--every" ∷ []) ∷
    []

these_bad_values : AllByRecursion (λ words. new_fault_of_words words ≡ Some Refused) bad_values
unfolding redo_log_new clap_on_literals
these_bad_values = (refl, (refl, (refl, (refl, (refl, (refl, (refl, (refl, (refl, (refl, tt))))))))))

-- Unknown options.
abbrev unknown : List (List (List ℕ))
unknown =
    (codes "--baseline" ∷ codes "b" ∷ codes "-r" ∷ codes "all" ∷ []) ∷
    (codes "--baseline" ∷ codes "b" ∷ codes "-e" ∷ []) ∷
    (codes "--baseline" ∷ codes "b" ∷ codes "--title" ∷ codes "t" ∷ []) ∷
    (codes "--baseline" ∷ codes "b" ∷ codes "--max-bytes" ∷ codes "0" ∷ []) ∷
    (codes "--baseline" ∷ codes "b" ∷ codes "--capacity" ∷ codes "1" ∷ []) ∷
    (codes "--version" ∷ []) ∷
    (codes "-f" ∷ codes "--help" ∷ []) ∷
    []

these_unknown : AllByRecursion (λ words. new_fault_of_words words ≡ Some Refused) unknown
unfolding redo_log_new clap_on_literals
these_unknown = (refl, (refl, (refl, (refl, (refl, (refl, (refl, tt)))))))

abbrev asking_for_help : List (List (List ℕ))
asking_for_help =
    (codes "--help" ∷ []) ∷
    (codes "-h" ∷ []) ∷
    (codes "all" ∷ codes "--help" ∷ []) ∷
    (codes "--baseline" ∷ codes "b" ∷ codes "-uh" ∷ []) ∷
    (codes "--every" ∷ codes "-h" ∷ codes "--senders" ∷ codes "65" ∷ []) ∷
    []

these_asking_for_help : AllByRecursion (λ words. new_fault_of_words words ≡ Some Help) asking_for_help
unfolding redo_log_new clap_on_literals
these_asking_for_help = (refl, (refl, (refl, (refl, (refl, tt)))))

-- A hundred and one arguments request as many targets.
many_targets : (parse_new_parts (codes "--baseline=b" ∷ replicate 101 (codes "a"))).targets ≡ replicate 101 (codes "a")
unfolding redo_log_new clap_on_literals
many_targets = refl
