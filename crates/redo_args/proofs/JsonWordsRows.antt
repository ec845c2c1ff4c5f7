-- Examples of command lines, computed: the jobs that they describe, and which of them are rejected or request help.
use Rattle.std.proofs.Common.{◌≡◌, ℕ, Bool, true, false, List, [], ◌∷◌, Option, Some, None, replicate, refl}
use Rattle.std.specs.Prelude.{codes}
use Rattle.std.specs.List.{AllByRecursion}
use Rattle.clap.proofs.OnLiterals.{clap_on_literals}
use Rattle.redo_args.specs.declared.words_fault.WordsFault.TheVariants.{Help, Refused}
use Rattle.redo_args.specs.JsonCommandLine.{redo_log_json}
use Rattle.redo_args.specs.JsonJob.{JsonParts}
use Rattle.redo_args.specs.JsonWords.{json_fault_of_words, parse_json_parts}

record Row : Type 0 where
  words : List (List ℕ)
  parts_are : JsonParts

-- A row: the arguments, and their directory, baseline, output file, whether unchanged and all other targets are included, number of
-- senders, and targets.
abbrev compares : List (List ℕ) → List ℕ → Option (List ℕ) → Option (List ℕ) → Bool → Bool → ℕ → List (List ℕ) → Row
compares words dir baseline output unchanged every senders targets =
    record {
      words = words;
      parts_are =
          record {
            dir = dir;
            baseline = baseline;
            output = output;
            unchanged = unchanged;
            every = every;
            senders = senders;
            targets = targets;
          };
    }

-- A row without a baseline.
abbrev asks : List (List ℕ) → List ℕ → Option (List ℕ) → Bool → Bool → ℕ → List (List ℕ) → Row
asks words dir output unchanged every senders targets = compares words dir None output unchanged every senders targets

-- Whether arguments are valid and describe a job.
abbrev AsksFor : Row → Type 0
AsksFor row = (json_fault_of_words row.words ≡ None) × (parse_json_parts row.words ≡ row.parts_are)

-- No argument, and each option alone.
abbrev options : List Row
options =
    asks [] (codes ".") None false false 4 (codes "all" ∷ []) ∷
    asks (codes "--dir" ∷ codes "d" ∷ []) (codes "d") None false false 4 (codes "all" ∷ []) ∷
    asks (codes "-u" ∷ []) (codes ".") None true false 4 (codes "all" ∷ []) ∷
    asks (codes "--unchanged" ∷ []) (codes ".") None true false 4 (codes "all" ∷ []) ∷
    asks (codes "--every" ∷ []) (codes ".") None false true 4 (codes "all" ∷ []) ∷
    asks (codes "--output" ∷ codes "f" ∷ []) (codes ".") (Some (codes "f")) false false 4 (codes "all" ∷ []) ∷
    asks (codes "--senders" ∷ codes "2" ∷ []) (codes ".") None false false 2 (codes "all" ∷ []) ∷
    []

these_options : AllByRecursion AsksFor options
unfolding redo_log_json clap_on_literals
these_options = ((refl, refl), ((refl, refl), ((refl, refl), ((refl, refl), ((refl, refl), ((refl, refl), ((refl, refl), tt)))))))

-- Targets, values after `=`, arguments after `--`, and several options.
abbrev combinations : List Row
combinations =
    asks (codes "b" ∷ codes "a" ∷ []) (codes ".") None false false 4 (codes "b" ∷ codes "a" ∷ []) ∷
    asks (codes "--dir=d" ∷ codes "--output=-" ∷ codes "--senders=64" ∷ codes "a" ∷ [])
    (codes "d") (Some (codes "-")) false false 64 (codes "a" ∷ []) ∷
    asks (codes "--dir=" ∷ codes "b" ∷ [] ∷ codes "--output=" ∷ codes "-" ∷ codes "--senders=1" ∷ [])
    [] (Some []) false false 1 (codes "b" ∷ [] ∷ codes "-" ∷ []) ∷
    asks (codes "--every" ∷ codes "--" ∷ codes "-u" ∷ codes "--every" ∷ [])
    (codes ".") None false true 4 (codes "-u" ∷ codes "--every" ∷ []) ∷
    asks (codes "a" ∷ codes "-u" ∷ codes "a" ∷ codes "--every" ∷ codes "--output" ∷ codes "f" ∷ codes "--dir" ∷ codes "d"
    ∷ codes "--senders" ∷ codes "+5" ∷ [])
    (codes "d") (Some (codes "f")) true true 5 (codes "a" ∷ codes "a" ∷ []) ∷
    []

these_combinations : AllByRecursion AsksFor combinations
unfolding redo_log_json clap_on_literals
these_combinations = ((refl, refl), ((refl, refl), ((refl, refl), ((refl, refl), ((refl, refl), tt)))))

-- A baseline, alone, after `=`, empty, and beside other options.
abbrev baselines : List Row
baselines =
    compares (codes "--baseline" ∷ codes "d" ∷ []) (codes ".") (Some (codes "d")) None false false 4 (codes "all" ∷ []) ∷
    compares (codes "--baseline=d" ∷ codes "--dir=e" ∷ codes "--output=f" ∷ codes "a" ∷ [])
    (codes "e") (Some (codes "d")) (Some (codes "f")) false false 4 (codes "a" ∷ []) ∷
    compares (codes "a" ∷ codes "--baseline=" ∷ codes "--every" ∷ []) (codes ".") (Some []) None false true 4 (codes "a" ∷ []) ∷
    compares (codes "--" ∷ codes "--baseline" ∷ codes "d" ∷ [])
    (codes ".") None None false false 4 (codes "--baseline" ∷ codes "d" ∷ []) ∷
    []

these_baselines : AllByRecursion AsksFor baselines
unfolding redo_log_json clap_on_literals
these_baselines = ((refl, refl), ((refl, refl), ((refl, refl), ((refl, refl), tt))))

-- Options that are given twice.
abbrev given_twice : List (List (List ℕ))
given_twice =
    (codes "--dir" ∷ codes "a" ∷ codes "--dir" ∷ codes "b" ∷ []) ∷
    (codes "--baseline" ∷ codes "a" ∷ codes "--baseline" ∷ codes "b" ∷ []) ∷
    (codes "-u" ∷ codes "-u" ∷ []) ∷
    (codes "-u" ∷ codes "--unchanged" ∷ []) ∷
    (codes "-uu" ∷ []) ∷
    (codes "--every" ∷ codes "--every" ∷ []) ∷
    (codes "--output" ∷ codes "a" ∷ codes "--output" ∷ codes "b" ∷ []) ∷
    (codes "--senders" ∷ codes "1" ∷ codes "--senders" ∷ codes "1" ∷ []) ∷
    []

these_given_twice : AllByRecursion (λ words. json_fault_of_words words ≡ Some Refused) given_twice
unfolding redo_log_json clap_on_literals
these_given_twice = (refl, (refl, (refl, (refl, (refl, (refl, (refl, (refl, tt))))))))

-- Values that are out of range or missing, or that an option doesn't take.
abbrev bad_values : List (List (List ℕ))
bad_values =
    (codes "--senders" ∷ codes "0" ∷ []) ∷
    (codes "--senders" ∷ codes "65" ∷ []) ∷
    (codes "--senders" ∷ codes "-1" ∷ []) ∷
    (codes "--senders" ∷ codes "1.5" ∷ []) ∷
    (codes "--senders=" ∷ []) ∷
    (codes "--unchanged=true" ∷ []) ∷
    (codes "--every=all" ∷ []) ∷
    (codes "--dir" ∷ []) ∷
    (codes "--baseline" ∷ []) ∷
    (codes "all" ∷ codes "--output" ∷ []) ∷
    (codes "--senders" ∷ []) ∷
    (codes "--output" ∷ codes "--every" ∷ []) ∷
    []

these_bad_values : AllByRecursion (λ words. json_fault_of_words words ≡ Some Refused) bad_values
unfolding redo_log_json clap_on_literals
these_bad_values = (refl, (refl, (refl, (refl, (refl, (refl, (refl, (refl, (refl, (refl, (refl, (refl, tt))))))))))))

-- Unknown options.
abbrev unknown : List (List (List ℕ))
unknown =
    (codes "-r" ∷ codes "all" ∷ []) ∷
    (codes "-e" ∷ []) ∷
    (codes "--title" ∷ codes "t" ∷ []) ∷
    (codes "--max-bytes" ∷ codes "0" ∷ []) ∷
    (codes "--debug-locks" ∷ []) ∷
    (codes "--capacity" ∷ codes "1" ∷ []) ∷
    (codes "--version" ∷ []) ∷
    (codes "-f" ∷ codes "--help" ∷ []) ∷
    []

these_unknown : AllByRecursion (λ words. json_fault_of_words words ≡ Some Refused) unknown
unfolding redo_log_json clap_on_literals
these_unknown = (refl, (refl, (refl, (refl, (refl, (refl, (refl, (refl, tt))))))))

abbrev asking_for_help : List (List (List ℕ))
asking_for_help =
    (codes "--help" ∷ []) ∷
    (codes "-h" ∷ []) ∷
    (codes "all" ∷ codes "--help" ∷ []) ∷
    (codes "-uh" ∷ []) ∷
    (codes "--every" ∷ codes "-h" ∷ codes "--senders" ∷ codes "65" ∷ []) ∷
    []

these_ask_for_help : AllByRecursion (λ words. json_fault_of_words words ≡ Some Help) asking_for_help
unfolding redo_log_json clap_on_literals
these_ask_for_help = (refl, (refl, (refl, (refl, (refl, tt)))))

-- A hundred and one arguments request as many targets.
many_targets : (parse_json_parts (replicate 101 (codes "a"))).targets ≡ replicate 101 (codes "a")
unfolding redo_log_json clap_on_literals
many_targets = refl
