-- Examples of command lines, computed: the jobs that they describe, and which of them are rejected or request help.
use Rattle.std.proofs.Common.{◌≡◌, ℕ, Bool, true, false, List, [], ◌∷◌, Option, Some, None, replicate, refl}
use Rattle.std.specs.Prelude.{codes}
use Rattle.std.specs.List.{AllByRecursion}
use Rattle.clap.proofs.OnLiterals.{clap_on_literals}
use Rattle.redo_args.specs.declared.words_fault.WordsFault.TheVariants.{Help, Refused}
use Rattle.redo_args.specs.HtmlCommandLine.{redo_log_html}
use Rattle.redo_args.specs.HtmlJob.{PageParts}
use Rattle.redo_args.specs.HtmlWords.{html_fault_of_words, parse_html_parts}

record Row : Type 0 where
  words : List (List ℕ)
  parts_are : PageParts

-- A row: the arguments, and their directory, baseline, output file, title, options, number of bytes, number of senders and targets.
abbrev compares : List (List ℕ) → List ℕ → Option (List ℕ) → Option (List ℕ) → Option (List ℕ) → Bool → Bool → ℕ → ℕ → List (List ℕ) → Row
compares words dir baseline output title unchanged debug_locks max_bytes senders targets =
    record {
      words = words;
      parts_are =
          record {
            dir = dir;
            baseline = baseline;
            output = output;
            title = title;
            unchanged = unchanged;
            debug_locks = debug_locks;
            max_bytes = max_bytes;
            senders = senders;
            targets = targets;
          };
    }

-- A row without a baseline.
abbrev asks : List (List ℕ) → List ℕ → Option (List ℕ) → Option (List ℕ) → Bool → Bool → ℕ → ℕ → List (List ℕ) → Row
asks words dir output title unchanged debug_locks max_bytes senders targets =
    compares words dir None output title unchanged debug_locks max_bytes senders targets

abbrev jobs : List Row
jobs =
    asks [] (codes ".") None None false false 16000000 4 (codes "all" ∷ []) ∷
    asks (codes "b" ∷ codes "a" ∷ []) (codes ".") None None false false 16000000 4 (codes "b" ∷ codes "a" ∷ []) ∷
    asks (codes "--dir" ∷ codes "d" ∷ codes "--output" ∷ codes "f" ∷ codes "--title" ∷ codes "t" ∷ codes "-u" ∷ codes "--senders"
    ∷ codes "2" ∷ codes "--" ∷ codes "-x" ∷ []) (codes "d") (Some (codes "f"))
    (Some (codes "t")) true false 16000000 2 (codes "-x" ∷ []) ∷
    asks (codes "--unchanged" ∷ codes "--debug-locks" ∷ codes "--title=" ∷ codes "--output=-" ∷ []) (codes ".") (Some (codes "-"))
    (Some []) true true 16000000 4 (codes "all" ∷ []) ∷
    asks (codes "b" ∷ codes "--dir=" ∷ [] ∷ codes "--senders=64" ∷ codes "-" ∷ []) [] None None false false 16000000 64
    (codes "b" ∷ [] ∷ codes "-" ∷ []) ∷
    asks (codes "--max-bytes" ∷ codes "0" ∷ []) (codes ".") None None false false 0 4 (codes "all" ∷ []) ∷
    asks (codes "--max-bytes=18446744073709551615" ∷ codes "--senders=5" ∷ []) (codes ".") None None false false 18446744073709551615 5
    (codes "all" ∷ []) ∷
    []

these_jobs : AllByRecursion (λ row. (html_fault_of_words row.words ≡ None) × (parse_html_parts row.words ≡ row.parts_are)) jobs
unfolding redo_log_html clap_on_literals
these_jobs = ((refl, refl), ((refl, refl), ((refl, refl), ((refl, refl), ((refl, refl), ((refl, refl), ((refl, refl), tt)))))))

-- A baseline, alone, after `=`, empty, and beside other options.
abbrev baselines : List Row
baselines =
    compares (codes "--baseline" ∷ codes "d" ∷ []) (codes ".") (Some (codes "d")) None None false false 16000000 4 (codes "all" ∷ []) ∷
    compares (codes "--baseline=d" ∷ codes "--dir=e" ∷ codes "--output=f" ∷ codes "--title=t" ∷ codes "a" ∷ [])
    (codes "e") (Some (codes "d")) (Some (codes "f")) (Some (codes "t")) false false 16000000 4 (codes "a" ∷ []) ∷
    compares (codes "a" ∷ codes "--baseline=" ∷ codes "-u" ∷ []) (codes ".") (Some []) None None true false 16000000 4 (codes "a" ∷ []) ∷
    compares (codes "--" ∷ codes "--baseline" ∷ codes "d" ∷ [])
    (codes ".") None None None false false 16000000 4 (codes "--baseline" ∷ codes "d" ∷ []) ∷
    []

these_baselines : AllByRecursion (λ row. (html_fault_of_words row.words ≡ None) × (parse_html_parts row.words ≡ row.parts_are)) baselines
unfolding redo_log_html clap_on_literals
these_baselines = ((refl, refl), ((refl, refl), ((refl, refl), ((refl, refl), tt))))

abbrev refused : List (List (List ℕ))
refused =
    (codes "-r" ∷ codes "all" ∷ []) ∷
    (codes "--no-details" ∷ codes "all" ∷ []) ∷
    (codes "--senders" ∷ codes "0" ∷ codes "all" ∷ []) ∷
    (codes "--senders" ∷ codes "65" ∷ codes "all" ∷ []) ∷
    (codes "--max-bytes" ∷ codes "18446744073709551616" ∷ codes "all" ∷ []) ∷
    (codes "--max-bytes" ∷ codes "-1" ∷ codes "all" ∷ []) ∷
    (codes "--max-bytes" ∷ codes "1.5" ∷ codes "all" ∷ []) ∷
    (codes "--max-bytes" ∷ []) ∷
    (codes "--capacity" ∷ codes "1" ∷ codes "all" ∷ []) ∷
    (codes "all" ∷ codes "--dir" ∷ []) ∷
    (codes "all" ∷ codes "--output" ∷ []) ∷
    (codes "--output" ∷ codes "a" ∷ codes "--output" ∷ codes "b" ∷ []) ∷
    (codes "--baseline" ∷ []) ∷
    (codes "--baseline" ∷ codes "a" ∷ codes "--baseline" ∷ codes "b" ∷ []) ∷
    (codes "-u" ∷ codes "-u" ∷ codes "all" ∷ []) ∷
    (codes "--unchanged=true" ∷ codes "all" ∷ []) ∷
    (codes "-f" ∷ codes "--help" ∷ []) ∷
    []

these_refused : AllByRecursion (λ words. html_fault_of_words words ≡ Some Refused) refused
unfolding redo_log_html clap_on_literals
these_refused = (
  refl,
  (refl, (refl, (refl, (refl, (refl, (refl, (refl, (refl, (refl, (refl, (refl, (refl, (refl, (refl, (refl, (refl, tt)))))))))))))))),
)

abbrev asking_for_help : List (List (List ℕ))
asking_for_help =
    (codes "--help" ∷ []) ∷
    (codes "-h" ∷ []) ∷
    (codes "all" ∷ codes "--help" ∷ []) ∷
    (codes "-uh" ∷ codes "all" ∷ []) ∷
    []

these_ask_for_help : AllByRecursion (λ words. html_fault_of_words words ≡ Some Help) asking_for_help
unfolding redo_log_html clap_on_literals
these_ask_for_help = (refl, (refl, (refl, (refl, tt))))

-- A hundred and one arguments request as many targets.
many_targets : (parse_html_parts (replicate 101 (codes "a"))).targets ≡ replicate 101 (codes "a")
unfolding redo_log_html clap_on_literals
many_targets = refl
