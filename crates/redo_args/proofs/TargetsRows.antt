-- Examples of targets that need not be named, computed.
use Rattle.std.proofs.Common.{◌≡◌, ℕ, List, [], ◌∷◌, None, replicate, refl}
use Rattle.std.specs.Prelude.{codes}
use Rattle.std.specs.List.{AllByRecursion}
use Rattle.clap.proofs.OnLiterals.{clap_on_literals}
use Rattle.clap.specs.Faults.{fault_of}
use Rattle.clap.specs.Simple.{App, matches_of}
use Rattle.redo_args.specs.CommandLine.{optional_words_rule, plain, with_rules}
use Rattle.redo_args.specs.Job.{targets_or_all}
use Rattle.redo_args.specs.Words.{fault_of_first}

-- A command line with no other arguments.
abbrev app : App
app = with_rules (optional_words_rule (codes "target") ∷ []) (plain (codes "command"))

-- Arguments, each with the requested targets.
abbrev requests : List (List (List ℕ) × List (List ℕ))
requests =
    ([], codes "all" ∷ []) ∷
    (codes "b" ∷ codes "a" ∷ codes "b" ∷ [], codes "b" ∷ codes "a" ∷ codes "b" ∷ []) ∷
    (codes "--" ∷ codes "-x" ∷ [] ∷ [], codes "-x" ∷ [] ∷ []) ∷
    (replicate 101 (codes "a"), replicate 101 (codes "a")) ∷
    []

these_requests
    : AllByRecursion (λ row. (fault_of_first (fault_of app row.0) ≡ None) × (targets_or_all (matches_of app row.0) ≡ row.1)) requests
unfolding clap_on_literals
these_requests = ((refl, refl), ((refl, refl), ((refl, refl), ((refl, refl), tt))))
