-- Examples of explanations of arguments that describe no job, computed.
use Rattle.std.proofs.Common.{◌≡◌, ℕ, List, [], ◌∷◌, replicate, take, refl}
use Rattle.std.specs.Prelude.{codes}
use Rattle.std.specs.Fmt.{digits}
use Rattle.std.specs.List.{AllByRecursion}
use Rattle.clap.proofs.OnLiterals.{clap_on_literals}
use Rattle.redo_args.specs.CommandLine.{redo_log}
use Rattle.redo_args.specs.Rejection.{rejected_within}
use Rattle.redo_args.specs.declared.words_fault.WordsFault.{WordsFault}
use Rattle.redo_args.specs.declared.words_fault.WordsFault.TheVariants as words
use Rattle.redo_command.specs.Explanation.{fault_explanation_as, rejection_explanation}

record Row : Type 0 where
  arguments : List (List ℕ)
  fault : WordsFault
  text_is : List ℕ

abbrev explains : List (List ℕ) → WordsFault → List ℕ → Row
explains arguments fault text = record { arguments = arguments; fault = fault; text_is = text }

abbrev rows : List Row
rows =
    explains [] words.Refused (codes "redo-log: no target; try --help\n") ∷
    explains (codes "--recursiv" ∷ []) words.Refused (codes "redo-log: unknown option '--recursiv'; try --help\n") ∷
    explains (codes "--recursiv" ∷ []) words.Help [] ∷
    explains (codes "--recursiv" ∷ []) words.OutOfMemory
    (codes "redo-log: no memory or no thread was left; --senders 1 needs the least, and ulimit -v shows a limit on memory\n") ∷
    []

these_explanations : AllByRecursion
    (λ row. fault_explanation_as (codes "redo-log") redo_log row.arguments row.fault ≡ row.text_is) rows
unfolding redo_log clap_on_literals rejected_within digits
these_explanations = (refl, (refl, (refl, (refl, tt))))

-- The beginning of the explanation of `n` arguments: of 1,000 the rejected one is looked for, and of 1,001 it isn't.
abbrev beginning : ℕ → List ℕ
beginning n = take 2 (rejection_explanation [] redo_log (replicate n (codes "a")))

these_thousands : (beginning 1000 ≡ codes ": ") × (beginning 1001 ≡ [])
these_thousands = (refl, refl)
