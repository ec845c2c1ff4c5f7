-- Examples of rejected command lines, computed: which argument is rejected, and why.
use Rattle.std.proofs.Common.{◌≡◌, ℕ, List, [], ◌∷◌, None, Some, refl}
use Rattle.std.specs.Prelude.{codes}
use Rattle.std.specs.List.{AllByRecursion}
use Rattle.clap.proofs.OnLiterals.{clap_on_literals}
use Rattle.clap.specs.declared.error.kind.ErrorKind.TheVariants as kind
use Rattle.redo_args.specs.CommandLine.{redo_log}
use Rattle.redo_args.specs.Rejection.{kinds_of, missing, rejected_within, rejection}

-- Rejected arguments, each with the text about them.
abbrev rejections : List (List (List ℕ) × List ℕ)
rejections =
    ([], codes "no target") ∷
    (codes "-r" ∷ codes "--dir" ∷ codes "d" ∷ [], codes "no target") ∷
    (codes "--recursiv" ∷ codes "all" ∷ [], codes "unknown option '--recursiv'") ∷
    (codes "all" ∷ codes "-rx" ∷ codes "b" ∷ [], codes "unknown option '-rx'") ∷
    (codes "--senders" ∷ codes "100" ∷ codes "all" ∷ [], codes "--senders 100: not in 1 to 64") ∷
    (codes "all" ∷ codes "--senders=0" ∷ [], codes "--senders=0: not in 1 to 64") ∷
    (codes "--capacity" ∷ codes "-" ∷ codes "all" ∷ [], codes "--capacity -: not in 1 to 65536") ∷
    (codes "--senders" ∷ codes "3" ∷ codes "--dir" ∷ [], codes "--dir: a value is missing") ∷
    (codes "--dir" ∷ codes "-r" ∷ codes "all" ∷ [], codes "--dir: a value is missing") ∷
    (codes "-r" ∷ codes "all" ∷ codes "-r" ∷ codes "b" ∷ [], codes "-r: this option is given twice") ∷
    (codes "--dir" ∷ codes "a" ∷ codes "--dir" ∷ codes "b" ∷ codes "all" ∷ [], codes "--dir b: this option is given twice") ∷
    (codes "--recursive=yes" ∷ codes "all" ∷ [], codes "--recursive=yes: this option takes no value") ∷
    []

these_rejections : AllByRecursion (λ row. rejection redo_log row.0 ≡ row.1) rejections
unfolding redo_log clap_on_literals rejected_within
these_rejections = (refl, (refl, (refl, (refl, (refl, (refl, (refl, (refl, (refl, (refl, (refl, (refl, tt))))))))))))

these_kinds : (kinds_of None ≡ []) × (kinds_of (Some kind.InvalidValue) ≡ kind.InvalidValue ∷ [])
these_kinds = (refl, refl)

-- A command line that rejects a target alone lacks the option that it requires.
this_baseline : missing (kind.MissingRequiredArgument ∷ []) ≡ codes "no --baseline DIR"
this_baseline = refl
