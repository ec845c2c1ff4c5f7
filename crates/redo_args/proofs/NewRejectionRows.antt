-- Examples of rejected command lines, computed: which argument is rejected, and why.
use Rattle.std.proofs.Common.{◌≡◌, ℕ, List, [], ◌∷◌, refl}
use Rattle.std.specs.Prelude.{codes}
use Rattle.std.specs.List.{AllByRecursion}
use Rattle.clap.proofs.OnLiterals.{clap_on_literals}
use Rattle.redo_args.specs.Rejection.{rejected_within, rejection}
use Rattle.redo_args.specs.NewCommandLine.{redo_log_new}

-- Rejected arguments, each with the text about them.
abbrev rejections : List (List (List ℕ) × List ℕ)
rejections =
    ([], codes "no --baseline DIR") ∷
    (codes "all" ∷ [], codes "no --baseline DIR") ∷
    (codes "--dir" ∷ codes "d" ∷ codes "-u" ∷ [], codes "no --baseline DIR") ∷
    (codes "--" ∷ codes "--baseline" ∷ codes "b" ∷ [], codes "no --baseline DIR") ∷
    (codes "--baseline" ∷ [], codes "--baseline: a value is missing") ∷
    (codes "--baseline" ∷ codes "--every" ∷ [], codes "--baseline: a value is missing") ∷
    (codes "--baseline" ∷ codes "a" ∷ codes "--baseline=b" ∷ [], codes "--baseline=b: this option is given twice") ∷
    (codes "--baseline" ∷ codes "b" ∷ codes "-r" ∷ [], codes "unknown option '-r'") ∷
    (codes "-x" ∷ codes "--baseline" ∷ codes "b" ∷ [], codes "unknown option '-x'") ∷
    (codes "--baseline=b" ∷ codes "--senders" ∷ codes "65" ∷ codes "all" ∷ [], codes "--senders 65: not in 1 to 64") ∷
    (codes "--baseline=b" ∷ codes "all" ∷ codes "--output" ∷ [], codes "--output: a value is missing") ∷
    (codes "--baseline=b" ∷ codes "-u" ∷ codes "--unchanged" ∷ codes "a" ∷ [], codes "--unchanged: this option is given twice") ∷
    (codes "--baseline=b" ∷ codes "--every=all" ∷ [], codes "--every=all: this option takes no value") ∷
    []

these_rejections : AllByRecursion (λ row. rejection redo_log_new row.0 ≡ row.1) rejections
unfolding redo_log_new clap_on_literals rejected_within
these_rejections = (refl, (refl, (refl, (refl, (refl, (refl, (refl, (refl, (refl, (refl, (refl, (refl, (refl, tt)))))))))))))
