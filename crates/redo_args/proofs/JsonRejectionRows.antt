-- Examples of rejected command lines, computed: which argument is rejected, and why.
use Rattle.std.proofs.Common.{◌≡◌, ℕ, List, [], ◌∷◌, refl}
use Rattle.std.specs.Prelude.{codes}
use Rattle.std.specs.List.{AllByRecursion}
use Rattle.clap.proofs.OnLiterals.{clap_on_literals}
use Rattle.redo_args.specs.Rejection.{rejected_within, rejection}
use Rattle.redo_args.specs.JsonCommandLine.{redo_log_json}

-- Rejected arguments, each with the text about them.
abbrev rejections : List (List (List ℕ) × List ℕ)
rejections =
    (codes "-r" ∷ [], codes "unknown option '-r'") ∷
    (codes "--every" ∷ codes "-ux" ∷ codes "all" ∷ [], codes "unknown option '-ux'") ∷
    (codes "all" ∷ codes "--title=t" ∷ [], codes "unknown option '--title=t'") ∷
    (codes "--senders" ∷ codes "65" ∷ codes "all" ∷ [], codes "--senders 65: not in 1 to 64") ∷
    (codes "--senders=0" ∷ [], codes "--senders=0: not in 1 to 64") ∷
    (codes "all" ∷ codes "--output" ∷ [], codes "--output: a value is missing") ∷
    (codes "--dir" ∷ codes "--every" ∷ [], codes "--dir: a value is missing") ∷
    (codes "--baseline" ∷ codes "--every" ∷ [], codes "--baseline: a value is missing") ∷
    (codes "--baseline" ∷ codes "a" ∷ codes "--baseline=b" ∷ [], codes "--baseline=b: this option is given twice") ∷
    (codes "--every" ∷ codes "all" ∷ codes "--every" ∷ [], codes "--every: this option is given twice") ∷
    (codes "-u" ∷ codes "--unchanged" ∷ codes "a" ∷ [], codes "--unchanged: this option is given twice") ∷
    (codes "--output" ∷ codes "a" ∷ codes "--output" ∷ codes "b" ∷ [], codes "--output b: this option is given twice") ∷
    (codes "--every=all" ∷ codes "a" ∷ [], codes "--every=all: this option takes no value") ∷
    []

these_rejections : AllByRecursion (λ row. rejection redo_log_json row.0 ≡ row.1) rejections
unfolding redo_log_json clap_on_literals rejected_within
these_rejections = (refl, (refl, (refl, (refl, (refl, (refl, (refl, (refl, (refl, (refl, (refl, (refl, (refl, tt)))))))))))))
