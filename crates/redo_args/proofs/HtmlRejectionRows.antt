-- Examples of rejected command lines, computed: which argument is rejected, and why.
use Rattle.std.proofs.Common.{◌≡◌, ℕ, List, [], ◌∷◌, refl}
use Rattle.std.specs.Prelude.{codes}
use Rattle.std.specs.List.{AllByRecursion}
use Rattle.clap.proofs.OnLiterals.{clap_on_literals}
use Rattle.redo_args.specs.Rejection.{rejected_within, rejection}
use Rattle.redo_args.specs.HtmlCommandLine.{redo_log_html}

-- Rejected arguments, each with the text about them.
abbrev rejections : List (List (List ℕ) × List ℕ)
rejections =
    (codes "-r" ∷ [], codes "unknown option '-r'") ∷
    (codes "--max-bytes" ∷ codes "1k" ∷ [], codes "--max-bytes 1k: not in 0 to 18446744073709551615") ∷
    (codes "--senders=65" ∷ [], codes "--senders=65: not in 1 to 64") ∷
    (codes "all" ∷ codes "--output" ∷ [], codes "--output: a value is missing") ∷
    []

these_rejections : AllByRecursion (λ row. rejection redo_log_html row.0 ≡ row.1) rejections
unfolding redo_log_html clap_on_literals rejected_within
these_rejections = (refl, (refl, (refl, (refl, tt))))
