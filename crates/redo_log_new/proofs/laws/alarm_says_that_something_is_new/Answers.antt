use Rattle.std.proofs.Common.{◌≡◌, ◌∙◌, ℕ, ◌==◌, ◌&&◌, nat_eq, Bool, true, false, List, [], ◌∷◌, Some, codes, refl, sym}
use Rattle.std.specs.Prelude.{slice_get}
use Rattle.std.specs.List.{starts_with}
use Rattle.redo_compare.specs.Baseline.{baseline_of}
use Rattle.redo_command.specs.Alarm.{is_alarm}
use Rattle.redo_new.specs.News.{options_of, shown_nodes}
use Rattle.redo_log_new.specs.Job.{job_news, shown_targets}
use Rattle.redo_log_new.proofs.laws.alarm_says_that_something_is_new.Goals as goal

and_true : (b : Bool) → (b && true) ≡ b
and_true true = refl
and_true false = refl

-- The first byte alone says whether a text begins with `n`.
first_is : (text : List ℕ) → is_alarm (Some 110) (slice_get text 0) ≡ starts_with nat_eq text (codes "n")
first_is [] = refl
first_is (byte ∷ text) = sym (and_true (110 == byte))

pub returns : goal.returns
returns c = λ job earlier logs requested.
    let shown = shown_targets job logs requested in
    first_is (job_news job (Some earlier) logs requested)
    ∙ c.text_begins_with_new.ensures.byte (baseline_of earlier (options_of job.unchanged) shown) logs
    (shown_nodes job.unchanged earlier logs shown)
