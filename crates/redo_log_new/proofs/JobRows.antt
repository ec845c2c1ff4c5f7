-- Rows of the text of a job: each option reaches its own part of it.
use Rattle.std.proofs.Common.{◌≡◌, ℕ, Bool, true, false, List, [], ◌∷◌, ◌++◌, None, Some, refl}
use Rattle.std.specs.Prelude.{codes, slice_get}
use Rattle.std.specs.List.{AllByRecursion}
use Rattle.redo_line.specs.Decimal.{number}
use Rattle.redo_line.specs.Lines.{with_line_feed}
use Rattle.redo_line.specs.Parts.{after_prefix, split_once}
use Rattle.redo_line.specs.declared.entry.Entry.{Entry}
use Rattle.redo_line.specs.declared.entry.Entry.TheVariants.{Text, Mention}
use Rattle.redo_line.specs.declared.entry.How.TheVariants.{Unchanged}
use Rattle.redo_html.specs.Symbols.{is_sequence, sequence_len}
use Rattle.redo_diagnostics.specs.Diagnostic.{before_bracket, diagnostic_of, first_place, masked_after, place_of, split_flag}
use Rattle.redo_diagnostics.specs.Plain.{plain_after}
use Rattle.redo_compare.specs.Source.{source_of}
use Rattle.redo_view.specs.Expansion.{show_log, show_log_within}
use Rattle.redo_logs.specs.Logs.{Log}
use Rattle.redo_logs.specs.declared.log_state.LogState.TheVariants.{Ended}
use Rattle.redo_args.specs.NewJob.{NewParts}
use Rattle.redo_command.specs.Alarm.{is_alarm}
use Rattle.redo_log_new.specs.Alarm.{alarm}
use Rattle.redo_log_new.specs.Job.{job_news, shown_targets}

-- `redo-log-new --baseline b --dir d --output f --senders 5 a`, and these options.
abbrev job : Bool → Bool → NewParts
job unchanged every = record {
  baseline = codes "b";
  dir = codes "d";
  output = Some (codes "f");
  unchanged = unchanged;
  every = every;
  senders = 5;
  targets = codes "a" ∷ [];
}

abbrev log : List ℕ → List Entry → Log
log target entries = record { target = target; entries = entries; state = Ended }

-- A build of `b`, `a` and `c`, which `a` mentions because it needed no rebuild, and an earlier one of `a`.
abbrev logs : List Log
logs =
    log (codes "b") (Text (codes "error: b") ∷ [])
    ∷ log (codes "a") (Mention 7 Unchanged (codes "c") ∷ Text (codes "error: a") ∷ [])
    ∷ log (codes "c") (Text (codes "error: c") ∷ [])
    ∷ []

abbrev earlier : List Log
earlier = log (codes "a") [] ∷ []

record Row : Type 0 where
  unchanged : Bool
  every : Bool
  shown : List (List ℕ)
  text : List ℕ

-- The line of the error of a target.
abbrev new : List ℕ → List ℕ
new target = with_line_feed (codes "new: " ++ target ++ codes ": error: " ++ target)

abbrev of_a : List ℕ
of_a = new (codes "a")

abbrev of_b : List ℕ
of_b = new (codes "b")

abbrev of_c : List ℕ
of_c = new (codes "c")

abbrev every_target_of : List (List ℕ)
every_target_of = codes "a" ∷ codes "b" ∷ codes "a" ∷ codes "c" ∷ []

-- Neither option, each of them, and both.
abbrev rows : List Row
rows =
    record { unchanged = false; every = false; shown = codes "a" ∷ []; text = of_a }
    ∷ record { unchanged = true; every = false; shown = codes "a" ∷ []; text = of_a ++ of_c }
    ∷ record { unchanged = false; every = true; shown = every_target_of; text = of_a ++ of_b ++ of_c }
    ∷ record { unchanged = true; every = true; shown = every_target_of; text = of_a ++ of_c ++ of_b }
    ∷ []

these_targets : AllByRecursion (λ (r : Row). shown_targets (job r.unchanged r.every) logs (codes "a" ∷ []) ≡ r.shown) rows
these_targets = (refl, (refl, (refl, (refl, tt))))

these_texts : AllByRecursion (λ (r : Row). job_news (job r.unchanged r.every) (Some earlier) logs (codes "a" ∷ []) ≡ r.text) rows
unfolding number after_prefix split_once show_log show_log_within is_sequence sequence_len plain_after first_place place_of before_bracket split_flag masked_after diagnostic_of source_of
these_texts = (refl, (refl, (refl, (refl, tt))))

-- Without a baseline nothing is new. No job is without one.
no_baseline : job_news (job true true) None logs (codes "a" ∷ []) ≡ []
unfolding number after_prefix split_once show_log show_log_within is_sequence sequence_len plain_after first_place place_of before_bracket split_flag masked_after diagnostic_of source_of
no_baseline = refl

-- By the first byte of the text.
these_alarms : (is_alarm (Some alarm) (slice_get (codes "newly failing: a (exit 1)") 0) ≡ true)
    × (is_alarm (Some alarm) (slice_get (codes "new: a: error: e") 0) ≡ true)
    × (is_alarm (Some alarm) (slice_get (codes "fixed: a") 0) ≡ false) × (is_alarm (Some alarm) (slice_get [] 0) ≡ false)
these_alarms = (refl, refl, refl, refl)
