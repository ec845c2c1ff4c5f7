-- The effect of an item on a log that is running, and on one that isn't.
use Rattle.std.proofs.Common.{◌≡◌, ℕ, zero, suc, List, [], ◌∷◌, Some, slice_get, refl, sym, ap, ◌∙◌}
use Rattle.redo_logs.specs.declared.log_state.LogState.{LogState}
use Rattle.redo_logs.specs.declared.log_state.LogState.TheVariants.{Ended, Failed, Running}
use Rattle.redo_logs.specs.Logs.{Log, update_log, states_of}
use Rattle.redo_wire.specs.declared.item.What.{What}
use Rattle.redo_gather.specs.Private.Collecting.{changed_by, step}

running : (state : LogState) → Some state ≡ Some Running → state ≡ Running
running state is = cc

-- The effect of an item on a log that is running.
pub of_running : (number : ℕ) (what : What) (change : Log → Log) (table : List Log)
    → ((log : Log) → changed_by Running what log ≡ change log) → slice_get (states_of table) number ≡ Some Running
    → update_log number change table ≡ update_log number (step what) table
of_running number what change [] is there = refl
of_running zero what change (log ∷ table) is there =
    ap (λ l. l ∷ table) (sym (is log) ∙ ap (λ s. changed_by s what log) (sym (running log.state there)))
of_running (suc number) what change (log ∷ table) is there = ap (λ logs. log ∷ logs) (of_running number what change table is there)

-- An item has no effect on a log that isn't running.
pub of_ended : (number : ℕ) (what : What) (table : List Log) → (slice_get (states_of table) number ≡ Some Running → ⊥)
    → table ≡ update_log number (step what) table
of_ended number what [] other = refl
of_ended zero what (log ∷ table) other = ap (λ l. l ∷ table) (by log.state refl)
  where
    by : (state : LogState) → log.state ≡ state → log ≡ step what log
    by Running is = absurd (other (ap Some is))
    by Ended is = ap (λ s. changed_by s what log) (sym is)
    by (Failed fault) is = ap (λ s. changed_by s what log) (sym is)
of_ended (suc number) what (log ∷ table) other = ap (λ logs. log ∷ logs) (of_ended number what table other)
