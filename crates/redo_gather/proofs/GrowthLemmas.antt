-- How the log of one stream grows in a table.
use Rattle.std.proofs.Common.{◌≡◌, ℕ, zero, suc, List, [], ◌∷◌, Option, refl, ap, ◌∙◌}
use Rattle.redo_line.specs.declared.entry.Entry.{Entry}
use Rattle.redo_line.specs.declared.stream_fault.StreamFault.{StreamFault}
use Rattle.redo_logs.specs.Logs.{Log, update_log, with_entries, with_state}
use Rattle.redo_gather.specs.Private.Storing.{completed, state_after}

-- Two changes, one after the other, are one change.
update_log-update_log : (number : ℕ) (second first both : Log → Log) → ((log : Log) → second (first log) ≡ both log) → (logs : List Log)
    → update_log number second (update_log number first logs) ≡ update_log number both logs
update_log-update_log number second first both is [] = refl
update_log-update_log zero second first both is (log ∷ logs) = ap (λ l. l ∷ logs) (is log)
update_log-update_log (suc number) second first both is (log ∷ logs) =
    ap (λ ls. log ∷ ls) (update_log-update_log number second first both is logs)

-- The entries, and then the end or the fault, complete a log.
pub with_last : (number : ℕ) (entries : List Entry) (fault : Option StreamFault) (initial table after : List Log)
    → table ≡ update_log number (with_entries entries) initial
    → after ≡ update_log number (with_state (state_after fault)) table → after ≡ update_log number (completed entries fault) initial
with_last number entries fault initial table after table_is after_is =
    after_is ∙ ap (update_log number (with_state (state_after fault))) table_is
    ∙ update_log-update_log number (with_state (state_after fault)) (with_entries entries) (completed entries fault) (λ log. refl) initial
