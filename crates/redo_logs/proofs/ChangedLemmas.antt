-- Changing one log of a table.
use Rattle.std.proofs.Common.{◌≡◌, ℕ, zero, suc, nat_eq, List, [], ◌∷◌, ◌++◌, length, refl, sym, ap, subst, arith}
use Rattle.std.specs.Cmp.Lexicographic.{pointwise}
use Rattle.std.specs.List.{IsDistinct}
use Rattle.redo_line.specs.declared.entry.Entry.{Entry}
use Rattle.redo_logs.specs.Logs.{Log, IsTable, update_log, targets_of, states_of, with_entries, with_entry}

-- The log after the first `n` logs is log `n`.
pub update_log-here : (first : List Log) (log : Log) (others : List Log) (change : Log → Log)
    → update_log (length first) change (first ++ log ∷ others) ≡ first ++ change log ∷ others
update_log-here [] log others change = refl
update_log-here (one ∷ first) log others change = ap (λ logs. one ∷ logs) (update_log-here first log others change)

-- The number of logs stays the same.
pub length-update_log : (number : ℕ) (change : Log → Log) (logs : List Log) → length (update_log number change logs) ≡ length logs
length-update_log number change [] = refl
length-update_log zero change (log ∷ logs) = refl
length-update_log (suc number) change (log ∷ logs) = ap suc (length-update_log number change logs)

-- A change that leaves its log the same changes nothing.
pub update_log-none : (number : ℕ) (logs : List Log) → update_log number (λ log. log) logs ≡ logs
update_log-none number [] = refl
update_log-none zero (log ∷ logs) = refl
update_log-none (suc number) (log ∷ logs) = ap (λ ls. log ∷ ls) (update_log-none number logs)

module _ (change : Log → Log) (keeps : (log : Log) → (change log).target ≡ log.target) where
  -- A change that keeps the log's target keeps all targets.
  pub targets-update_log : (number : ℕ) (logs : List Log) → targets_of (update_log number change logs) ≡ targets_of logs
  targets-update_log number [] = refl
  targets-update_log zero (log ∷ logs) = ap (λ target. target ∷ targets_of logs) (keeps log)
  targets-update_log (suc number) (log ∷ logs) = ap (λ targets. log.target ∷ targets) (targets-update_log number logs)

  -- Such a change keeps the invariant of a table.
  pub IsTable-update_log : (number : ℕ) (logs : List Log) → IsTable logs → IsTable (update_log number change logs)
  IsTable-update_log number logs table =
      record {
        size = let size = table.size in omega (arith, length-update_log number change logs);
        targets_differ = subst (IsDistinct (pointwise nat_eq)) (sym (targets-update_log number logs)) table.targets_differ;
      }

-- Adding entries to a log keeps the states.
pub states-with_entries : (number : ℕ) (entries : List Entry) (logs : List Log)
    → states_of (update_log number (with_entries entries) logs) ≡ states_of logs
states-with_entries number entries [] = refl
states-with_entries zero entries (log ∷ logs) = refl
states-with_entries (suc number) entries (log ∷ logs) = ap (λ states. log.state ∷ states) (states-with_entries number entries logs)

-- Adding an entry to a log keeps the states.
pub states-with_entry : (number : ℕ) (entry : Entry) (logs : List Log)
    → states_of (update_log number (with_entry entry) logs) ≡ states_of logs
states-with_entry number entry [] = refl
states-with_entry zero entry (log ∷ logs) = refl
states-with_entry (suc number) entry (log ∷ logs) = ap (λ states. log.state ∷ states) (states-with_entry number entry logs)
