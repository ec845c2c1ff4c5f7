-- The search for the first fault of a table.
use Rattle.std.proofs.Common.{◌≡◌, ℕ, suc, ◌<◌, get_or, drop, ◌+◌, ◌≤◌, List, [], ◌∷◌, Option, None, Some, map, length, refl, sym, ap, ◌∙◌, arith}
use Rattle.std.specs.Option.{option_map}
use Rattle.std.proofs.Math.Seq.{drop-cons}
use Rattle.std.proofs.lemmas.List.{length-map}
use Rattle.redo_line.specs.declared.stream_fault.StreamFault.{StreamFault}
use Rattle.redo_logs.specs.declared.log_state.LogState.{LogState}
use Rattle.redo_logs.specs.declared.log_state.LogState.TheVariants.{Running, Ended, Failed}
use Rattle.redo_logs.specs.declared.log_table.Log.{Log as Stored}
use Rattle.redo_logs.specs.Logs.{Log, IsTable, max_logs, fault_in, lowest_fault, first_failed}
use Rattle.redo_logs.proofs.LeastFault.{behind_one}
use Rattle.redo_logs.specs.Private.Store.{Parts}
use Rattle.redo_logs.specs.Private.Stored.{log_of, logs_of}

-- The fault of each log, if it has one.
abbrev faults_of : List Stored → List (Option StreamFault)
faults_of left = map (λ (stored : Stored). fault_in stored.state) left

-- A fault, with a position that is greater by `number`.
abbrev behind : ℕ → Option (ℕ × StreamFault) → Option (ℕ × StreamFault)
behind number first = option_map (λ (found : ℕ × StreamFault). (number + found.0, found.1)) first

-- The state of the search: the first `number` logs have not failed, and `left` are the logs after them.
pub record Searched (logs : List Log) (number : ℕ) (left : List Stored) : Type 0 where
  pub size : number + length left ≤ max_logs
  pub answer : first_failed logs ≡ behind number (lowest_fault (faults_of left))

-- Adding one and then `number` to the position adds `number + 1`.
behind-behind_one : (number : ℕ) (first : Option (ℕ × StreamFault)) → behind number (behind_one first) ≡ behind (number + 1) first
behind-behind_one number None = refl
behind-behind_one number (Some found) = ap (λ n. Some (n, found.1)) (omega arith)

-- Adding 0 to the position changes nothing.
behind_none : (first : Option (ℕ × StreamFault)) → behind 0 first ≡ first
behind_none None = refl
behind_none (Some found) = ap (λ n. Some (n, found.1)) (omega arith)

-- The first log that failed is the first stored log with a fault.
faults_stored : (parts : Parts) (stored : List Stored) → first_failed (logs_of parts stored) ≡ lowest_fault (faults_of stored)
faults_stored parts stored = ap lowest_fault (same stored)
  where
    same : (logs : List Stored) → map fault_in (map (λ (log : Log). log.state) (logs_of parts logs)) ≡ faults_of logs
    same [] = refl
    same (log ∷ logs) = ap (λ faults. fault_in log.state ∷ faults) (same logs)

-- A log that hasn't failed has no fault.
no_fault : (state : LogState) → ((fault : StreamFault) → state ≡ Failed fault → ⊥) → fault_in state ≡ None
no_fault Running not_failed = refl
no_fault Ended not_failed = refl
no_fault (Failed fault) not_failed = absurd (not_failed fault refl)

-- At the start all logs are left.
pub searched_none : (parts : Parts) (stored : List Stored) (logs : List Log) → logs_of parts stored ≡ logs → IsTable (logs_of parts stored)
    → Searched logs 0 stored
searched_none parts stored logs is table =
    record {
      size = let size = table.size in omega (arith, length-map stored (log_of parts));
      answer = ap first_failed (sym is) ∙ faults_stored parts stored ∙ sym (behind_none (lowest_fault (faults_of stored)));
    }

module _ (logs : List Log) (number : ℕ) (left : List Stored) (so_far : Searched logs number left) where
  module _ (stored : Stored) (others : List Stored) (is : left ≡ stored ∷ others) where
    -- The result is the next log's fault, or else the first fault after it.
    here : first_failed logs ≡ behind number (lowest_fault (fault_in stored.state ∷ faults_of others))
    here = so_far.answer ∙ ap (λ values. behind number (lowest_fault (faults_of values))) is

    -- The next number is in range.
    pub more : number + 1 ≤ max_logs
    more = let size = so_far.size in omega (arith, ap length is)

    -- If the next log has failed, it is the result.
    pub found : (fault : StreamFault) → stored.state ≡ Failed fault → Some (number, fault) ≡ first_failed logs
    found fault failed =
        ap (λ n. Some (n, fault)) (omega arith)
        ∙ sym (here ∙ ap (λ state. behind number (lowest_fault (fault_in state ∷ faults_of others))) failed)

    -- If it hasn't, the search goes on.
    pub searched_one : ((fault : StreamFault) → stored.state ≡ Failed fault → ⊥) → Searched logs (number + 1) others
    searched_one not_failed =
        record {
          size = let size = so_far.size in omega (arith, ap length is);
          answer =
              here ∙ ap (λ first. behind number (lowest_fault (first ∷ faults_of others))) (no_fault stored.state not_failed)
              ∙ behind-behind_one number (lowest_fault (faults_of others));
        }

  -- If no log is left, the result is none.
  pub none_found : left ≡ [] → None ≡ first_failed logs
  none_found is = sym (so_far.answer ∙ ap (λ values. behind number (lowest_fault (faults_of values))) is)

-- The log at a position is the first log from there on.
pub left_at : (logs : List Stored) (place : ℕ) (log : Stored) → place < length logs → log ≡ get_or logs place log
    → drop place logs ≡ log ∷ drop (place + 1) logs
left_at logs place log within is =
    let next : suc place ≡ place + 1 = omega arith in
    drop-cons logs place log within ∙ (λ i. sym is i ∷ drop (next i) logs)
