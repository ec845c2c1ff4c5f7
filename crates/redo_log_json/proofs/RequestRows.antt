-- Rows of what the JSON of a job is asked: each option reaches its own part of the request.
use Rattle.std.proofs.Common.{◌≡◌, ℕ, pos, Bool, true, false, List, [], ◌∷◌, ◌++◌, Option, None, Some, length, map, option_map, replicate, take, refl}
use Rattle.std.specs.Prelude.{codes}
use Rattle.std.specs.List.{AllByRecursion}
use Rattle.redo_compare.specs.Baseline.{BaselineValue}
use Rattle.redo_facts.specs.Facts.{RecipeFacts, nothing}
use Rattle.redo_line.specs.declared.entry.Entry.TheVariants.{Mention, Closing}
use Rattle.redo_line.specs.declared.entry.How.TheVariants.{Unchanged}
use Rattle.redo_outline.specs.declared.node.Node.{Node}
use Rattle.redo_view.specs.Expansion.{show_log, show_log_within}
use Rattle.json.specs.Print.{print_from}
use Rattle.redo_json.specs.Build.{Request, build_json}
use Rattle.redo_args.specs.JsonJob.{JsonParts}
use Rattle.redo_log_json.specs.Request.{job_baseline, job_json, request_for, shown_targets}
use Rattle.redo_logs.specs.Logs.{Log}
use Rattle.redo_logs.specs.declared.log_state.LogState.TheVariants.{Ended}
use Rattle.redo_times.specs.declared.times.Times.{Times}

-- `redo-log-json --dir d --baseline b --output f --senders 5 a`, and these options.
abbrev job : Bool → Bool → JsonParts
job unchanged every = record {
  dir = codes "d";
  baseline = Some (codes "b");
  output = Some (codes "f");
  unchanged = unchanged;
  every = every;
  senders = 5;
  targets = codes "a" ∷ [];
}

abbrev times : List Times
times =
    record { began = Some 1600000000000; ended = Some 1600000001000; ran_others = false }
    ∷ record { began = None; ended = None; ran_others = false } ∷ []

abbrev recipes : List RecipeFacts
recipes = record { has_log = true; directory = Some (codes "sub"); commands = []; usage = None } ∷ nothing ∷ []

abbrev log : List ℕ → Log
log target = record { target = target; entries = []; state = Ended }

-- A build of `b` and `a`.
abbrev logs : List Log
logs = log (codes "b") ∷ log (codes "a") ∷ []

record Row : Type 0 where
  job : JsonParts
  request : Request
  shown : List (List ℕ)

abbrev row : Bool → Bool → List (List ℕ) → Row
row unchanged every shown = record {
  job = job unchanged every;
  request = record { unchanged = unchanged; times = times; facts = recipes; baseline = None };
  shown = shown;
}

-- Neither option, each of them, and both.
abbrev rows : List Row
rows =
    row false false (codes "a" ∷ [])
    ∷ row true false (codes "a" ∷ [])
    ∷ row false true (codes "a" ∷ codes "b" ∷ codes "a" ∷ [])
    ∷ row true true (codes "a" ∷ codes "b" ∷ codes "a" ∷ [])
    ∷ []

these_requests : AllByRecursion (λ (r : Row). request_for r.job times recipes None ≡ r.request) rows
these_requests = (refl, (refl, (refl, (refl, tt))))

these_targets : AllByRecursion (λ (r : Row). shown_targets r.job logs (codes "a" ∷ []) ≡ r.shown) rows
these_targets = (refl, (refl, (refl, (refl, tt))))

these_texts : AllByRecursion (λ (r : Row). job_json r.job times recipes None logs (codes "a" ∷ []) ≡ build_json r.request logs r.shown) rows
these_texts = (refl, (refl, (refl, (refl, tt))))

-- Without requested targets, a job with `every` has text, and one without it has none.
these_begin :
    (take 1 (job_json (job false true) times recipes None logs []) ≡ codes "{")
    × (job_json (job false false) times recipes None logs [] ≡ [])
unfolding show_log show_log_within print_from
these_begin = (refl, refl)

-- ---- a baseline

-- An earlier build, in which `a` needed no rebuild of `b`, which had failed.
abbrev earlier : List Log
earlier =
    record { target = codes "b"; entries = Closing 3 (pos 1) ∷ []; state = Ended }
    ∷ record { target = codes "a"; entries = Mention 4 Unchanged (codes "b") ∷ []; state = Ended }
    ∷ []

-- The numbers of the logs that the outline of a baseline has, and whether a target in each of them failed.
abbrev opened_in : Option BaselineValue → Option (List (ℕ × Bool))
opened_in baseline =
    option_map (λ (some : BaselineValue). map (λ (node : Node). (node.number, node.fails_below)) some.nodes) baseline

these_baselines :
    (job_baseline (job false true) (codes "a" ∷ []) None ≡ None)
    × (option_map (λ (some : BaselineValue). some.logs) (job_baseline (job false true) (codes "a" ∷ []) (Some earlier)) ≡ Some earlier)
    × (opened_in (job_baseline (job false true) (codes "a" ∷ []) (Some earlier)) ≡ Some ((1, false) ∷ (0, false) ∷ []))
    × (opened_in (job_baseline (job true false) (codes "a" ∷ []) (Some earlier)) ≡ Some ((1, true) ∷ (0, false) ∷ []))
    × (opened_in (job_baseline (job false false) (codes "z" ∷ codes "b" ∷ []) (Some earlier)) ≡ Some ((0, false) ∷ (1, false) ∷ []))
unfolding show_log show_log_within
these_baselines = (refl, refl, refl, refl, refl)

-- A request has the baseline of the shown targets.
these_compared : AllByRecursion (λ (r : Row). job_json r.job times recipes (Some earlier) logs (codes "a" ∷ [])
    ≡ build_json (record r.request { baseline = job_baseline r.job r.shown (Some earlier) }) logs r.shown) rows
these_compared = (refl, (refl, (refl, (refl, tt))))

-- The targets of 301 logs, and the times and facts of as many targets.
abbrev many : List Log
many = replicate 300 (log (codes "b")) ++ log (codes "c") ∷ []

many_targets : (length (shown_targets (job false true) many []) ≡ 301) × (length (shown_targets (job false false) many []) ≡ 0)
many_targets = (refl, refl)
