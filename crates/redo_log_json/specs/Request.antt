-- The request for the JSON of a job.
use Rattle.std.specs.Prelude.{ℕ, List, Option, option_map, if◌then◌else◌}
use Rattle.redo_compare.specs.Baseline.{BaselineValue, baseline_of}
use Rattle.redo_facts.specs.Facts.{RecipeFacts}
use Rattle.redo_logs.specs.Logs.{Log}
use Rattle.redo_times.specs.declared.times.Times.{Times}
use Rattle.redo_json.specs.Build.{Request, build_json, json_options}
use Rattle.redo_json.specs.Every.{every_target}
use Rattle.redo_args.specs.JsonJob.{JsonParts}

-- The request for the JSON of a job, if these are the times of all targets, the facts of their recipes, and the baseline.
abbrev pub request_for : JsonParts → List Times → List RecipeFacts → Option BaselineValue → Request
request_for job times recipes baseline =
    record { unchanged = job.unchanged; times = times; facts = recipes; baseline = baseline }

-- The targets whose logs are shown for a job.
abbrev pub shown_targets : JsonParts → List Log → List (List ℕ) → List (List ℕ)
shown_targets job logs requested = if job.every then every_target logs requested else requested

-- The baseline of a job that shows these targets, if these are its logs. It is shown as the job's own logs are.
abbrev pub job_baseline : JsonParts → List (List ℕ) → Option (List Log) → Option BaselineValue
job_baseline job shown earlier = option_map (λ (logs : List Log). baseline_of logs (json_options job.unchanged) shown) earlier

-- The JSON of a job whose shown targets are these.
abbrev pub json_of_targets : JsonParts → List Times → List RecipeFacts → Option (List Log) → List Log → List (List ℕ) → List ℕ
json_of_targets job times recipes earlier logs shown =
    build_json (request_for job times recipes (job_baseline job shown earlier)) logs shown

-- The JSON of a job. `earlier` are the logs of its baseline, if there is one.
abbrev pub job_json : JsonParts → List Times → List RecipeFacts → Option (List Log) → List Log → List (List ℕ) → List ℕ
job_json job times recipes earlier logs requested =
    json_of_targets job times recipes earlier logs (shown_targets job logs requested)
