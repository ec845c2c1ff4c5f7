-- The text of a job.
use Rattle.std.specs.Prelude.{ℕ, List, [], Option, None, Some, if◌then◌else◌}
use Rattle.redo_logs.specs.Logs.{Log}
use Rattle.redo_json.specs.Every.{every_target}
use Rattle.redo_new.specs.News.{news_text}
use Rattle.redo_args.specs.NewJob.{NewParts}

-- The targets whose logs are shown for a job.
abbrev pub shown_targets : NewParts → List Log → List (List ℕ) → List (List ℕ)
shown_targets job logs requested = if job.every then every_target logs requested else requested

-- What is new in the logs that are shown for a job, since its baseline. Each job has one.
abbrev pub job_news : NewParts → Option (List Log) → List Log → List (List ℕ) → List ℕ
job_news job None logs requested = []
job_news job (Some earlier) logs requested = news_text job.unchanged earlier logs (shown_targets job logs requested)
