use Rattle.redo_args.proofs.JsonSound.{sound}
use Rattle.redo_args.proofs.json.words.read_arguments.Goals as goal

pub job_from_matches-requires : goal.job_from_matches-requires
job_from_matches-requires c = sound c.in_ok-matches.matches c.in_ok-matches.ensures.parsed
