use Rattle.redo_json.specs.Build.{build_events, options_of}
use Rattle.redo_json.proofs.OpeningLemmas.{contents_named, values_of_logs}
use Rattle.redo_json.proofs.laws.objects_are_of_logs.Goals as goal

pub returns : goal.returns
returns c = λ request logs requested.
    values_of_logs request logs (build_events request logs requested) (contents_named logs (options_of request) requested)
