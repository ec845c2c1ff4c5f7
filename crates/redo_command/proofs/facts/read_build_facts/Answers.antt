use Rattle.redo_command.specs.Private.FirstReading.{first_contents}
use Rattle.redo_command.proofs.FactLemmas.{times_of_logs}
use Rattle.redo_command.proofs.facts.read_build_facts.Goals as goal

pub returns-clause-facts : goal.returns-clause-facts
returns-clause-facts g c = record {
  times = times_of_logs (first_contents g.L.Log.Feed.contents) (g.L.OpenLog.known c.args.files.now) c.args.index.now
      _ _ c.in_ok-readings.ensures.given c.in_ok-times.ensures.times;
  recipes = c.in_ok-recipes.ensures;
}
