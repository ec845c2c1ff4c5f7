use Rattle.std.proofs.lemmas.Result.{IfOk-weaker}
use Rattle.redo_command.proofs.FactLemmas.{of_file}
use Rattle.redo_command.proofs.facts.read_recipe_facts.Goals as goal

pub returns : goal.returns
returns g c =
    IfOk-weaker c.read_facts.result _ _
    (λ facts are. of_file (g.F.OpenFacts.known_facts c.args.files.now) (g.F.File.Feed.contents c.in_ok-file.file) _ _ c.in_ok-file.ensures
    (λ stream given. given) are)
    c.read_facts.ensures
