use Rattle.std.proofs.Common.{rules, tests, sym, ◌∙◌, ap}
use Rattle.std.specs.List.{list_all}
use Rattle.std.proofs.lemmas.Iterator.{YieldsList-from_slice}
use Rattle.std.proofs.lemmas.Iterator.Search.{all_from_yields_List}
use Rattle.redo_logs.specs.declared.log_table.Log.{Log as Stored}
use Rattle.redo_logs.specs.Logs.{ends, has_ended}
use Rattle.redo_logs.proofs.Storing.{all_stored}
use Rattle.redo_logs.proofs.log_table.LogTable.all_ended.Goals as goal

pub returns : goal.returns
returns c =
    all_from_yields_List (λ (stored : Stored). ends stored.state) _ _ _ c.all.ensures.ran
    (YieldsList-from_slice c.self.inside.logs.items (c.iter.ensures.rest ∙ c.deref.ensures.value)) (λ x b q k. search (rules, tests))
    ∙ sym (all_stored _ c.self.inside.logs.items) ∙ ap (list_all has_ended) c.self.view_is
