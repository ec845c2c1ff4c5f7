use Rattle.std.proofs.Common.{◌<◌, slice_get, length, ap, sym, refl, ◌∙◌, arith}
use Rattle.std.proofs.lemmas.List.{length-map}
use Rattle.std.proofs.lemmas.Option.{slice_get-map, slice_get_read}
use Rattle.std.specs.Option.{option_map}
use Rattle.redo_logs.specs.declared.log_table.Log.{Log as Stored}
use Rattle.redo_logs.specs.Logs.{states_of}
use Rattle.redo_logs.specs.Private.Stored.{log_of}
use Rattle.redo_logs.proofs.Storing.{states_stored}
use Rattle.redo_logs.proofs.log_table.LogTable.state.Goals as goal

pub returns : goal.returns
returns c =
    let logs = c.self.inside.logs.items in
    let below : c.args.i < length logs =
    omega (arith, c.requires, ap length c.self.view_is, length-map logs (log_of c.self.inside.store)) in
    ap (λ table. slice_get (states_of table) c.args.i) (sym c.self.view_is)
    ∙ ap (λ states. slice_get states c.args.i) (states_stored _ logs)
    ∙ slice_get-map (λ (stored : Stored). stored.state) _ c.args.i
    ∙ ap (option_map (λ (stored : Stored). stored.state)) (slice_get_read logs _ c.args.i _ refl below c.index.ensures)
