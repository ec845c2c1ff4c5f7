use Rattle.std.proofs.Common.{◌<◌, slice_get, length, Some, ap, sym, refl, ◌∙◌, arith}
use Rattle.std.proofs.lemmas.List.{length-map}
use Rattle.std.proofs.lemmas.Option.{slice_get-map, slice_get_read}
use Rattle.std.specs.Option.{option_map}
use Rattle.redo_logs.specs.Logs.{Log, targets_of}
use Rattle.redo_logs.specs.Private.Stored.{log_of}
use Rattle.redo_logs.proofs.log_table.LogTable.name.Goals as goal

pub returns : goal.returns
returns c =
    let parts = c.self.inside.store in
    let logs = c.self.inside.logs.items in
    let below : c.args.i < length logs = omega (arith, c.requires, ap length c.self.view_is, length-map logs (log_of parts)) in
    ap (λ table. slice_get (targets_of table) c.args.i) (sym c.self.view_is)
    ∙ slice_get-map (λ (log : Log). log.target) _ c.args.i
    ∙ ap (option_map (λ (log : Log). log.target)) (slice_get-map (log_of parts) logs c.args.i)
    ∙ ap (λ log. option_map (λ (log : Log). log.target) (option_map (log_of parts) log))
    (slice_get_read logs _ c.args.i _ refl below c.index.ensures)
    ∙ ap Some c.name.ensures.is
