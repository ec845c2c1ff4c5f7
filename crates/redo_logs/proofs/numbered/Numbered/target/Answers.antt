use Rattle.std.proofs.Common.{◌<◌, get_or, slice_get, length, Some, ap, sym, ◌∙◌, arith}
use Rattle.std.proofs.lemmas.List.{length-map}
use Rattle.std.proofs.lemmas.Option.{slice_get-map, slice_get-get_or}
use Rattle.std.specs.Option.{option_map}
use Rattle.redo_logs.specs.Logs.{Log, targets_of}
use Rattle.redo_logs.specs.Numbering.{Numbering, name_at}
use Rattle.redo_logs.specs.Private.Stored.{log_of}
use Rattle.redo_logs.proofs.numbered.Numbered.target.Goals as goal

pub returns-clause-is : goal.returns-clause-is
returns-clause-is c =
    let parts = c.self.inside.store.now in
    let logs = c.self.inside.logs.now in
    let below : c.args.i < length logs =
    omega (arith, c.requires, ap (λ (n : Numbering). length n.logs) c.self.view_is, length-map logs (log_of parts)) in
    ap (λ (n : Numbering). slice_get (targets_of n.logs) c.args.i) (sym c.self.view_is)
    ∙ slice_get-map (λ (log : Log). log.target) _ c.args.i
    ∙ ap (option_map (λ (log : Log). log.target)) (slice_get-map (log_of parts) logs c.args.i)
    ∙ ap (λ log. option_map (λ (log : Log). log.target) (option_map (log_of parts) log))
    (slice_get-get_or logs c.args.i c.index-self-i.result below)
    ∙ ap (λ (n : Numbering). Some (name_at n.names (get_or logs c.args.i c.index-self-i.result).name)) c.self.view_is
