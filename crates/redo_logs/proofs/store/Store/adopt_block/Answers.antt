use Rattle.std.proofs.Common.{◌++◌, [], ◌∷◌, map, ap, ◌∙◌}
use Rattle.std.proofs.lemmas.List.{map_push}
use Rattle.redo_logs.specs.Private.Store.{Parts}
use Rattle.redo_logs.proofs.Keeping.{bytes_grow, front_same}
use Rattle.redo_logs.proofs.store.Store.adopt_block.Goals as goal

pub returns-in_err-push-clause-extends : goal.returns-in_err-push-clause-extends
returns-in_err-push-clause-extends c =
    let taken = ap (map (λ block. block.items)) c.in_err-push.ensures.items ∙ ap (λ (p : Parts). p.taken) c.self.view_is in
    bytes_grow c.args.self.now _ (front_same _ _ (ap (λ (p : Parts). p.bytes) c.self.view_is)) (front_same _ _ taken)
    (ap (λ (p : Parts). p.notes) c.self.view_is) (ap (λ (p : Parts). p.names) c.self.view_is)

pub returns-clause-extends : goal.returns-clause-extends
returns-clause-extends c =
    let taken = ap (map (λ block. block.items)) c.in_ok-push.ensures.items ∙ map_push (λ block. block.items) _ c.args.texts
    ∙ ap (λ (p : Parts). p.taken ++ c.args.texts.items ∷ []) c.self.view_is in
    bytes_grow c.args.self.now _ (front_same _ _ (ap (λ (p : Parts). p.bytes) c.self.view_is))
    (record { more = c.args.texts.items ∷ []; is = taken })
    (ap (λ (p : Parts). p.notes) c.self.view_is) (ap (λ (p : Parts). p.names) c.self.view_is)
