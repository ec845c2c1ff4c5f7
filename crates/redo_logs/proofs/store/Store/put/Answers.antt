use Rattle.std.proofs.Common.{rules, [], sym, ap, ◌∙◌}
use Rattle.std.proofs.lemmas.List.{append-nil}
use Rattle.redo_logs.specs.Private.Store.{Parts}
use Rattle.redo_logs.proofs.Keeping.{bytes_grow, front_same}
use Rattle.redo_logs.proofs.store.Store.put.Goals as goal

pub returns-in_err-extend_from_slice-clause-extends :
    goal.returns-in_err-extend_from_slice-clause-extends
returns-in_err-extend_from_slice-clause-extends c =
    bytes_grow c.args.self.now _
    (record { more = []; is = c.in_err-extend_from_slice.ensures.items ∙ ap (λ (p : Parts). p.bytes) c.self.view_is ∙ sym (append-nil _) })
    (front_same _ _ (ap (λ (p : Parts). p.taken) c.self.view_is)) (ap (λ (p : Parts). p.notes) c.self.view_is)
    (ap (λ (p : Parts). p.names) c.self.view_is)

pub returns-clause-extends : goal.returns-clause-extends
returns-clause-extends c =
    bytes_grow c.args.self.now _ (record { more = c.args.text.now; is = search rules })
    (front_same _ _ (ap (λ (p : Parts). p.taken) c.self.view_is)) (ap (λ (p : Parts). p.notes) c.self.view_is)
    (ap (λ (p : Parts). p.names) c.self.view_is)
