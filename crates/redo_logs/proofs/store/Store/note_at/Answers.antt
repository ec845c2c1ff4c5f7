use Rattle.std.proofs.Common.{◌≡◌, rules, ap, ◌∙◌, [], ◌∷◌, ◌++◌, length, map}
use Rattle.redo_logs.specs.Private.Store.{Parts}
use Rattle.redo_logs.proofs.Keeping.{bytes_grow, front_same, get_last, note_grows, note_last_seen, note_last_within}
use Rattle.redo_logs.proofs.store.Store.note_at.Goals as goal

pub returns-in_err-push-clause-extends : goal.returns-in_err-push-clause-extends
returns-in_err-push-clause-extends c =
    bytes_grow c.args.self.now _ (front_same _ _ (ap (λ (p : Parts). p.bytes) c.self.view_is))
    (front_same _ _ (ap (λ (p : Parts). p.taken) c.self.view_is))
    (c.in_err-push.ensures.items ∙ ap (λ (p : Parts). p.notes) c.self.view_is) (ap (λ (p : Parts). p.names) c.self.view_is)

pub returns-clause-extends : goal.returns-clause-extends
returns-clause-extends c =
    note_grows c.args.self.now _ c.args.at (front_same _ _ (ap (λ (p : Parts). p.bytes) c.self.view_is))
    (front_same _ _ (ap (λ (p : Parts). p.taken) c.self.view_is))
    (c.in_ok-push.ensures.items ∙ ap (λ (p : Parts). p.notes ++ c.args.at ∷ []) c.self.view_is) (ap (λ (p : Parts). p.names) c.self.view_is)

pub returns-clause-within : goal.returns-clause-within
returns-clause-within c =
    let place : c.len-note.result ≡ length c.self.inside.notes.items = search rules in
    let new : Parts = record {
      bytes = c.self.inside.bytes.items;
      taken = map (λ block. block.items) c.self.inside.taken.items;
      notes = c.push.new.self.items;
      names = c.self.inside.names.keys;
    } in
    note_last_within c.args.self.now new c.len-note.result c.args.at
    (get_last c.self.inside.notes.items c.args.at _ _ c.in_ok-push.ensures.items place)
    (ap (λ (p : Parts). p.bytes) c.self.view_is, ap (λ (p : Parts). p.taken) c.self.view_is) c.requires

pub returns-clause-denotes : goal.returns-clause-denotes
returns-clause-denotes c =
    let place : c.len-note.result ≡ length c.self.inside.notes.items = search rules in
    let new : Parts = record {
      bytes = c.self.inside.bytes.items;
      taken = map (λ block. block.items) c.self.inside.taken.items;
      notes = c.push.new.self.items;
      names = c.self.inside.names.keys;
    } in
    ap (λ e. e ∷ []) (note_last_seen c.args.self.now new c.len-note.result c.args.at
    (get_last c.self.inside.notes.items c.args.at _ _ c.in_ok-push.ensures.items place)
    (ap (λ (p : Parts). p.bytes) c.self.view_is, ap (λ (p : Parts). p.taken) c.self.view_is))
