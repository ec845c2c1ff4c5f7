use Rattle.std.proofs.Common.{[], ◌∷◌, ap}
use Rattle.redo_logs.proofs.Keeping.{end_of, grows_more, note_put}
use Rattle.redo_logs.proofs.Shifting.{note_then}
use Rattle.redo_logs.proofs.store.Store.store_note.Goals as goal

pub returns-in_err-end-clause-extends : goal.returns-in_err-end-clause-extends
returns-in_err-end-clause-extends c = grows_more _ _ _ c.in_ok-start.ensures.extends c.in_err-end.ensures.extends

pub returns-clause-extends : goal.returns-clause-extends
returns-clause-extends c =
    grows_more _ _ _ (grows_more _ _ _ c.in_ok-start.ensures.extends c.in_ok-end.ensures.extends) c.note_at.ensures.extends

pub returns-clause-denotes : goal.returns-clause-denotes
returns-clause-denotes c =
    let kind = c.in_ok-start.ensures in
    let text = c.in_ok-end.ensures in
    note_then c.note_at.result _ _ _ c.note_at.ensures.denotes
    (ap (λ e. e ∷ []) (note_put c.args.pid c.args.self.now.bytes c.args.kind.now c.args.text.now c.put.new.self.bytes c.put-2.new.self.bytes
    kind.bytes text.bytes _ _ _ kind.start
    (end_of _ _ _ _ kind.end kind.bytes) (end_of _ _ _ _ text.end text.bytes)))
