use Rattle.std.proofs.Common.{[], ◌∷◌, ◌∙◌, arith, refl}
use Rattle.std.proofs.lemmas.Result.{MatchResult-from_err}
use Rattle.redo_line.specs.declared.entry.Entry.TheVariants as entry
use Rattle.redo_line.proofs.EntriesLemmas.{front_length, front_put, front_same, kind_is, more_are_seen, more_counted, note_within, put_twice, same_counted, same_seen, text_is}
use Rattle.redo_line.proofs.entries.Entries.push_note.Goals as goal

pub invariant_of-self-in_err-end : goal.invariant_of-self-in_err-end
invariant_of-self-in_err-end c =
    same_counted c.args.self.now c.self.inside.bytes.items c.self.inside.names.items c.self.inside.places.items c.self.inside.count
    c.self.view_is c.self.invariant _ _ _
    (front_put _ c.args.kind.now _ (c.in_err-end.ensures.unchanged_on_err ∙ c.in_ok-start.ensures.put)) (front_same _ _ refl) refl

pub returns-in_err-end-clause-unchanged_on_err : goal.returns-in_err-end-clause-unchanged_on_err
returns-in_err-end-clause-unchanged_on_err c =
    MatchResult-from_err c.from_residual-in_err-end.result _ _ c.from_residual-in_err-end.ensures.0
    (λ fault. same_seen c.args.self.now c.self.inside.bytes.items c.self.inside.names.items c.self.inside.places.items c.self.inside.count
    c.self.view_is c.self.invariant _ _ _
    (front_put _ c.args.kind.now _ (c.in_err-end.ensures.unchanged_on_err ∙ c.in_ok-start.ensures.put)) (front_same _ _ refl) refl)

pub invariant_of-self-in_err-push : goal.invariant_of-self-in_err-push
invariant_of-self-in_err-push c =
    same_counted c.args.self.now c.self.inside.bytes.items c.self.inside.names.items c.self.inside.places.items c.self.inside.count
    c.self.view_is c.self.invariant _ _ _
    (put_twice _ c.args.kind.now c.args.text.now _ _ c.in_ok-start.ensures.put c.in_ok-end.ensures.put)
    (front_same _ _ refl) c.in_err-push.ensures.items

pub returns-in_err-push-clause-unchanged_on_err : goal.returns-in_err-push-clause-unchanged_on_err
returns-in_err-push-clause-unchanged_on_err c =
    MatchResult-from_err c.from_residual-in_err-push.result _ _ c.from_residual-in_err-push.ensures.0
    (λ fault. same_seen c.args.self.now c.self.inside.bytes.items c.self.inside.names.items c.self.inside.places.items c.self.inside.count
    c.self.view_is c.self.invariant _ _ _
    (put_twice _ c.args.kind.now c.args.text.now _ _ c.in_ok-start.ensures.put c.in_ok-end.ensures.put)
    (front_same _ _ refl) c.in_err-push.ensures.items)

pub invariant_of-self-2 : goal.invariant_of-self-2
invariant_of-self-2 c =
    let kind = c.in_ok-start.ensures in
    let text = c.in_ok-end.ensures in
    let kind_there = kind_is _ c.args.kind.now c.args.text.now _ _ kind.put text.put _ _ _ _ kind.start kind.end text.start text.end in
    let text_there = text_is _ c.args.kind.now c.args.text.now _ _ kind.put text.put _ _ _ _ kind.start kind.end text.start text.end in
    more_counted c.args.self.now c.self.inside.bytes.items c.self.inside.names.items c.self.inside.places.items c.self.inside.count
    c.self.view_is c.self.invariant _ _ _
    (put_twice _ c.args.kind.now c.args.text.now _ _ kind.put text.put) (front_same _ _ refl) _
    (entry.Note c.args.pid c.args.kind.now c.args.text.now ∷ []) c.in_ok-push.ensures.items
    (λ i. entry.Note c.args.pid (kind_there i) (text_there i) ∷ [])
    (note_within _ c.args.kind.now c.args.text.now _ _ kind.put text.put _ _ _ _ kind.start kind.end text.start text.end c.requires.kind
    c.requires.text) _ refl
    (let longer = front_length _ _ (put_twice c.self.inside.bytes.items c.args.kind.now c.args.text.now _ _ kind.put text.put) in
    omega (arith, longer))

pub returns-clause-pushed : goal.returns-clause-pushed
returns-clause-pushed c =
    let kind = c.in_ok-start.ensures in
    let text = c.in_ok-end.ensures in
    let kind_there = kind_is _ c.args.kind.now c.args.text.now _ _ kind.put text.put _ _ _ _ kind.start kind.end text.start text.end in
    let text_there = text_is _ c.args.kind.now c.args.text.now _ _ kind.put text.put _ _ _ _ kind.start kind.end text.start text.end in
    more_are_seen c.args.self.now c.self.inside.bytes.items c.self.inside.names.items c.self.inside.places.items c.self.inside.count
    c.self.view_is c.self.invariant _ _ _
    (put_twice _ c.args.kind.now c.args.text.now _ _ kind.put text.put) (front_same _ _ refl) _
    (entry.Note c.args.pid c.args.kind.now c.args.text.now ∷ []) c.in_ok-push.ensures.items
    (λ i. entry.Note c.args.pid (kind_there i) (text_there i) ∷ [])
