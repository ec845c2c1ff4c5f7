use Rattle.std.proofs.Common.{[], ◌∷◌, ◌++◌, ◌∙◌, refl}
use Rattle.std.proofs.lemmas.Result.{MatchResult-from_err}
use Rattle.redo_line.specs.Lines.{line_feed}
use Rattle.redo_line.specs.declared.entry.Entry.TheVariants.{Text}
use Rattle.redo_line.proofs.EntriesLemmas.{front_put, front_same, line_end, line_few, line_put, line_text, line_whole, more_are_seen, more_counted, put_twice, same_counted, same_seen, texts_are, texts_within}
use Rattle.redo_line.proofs.entries.Entries.push_text.Goals as goal

pub invariant_of-self-in_err-end : goal.invariant_of-self-in_err-end
invariant_of-self-in_err-end c =
    same_counted c.args.self.now c.self.inside.bytes.items c.self.inside.names.items c.self.inside.places.items c.self.inside.count
    c.self.view_is c.self.invariant _ _ _
    (front_put _ c.args.line.now _ (c.in_err-end.ensures.unchanged_on_err ∙ c.in_ok-start.ensures.put)) (front_same _ _ refl) refl

pub returns-in_err-end-clause-unchanged_on_err : goal.returns-in_err-end-clause-unchanged_on_err
returns-in_err-end-clause-unchanged_on_err c =
    MatchResult-from_err c.from_residual-in_err-end.result _ _ c.from_residual-in_err-end.ensures.0
    (λ fault. same_seen c.args.self.now c.self.inside.bytes.items c.self.inside.names.items c.self.inside.places.items c.self.inside.count
    c.self.view_is c.self.invariant _ _ _
    (front_put _ c.args.line.now _ (c.in_err-end.ensures.unchanged_on_err ∙ c.in_ok-start.ensures.put)) (front_same _ _ refl) refl)

pub invariant_of-self-in_err-push : goal.invariant_of-self-in_err-push
invariant_of-self-in_err-push c =
    same_counted c.args.self.now c.self.inside.bytes.items c.self.inside.names.items c.self.inside.places.items c.self.inside.count
    c.self.view_is c.self.invariant _ _ _
    (put_twice _ c.args.line.now (line_feed ∷ []) _ _ c.in_ok-start.ensures.put c.in_ok-end.ensures.put)
    (front_same _ _ refl) c.in_err-push.ensures.items

pub returns-in_err-push-clause-unchanged_on_err : goal.returns-in_err-push-clause-unchanged_on_err
returns-in_err-push-clause-unchanged_on_err c =
    MatchResult-from_err c.from_residual-in_err-push.result _ _ c.from_residual-in_err-push.ensures.0
    (λ fault. same_seen c.args.self.now c.self.inside.bytes.items c.self.inside.names.items c.self.inside.places.items c.self.inside.count
    c.self.view_is c.self.invariant _ _ _
    (put_twice _ c.args.line.now (line_feed ∷ []) _ _ c.in_ok-start.ensures.put c.in_ok-end.ensures.put)
    (front_same _ _ refl) c.in_err-push.ensures.items)

pub invariant_of-self-2 : goal.invariant_of-self-2
invariant_of-self-2 c =
    let line = c.args.line.now in
    let put = line_put _ line _ _ c.in_ok-start.ensures.put c.in_ok-end.ensures.put in
    let whole = line_whole line c.requires in
    let end = line_end _ line _ _ c.in_ok-start.ensures.put c.in_ok-end.ensures.put _ c.in_ok-end.ensures.end in
    more_counted c.args.self.now c.self.inside.bytes.items c.self.inside.names.items c.self.inside.places.items c.self.inside.count
    c.self.view_is c.self.invariant _ _ _
    (front_put _ _ _ put) (front_same _ _ refl) _ (Text line ∷ []) c.in_ok-push.ensures.items
    (texts_are _ (line ++ line_feed ∷ []) _ put _ _ 1 c.in_ok-start.ensures.start end whole ∙ line_text line c.requires)
    (texts_within _ (line ++ line_feed ∷ []) _ put _ _ 1 c.in_ok-start.ensures.start end whole) _ refl
    (line_few _ line _ _ c.in_ok-start.ensures.put c.in_ok-end.ensures.put)

pub returns-clause-pushed : goal.returns-clause-pushed
returns-clause-pushed c =
    let line = c.args.line.now in
    let put = line_put _ line _ _ c.in_ok-start.ensures.put c.in_ok-end.ensures.put in
    let end = line_end _ line _ _ c.in_ok-start.ensures.put c.in_ok-end.ensures.put _ c.in_ok-end.ensures.end in
    more_are_seen c.args.self.now c.self.inside.bytes.items c.self.inside.names.items c.self.inside.places.items c.self.inside.count
    c.self.view_is c.self.invariant _ _ _
    (front_put _ _ _ put) (front_same _ _ refl) _ (Text line ∷ []) c.in_ok-push.ensures.items
    (texts_are _ (line ++ line_feed ∷ []) _ put _ _ 1 c.in_ok-start.ensures.start end (line_whole line c.requires)
    ∙ line_text line c.requires)
