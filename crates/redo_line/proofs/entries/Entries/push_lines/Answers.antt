use Rattle.std.proofs.Common.{◌≡◌, ◌+◌, length, map, refl, sym, ap, ◌∙◌}
use Rattle.std.proofs.lemmas.List.{length-map}
use Rattle.std.proofs.lemmas.Result.{MatchResult-from_err}
use Rattle.redo_line.specs.Lines.{ended}
use Rattle.redo_line.specs.declared.entry.Entry.TheVariants.{Text}
use Rattle.redo_line.proofs.EntriesLemmas.{front_put, front_same, more_are_seen, more_counted, same_counted, same_seen, texts_are, texts_few, texts_within}
use Rattle.redo_line.proofs.entries.Entries.push_lines.Goals as goal

pub invariant_of-self-in_err-push : goal.invariant_of-self-in_err-push
invariant_of-self-in_err-push c =
    same_counted c.args.self.now c.self.inside.bytes.items c.self.inside.names.items c.self.inside.places.items c.self.inside.count
    c.self.view_is c.self.invariant _ _ _
    (front_put _ c.args.lines.now _ c.in_ok-start.ensures.put) (front_same _ _ refl) c.in_err-push.ensures.items

pub returns-in_err-push-clause-unchanged_on_err : goal.returns-in_err-push-clause-unchanged_on_err
returns-in_err-push-clause-unchanged_on_err c =
    MatchResult-from_err c.from_residual-in_err-push.result _ _ c.from_residual-in_err-push.ensures.0
    (λ fault. same_seen c.args.self.now c.self.inside.bytes.items c.self.inside.names.items c.self.inside.places.items c.self.inside.count
    c.self.view_is c.self.invariant _ _ _
    (front_put _ c.args.lines.now _ c.in_ok-start.ensures.put) (front_same _ _ refl) c.in_err-push.ensures.items)

pub invariant_of-self-2 : goal.invariant_of-self-2
invariant_of-self-2 c =
    let put = c.in_ok-start.ensures in
    let lines = c.args.lines.now in
    let count : length (map Text (ended lines)) ≡ c.args.count = length-map (ended lines) Text ∙ c.requires.count_is in
    more_counted c.args.self.now c.self.inside.bytes.items c.self.inside.names.items c.self.inside.places.items c.self.inside.count
    c.self.view_is c.self.invariant _ _ _
    (front_put _ lines _ put.put) (front_same _ _ refl) _ (map Text (ended lines)) c.in_ok-push.ensures.items
    (texts_are _ lines _ put.put _ _ c.args.count put.start put.end c.requires)
    (texts_within _ lines _ put.put _ _ c.args.count put.start put.end c.requires) _ (ap (λ n. c.self.inside.count + n) (sym count))
    (texts_few _ lines _ put.put _ _ c.args.count put.start put.end c.requires)

pub returns-clause-pushed : goal.returns-clause-pushed
returns-clause-pushed c =
    let put = c.in_ok-start.ensures in
    let lines = c.args.lines.now in
    more_are_seen c.args.self.now c.self.inside.bytes.items c.self.inside.names.items c.self.inside.places.items c.self.inside.count
    c.self.view_is c.self.invariant _ _ _
    (front_put _ lines _ put.put) (front_same _ _ refl) _ (map Text (ended lines)) c.in_ok-push.ensures.items
    (texts_are _ lines _ put.put _ _ c.args.count put.start put.end c.requires)
