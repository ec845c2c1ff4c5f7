use Rattle.std.proofs.Common.{[], ◌∷◌, ap, arith, refl}
use Rattle.std.proofs.lemmas.Result.{MatchResult-from_err}
use Rattle.redo_line.specs.declared.entry.Entry.TheVariants as entry
use Rattle.redo_line.proofs.EntriesLemmas.{front_put, front_same, more_are_seen, more_counted, name_within, range_put, same_counted, same_seen}
use Rattle.redo_line.proofs.entries.Entries.push_mention.Goals as goal

pub invariant_of-self-in_err-push : goal.invariant_of-self-in_err-push
invariant_of-self-in_err-push c =
    same_counted c.args.self.now c.self.inside.bytes.items c.self.inside.names.items c.self.inside.places.items c.self.inside.count
    c.self.view_is c.self.invariant _ _ _
    (front_same _ _ refl) (front_put _ c.args.name.now _ c.in_ok-start.ensures.put) c.in_err-push.ensures.items

pub returns-in_err-push-clause-unchanged_on_err : goal.returns-in_err-push-clause-unchanged_on_err
returns-in_err-push-clause-unchanged_on_err c =
    MatchResult-from_err c.from_residual-in_err-push.result _ _ c.from_residual-in_err-push.ensures.0
    (λ fault. same_seen c.args.self.now c.self.inside.bytes.items c.self.inside.names.items c.self.inside.places.items c.self.inside.count
    c.self.view_is c.self.invariant _ _ _
    (front_same _ _ refl) (front_put _ c.args.name.now _ c.in_ok-start.ensures.put) c.in_err-push.ensures.items)

pub invariant_of-self-2 : goal.invariant_of-self-2
invariant_of-self-2 c =
    let start = c.in_ok-start.ensures in
    let name = range_put _ c.args.name.now _ start.put _ _ start.start start.end in
    more_counted c.args.self.now c.self.inside.bytes.items c.self.inside.names.items c.self.inside.places.items c.self.inside.count
    c.self.view_is c.self.invariant _ _ _
    (front_same _ _ refl) (front_put _ c.args.name.now _ start.put) _
    (entry.Mention c.args.pid c.args.how c.args.name.now ∷ []) c.in_ok-push.ensures.items
    (ap (λ n. entry.Mention c.args.pid c.args.how n ∷ []) name)
    (name_within _ c.args.name.now _ start.put _ _ start.start start.end c.requires) _ refl (omega arith)

pub returns-clause-pushed : goal.returns-clause-pushed
returns-clause-pushed c =
    let start = c.in_ok-start.ensures in
    let name = range_put _ c.args.name.now _ start.put _ _ start.start start.end in
    more_are_seen c.args.self.now c.self.inside.bytes.items c.self.inside.names.items c.self.inside.places.items c.self.inside.count
    c.self.view_is c.self.invariant _ _ _
    (front_same _ _ refl) (front_put _ c.args.name.now _ start.put) _
    (entry.Mention c.args.pid c.args.how c.args.name.now ∷ []) c.in_ok-push.ensures.items
    (ap (λ n. entry.Mention c.args.pid c.args.how n ∷ []) name)
