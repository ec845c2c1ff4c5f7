use Rattle.std.proofs.Common.{◌≡◌, true, [], ◌∷◌, ◌++◌, length, refl, rules, sym, ap, ◌∙◌, ◌+◌, ◌≤◌, subst}
use Rattle.std.proofs.lemmas.Result.{MatchResult-from_err}
use Rattle.redo_line.specs.Lines.{line_feed}
use Rattle.redo_line.specs.declared.entry.Entry.TheVariants.{Text}
use Rattle.redo_line.proofs.EntriesLemmas.{front_of_none, front_same, line_end, line_few, line_text, line_whole, more_are_seen, more_counted, same_counted, same_seen, texts_are, texts_within}
use Rattle.redo_line.proofs.entries.Entries.push_joined.Goals as goal

pub invariant_of-self : goal.invariant_of-self
invariant_of-self c =
    let beyond : c.exceeds_initial_capacity.result ≡ true = search rules in
    same_counted c.args.self.now c.self.inside.bytes.items c.self.inside.names.items c.self.inside.places.items c.self.inside.count
    c.self.view_is c.self.invariant _ _ _
    (front_of_none _ _ (c.exceeds_initial_capacity.ensures beyond)) (front_same _ _ refl) refl

pub returns-in_err-end-clause-unchanged_on_err : goal.returns-in_err-end-clause-unchanged_on_err
returns-in_err-end-clause-unchanged_on_err c =
    let beyond : c.exceeds_initial_capacity.result ≡ true = search rules in
    MatchResult-from_err c.from_residual.result _ _ c.from_residual.ensures.0
    (λ fault. same_seen c.args.self.now c.self.inside.bytes.items c.self.inside.names.items c.self.inside.places.items c.self.inside.count
    c.self.view_is c.self.invariant _ _ _
    (front_of_none _ _ (c.exceeds_initial_capacity.ensures beyond)) (front_same _ _ refl) refl)

pub invariant_of-self-in_err-push : goal.invariant_of-self-in_err-push
invariant_of-self-in_err-push c =
    let beyond : c.exceeds_initial_capacity.result ≡ true = search rules in
    same_counted c.args.self.now c.self.inside.bytes.items c.self.inside.names.items c.self.inside.places.items c.self.inside.count
    c.self.view_is c.self.invariant _ _ _
    (front_of_none _ _ (c.exceeds_initial_capacity.ensures beyond)) (front_same _ _ refl) c.in_err-push.ensures.items

pub returns-in_err-push-clause-unchanged_on_err : goal.returns-in_err-push-clause-unchanged_on_err
returns-in_err-push-clause-unchanged_on_err c =
    let beyond : c.exceeds_initial_capacity.result ≡ true = search rules in
    MatchResult-from_err c.from_residual-in_err-push.result _ _ c.from_residual-in_err-push.ensures.0
    (λ fault. same_seen c.args.self.now c.self.inside.bytes.items c.self.inside.names.items c.self.inside.places.items c.self.inside.count
    c.self.view_is c.self.invariant _ _ _
    (front_of_none _ _ (c.exceeds_initial_capacity.ensures beyond)) (front_same _ _ refl) c.in_err-push.ensures.items)

pub invariant_of-self-2 : goal.invariant_of-self-2
invariant_of-self-2 c =
    let line = c.args.line.items in
    let beyond : c.exceeds_initial_capacity.result ≡ true = search rules in
    let none = c.exceeds_initial_capacity.ensures beyond in
    let whole = line_whole line c.requires in
    let put = c.in_ok-end.ensures.put in
    let end = line_end [] line _ _ refl put _ c.in_ok-end.ensures.end in
    more_counted c.args.self.now c.self.inside.bytes.items c.self.inside.names.items c.self.inside.places.items c.self.inside.count
    c.self.view_is c.self.invariant _ _ _
    (front_of_none _ _ none) (front_same _ _ refl) _ (Text line ∷ []) c.in_ok-push.ensures.items
    (texts_are [] (line ++ line_feed ∷ []) _ put _ _ 1 refl end whole ∙ line_text line c.requires)
    (texts_within [] (line ++ line_feed ∷ []) _ put _ _ 1 refl end whole) _ refl
    (subst (λ n. n + 1 ≤ length c.put.new.bytes.items + 1) (sym (ap length none)) (line_few [] line _ _ refl put))

pub returns-clause-pushed : goal.returns-clause-pushed
returns-clause-pushed c =
    let line = c.args.line.items in
    let beyond : c.exceeds_initial_capacity.result ≡ true = search rules in
    let put = c.in_ok-end.ensures.put in
    let end = line_end [] line _ _ refl put _ c.in_ok-end.ensures.end in
    more_are_seen c.args.self.now c.self.inside.bytes.items c.self.inside.names.items c.self.inside.places.items c.self.inside.count
    c.self.view_is c.self.invariant _ _ _
    (front_of_none _ _ (c.exceeds_initial_capacity.ensures beyond)) (front_same _ _ refl) _ (Text line ∷ []) c.in_ok-push.ensures.items
    (texts_are [] (line ++ line_feed ∷ []) _ put _ _ 1 refl end (line_whole line c.requires) ∙ line_text line c.requires)
