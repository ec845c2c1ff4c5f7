use Rattle.std.proofs.Common.{◌≡◌, ◌≤◌, ◌<◌, ◌++◌, ◌∷◌, List, [], Some, length, slice_set, rules, refl, sym, ap, ◌∙◌, subst, arith}
use Rattle.std.proofs.lemmas.List.{length-map}
use Rattle.std.proofs.lemmas.Result.{MatchResult-from_err}
use Rattle.redo_logs.specs.declared.log_state.LogState.TheVariants.{Running}
use Rattle.redo_logs.specs.declared.log_table.Log.{Log as Stored}
use Rattle.redo_logs.specs.Logs.{max_logs, new_log, log_number}
use Rattle.redo_logs.specs.Private.Stored.{IsStored, log_of, logs_of}
use Rattle.redo_logs.proofs.Growing.{one_more, one_stored, placed_stored}
use Rattle.redo_logs.proofs.Storing.{grown_stored, logs_grown}
use Rattle.redo_logs.proofs.log_table.LogTable.enter_new.Goals as goal

pub invariant_of-self : goal.invariant_of-self
invariant_of-self c = grown_stored _ _ c.in_err-name.ensures.extends _ _ c.self.invariant

pub returns-in_err-name-clause-unchanged_on_err : goal.returns-in_err-name-clause-unchanged_on_err
returns-in_err-name-clause-unchanged_on_err c =
    MatchResult-from_err c.from_residual.result _ _ c.from_residual.ensures.0
    (λ fault. logs_grown _ _ c.in_err-name.ensures.extends _ c.self.invariant.within ∙ c.self.view_is)

pub invariant_of-self-in_err-grow_to : goal.invariant_of-self-in_err-grow_to
invariant_of-self-in_err-grow_to c =
    let grown = grown_stored _ _ c.in_ok-name.ensures.extends _ _ c.self.invariant in
    let few : length c.self.inside.log_of_name.items ≤ c.len.result =
    subst (λ n. length c.self.inside.log_of_name.items ≤ n) (sym c.len.ensures) grown.places_within in
    placed_stored _ _ _ _ (subst (λ n. length c.grow_to.new.places.items ≤ n) c.len.ensures (c.in_err-grow_to.ensures.within few))
    c.in_err-grow_to.ensures.same grown

pub returns-in_err-grow_to-clause-unchanged_on_err : goal.returns-in_err-grow_to-clause-unchanged_on_err
returns-in_err-grow_to-clause-unchanged_on_err c =
    MatchResult-from_err c.from_residual-in_err-grow_to.result _ _ c.from_residual-in_err-grow_to.ensures.0
    (λ fault. logs_grown _ _ c.in_ok-name.ensures.extends _ c.self.invariant.within ∙ c.self.view_is)

pub invariant_of-self-in_err-push : goal.invariant_of-self-in_err-push
invariant_of-self-in_err-push c =
    let grown = grown_stored _ _ c.in_ok-name.ensures.extends _ _ c.self.invariant in
    let few : length c.self.inside.log_of_name.items ≤ c.len.result =
    subst (λ n. length c.self.inside.log_of_name.items ≤ n) (sym c.len.ensures) grown.places_within in
    subst (λ logs. IsStored c.intern.new.self logs c.grow_to.new.places.items) (sym {A = List Stored} c.in_err-push.ensures.items)
    (placed_stored _ _ _ _ (subst (λ n. length c.grow_to.new.places.items ≤ n) c.len.ensures (c.in_ok-grow_to.ensures.within few))
    c.in_ok-grow_to.ensures.same grown)

pub returns-in_err-push-clause-unchanged_on_err : goal.returns-in_err-push-clause-unchanged_on_err
returns-in_err-push-clause-unchanged_on_err c =
    MatchResult-from_err c.from_residual-in_err-push.result _ _ c.from_residual-in_err-push.ensures.0
    (λ fault. ap (logs_of c.intern.new.self) c.in_err-push.ensures.items
    ∙ logs_grown _ _ c.in_ok-name.ensures.extends _ c.self.invariant.within ∙ c.self.view_is)

pub invariant_of-self-2 : goal.invariant_of-self-2
invariant_of-self-2 c =
    let parts = c.intern.new.self in
    let logs = c.self.inside.logs.items in
    let places = c.grow_to.new.places.items in
    let log : Stored = record { name = c.in_ok-name.name; records = c.new.result; state = Running } in
    let named = c.in_ok-name.ensures.is in
    let grown = grown_stored _ _ c.in_ok-name.ensures.extends _ _ c.self.invariant in
    let same = logs_grown _ _ c.in_ok-name.ensures.extends _ c.self.invariant.within ∙ c.self.view_is in
    let few : length c.self.inside.log_of_name.items ≤ c.len.result =
    subst (λ n. length c.self.inside.log_of_name.items ≤ n) (sym c.len.ensures) grown.places_within in
    let stored = placed_stored _ _ _ _ (subst (λ n. length places ≤ n) c.len.ensures (c.in_ok-grow_to.ensures.within few))
    c.in_ok-grow_to.ensures.same grown in
    let count : c.len-number.result ≡ length logs = search rules in
    let room : length logs < max_logs =
    omega (arith, c.requires.room, ap length c.self.view_is, length-map logs (log_of c.self.inside.store)) in
    let there = c.in_ok-grow_to.ensures.room in
    let has_place : c.in_ok-name.name < length places = omega (arith, there, c.len.ensures, named.below) in
    let absent = (λ i. log_number (named.is i) (same i)) ∙ c.requires.absent in
    subst (λ ls. IsStored parts ls (slice_set places c.in_ok-name.name (Some c.len-number.result)))
    (sym {A = List Stored} c.in_ok-push.ensures.items)
    (subst (λ n. IsStored parts (logs ++ log ∷ []) (slice_set places c.in_ok-name.name (Some n))) (sym count)
    (one_more parts logs places c.in_ok-name.name log refl c.new.ensures refl stored named.below room has_place absent))

pub returns-clause-entered : goal.returns-clause-entered
returns-clause-entered c =
    let log : Stored = record { name = c.in_ok-name.name; records = c.new.result; state = Running } in
    let same = logs_grown _ _ c.in_ok-name.ensures.extends _ c.self.invariant.within ∙ c.self.view_is in
    ap (logs_of c.intern.new.self) c.in_ok-push.ensures.items
    ∙ one_stored c.intern.new.self c.self.inside.logs.items c.grow_to.new.places.items c.in_ok-name.name log refl c.new.ensures refl
    ∙ (λ i. same i ++ new_log (c.in_ok-name.ensures.is.is i) ∷ [])
