use Rattle.std.proofs.Common.{◌+◌, sym, ap, ◌∙◌, subst, refl, inr}
use Rattle.std.specs.Prelude.{option_map}
use Rattle.std.proofs.lemmas.List.{take_all}
use Rattle.redo_index.specs.Index.{listed_targets}
use Rattle.redo_run.specs.declared.run_fault.RunFault.TheVariants as fault
use Rattle.redo_options.specs.Arguments.{argument_bytes}
use Rattle.redo_run.specs.Run.{find_targets, find_target, unknown_argument}
use Rattle.redo_run.proofs.Finding.{Found, found_more, not_found}
use Rattle.redo_run.proofs.running.find_targets.Goals as goal

pub loop-place-init : goal.loop-place-init
loop-place-init c = record { known = refl; targets_are = c.in_ok-targets.ensures.items }

pub returns-in_default-clause-fault : goal.returns-in_default-clause-fault
returns-in_default-clause-fault c =
    let names = listed_targets c.args.index.now in
    let none = ap (find_target names) (sym c.deref.ensures.value) ∙ sym c.in_ok-target.ensures ∙ c.in_default.is in
    inr (ap (option_map fault.Unknown) (not_found names c.args.arguments.now c.loop-place.place c.loop-place.targets.items
    c.index-arguments-place.result c.index-arguments-place.result c.loop-place-test.true
    (sym c.index-arguments-place.is) c.loop-place.invariant none))

pub loop-place-preserved : goal.loop-place-preserved
loop-place-preserved c =
    let names = listed_targets c.args.index.now in
    let some = ap (find_target names) (sym c.deref.ensures.value) ∙ sym c.in_ok-target.ensures ∙ c.in-Some.is in
    subst (Found names c.args.arguments.now (c.loop-place.place + 1)) (sym c.in_ok-push.ensures.items)
    (found_more names c.args.arguments.now c.loop-place.place c.loop-place.targets.items c.index-arguments-place.result
    c.index-arguments-place.result c.loop-place-test.true (sym c.index-arguments-place.is) c.loop-place.invariant c.in-Some.target some)

pub returns-clause-known : goal.returns-clause-known
returns-clause-known c =
    ap (λ arguments. unknown_argument (listed_targets c.args.index.now) (argument_bytes arguments))
    (sym (take_all c.loop-place.place c.args.arguments.now c.loop-place-test.false)) ∙ c.loop-place.invariant.known

pub returns-clause-targets : goal.returns-clause-targets
returns-clause-targets c =
    c.loop-place.invariant.targets_are ∙ ap (λ arguments. find_targets (listed_targets c.args.index.now) (argument_bytes arguments))
    (take_all c.loop-place.place c.args.arguments.now c.loop-place-test.false)
