use Rattle.std.proofs.Common.{◌≤◌, ◌∙◌, ap, length, map, subst, sym}
use Rattle.std.specs.String.{string_bytes}
use Rattle.std.proofs.lemmas.Result.{IfOk-weaker}
use Rattle.clap.specs.Faults.{fault_of, is_simple_and_free}
use Rattle.clap.specs.Simple.{App}
use Rattle.redo_args.proofs.rejection.fault_in.Goals as goal

pub fault_by-requires-clause-exact : goal.fault_by-requires-clause-exact
fault_by-requires-clause-exact g c = ap is_simple_and_free c.in_ok-command.ensures ∙ c.is_exact.ensures.exact

pub fault_by-requires-clause-one_kind : goal.fault_by-requires-clause-one_kind
fault_by-requires-clause-one_kind g c =
    let words = map string_bytes c.args.words.now in
    subst (λ (app : App). length (fault_of app words) ≤ 1) (sym c.in_ok-command.ensures) (c.is_exact.ensures.one_kind words)

pub returns : goal.returns
returns g c =
    let words = map string_bytes c.args.words.now in
    IfOk-weaker c.fault_by.result _ _ (λ kind is. is ∙ ap (λ (app : App). fault_of app words) c.in_ok-command.ensures)
    c.fault_by.ensures
