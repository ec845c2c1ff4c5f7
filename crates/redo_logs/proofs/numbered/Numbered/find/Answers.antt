use Rattle.std.proofs.Common.{sym, ap, ◌∙◌}
use Rattle.std.specs.ControlFlow.{continue_value}
use Rattle.redo_logs.specs.Logs.{log_number}
use Rattle.redo_logs.specs.Numbering.{Numbering, name_at}
use Rattle.redo_logs.proofs.Growing.{found_name}
use Rattle.redo_logs.proofs.Storing.{unnamed}
use Rattle.redo_logs.proofs.numbered.Numbered.find.Goals as goal

pub returns-in_err-name : goal.returns-in_err-name
returns-in_err-name c =
    let none = sym c.find.ensures ∙ c.branch-name.ensures ∙ ap continue_value c.in_err-name.is in
    c.from_residual.ensures ∙ sym (unnamed c.self.inside.store.now c.args.target.now c.self.inside.logs.now c.self.invariant.within none)
    ∙ ap (λ (n : Numbering). log_number c.args.target.now n.logs) c.self.view_is

pub returns : goal.returns
returns c =
    let named = found_name c.self.inside.store.now.names c.args.target.now c.in_ok-name.name
    (sym c.find.ensures ∙ c.branch-name.ensures ∙ ap continue_value c.in_ok-name.is) in
    c.log_of.ensures ∙ ap (λ name. log_number name c.args.self.now.logs)
    (ap (λ (n : Numbering). name_at n.names c.in_ok-name.name) (sym c.self.view_is) ∙ named.is)
