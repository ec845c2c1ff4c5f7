use Rattle.std.proofs.Common.{sym, ◌∙◌, subst}
use Rattle.redo_logs.specs.Private.Store.{Extends, Parts}
use Rattle.redo_logs.proofs.Growing.{found_name}
use Rattle.redo_logs.proofs.Keeping.{grows_none}
use Rattle.redo_logs.proofs.store.Store.intern_bytes.Goals as goal

pub returns-in-Some-clause-extends : goal.returns-in-Some-clause-extends
returns-in-Some-clause-extends c = grows_none _

pub returns-in-Some-get_index_of-clause-extends : goal.returns-in-Some-get_index_of-clause-extends
returns-in-Some-get_index_of-clause-extends c = subst (λ (new : Parts). Extends c.args.self.now new) (sym c.self.view_is) (grows_none _)

pub returns-in-Some-get_index_of-clause-is : goal.returns-in-Some-get_index_of-clause-is
returns-in-Some-get_index_of-clause-is c =
    found_name c.self.inside.names.keys c.args.name.now c.in-Some-get_index_of.number
    (sym c.get_index_of.ensures.index ∙ c.in-Some-get_index_of.is)

pub returns-in_err-name-clause-extends : goal.returns-in_err-name-clause-extends
returns-in_err-name-clause-extends c = grows_none _
