use Rattle.std.proofs.Common.{◌≡◌, List, IfOk, map, sym, subst}
use Rattle.redo_logs.specs.Logs.{Log, new_log}
use Rattle.redo_gather.proofs.EnteringLemmas.{ok_of_and}
use Rattle.redo_gather.proofs.storing.new_table.Goals as goal

pub returns : goal.returns
returns c =
    let is_entered = λ (table : List Log). table ≡ map new_log c.args.names.items in
    subst (λ result. IfOk result is_entered) (sym c.and.ensures)
    (ok_of_and is_entered c.enter_names.result c.enter_names.new.table c.enter_names.ensures)
