use Rattle.std.proofs.Common.{◌++◌, ℕ, List, ap}
use Rattle.std.specs.Prelude.{codes, decimal}
use Rattle.redo_json.proofs.JoinLemmas.{appended_as, appended_then}
use Rattle.redo_json.proofs.joined.join_end.Goals as goal

pub returns : goal.returns
returns c =
    appended_as _ _ _ _ _ (ap (λ (l : List ℕ). codes "\",\"nth\":" ++ (decimal c.args.nth ++ l)) c.object_end.ensures)
    (appended_then _ _ _ _ _ _ c.in_ok-join_bytes.ensures
    (appended_then _ _ _ _ _ _ c.in_ok-join_number.ensures c.join_bytes-2.ensures))
