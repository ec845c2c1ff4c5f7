use Rattle.redo_json.proofs.JoinLemmas.{appended_then}
use Rattle.redo_json.proofs.joined.join_known_flag.Goals as goal

pub returns : goal.returns
returns c =
    appended_then _ _ _ _ _ _ c.in_ok-join_bytes.ensures
    (appended_then _ _ _ _ _ _ c.in_ok-join_bytes-2.ensures c.join_bytes-3.ensures)
