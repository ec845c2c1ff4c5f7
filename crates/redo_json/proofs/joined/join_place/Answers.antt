use Rattle.redo_json.proofs.JoinLemmas.{appended_as, appended_then}
use Rattle.redo_json.proofs.VerbatimLemmas.{place_joined}
use Rattle.redo_json.proofs.joined.join_place.Goals as goal

pub returns : goal.returns
returns c =
    appended_as _ _ _ _ _
    (place_joined c.args.severity c.args.place.now _ _ _ _ c.requires c.front_of_file.ensures c.file.ensures c.row.ensures
    c.column.ensures)
    (appended_then _ _ _ _ _ _ c.in_ok-join_bytes.ensures
    (appended_then _ _ _ _ _ _ c.in_ok-join_bytes-2.ensures
    (appended_then _ _ _ _ _ _ c.in_ok-join_bytes-3.ensures
    (appended_then _ _ _ _ _ _ c.in_ok-join_number.ensures
    (appended_then _ _ _ _ _ _ c.in_ok-join_bytes-4.ensures
    (appended_then _ _ _ _ _ _ c.in_ok-join_column.ensures c.join_bytes-5.ensures))))))
