use Rattle.redo_json.proofs.joined.join_bytes.Goals as goal

pub returns : goal.returns
returns c = record { is = c.in_ok-extend_from_slice.ensures.items }
