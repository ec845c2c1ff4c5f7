use Rattle.std.proofs.Common.{◌<◌, length, arith, sym, ◌∙◌}
use Rattle.std.proofs.lemmas.Bool.{eqb-true, eqb-false, iff_false}
use Rattle.std.proofs.lemmas.List.{nil_from_length}
use Rattle.redo_name.proofs.PathLemmas.{empty_path, upward_path, ordinary_path}
use Rattle.redo_name.proofs.normal_form.parent_len.Goals as goal
use Rattle.redo_name.proofs.normal_form.parent_len.Goals.{then-is_empty-via-then-is_empty, then-is_empty-via-else-is_empty+then-is_upward}

pub returns-then-is_empty : goal.returns-then-is_empty
returns-then-is_empty c absolute parts stands =
    let found = c.last_segment-above in
    let path = c.args.path.now in
    elim c.then-is_empty.branch [
      | then-is_empty-via-then-is_empty w ↦ empty_path absolute path parts stands
          (nil_from_length path (eqb-true (length path) 0 (sym c.is_empty.ensures ∙ w.if-is_empty.true)))
      | then-is_empty-via-else-is_empty+then-is_upward w ↦
          upward_path absolute path parts stands found.result.0 found.result.1.now found.ensures.slash found.ensures.none
          (w.is_upward.ensures.0 w.if-is_upward.true)
    ]

pub returns : goal.returns
returns c absolute parts stands =
    let found = c.last_segment-above in
    let path = c.args.path.now in
    let nonempty = eqb-false (length path) 0 (sym c.is_empty.ensures ∙ c.if-is_empty.false) in
    let some : 0 < length path = omega (arith, nonempty) in
    ordinary_path absolute path parts stands some found.result.0 found.result.1.now found.ensures.slash found.ensures.none
    (iff_false c.is_upward.ensures c.if-is_upward.false)
