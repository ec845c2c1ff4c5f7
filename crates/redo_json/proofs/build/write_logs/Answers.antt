use Rattle.std.proofs.Common.{ℕ, List, suc, take, drop, sym, ◌∙◌, append_assoc}
use Rattle.std.specs.List.{flat_map}
use Rattle.std.proofs.lemmas.Result.{err_from_is_err_and}
use Rattle.redo_line.specs.Lines.{with_line_feed}
use Rattle.redo_outline.specs.declared.node.Node.{Node}
use Rattle.redo_json.specs.Build.{object_text, request_of}
use Rattle.redo_json.specs.Private.Values.{node_values}
use Rattle.redo_json.proofs.FormLemmas.{part_failed}
use Rattle.redo_json.proofs.PartLemmas.{one_of}
use Rattle.redo_json.proofs.build.write_logs.Goals as goal

pub returns-in_err-write_log : goal.returns-in_err-write_log
returns-in_err-write_log g c =
    let nodes = c.args.nodes.now in
    let i = c.loop-node.node-index in
    let text : Node
    → List ℕ = λ node. with_line_feed (object_text (node_values (request_of c.args.request.now) c.args.table.now nodes node)) in
    let front = flat_map text (take i nodes) in
    let behind = flat_map text (drop (suc i) nodes) in
    let given = err_from_is_err_and c.from_residual.result c.from_residual.ensures.1 in
    rw (given.1, given.2) (part_failed _ _ _ (flat_map text nodes) _ behind _
    (record {
      prefix = front;
      wrote = c.loop-node.invariant;
      splits = sym (append_assoc front _ behind) ∙ one_of text nodes i _ c.loop-node-test.true;
    }) c.in_err-write_log.ensures)
