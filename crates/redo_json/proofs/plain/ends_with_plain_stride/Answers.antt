use Rattle.std.proofs.Common.{◌-◌, length, sym, ◌∙◌}
use Rattle.redo_json.proofs.EscapeLemmas.{plain_to_end}
use Rattle.redo_json.proofs.plain.ends_with_plain_stride.Goals as goal

pub returns : goal.returns
returns c = λ is first.
    plain_to_end c.args.bytes.now (length c.args.bytes.now - 32) c.args.len c.if-start-len.false first (sym c.are_plain.ensures ∙ is)
