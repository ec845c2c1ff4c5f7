use Rattle.std.proofs.Common.{Err, sym, ap}
use Rattle.redo_index.proofs.LineParts.{none_of, no_number, no_name, all_fields}
use Rattle.redo_index.proofs.index.parse_fields.Goals as goal

pub returns-in_default : goal.returns-in_default
returns-in_default c = sym (none_of c.args.must_close c.args.line.now c.in_default.ensures)

pub returns-in_default-parse_number : goal.returns-in_default-parse_number
returns-in_default-parse_number c = sym
    (no_number c.args.must_close c.args.line.now c.in-Some.at c.in-Some.ensures (sym c.in_default-parse_number.ensures))

pub returns-in-Ok : goal.returns-in-Ok
returns-in-Ok c = sym (all_fields c.args.must_close c.args.line.now c.in-Some.at c.in-Some.ensures c.in-Some-parse_number.number
    c.in-Ok.target (sym c.in-Some-parse_number.ensures) c.in-Ok.ensures.ok)

pub returns-in-Err-Empty : goal.returns-in-Err-Empty
returns-in-Err-Empty c = sym (no_name c.args.must_close c.args.line.now c.in-Some.at c.in-Some.ensures
    (c.in-Err-Empty.ensures.empty.0 (ap Err c.in-Err-Empty.field-0-is)))
