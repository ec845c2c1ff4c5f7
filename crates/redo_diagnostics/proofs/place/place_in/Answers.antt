use Rattle.std.proofs.Common.{sym, ◌∙◌, ap}
use Rattle.redo_diagnostics.specs.Diagnostic.{place_from}
use Rattle.redo_diagnostics.proofs.PlaceLemmas.{empty_file, no_numbers, some_file}
use Rattle.redo_diagnostics.proofs.place.place_in.Goals as goal

pub returns-then-is_empty : goal.returns-then-is_empty
returns-then-is_empty c = sym (empty_file c.args.file.now _ (sym c.is_empty.ensures ∙ c.if-is_empty.true))

pub returns-in_default : goal.returns-in_default
returns-in_default c = rw c.in_default.ensures.none (sym (no_numbers c.args.file.now))

pub returns-in-None : goal.returns-in-None
returns-in-None c =
    rw c.in-Some.ensures.some (sym (ap (place_from c.args.file.now) (sym c.in-None.ensures) ∙ no_numbers c.args.file.now))

pub returns-in-Some-row_and_column : goal.returns-in-Some-row_and_column
returns-in-Some-row_and_column c =
    rw c.in-Some.ensures.some (sym (ap (place_from c.args.file.now) (sym c.in-Some-row_and_column.ensures)
    ∙ some_file c.args.file.now _ (sym c.is_empty.ensures ∙ c.if-is_empty.false)))
