use Rattle.std.proofs.Common.{◌++◌, not, ◌∙◌, ap}
use Rattle.std.specs.Prelude.{option_map}
use Rattle.redo_diagnostics.specs.Diagnostic.{diagnostic_from, parts_in}
use Rattle.redo_diagnostics.specs.Plain.{plain_line}
use Rattle.redo_diagnostics.proofs.ReadLemmas.{of_line, of_no_colon, of_plain}
use Rattle.redo_diagnostics.proofs.diagnostic.read_diagnostic.Goals as goal

pub returns-then-is_none : goal.returns-then-is_none
returns-then-is_none c =
    c.read_plain.ensures ∙ of_line c.args.line.now c.memchr.result c.memchr.ensures (c.is_none.ensures ∙ ap not c.if-is_none.true)

pub returns-then-is_none-2 : goal.returns-then-is_none-2
returns-then-is_none-2 c =
    of_no_colon c.args.line.now c.memchr-2.result c.memchr-2.ensures (c.is_none-2.ensures ∙ ap not c.if-is_none-2.true)

pub returns : goal.returns
returns c =
    c.read_plain-2.ensures
    ∙ ap (λ bytes. option_map diagnostic_from (parts_in bytes)) (c.deref.ensures.value ∙ c.in_ok-push_plain.ensures
    ∙ ap (λ bytes. bytes ++ plain_line c.args.line.now) c.clear.ensures.items)
    ∙ of_plain c.args.line.now
