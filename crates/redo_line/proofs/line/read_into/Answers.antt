use Rattle.std.proofs.Common.{true, refl, sym, ◌∙◌}
use Rattle.redo_line.specs.declared.entry.Entry.TheVariants.{Text}
use Rattle.redo_line.specs.Private.CutLine.{line_bytes}
use Rattle.redo_line.proofs.ReadingLemmas.{is_text, no_memory, refused_into}
use Rattle.redo_line.proofs.line.read_into.Goals as goal

pub returns-in_err-push_line-clause-read : goal.returns-in_err-push_line-clause-read
returns-in_err-push_line-clause-read c =
    let text = is_text c.args.target.now (line_bytes c.args.line) c.bytes.result.now true c.bytes.ensures
    (sym c.is_candidate.ensures ∙ c.if-is_candidate.false) in
    refused_into c.from_residual.result _ _ _ _ c.from_residual.ensures (no_memory _ _ text) c.in_err-push_line.ensures.unchanged_on_err

pub returns-clause-read : goal.returns-clause-read
returns-clause-read c =
    let text = is_text c.args.target.now (line_bytes c.args.line) c.bytes.result.now true c.bytes.ensures
    (sym c.is_candidate.ensures ∙ c.if-is_candidate.false) in
    record { entry = Text (line_bytes c.args.line); is = text; put = c.in_ok-push_line.ensures.pushed; closing_is = refl }
