use Rattle.std.proofs.Common.{Ok, refl, sym, ◌∙◌}
use Rattle.redo_line.specs.declared.entry.Entry.TheVariants.{Text}
use Rattle.redo_line.proofs.ReadingLemmas.{is_text, text_has_entry, has_to_be}
use Rattle.redo_line.proofs.line.read_line.Goals as goal

pub returns-then-is_candidate-clause-text : goal.returns-then-is_candidate-clause-text
returns-then-is_candidate-clause-text c none =
    absurd (has_to_be c.args.target.now c.args.line c.bytes.result.now c.args.ended c.bytes.ensures.bytes
    (sym c.is_candidate.ensures ∙ c.if-is_candidate.true) none)

pub returns-else-is_candidate-clause-entry : goal.returns-else-is_candidate-clause-entry
returns-else-is_candidate-clause-entry c =
    is_text c.args.target.now c.args.line c.bytes.result.now c.args.ended c.bytes.ensures.bytes
    (sym c.is_candidate.ensures ∙ c.if-is_candidate.false)

pub returns-else-is_candidate-clause-bad : goal.returns-else-is_candidate-clause-bad
returns-else-is_candidate-clause-bad c =
    text_has_entry c.args.target.now c.args.line c.bytes.result.now c.args.ended c.bytes.ensures.bytes
    (sym c.is_candidate.ensures ∙ c.if-is_candidate.false) (Ok (Text c.args.line)) refl
