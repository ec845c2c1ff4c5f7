use Rattle.std.proofs.Common.{◌∙◌, Bool, Some, sym, ap}
use Rattle.redo_json.proofs.DiagnosticLemmas.{end_text, is_known, is_new, not_known}
use Rattle.redo_json.proofs.joined.object_end.Goals as goal

pub returns-in-None : goal.returns-in-None
returns-in-None c = not_known ∙ ap end_text (sym c.in-None.is)

pub returns-then-is_new : goal.returns-then-is_new
returns-then-is_new c = is_new ∙ ap (λ (new : Bool). end_text (Some new)) (sym c.if-is_new.true) ∙ ap end_text (sym c.in-Some.is)

pub returns-else-is_new : goal.returns-else-is_new
returns-else-is_new c = is_known ∙ ap (λ (new : Bool). end_text (Some new)) (sym c.if-is_new.false) ∙ ap end_text (sym c.in-Some.is)
