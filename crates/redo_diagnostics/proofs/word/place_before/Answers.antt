use Rattle.std.proofs.Common.{sym, ◌∙◌}
use Rattle.std.proofs.lemmas.Bool.{false≢true}
use Rattle.redo_diagnostics.proofs.WordLemmas.{begins_well, has_letters}
use Rattle.redo_diagnostics.proofs.word.place_before.Goals.{else-eq-via-then-eq+else-may_begin, else-eq-via-else-eq}
use Rattle.redo_diagnostics.proofs.word.place_before.Goals as goal

pub returns-else-eq : goal.returns-else-eq
returns-else-eq c = λ place is. elim c.else-eq.branch [
  | else-eq-via-then-eq+else-may_begin w ↦
      false≢true (sym w.if-may_begin.false ∙ w.may_begin.ensures
      ∙ begins_well c.args.plain.now c.word_of-word.result.now c.args.end c.args.severity place c.word_of-word.ensures is)
  | else-eq-via-else-eq w ↦
      false≢true (sym w.if-eq.false ∙ c.eq.ensures
      ∙ has_letters c.args.plain.now c.word_of-word.result.now c.args.end c.args.severity place c.word_of-word.ensures is)
]
