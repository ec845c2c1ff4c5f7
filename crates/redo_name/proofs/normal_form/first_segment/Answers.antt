use Rattle.std.proofs.Common.{◌+◌, ◌∷◌, take, ap, sym, ◌∙◌}
use Rattle.std.proofs.lemmas.List.{take_rest}
use Rattle.redo_name.specs.Names.{segments}
use Rattle.redo_name.proofs.SegmentLemmas.{cut_first, free_before, holds_none}
use Rattle.redo_name.proofs.normal_form.first_segment.Goals as goal

pub returns-in-Some-clause-first : goal.returns-in-Some-clause-first
returns-in-Some-clause-first c =
    let name = c.args.name.now in
    let at = c.in-Some.at in
    cut_first name at c.in-Some.ensures ∙ ap (λ behind. take at name ∷ segments behind) (sym (take_rest name (at + 1)))

pub returns-in-Some-clause-free : goal.returns-in-Some-clause-free
returns-in-Some-clause-free c = free_before c.args.name.now c.in-Some.at c.in-Some.ensures.0.before

pub returns-in-None-clause-none : goal.returns-in-None-clause-none
returns-in-None-clause-none c = holds_none c.args.name.now c.in-None.ensures
