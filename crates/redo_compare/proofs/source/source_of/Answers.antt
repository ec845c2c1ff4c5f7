use Rattle.std.proofs.Common.{ℕ, List, ◌++◌, not, ap, ◌∙◌}
use Rattle.redo_diagnostics.specs.Plain.{plain_line}
use Rattle.redo_compare.specs.Source.{after_those, is_space, text_after_row}
use Rattle.redo_compare.proofs.SourceLemmas.{of-line, of-plain}
use Rattle.redo_compare.proofs.source.source_of.Goals as goal

pub returns-then-is_none : goal.returns-then-is_none
returns-then-is_none c =
    c.in_ok-source.ensures.items_if_clones_equal (λ x y is. is) ∙ c.source_in.ensures
    ∙ of-line c.args.line.now c.memchr.result c.memchr.ensures (c.is_none.ensures ∙ ap not c.if-is_none.true)

pub returns : goal.returns
returns c =
    c.in_ok-source-2.ensures.items_if_clones_equal (λ x y is. is) ∙ c.source_in-2.ensures
    ∙ ap (λ (bytes : List ℕ). text_after_row (after_those is_space bytes)) (c.deref.ensures.value ∙ c.in_ok-push_plain.ensures
    ∙ ap (λ (bytes : List ℕ). bytes ++ plain_line c.args.line.now) c.new-plain.ensures.items)
    ∙ of-plain c.args.line.now
