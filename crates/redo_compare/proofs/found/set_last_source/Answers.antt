use Rattle.std.proofs.Common.{◌≡◌, [], ◌∷◌, ◌++◌, ap, sym, ◌∙◌}
use Rattle.redo_compare.specs.Occurrences.{OccurrenceValue}
use Rattle.redo_compare.specs.Private.Finding.{with_last_source}
use Rattle.redo_compare.specs.Source.{source_of}
use Rattle.redo_compare.proofs.FindingLemmas.{with_last_source-last}
use Rattle.redo_compare.proofs.found.set_last_source.Goals as goal

pub returns-in_ok-push : goal.returns-in_ok-push
returns-in_ok-push c =
    let line = c.args.line.now in
    let front = c.pop.new.self.items in
    let inside = c.last.inside in
    let source_is : c.in_ok-last-inside.field-0.items ≡ source_of line = c.in_ok-last-inside.ensures in
    c.in_ok-push.ensures.items
    ∙ (λ i. front ++ record { line = inside.line; severity = inside.severity; key = inside.key.items; source = source_is i } ∷ [])
    ∙ ap (λ (last : OccurrenceValue). front ++ record last { source = source_of line } ∷ []) c.last.view_is
    ∙ sym (with_last_source-last (source_of line) front c.in-Some.last)
    ∙ ap (with_last_source (source_of line)) (sym c.in-Some.ensures.items)
