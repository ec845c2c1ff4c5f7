use Rattle.std.proofs.Common.{◌≡◌, ◌+◌, List, [], ◌++◌, length, ap, sym, ◌∙◌, arith}
use Rattle.redo_diagnostics.specs.Diagnostic.{parts_of}
use Rattle.redo_compare.specs.Occurrences.{FoundValue, OccurrenceValue, ends_with_diagnostic, occurrence_if, occurrences_of}
use Rattle.redo_compare.specs.Private.Finding.{with_source_if}
use Rattle.redo_compare.specs.Source.{source_of}
use Rattle.redo_compare.proofs.FindingLemmas.{ends-push, occurrences-push}
use Rattle.redo_compare.proofs.found.LogDiagnostics.add.Goals as goal

pub returns : goal.returns
returns c = λ lines here found.
    let line = c.args.line.now in
    let occurrences : c.self.inside.occurrences.items ≡ occurrences_of lines =
    ap (λ (value : FoundValue). value.occurrences) c.self.view_is ∙ found.occurrences in
    let is_last : c.self.inside.is_last ≡ ends_with_diagnostic lines =
    ap (λ (value : FoundValue). value.is_last) c.self.view_is ∙ found.is_last in
    let position : c.args.position ≡ 0 + length lines = omega (arith, here) in
    record {
      occurrences = c.in_ok-self-inside.ensures.occurrences
          ∙ ap (λ (l : List OccurrenceValue). l ++ occurrence_if c.args.position (parts_of line) [] []) c.in_ok-set_source_if.ensures
          ∙ (λ i. with_source_if (is_last i) (source_of line) (occurrences i) ++ occurrence_if (position i) (parts_of line) [] [])
          ∙ sym (occurrences-push 0 lines line);
      is_last = c.in_ok-self-inside.ensures.is ∙ sym (ends-push lines line);
    }
