use Rattle.std.proofs.Common.{◌≡◌, [], ◌∷◌, ◌++◌, List, Option, None, Some, ap, rules, sym, ◌∙◌}
use Rattle.std.specs.Prelude.{is_some}
use Rattle.std.proofs.lemmas.List.{append-nil}
use Rattle.redo_diagnostics.specs.Diagnostic.{PartsValue, diagnostic_of}
use Rattle.redo_compare.specs.Occurrences.{OccurrenceValue, occurrence_if}
use Rattle.redo_compare.proofs.DiagnosticLemmas.{no_parts, occurrence_is}
use Rattle.redo_compare.proofs.found.push_if_diagnostic.Goals as goal

pub returns-in_default-clause-occurrences : goal.returns-in_default-clause-occurrences
returns-in_default-clause-occurrences c =
    let items = c.args.occurrences.now.items in
    let none : diagnostic_of c.args.line.now ≡ None = sym c.in_ok-diagnostic.ensures ∙ c.in_default.is in
    sym (ap (λ (found : Option PartsValue). items ++ occurrence_if c.args.position found [] []) (no_parts c.args.line.now none)
    ∙ append-nil items)

pub returns-in_default-clause-is : goal.returns-in_default-clause-is
returns-in_default-clause-is c =
    let none : diagnostic_of c.args.line.now ≡ None = sym c.in_ok-diagnostic.ensures ∙ c.in_default.is in
    sym (ap (λ (found : Option PartsValue). is_some found) (no_parts c.args.line.now none))

pub returns-clause-occurrences : goal.returns-clause-occurrences
returns-clause-occurrences c =
    let items = c.args.occurrences.now.items in
    let value = c.in-Some.diagnostic in
    let some : diagnostic_of c.args.line.now ≡ Some value = sym c.in_ok-diagnostic.ensures ∙ c.in-Some.is in
    let severity : c.severity.result ≡ value.severity = c.severity.ensures in
    let key : c.in_ok-to_vec.field-0.items ≡ value.key = search rules in
    let source : c.new.result.items ≡ [] = c.new.ensures.items in
    c.in_ok-push.ensures.items
    ∙ (λ i. items ++ record { line = c.args.position; severity = severity i; key = key i; source = source i } ∷ [])
    ∙ ap (λ (found : List OccurrenceValue). items ++ found) (sym (occurrence_is c.args.position c.args.line.now value some).0)

pub returns-clause-is : goal.returns-clause-is
returns-clause-is c =
    let some : diagnostic_of c.args.line.now ≡ Some c.in-Some.diagnostic = sym c.in_ok-diagnostic.ensures ∙ c.in-Some.is in
    sym (occurrence_is c.args.position c.args.line.now c.in-Some.diagnostic some).1
