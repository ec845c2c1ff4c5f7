use Rattle.std.proofs.Common.{◌≡◌, ◌++◌, Option, Some, None, IfSome, sym, ap, ◌∙◌, subst}
use Rattle.std.specs.Prelude.{codes}
use Rattle.redo_diagnostics.specs.declared.severity.Severity.{Severity}
use Rattle.redo_diagnostics.specs.Diagnostic.{PlaceValue}
use Rattle.redo_json.specs.Private.Parts.{place_text, severity_text, string_start}
use Rattle.redo_json.specs.Private.Writing.{IsVerbatim}
use Rattle.redo_json.proofs.JoinLemmas.{appended_as, appended_then}
use Rattle.redo_json.proofs.VerbatimLemmas.{in_front}
use Rattle.redo_json.proofs.joined.join_front.Goals as goal

pub returns-in-None : goal.returns-in-None
returns-in-None c =
    let value = c.args.diagnostic.now in
    let none : value.place ≡ None =
    sym c.place.ensures ∙ c.in-None.is in
    appended_as _ _ _ _ _
    (in_front c.args.is_first c.args.position value _ c.object_start.ensures _
    (c.front_without_place.ensures
    ∙ ap (λ (s : Severity). severity_text s ++ (place_text None ++ string_start (codes "message"))) c.severity.ensures
    ∙ ap (λ (one : Option PlaceValue). severity_text value.severity ++ (place_text one ++ string_start (codes "message"))) (sym none)))
    (appended_then _ _ _ _ _ _ c.in_ok-join_bytes.ensures
    (appended_then _ _ _ _ _ _ c.in_ok-join_number.ensures c.join_bytes-in-None.ensures))

pub join_place-requires : goal.join_place-requires
join_place-requires c =
    let some : c.args.diagnostic.now.place ≡ Some c.in-Some.place =
    sym c.place.ensures ∙ c.in-Some.is in
    subst (λ (one : Option PlaceValue). IfSome one (λ (p : PlaceValue). IsVerbatim p.file)) some c.requires.file

pub returns-in-Some : goal.returns-in-Some
returns-in-Some c =
    let value = c.args.diagnostic.now in
    let place = c.in-Some.place in
    let some : value.place ≡ Some place =
    sym c.place.ensures ∙ c.in-Some.is in
    appended_as _ _ _ _ _
    (in_front c.args.is_first c.args.position value _ c.object_start.ensures _
    (ap (λ (s : Severity). severity_text s ++ (place_text (Some place) ++ string_start (codes "message"))) c.severity-in-Some.ensures
    ∙ ap (λ (one : Option PlaceValue). severity_text value.severity ++ (place_text one ++ string_start (codes "message"))) (sym some)))
    (appended_then _ _ _ _ _ _ c.in_ok-join_bytes.ensures
    (appended_then _ _ _ _ _ _ c.in_ok-join_number.ensures c.join_place.ensures))
