use Rattle.std.proofs.Common.{sym, ap, ◌∙◌}
use Rattle.redo_json.specs.Private.Parts.{place_text}
use Rattle.redo_json.proofs.DiagnosticLemmas.{no_place}
use Rattle.redo_json.proofs.WritingLemmas.{writes_as}
use Rattle.redo_json.proofs.diagnostics.write_place.Goals as goal

pub returns-in-None : goal.returns-in-None
returns-in-None g c =
    writes_as _ _ _ (place_text c.args.place) _
    (no_place ∙ ap place_text (sym c.in-None.is)) c.push_all.ensures

pub returns-in-Some : goal.returns-in-Some
returns-in-Some g c =
    writes_as _ _ _ (place_text c.args.place) _
    (ap place_text (sym c.in-Some.is)) c.write_known_place.ensures
