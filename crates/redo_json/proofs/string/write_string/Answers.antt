use Rattle.std.proofs.Common.{[], ◌∷◌, refl}
use Rattle.json.specs.Print.{escape, quoted}
use Rattle.redo_device.proofs.WritesLemmas.{at_last, in_middle, one_more}
use Rattle.redo_json.specs.Text.{text_of}
use Rattle.redo_json.proofs.string.write_string.Goals as goal

pub returns-in_err-write_text : goal.returns-in_err-write_text
returns-in_err-write_text g c =
    let text = text_of c.args.bytes.now in
    in_middle _ (quoted text) _ _ (34 ∷ []) (escape text) (34 ∷ []) _ _
    c.from_residual-in_err-write_text.ensures.0 c.in_ok-push_all.ensures c.in_err-write_text.ensures refl

pub returns : goal.returns
returns g c =
    let text = text_of c.args.bytes.now in
    at_last _ (quoted text) _ _ (34 ∷ escape text) (34 ∷ []) _
    (one_more _ _ _ (34 ∷ []) (escape text) c.in_ok-push_all.ensures c.in_ok-write_text.ensures) c.push_all-2.ensures refl
