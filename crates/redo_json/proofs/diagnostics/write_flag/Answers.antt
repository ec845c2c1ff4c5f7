use Rattle.std.proofs.Common.{ℕ, List, Option, Bor, sym, ap, ◌∙◌}
use Rattle.std.specs.Prelude.{codes}
use Rattle.std.specs.Option.{option_copied}
use Rattle.redo_json.specs.Fields.{optional_bytes_fields}
use Rattle.redo_json.specs.Private.Parts.{comma_fields}
use Rattle.redo_json.proofs.DiagnosticLemmas.{flag_start, no_flag}
use Rattle.redo_json.proofs.WritingLemmas.{writes_as}
use Rattle.redo_json.proofs.diagnostics.write_flag.Goals as goal

pub returns-in-None : goal.returns-in-None
returns-in-None g c =
    writes_as _ _ _ (comma_fields (optional_bytes_fields (codes "flag") (option_copied c.args.flag))) _
    (no_flag ∙ ap (λ (flag : Option (Bor (List ℕ))). comma_fields (optional_bytes_fields (codes "flag") (option_copied flag)))
    (sym c.in-None.is)) c.push_all.ensures

pub write_bytes-requires : goal.write_bytes-requires
write_bytes-requires g c = flag_start

pub returns-in-Some : goal.returns-in-Some
returns-in-Some g c =
    writes_as _ _ _ (comma_fields (optional_bytes_fields (codes "flag") (option_copied c.args.flag))) _
    (ap (λ (flag : Option (Bor (List ℕ))). comma_fields (optional_bytes_fields (codes "flag") (option_copied flag))) (sym c.in-Some.is))
    c.write_bytes.ensures
