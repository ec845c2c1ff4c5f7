use Rattle.std.proofs.Common.{Option, Bor, sym, ap, ◌∙◌}
use Rattle.std.specs.Option.{option_copied}
use Rattle.redo_compare.specs.Baseline.{ChangesValue}
use Rattle.redo_json.specs.Object.{baseline_field}
use Rattle.redo_json.specs.Private.Parts.{comma_field}
use Rattle.redo_json.proofs.ChangeLemmas.{no_baseline}
use Rattle.redo_json.proofs.WritingLemmas.{writes_as}
use Rattle.redo_json.proofs.changes.write_baseline.Goals as goal

pub returns-in-None : goal.returns-in-None
returns-in-None g c =
    writes_as _ _ _ (comma_field (baseline_field (option_copied c.args.changes))) _
    (no_baseline ∙ ap (λ (changes : Option (Bor ChangesValue)). comma_field (baseline_field (option_copied changes))) (sym c.in-None.is))
    c.push_all.ensures
