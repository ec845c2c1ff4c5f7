-- The object of a log.
use Rattle.std.specs.Prelude.{ℕ, ℤ, Bool, List, [], ◌∷◌, ◌++◌, Option, None, Some, option_map, codes}
use Rattle.std.specs.Fmt.{decimal}
use Rattle.json.specs.Json.{Json, boolean, null, number}
use Rattle.redo_compare.specs.Baseline.{ChangesValue}
use Rattle.redo_json.specs.Diagnostics.{diagnostics_field}
use Rattle.redo_json.specs.Fields.{Field, bytes_fields, field, list_fields, number_value, object_with, optional_bytes_fields, signed_value}

-- The values of a log. An unknown value is `None`, or an empty list. `changes` are what changed in its target since the baseline, if there
-- is one.
pub record LogValues : Type 0 where
  pub target : List ℕ
  pub parent : Option (List ℕ)
  pub status : Option ℤ
  pub start_ms : Option ℕ
  pub end_ms : Option ℕ
  pub cpu_ms : Option ℕ
  pub peak_kb : Option ℕ
  pub directory : Option (List ℕ)
  pub commands : List (List ℕ)
  pub needs : List (List ℕ)
  pub lines : List (List ℕ)
  pub changes : Option ChangesValue

abbrev pub number_fields : LogValues → List Field
number_fields values =
    field (codes "status") (signed_value values.status)
    ∷ field (codes "start_ms") (number_value values.start_ms)
    ∷ field (codes "end_ms") (number_value values.end_ms)
    ∷ field (codes "cpu_ms") (number_value values.cpu_ms)
    ∷ field (codes "peak_kb") (number_value values.peak_kb)
    ∷ []

-- For each diagnostic of a log, in order: whether it is new since the baseline, if there is one.
abbrev pub new_flags : Option ChangesValue → Option (List Bool)
new_flags changes = option_map (λ (some : ChangesValue). some.new) changes

abbrev pub change_fields : ChangesValue → List Field
change_fields changes =
    field (codes "built") (boolean changes.was_built)
    ∷ field (codes "gone") (number (decimal changes.gone))
    ∷ field (codes "newly_fails") (boolean changes.newly_fails)
    ∷ field (codes "fixed") (boolean changes.is_fixed)
    ∷ []

-- What changed in a target since the baseline, if there is one.
abbrev pub baseline_value : Option ChangesValue → Json
baseline_value None = null
baseline_value (Some changes) = object_with (change_fields changes)

abbrev pub baseline_field : Option ChangesValue → Field
baseline_field changes = field (codes "baseline") (baseline_value changes)

-- The members of the object of a log, in this order.
abbrev pub object_fields : LogValues → List Field
object_fields values =
    bytes_fields (codes "target") values.target
    ++ (optional_bytes_fields (codes "parent") values.parent
    ++ (number_fields values
    ++ (optional_bytes_fields (codes "directory") values.directory
    ++ (list_fields (codes "commands") values.commands
    ++ (list_fields (codes "needs") values.needs
    ++ (list_fields (codes "lines") values.lines
    ++ diagnostics_field (new_flags values.changes) values.lines
    ∷ baseline_field values.changes
    ∷ []))))))

abbrev pub object_of : LogValues → Json
object_of values = object_with (object_fields values)
