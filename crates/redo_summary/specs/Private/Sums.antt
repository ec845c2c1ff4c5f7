-- A sum of processor times, with the time of one more recipe. Either may be unknown.
use Rattle.std.specs.Prelude.{ℕ, ◌+◌, Option, None, Some, unwrap_or}
use Rattle.redo_facts.specs.declared.statement.Usage.{Usage}
use Rattle.redo_outline.specs.Facts.{saturated}
use Rattle.redo_summary.specs.Usage.{processor_ms}

abbrev pub plus : Option ℕ → Option Usage → Option ℕ
plus sum None = sum
plus sum (Some usage) = Some (saturated (unwrap_or sum 0 + processor_ms usage))
