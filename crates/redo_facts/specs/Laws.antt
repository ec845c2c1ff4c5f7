-- Definitions that state the laws about facts.
use Rattle.std.specs.Prelude.{◌≡◌, ◌≢◌, ℕ, List}
use Rattle.redo_facts.specs.declared.statement.Form.TheVariants.{Log}
use Rattle.redo_facts.specs.Statement.{Statement, IsStatement}

-- Whether a line states nothing about this number.
abbrev pub IsSkipped : ℕ → List ℕ → Type 0
IsSkipped number line = (statement : Statement) → IsStatement line statement → statement.number ≢ number

-- Whether a line says that the log with this number begins.
abbrev pub BeginsLog : ℕ → List ℕ → Type 0
BeginsLog number line = (statement : Statement) × IsStatement line statement × (statement.number ≡ number) × (statement.form ≡ Log)
