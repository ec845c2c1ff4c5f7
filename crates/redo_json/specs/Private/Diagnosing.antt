-- What the writer of diagnostics ensures.
use Rattle.std.specs.Prelude.{◌≡◌, ◌++◌, ℕ, ◌≤◌, Bool, List, Option, Some, Result, Ok, Err, IfSome, length}
use Rattle.redo_device.specs.Sink.{Output}
use Rattle.redo_view.specs.declared.form.FormFault.{FormFault}
use Rattle.redo_view.specs.Form.{FormWrites}
use Rattle.redo_diagnostics.specs.Counts.{AreCounts}
use Rattle.redo_diagnostics.specs.Diagnostic.{DiagnosticValue, PlaceValue, diagnostic_of}
use Rattle.redo_outline.specs.TextLines.{LinesLeft}
use Rattle.redo_json.specs.Diagnostics.{flagged, numbered_from, placed_from}
use Rattle.redo_json.specs.Private.Parts.{diagnostics_text}
use Rattle.redo_json.specs.Private.Writing.{IsVerbatim, WroteUpTo}

-- Of a text, everything except `rest` was written; or a prefix of the text, and then a write failed or memory ran out.
abbrev pub GoesOn : Option Output → Option Output → List ℕ → List ℕ → Result (Unit {0}) FormFault → Type 0
GoesOn before after text rest (Ok done) = WroteUpTo before after text rest
GoesOn before after text rest (Err fault) = FormWrites before after text (Err fault)

-- If all of a text was written except what a buffer had, `part`, and what follows, then all is written except what the buffer has, and what
-- follows.
abbrev pub Adds : Option Output → Option Output → List ℕ → List ℕ → List ℕ → Result (Unit {0}) FormFault → Type 0
Adds old new had has part result =
    (before : Option Output) (text rest : List ℕ) → WroteUpTo before old text (had ++ (part ++ rest))
    → GoesOn before new text (has ++ rest) result

-- Of a text, everything was written except what is in a buffer, and the diagnostics of these lines, which have these flags. `keys` are the
-- keys of the diagnostics before them.
pub record WroteDiagnostics (before after : Option Output) (text : List ℕ) (is_first : Bool) (flags : Option (List Bool)) (lines : LinesLeft)
    (counts : List (List ℕ × ℕ)) (buffer : List ℕ) : Type 0 where
  pub keys : List (List ℕ)
  pub counted : AreCounts counts keys
  pub few : length keys ≤ lines.done
  pub wrote : WroteUpTo before after text
      (buffer ++ diagnostics_text is_first (flagged flags (numbered_from keys (placed_from lines.done lines.left))))

-- A line says this.
abbrev pub IsOfLine : DiagnosticValue → Type 0
IsOfLine value = (line : List ℕ) × (diagnostic_of line ≡ Some value)

-- All strings of a diagnostic are written as they are.
pub record IsVerbatimDiagnostic (value : DiagnosticValue) : Type 0 where
  pub file : IfSome value.place (λ (place : PlaceValue). IsVerbatim place.file)
  pub message : IsVerbatim value.message
  pub flag : IfSome value.flag IsVerbatim
  pub key : IsVerbatim value.key
