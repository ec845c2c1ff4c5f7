-- What is known of the text lines of a log.
use Rattle.std.specs.Prelude.{◌≡◌, ℕ, ◌+◌, ◌<◌, true, List, ◌∷◌, decimal, length}
use Rattle.std.specs.List.{AllByRecursion, list_all}
use Rattle.std.specs.Str.{is_utf8}
use Rattle.json.specs.Json.{string}
use Rattle.json.specs.Run.{is_plain}
use Rattle.redo_outline.specs.TextLines.{LinesLeft}
use Rattle.redo_diagnostics.specs.Diagnostic.{HasNoTemporary}
use Rattle.redo_compare.specs.Skipping.{AreSkipped}
use Rattle.redo_json.specs.declared.kind.Kind.{Kind}
use Rattle.redo_json.specs.declared.kind.Kind.TheVariants.{Any, Simple, Text}
use Rattle.redo_json.specs.Fields.{exact_items, field}
use Rattle.redo_json.specs.Text.{base64_of}

-- Each line is UTF-8.
abbrev pub AreUtf8 : List (List ℕ) → Type 0
AreUtf8 lines = AllByRecursion (λ line. is_utf8 line ≡ true) lines

-- No byte of these lines has an escape.
abbrev pub ArePlainLines : List (List ℕ) → Type 0
ArePlainLines lines = AllByRecursion (λ line. list_all is_plain line ≡ true) lines

-- A line is UTF-8 that a string of JSON has as it is, and has no name of a temporary file.
pub record IsSimple (line : List ℕ) : Type 0 where
  pub utf8 : is_utf8 line ≡ true
  pub plain : list_all is_plain line ≡ true
  pub no_temporary : HasNoTemporary line

abbrev pub AreSimple : List (List ℕ) → Type 0
AreSimple lines = AllByRecursion IsSimple lines

-- What is known of a line in a log of this kind.
abbrev pub IsOfKind : Kind → List ℕ → Type 0
IsOfKind Simple line = IsSimple line
IsOfKind Text line = is_utf8 line ≡ true
IsOfKind Any line = Unit {0}

abbrev pub AreOfKind : Kind → List (List ℕ) → Type 0
AreOfKind kind lines = AllByRecursion (IsOfKind kind) lines

-- From `before` on, `line` is the first line that isn't skipped, at `position`. `after` is what follows it.
pub record IsNextCandidate (before after : LinesLeft) (position : ℕ) (line : List ℕ) : Type 0 where
  pub candidates : LinesLeft
  pub skipped : AreSkipped before candidates
  pub first : candidates.left ≡ line ∷ after.left
  pub position_is : position ≡ candidates.done
  pub done : after.done ≡ candidates.done + 1

-- From `before` on, the first line of which the text doesn't have the exact bytes is `line`, at `position`. `after` is what follows it.
pub record IsNextExactLine (before after : LinesLeft) (position : ℕ) (line : List ℕ) : Type 0 where
  pub fewer : length after.left < length before.left
  pub fields : exact_items before.done before.left ≡ field (decimal position) (string (base64_of line)) ∷ exact_items after.done after.left
