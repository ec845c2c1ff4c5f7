-- The entry of a line.
use Rattle.std.specs.Prelude.{◌≡◌, ℕ, Bool, true, false, ◌⊎◌, List, ◌∷◌, ◌++◌, Option, None, Some, option_and_then, ℤ, if◌then◌else◌}
use Rattle.std.specs.Str.{bytes_eq}
use Rattle.redo_line.specs.declared.entry.Entry.{Entry}
use Rattle.redo_line.specs.declared.entry.Entry.TheVariants.{Text, Mention, Done, Closing, Note}
use Rattle.redo_line.specs.declared.record.Kind.{Kind}
use Rattle.redo_line.specs.declared.record.Kind.TheVariants as kind
use Rattle.redo_name.specs.Names.{normal}
use Rattle.redo_line.specs.Decimal.{number}
use Rattle.redo_line.specs.Parts.{split_once, after_prefix}
use Rattle.redo_line.specs.Record.{record_prefix, space, kind_of, Fields, IsRecord, IsStatus, fields_of, status_of}

-- The entry of a `done` record for the target `name`. If that is the log's own target, the entry closes the log.
abbrev pub done_or_closing : List ℕ → ℕ → ℤ → List ℕ → Entry
done_or_closing target pid status name = if bytes_eq name target then Closing pid status else Done pid status name

-- A `done` record with this text, which is a status, a space and a name, has this entry in the log of `target`.
pub record IsDoneEntry (target : List ℕ) (pid : ℕ) (text : List ℕ) (entry : Entry) : Type 0 where
  pub status : List ℕ
  pub value : ℤ
  pub written : List ℕ
  pub name : List ℕ
  pub whole : text ≡ status ++ space ∷ written
  pub status_is : IsStatus status value
  pub name_is : normal (Some target) written ≡ Some name
  pub entry_is : entry ≡ done_or_closing target pid value name

-- A record with this kind, name of its kind, pid and text has this entry in the log of `target`.
abbrev pub IsEntryOfFields : List ℕ → Kind → List ℕ → ℕ → List ℕ → Entry → Type 0
IsEntryOfFields target (kind.Mention how) name pid text entry = (mentioned : List ℕ) × (normal (Some target) text ≡ Some mentioned) × (entry ≡ Mention pid how mentioned)
IsEntryOfFields target kind.Done name pid text entry = IsDoneEntry target pid text entry
IsEntryOfFields target kind.Note name pid text entry = entry ≡ Note pid name text

-- Whether a line is ended and begins with the record prefix.
abbrev pub IsCandidate : List ℕ → Bool → Type 0
IsCandidate line ended = (ended ≡ true) × ((bytes : List ℕ) × (line ≡ record_prefix ++ bytes))

-- The line is a record, and this is its entry.
pub record IsRecordEntry (target line : List ℕ) (entry : Entry) : Type 0 where
  pub fields : Fields
  pub fields_are : IsRecord line fields
  pub says : IsEntryOfFields target (kind_of fields.kind) fields.kind (number fields.pid) fields.text entry

-- This is the entry of the line. A line that is not a candidate is text. A candidate that is not a record has no entry.
abbrev pub IsEntry : List ℕ → List ℕ → Bool → Entry → Type 0
IsEntry target line ended entry =
    ((IsCandidate line ended → ⊥) × (entry ≡ Text line))
    ⊎ (IsCandidate line ended × IsRecordEntry target line entry)

-- The functions from here on compute the entry of a line. This one does it for a `done` record, from its status and its name.
abbrev pub done_entry : List ℕ → ℕ → Option (List ℕ × List ℕ) → Option Entry
done_entry target pid None = None
done_entry target pid (Some parts) =
    option_and_then (λ (status : ℤ). option_and_then (λ (name : List ℕ). Some (done_or_closing target pid status name)) (normal (Some target) parts.1)) (status_of parts.0)

-- The entry of a record with this kind, name of its kind, pid and text.
abbrev pub entry_of_fields : List ℕ → Kind → List ℕ → ℕ → List ℕ → Option Entry
entry_of_fields target (kind.Mention how) name pid text = option_and_then (λ (mentioned : List ℕ). Some (Mention pid how mentioned)) (normal (Some target) text)
entry_of_fields target kind.Done name pid text = done_entry target pid (split_once space text)
entry_of_fields target kind.Note name pid text = Some (Note pid name text)

-- The entry of a record, from the bytes after the record prefix.
unfoldable pub record_entry : List ℕ → List ℕ → Option Entry
record_entry target bytes = option_and_then (λ (fields : Fields). entry_of_fields target (kind_of fields.kind) fields.kind (number fields.pid) fields.text) (fields_of bytes)

abbrev pub line_entry : List ℕ → List ℕ → Option (List ℕ) → Option Entry
line_entry target line None = Some (Text line)
line_entry target line (Some bytes) = record_entry target bytes

-- The bytes after the record prefix of a candidate; none if the line is not a candidate.
abbrev pub candidate_body : List ℕ → Bool → Option (List ℕ)
candidate_body line false = None
candidate_body line true = after_prefix record_prefix line

-- The entry of a line in the log of `target`, if it has one.
unfoldable pub entry_of : List ℕ → List ℕ → Bool → Option Entry
entry_of target line ended = line_entry target line (candidate_body line ended)
