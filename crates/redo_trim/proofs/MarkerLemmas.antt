-- The marker is the entry of no line.
use Rattle.std.proofs.Common.{◌≡◌, ◌≢◌, ℕ, Bool, true, false, inl, inr, List, [], ℤ, sym, subst}
use Rattle.std.specs.Prelude.{if◌then◌else◌}
use Rattle.std.specs.Str.{bytes_eq}
use Rattle.redo_line.specs.declared.entry.Entry.TheVariants.{Done, Closing, Note}
use Rattle.redo_line.specs.declared.record.Kind.{Kind}
use Rattle.redo_line.specs.declared.record.Kind.TheVariants as kind
use Rattle.redo_line.specs.Entry.{IsEntry, IsEntryOfFields}
use Rattle.redo_line.specs.Record.{kind_of}
use Rattle.redo_line.specs.Decimal.{number}
use Rattle.redo_trim.specs.Laws.{IsInNoLog}
use Rattle.redo_trim.specs.Trim.{marker, marker_text}

module _ (pid : ℕ) (text : List ℕ) where
  no_done : (is_own : Bool) (target : List ℕ) (other_pid : ℕ) (status : ℤ) (name : List ℕ)
      → Note pid [] text ≡ (if is_own then Closing other_pid status else Done other_pid status name) → ⊥
  no_done true target other_pid status name same = absurd (cc)
  no_done false target other_pid status name same = absurd (cc)

  no_fields : (how : Kind) (target name : List ℕ) (other_pid : ℕ) (other : List ℕ) → name ≢ []
      → IsEntryOfFields target how name other_pid other (Note pid [] text) → ⊥
  no_fields (kind.Mention how) target name other_pid other some says = let same = says.2 in absurd (cc)
  no_fields kind.Done target name other_pid other some says =
      no_done (bytes_eq says.name target) target other_pid says.value says.name says.entry_is
  no_fields kind.Note target name other_pid other some says = some (let none : [] ≡ name = cc in sym none)

  no_entry : (target line : List ℕ) (ended : Bool) → IsEntry target line ended (Note pid [] text) → ⊥
  no_entry target line ended (inl is) = let same = is.1 in absurd (cc)
  no_entry target line ended (inr is) =
      let record_is = is.1 in
      no_fields (kind_of record_is.fields.kind) target record_is.fields.kind
      (number record_is.fields.pid) record_is.fields.text record_is.fields_are.kind_some record_is.says

pub in_no_log : (depth : ℕ) → IsInNoLog (marker depth)
in_no_log depth here target line ended entry is shown =
    no_entry 0 marker_text target line ended (let same : entry ≡ Note 0 [] marker_text = cc in subst (IsEntry target line ended) same is)
