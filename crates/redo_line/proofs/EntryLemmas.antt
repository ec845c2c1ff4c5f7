-- The entry of a line: it has the entry that is computed, and each record has an entry.
use Rattle.std.proofs.Common.{◌≡◌, ◌≢◌, ℕ, Bool, true, false, inl, inr, List, [], ◌∷◌, ◌++◌, Option, None, Some, ℤ, refl, sym, ◌∙◌, ap, subst}
use Rattle.std.specs.Prelude.{option_and_then}
use Rattle.std.specs.Option.{IsSome}
use Rattle.std.proofs.lemmas.Bool.{false≢true}
use Rattle.std.proofs.lemmas.Option.{none-some, same_Some, option_and_then_some}
use Rattle.redo_line.specs.declared.entry.Entry.{Entry}
use Rattle.redo_line.specs.declared.entry.Entry.TheVariants.{Text, Mention, Note}
use Rattle.redo_line.specs.declared.entry.How.{How}
use Rattle.redo_line.specs.declared.record.Kind.{Kind}
use Rattle.redo_line.specs.declared.record.Kind.TheVariants as kind
use Rattle.redo_name.specs.Names.{normal}
use Rattle.redo_line.specs.Decimal.{number}
use Rattle.redo_line.specs.Parts.{split_once, after_prefix}
use Rattle.redo_line.specs.Record.{record_prefix, space, kind_of, FitsKind, Fields, IsRecord, fields_of, status_of}
use Rattle.redo_line.specs.Entry.{done_or_closing, IsEntryOfFields, IsCandidate, IsRecordEntry, IsEntry, done_entry, entry_of_fields, record_entry, line_entry, entry_of}
use Rattle.redo_line.proofs.PartLemmas.{are_parts, parted_at, behind_front, front_whole}
use Rattle.redo_line.proofs.RecordLemmas.{status_read, status_is, status-free, record_begins, record_fields, fields_record}

-- Only the empty name has no normal form.
named : (of : Option (List ℕ)) (name value : List ℕ) → normal of name ≡ Some value → name ≢ []
unfolding normal
named of [] value is same = none-some value is
named of (byte ∷ bytes) value is same = cc

has_normal : (of : Option (List ℕ)) (name : List ℕ) → name ≢ [] → (value : List ℕ) × (normal of name ≡ Some value)
unfolding normal
has_normal of [] some = absurd (some refl)
has_normal of (byte ∷ bytes) some = (_, refl)

-- The entry of a record is the entry that is computed from its kind, pid and text.
module _ (target : List ℕ) (pid : ℕ) where
  abbrev mention : How → List ℕ → Option Entry
  mention how mentioned = Some (Mention pid how mentioned)

  abbrev done_named : ℤ → List ℕ → Option Entry
  done_named status name = Some (done_or_closing target pid status name)

  abbrev done_written : List ℕ → ℤ → Option Entry
  done_written written status = option_and_then (done_named status) (normal (Some target) written)

  done_cut : (text : List ℕ) (cut : Option (List ℕ × List ℕ)) (entry : Entry) (name : List ℕ) → split_once space text ≡ cut
      → done_entry target pid cut ≡ Some entry → IsEntryOfFields target kind.Done name pid text entry
  done_cut text None entry name cut so = absurd (none-some entry so)
  done_cut text (Some parts) entry name cut so =
      option_and_then_some (done_written parts.1) (status_of parts.0) entry so (λ status is so_status.
      option_and_then_some (done_named status) (normal (Some target) parts.1) entry so_status (λ value value_is last.
      record {
        status = parts.0;
        value = status;
        written = parts.1;
        name = value;
        whole = (are_parts space text parts cut).whole;
        status_is = status_read parts.0 status is;
        name_is = value_is;
        entry_is = sym (same_Some (done_or_closing target pid status value) entry last);
      }))

  says : (is : Kind) (name text : List ℕ) (entry : Entry) → entry_of_fields target is name pid text ≡ Some entry
      → IsEntryOfFields target is name pid text entry
  says (kind.Mention how) name text entry so =
      option_and_then_some (mention how) (normal (Some target) text) entry so
      (λ mentioned is last. (mentioned, is, sym (same_Some (Mention pid how mentioned) entry last)))
  says kind.Done name text entry so = done_cut text (split_once space text) entry name refl so
  says kind.Note name text entry so = sym (same_Some (Note pid name text) entry so)

  it_says : (is : Kind) (name text : List ℕ) (entry : Entry) → IsEntryOfFields target is name pid text entry
      → entry_of_fields target is name pid text ≡ Some entry
  it_says (kind.Mention how) name text entry (mentioned, is, entry_is) = ap (option_and_then (mention how)) is ∙ ap Some (sym entry_is)
  it_says kind.Done name text entry says =
      ap (λ (bs : List ℕ). done_entry target pid (split_once space bs)) says.whole
      ∙ ap (done_entry target pid) (parted_at space says.status says.written (status-free says.status says.value says.status_is))
      ∙ ap (option_and_then (done_written says.written)) (status_is says.status says.value says.status_is)
      ∙ ap (option_and_then (done_named says.value)) says.name_is ∙ ap Some (sym says.entry_is)
  it_says kind.Note name text entry is = ap Some (sym is)

  -- A text with an entry fits its kind, and a text that fits its kind has an entry.
  says_fits : (is : Kind) (name text : List ℕ) (entry : Entry) → IsEntryOfFields target is name pid text entry → FitsKind is text
  says_fits (kind.Mention how) name text entry (mentioned, is, entry_is) = named (Some target) text mentioned is
  says_fits kind.Done name text entry says = record {
    status = says.status;
    value = says.value;
    name = says.written;
    whole = says.whole;
    status_is = says.status_is;
    some = named (Some target) says.written says.name says.name_is;
  }
  says_fits kind.Note name text entry is = tt

  fits_says : (is : Kind) (name text : List ℕ) → FitsKind is text → (entry : Entry) × IsEntryOfFields target is name pid text entry
  fits_says (kind.Mention how) name text fits = let value = has_normal (Some target) text fits in
      (Mention pid how value.0, (value.0, value.1, refl))
  fits_says kind.Done name text fits =
      let value = has_normal (Some target) fits.name fits.some in (
        done_or_closing target pid fits.value value.0,
        record {
          status = fits.status;
          value = fits.value;
          written = fits.name;
          name = value.0;
          whole = fits.whole;
          status_is = fits.status_is;
          name_is = value.1;
          entry_is = refl;
        },
      )
  fits_says kind.Note name text fits = (Note pid name text, refl)

-- The entry of a line is the entry that is computed from the line.
module _ (target : List ℕ) where
  abbrev of_fields : Fields → Option Entry
  of_fields fields = entry_of_fields target (kind_of fields.kind) fields.kind (number fields.pid) fields.text

  record_read : (line bytes : List ℕ) (entry : Entry) → line ≡ record_prefix ++ bytes → record_entry target bytes ≡ Some entry
      → IsRecordEntry target line entry
  unfolding record_entry
  record_read line bytes entry begins so =
      option_and_then_some of_fields (fields_of bytes) entry so (λ fields is last.
      let so_says = says target (number fields.pid) (kind_of fields.kind) fields.kind fields.text entry last in
      record {
        fields = fields;
        fields_are = fields_record line bytes fields begins is
            (says_fits target (number fields.pid) (kind_of fields.kind) fields.kind fields.text entry so_says);
        says = so_says;
      })

  record_is : (line bytes : List ℕ) (entry : Entry) → line ≡ record_prefix ++ bytes → IsRecordEntry target line entry
      → record_entry target bytes ≡ Some entry
  unfolding record_entry
  record_is line bytes entry begins is =
      ap (option_and_then of_fields) (record_fields line bytes is.fields begins is.fields_are)
      ∙ it_says target (number is.fields.pid) (kind_of is.fields.kind) is.fields.kind is.fields.text entry is.says

  -- Lines that are candidates, and lines that aren't.
  candidate : (line bytes : List ℕ) → line ≡ record_prefix ++ bytes → entry_of target line true ≡ record_entry target bytes
  unfolding entry_of
  candidate line bytes begins = ap (line_entry target line) (ap (after_prefix record_prefix) begins ∙ behind_front record_prefix bytes)

  read_cut : (line : List ℕ) (cut : Option (List ℕ)) (entry : Entry) → after_prefix record_prefix line ≡ cut
      → line_entry target line cut ≡ Some entry → IsEntry target line true entry
  read_cut line None entry cut so =
      inl (
        (λ is. none-some is.1.0 (sym cut ∙ ap (after_prefix record_prefix) is.1.1 ∙ behind_front record_prefix is.1.0)),
        sym
            (same_Some (Text line) entry so),
      )
  read_cut line (Some bytes) entry cut so =
      let begins = front_whole record_prefix line bytes cut in inr ((refl, (bytes, begins)), record_read line bytes entry begins so)

  pub entry_read : (line : List ℕ) (ended : Bool) (entry : Entry) → entry_of target line ended ≡ Some entry
      → IsEntry target line ended entry
  unfolding entry_of
  entry_read line true entry so = read_cut line (after_prefix record_prefix line) entry refl so
  entry_read line false entry so = inl ((λ is. false≢true is.0), sym (same_Some (Text line) entry so))

  text_cut : (line : List ℕ) (cut : Option (List ℕ)) → after_prefix record_prefix line ≡ cut → (IsCandidate line true → ⊥)
      → line_entry target line cut ≡ Some (Text line)
  text_cut line None cut none = refl
  text_cut line (Some bytes) cut none = absurd (none (refl, (bytes, front_whole record_prefix line bytes cut)))

  pub entry_is : (line : List ℕ) (ended : Bool) (entry : Entry) → IsEntry target line ended entry → entry_of target line ended ≡ Some entry
  unfolding entry_of
  entry_is line true entry (inl (none, is)) = text_cut line (after_prefix record_prefix line) refl none ∙ ap Some (sym is)
  entry_is line false entry (inl (none, is)) = ap Some (sym is)
  entry_is line true entry (inr ((is_ended, (bytes, begins)), is)) = candidate line bytes begins ∙ record_is line bytes entry begins is
  entry_is line false entry (inr ((is_ended, begins), is)) = absurd (false≢true is_ended)

  pub record_has_entry : (line : List ℕ) (fields : Fields) → IsRecord line fields → IsSome (entry_of target line true)
  record_has_entry line fields is =
      let begins = record_begins line fields is in
      let entry = fits_says target (number fields.pid) (kind_of fields.kind) fields.kind fields.text is.text_fits in
      let entry_is : entry_of target line true ≡ Some entry.0 =
      candidate line begins.0 begins.1 ∙ record_is line begins.0 entry.0 begins.1
      (record { fields = fields; fields_are = is; says = entry.1 }) in
      subst IsSome (sym entry_is) refl
