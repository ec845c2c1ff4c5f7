-- The report of a line, from the parts of its record.
use Rattle.std.proofs.Common.{◌≡◌, ℕ, Bool, true, false, List, [], ◌∷◌, Option, None, Some, refl, sym, ap, ◌∙◌}
use Rattle.std.specs.Prelude.{codes, map, option_map, option_and_then, if◌then◌else◌}
use Rattle.std.specs.Cmp.Lexicographic.{same_text}
use Rattle.std.specs.Str.{bytes_eq}
use Rattle.redo_line.specs.declared.entry.Entry.{Entry}
use Rattle.redo_line.specs.declared.entry.Entry.TheVariants.{Text, Mention, Done, Closing, Note}
use Rattle.redo_line.specs.declared.entry.How.TheVariants.{Made, Waiting, Locked, Unlocked, Unchanged}
use Rattle.redo_line.specs.Decimal.{number}
use Rattle.redo_line.specs.Entry.{done_entry, entry_of, entry_of_fields, record_entry}
use Rattle.redo_line.specs.Parts.{after_prefix, split_once}
use Rattle.redo_line.specs.Record.{Fields, fields_of, kind_of, record_fields, record_prefix, space, timed_parts}
use Rattle.redo_name.specs.Names.{normal}
use Rattle.redo_times.specs.declared.report.Stage.{Stage}
use Rattle.redo_times.specs.declared.report.Stage.TheVariants.{BeganInOwnLog, BeganInOtherLog, RunsOther}
use Rattle.redo_times.specs.declared.report.Report.{Report}
use Rattle.redo_times.specs.Report.{line_reports, line_time, report_at, reports_at, stages_if}
use Rattle.redo_times.specs.Private.Reporting.{report_if, report_of, stage_of, with_owner}
use Rattle.redo_times.specs.Time.{time_value}

-- The fields of a line with three known parts.
record Known (line kind time text : List ℕ) : Type 0 where
  pub fields : Fields
  pub are : record_fields line ≡ Some fields
  pub kind_is : fields.kind ≡ kind
  pub time_is : fields.time ≡ time
  pub text_is : fields.text ≡ text

known : (line kind time text : List ℕ) → option_map timed_parts (record_fields line) ≡ Some (kind, time, text) → Known line kind time text
known line kind time text is = by (record_fields line) refl is
  where
    by : (found : Option Fields) → record_fields line ≡ found → option_map timed_parts found ≡ Some (kind, time, text)
        → Known line kind time text
    by None are is = absurd (cc)
    by (Some fields) are is =
        let same : timed_parts fields ≡ (kind, time, text) = cc in
        record {
          fields = fields;
          are = are;
          kind_is = ap (λ (p : List ℕ × List ℕ × List ℕ). p.0) same;
          time_is = ap (λ (p : List ℕ × List ℕ × List ℕ). p.1) same;
          text_is = ap (λ (p : List ℕ × List ℕ × List ℕ). p.2) same;
        }

abbrev entry_with : List ℕ → Fields → Option Entry
entry_with target fields = entry_of_fields target (kind_of fields.kind) fields.kind (number fields.pid) fields.text

-- The entry of a line, from its fields.
entry_is : (target line : List ℕ) (fields : Fields) → record_fields line ≡ Some fields
    → entry_of target line true ≡ entry_of_fields target (kind_of fields.kind) fields.kind (number fields.pid) fields.text
unfolding entry_of record_entry record_fields
entry_is target line fields are = by (after_prefix record_prefix line) refl are
  where
    by : (body : Option (List ℕ)) → after_prefix record_prefix line ≡ body
        → option_and_then (λ (bytes : List ℕ). fields_of bytes) body ≡ Some fields → entry_of target line true ≡ entry_with target fields
    by None is are = absurd (cc)
    by (Some bytes) is are = rw is (ap (option_and_then (entry_with target)) are)

module _ (target line : List ℕ) where
  pub no_record : record_fields line ≡ None → None ≡ report_of target line
  unfolding report_of
  no_record none = rw none refl

  module _ (kind time text : List ℕ) (parts : option_map timed_parts (record_fields line) ≡ Some (kind, time, text)) where
    pub no_time : None ≡ time_value time → None ≡ report_of target line
    unfolding report_of
    no_time none =
        let of = known line kind time text parts in
        let never : time_value of.fields.time ≡ None = ap time_value of.time_is ∙ sym none in
        rw (of.are, never) refl

    -- The stage that such a record states, and its target.
    abbrev pub Says : Option (Stage × List ℕ) → Type 0
    Says said = (pid : ℕ) → said ≡ option_and_then (stage_of target) (entry_of_fields target (kind_of kind) kind pid text)

    pub is_report : (value : ℕ) (said : Option (Stage × List ℕ)) → Some value ≡ time_value time → Says said
        → report_if (Some value) said ≡ report_of target line
    unfolding report_of
    is_report value said value_is says =
        let of = known line kind time text parts in
        let time_of : time_value of.fields.time ≡ Some value = ap time_value of.time_is ∙ sym value_is in
        let entry : entry_of target line true ≡ entry_of_fields target (kind_of kind) kind (number of.fields.pid) text =
        entry_is target line of.fields of.are
        ∙ (λ i. entry_of_fields target (kind_of (of.kind_is i)) (of.kind_is i) (number of.fields.pid) (of.text_is i)) in
        ap (report_if (Some value)) (says (number of.fields.pid) ∙ ap (option_and_then (stage_of target)) (sym entry))
        ∙ sym (rw (of.are, time_of) refl)

-- An empty name has no normal form.
pub no_name : (target name : List ℕ) → name ≡ [] → None ≡ normal (Some target) name
unfolding normal
no_name target name none = rw none refl

-- The entry of a `done` record.
pub end_entry : (target kind : List ℕ) (pid : ℕ) (text : List ℕ) → true ≡ bytes_eq kind (codes "done")
    → entry_of_fields target (kind_of kind) kind pid text ≡ done_entry target pid (split_once space text)
end_entry target kind pid text is = ap (λ (k : List ℕ). entry_of_fields target (kind_of k) kind pid text) (same_text kind (codes "done") is)

-- ---- all reports of a line

-- The reports of a line, from the one about the target that it names.
abbrev pub all_from : List ℕ → Option Report → List Report
all_from log None = []
all_from log (Some report) = with_owner log report

abbrev Said : Type 0
Said = Stage × List ℕ

module _ (log name : List ℕ) (time : ℕ) where
  abbrev others : Bool → List Said
  others own = if own then [] else (RunsOther, log) ∷ []

  begin_reports : (own : Bool)
      → map (report_at time) ((if own then BeganInOwnLog else BeganInOtherLog, name) ∷ others own)
      ≡ all_from log (Some (report_at time (if own then BeganInOwnLog else BeganInOtherLog, name)))
  begin_reports true = refl
  begin_reports false = refl

  wait_reports : (own : Bool)
      → map (report_at time) (others own) ≡ all_from log (report_if (Some time) (if own then None else Some (RunsOther, name)))
  wait_reports true = refl
  wait_reports false = refl

reports_from : (log : List ℕ) (time : Option ℕ) (entry : Option Entry)
    → reports_at time (stages_if log entry) ≡ all_from log (report_if time (option_and_then (stage_of log) entry))
reports_from log None entry = refl
reports_from log (Some time) None = refl
reports_from log (Some time) (Some (Mention pid Made name)) = begin_reports log name time (bytes_eq name log)
reports_from log (Some time) (Some (Mention pid Waiting name)) = wait_reports log name time (bytes_eq name log)
reports_from log (Some time) (Some (Mention pid Locked name)) = wait_reports log name time (bytes_eq name log)
reports_from log (Some time) (Some (Mention pid Unlocked name)) = wait_reports log name time (bytes_eq name log)
reports_from log (Some time) (Some (Mention pid Unchanged name)) = refl
reports_from log (Some time) (Some (Done pid status name)) = refl
reports_from log (Some time) (Some (Closing pid status)) = refl
reports_from log (Some time) (Some (Text text)) = refl
reports_from log (Some time) (Some (Note pid kind text)) = refl

pub reports_are : (log line : List ℕ) → line_reports log line ≡ all_from log (report_of log line)
unfolding line_reports report_of
reports_are log line = reports_from log (line_time line) (entry_of log line true)

-- A line that is no record reports nothing.
pub no_line_reports : (log line : List ℕ) → record_fields line ≡ None → line_reports log line ≡ []
no_line_reports log line none = reports_are log line ∙ ap (all_from log) (sym (no_record log line none))
