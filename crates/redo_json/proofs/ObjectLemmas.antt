-- The object of a log in parts.
use Rattle.std.proofs.Common.{◌≡◌, ℕ, List, [], ◌∷◌, ◌++◌, refl, sym, ap, ◌∙◌, append_assoc}
use Rattle.std.specs.Prelude.{codes}
use Rattle.std.proofs.lemmas.List.{append-nil}
use Rattle.std.proofs.lemmas.List.Concat.{flat_map-append}
use Rattle.json.specs.Json.{string}
use Rattle.json.specs.Print.{escape_byte, quoted}
use Rattle.redo_line.specs.Lines.{with_line_feed}
use Rattle.redo_json.specs.Build.{object_text}
use Rattle.redo_json.specs.Diagnostics.{diagnostics_field}
use Rattle.redo_json.specs.Fields.{Field, exact_fields, exact_name, field, list_fields, optional_bytes_fields}
use Rattle.redo_json.specs.Object.{LogValues, baseline_field, new_flags, number_fields}
use Rattle.redo_json.specs.Text.{exact_of, text_of}
use Rattle.redo_json.specs.Private.Parts.{comma_field, comma_fields, commands_part, directory_part, exact_target, field_text, first_part, from_commands, from_directory, from_exact, from_needs, from_numbers, from_parent, front_text, lines_part, needs_part, numbers_part, parent_part, string_start}
use Rattle.redo_json.proofs.PrintLemmas.{print_object, print_string}

-- Members, other members, and what is after them.
pub then : (fields others : List Field) (more left : List ℕ) → comma_fields others ++ more ≡ left
    → comma_fields (fields ++ others) ++ more ≡ comma_fields fields ++ left
then fields others more left is =
    ap (λ (l : List ℕ). l ++ more) (flat_map-append comma_field fields others)
    ∙ append_assoc (comma_fields fields) (comma_fields others) more
    ∙ ap (λ (l : List ℕ). comma_fields fields ++ l) is

pub then_one : (one : Field) (others : List Field) (more left : List ℕ) → comma_fields others ++ more ≡ left
    → comma_fields (one ∷ others) ++ more ≡ comma_field one ++ left
then_one one others more left is =
    append_assoc (comma_field one) (comma_fields others) more ∙ ap (λ (l : List ℕ). comma_field one ++ l) is

pub parent_start : codes ",\"parent\":\"" ≡ string_start (codes "parent")
unfolding escape_byte
parent_start = refl

pub directory_start : codes ",\"directory\":\"" ≡ string_start (codes "directory")
unfolding escape_byte
directory_start = refl

module _ (values : LogValues) where
  abbrev last_on : List Field
  last_on = diagnostics_field (new_flags values.changes) values.lines ∷ baseline_field values.changes ∷ []

  abbrev end : List ℕ
  end = comma_field (diagnostics_field (new_flags values.changes) values.lines) ++ (comma_field (baseline_field values.changes) ++ 125 ∷
      10 ∷ [])

  abbrev lines_on : List Field
  lines_on = list_fields (codes "lines") values.lines ++ last_on

  abbrev needs_on : List Field
  needs_on = list_fields (codes "needs") values.needs ++ lines_on

  abbrev commands_on : List Field
  commands_on = list_fields (codes "commands") values.commands ++ needs_on

  abbrev directory_on : List Field
  directory_on = optional_bytes_fields (codes "directory") values.directory ++ commands_on

  abbrev numbers_on : List Field
  numbers_on = number_fields values ++ directory_on

  abbrev parent_on : List Field
  parent_on = optional_bytes_fields (codes "parent") values.parent ++ numbers_on

  abbrev exact_on : List Field
  exact_on = exact_fields (exact_name (codes "target")) (exact_of values.target) ++ parent_on

  others : comma_fields exact_on ++ 125 ∷ 10 ∷ [] ≡ from_exact values ++ end
  others =
      then (exact_fields (exact_name (codes "target")) (exact_of values.target)) parent_on (125 ∷ 10 ∷ []) (from_parent values ++ end)
      (then (optional_bytes_fields (codes "parent") values.parent) numbers_on (125 ∷ 10 ∷ []) (from_numbers values ++ end)
      (then (number_fields values) directory_on (125 ∷ 10 ∷ []) (from_directory values ++ end)
      (then (optional_bytes_fields (codes "directory") values.directory) commands_on (125 ∷ 10 ∷ []) (from_commands values ++ end)
      (then (list_fields (codes "commands") values.commands) needs_on (125 ∷ 10 ∷ []) (from_needs values ++ end)
      (then (list_fields (codes "needs") values.needs) lines_on (125 ∷ 10 ∷ []) (lines_part values ++ end)
      (then (list_fields (codes "lines") values.lines) last_on (125 ∷ 10 ∷ []) end
      (then_one (diagnostics_field (new_flags values.changes) values.lines) (baseline_field values.changes ∷ []) (125 ∷ 10 ∷ [])
      (comma_field (baseline_field values.changes) ++ 125 ∷ 10 ∷ [])
      (then_one (baseline_field values.changes) [] (125 ∷ 10 ∷ []) (125 ∷ 10 ∷ []) refl)))
      ∙ sym (append_assoc (needs_part values) (lines_part values) end))
      ∙ sym (append_assoc (commands_part values) (from_needs values) end))
      ∙ sym (append_assoc (directory_part values) (from_commands values) end))
      ∙ sym (append_assoc (numbers_part values) (from_directory values) end))
      ∙ sym (append_assoc (parent_part values) (from_numbers values) end))
      ∙ sym (append_assoc (exact_target values) (from_parent values) end)

  pub line_parts : front_text values ++ end ≡ with_line_feed (object_text values)
  unfolding escape_byte
  line_parts =
      let text = quoted (text_of values.target) in
      let one = field (codes "target") (string (text_of values.target)) in
      append_assoc (first_part values) (from_exact values) end
      ∙ ap (λ (l : List ℕ). (codes "{\"target\":" ++ l) ++ (from_exact values ++ end))
      (append-nil text ∙ sym (print_string (text_of values.target)))
      ∙ ap (λ (l : List ℕ). (123 ∷ field_text one) ++ l) (sym others)
      ∙ ap (λ (l : List ℕ). 123 ∷ l)
      (ap (λ (l : List ℕ). field_text one ++ l) (sym (append_assoc (comma_fields exact_on) (125 ∷ []) (10 ∷ [])))
      ∙ sym (append_assoc (field_text one) (comma_fields exact_on ++ 125 ∷ []) (10 ∷ [])))
      ∙ ap (λ (l : List ℕ). l ++ 10 ∷ []) (sym (print_object one exact_on))
