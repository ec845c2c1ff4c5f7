-- What changed in a target, as it is printed.
use Rattle.std.proofs.Common.{◌≡◌, ℕ, Bool, true, false, List, [], ◌∷◌, ◌++◌, None, Some, refl, sym, ap, ◌∙◌}
use Rattle.std.specs.Prelude.{codes, decimal}
use Rattle.json.specs.Json.{boolean, number}
use Rattle.json.specs.Print.{escape_byte, print, print_from}
use Rattle.json.specs.Tree.{json_tokens}
use Rattle.redo_compare.specs.Baseline.{ChangesValue}
use Rattle.redo_json.specs.Fields.{Field, field}
use Rattle.redo_json.specs.Object.{baseline_field}
use Rattle.redo_json.specs.Private.Parts.{comma_field, comma_fields}
use Rattle.redo_json.proofs.ObjectLemmas.{then_one}
use Rattle.redo_json.proofs.PrintLemmas.{print_number, print_object}

pub true_text : codes "true" ≡ print (json_tokens (boolean true))
unfolding print_from
true_text = refl

pub false_text : codes "false" ≡ print (json_tokens (boolean false))
unfolding print_from
false_text = refl

pub no_baseline : codes ",\"baseline\":null" ≡ comma_field (baseline_field None)
unfolding escape_byte print_from
no_baseline = refl

abbrev pub boolean_text : Bool → List ℕ
boolean_text value = print (json_tokens (boolean value))

module _ (changes : ChangesValue) where
  abbrev built_field : Field
  built_field = field (codes "built") (boolean changes.was_built)

  abbrev gone_field : Field
  gone_field = field (codes "gone") (number (decimal changes.gone))

  abbrev fails_field : Field
  fails_field = field (codes "newly_fails") (boolean changes.newly_fails)

  abbrev fixed_field : Field
  fixed_field = field (codes "fixed") (boolean changes.is_fixed)

  others_are : comma_fields (gone_field ∷ fails_field ∷ fixed_field ∷ []) ++ 125 ∷ []
      ≡ comma_field gone_field ++ (comma_field fails_field ++ (comma_field fixed_field ++ 125 ∷ []))
  others_are =
      then_one gone_field (fails_field ∷ fixed_field ∷ []) (125 ∷ []) _
      (then_one fails_field (fixed_field ∷ []) (125 ∷ []) _ (then_one fixed_field [] (125 ∷ []) _ refl))

  abbrev pub changes_parts : ℕ → List ℕ → List ℕ → List ℕ → List ℕ
  changes_parts gone built fails fixed =
      codes ",\"baseline\":{\"built\":"
      ++ (built
      ++ (codes ",\"gone\":"
      ++ (decimal gone
      ++ (codes ",\"newly_fails\":" ++ (fails ++ (codes ",\"fixed\":" ++ (fixed ++ (125 ∷ []))))))))

  pub parts_are : (gone : ℕ) (built fails fixed : List ℕ) → gone ≡ changes.gone → built ≡ boolean_text changes.was_built
      → fails ≡ boolean_text changes.newly_fails → fixed ≡ boolean_text changes.is_fixed
      → changes_parts gone built fails fixed ≡ comma_field (baseline_field (Some changes))
  unfolding escape_byte
  parts_are gone built fails fixed gone_is built_is fails_is fixed_is =
      (λ i. changes_parts (gone_is i) (built_is i) (fails_is i) (fixed_is i))
      ∙ ap (λ (l : List ℕ). codes ",\"baseline\":{\"built\":" ++ (boolean_text changes.was_built ++ (codes ",\"gone\":"
      ++ (l ++ (codes ",\"newly_fails\":" ++ (boolean_text changes.newly_fails ++ (codes ",\"fixed\":"
      ++ (boolean_text changes.is_fixed ++ (125 ∷ []))))))))) (sym (print_number (decimal changes.gone)))
      ∙ ap (λ (l : List ℕ). codes ",\"baseline\":{\"built\":" ++ (boolean_text changes.was_built ++ l)) (sym others_are)
      ∙ ap (λ (l : List ℕ). codes ",\"baseline\":" ++ l)
      (sym (print_object built_field (gone_field ∷ fails_field ∷ fixed_field ∷ [])))
