-- Which lines count.
use Rattle.std.proofs.Common.{◌≡◌, ◌==◌, ℕ, true, false, cond, List, [], ◌∷◌, ◌++◌, Option, None, Some, refl, sym, ◌∙◌, ap}
use Rattle.std.specs.Option.{option_or}
use Rattle.std.proofs.lemmas.Bool.{eq-eqb, ne_eqb}
use Rattle.std.proofs.lemmas.List.Elements.{filter-append, filter_map-append}
use Rattle.redo_facts.specs.Facts.{facts_by, facts_of, facts_since, is_log, numbered, since_log, statements_of}
use Rattle.redo_facts.specs.Laws.{BeginsLog, IsSkipped}
use Rattle.redo_facts.specs.Statement.{Statement, statement_of}
use Rattle.redo_facts.proofs.StatementLemmas.{statement_found, statement_is}

module _ (number : ℕ) where
  abbrev stated_in : List (List ℕ) → List Statement
  stated_in lines = numbered number (statements_of lines)

  stated-append : (before after : List (List ℕ)) → stated_in (before ++ after) ≡ stated_in before ++ stated_in after
  stated-append before after = ap (numbered number) (filter_map-append statement_of before after)
      ∙ filter-append (λ s. s.number == number) (statements_of before) (statements_of after)

  stated-skip : (line : List ℕ) (after : List (List ℕ)) → IsSkipped number line → stated_in (line ∷ after) ≡ stated_in after
  stated-skip line after skipped = by (statement_of line) refl
    where
      by : (said : Option Statement) → statement_of line ≡ said → stated_in (line ∷ after) ≡ stated_in after
      by None is = rw is refl
      by (Some s) is =
          let other : (s.number == number) ≡ false = ne_eqb s.number number (skipped s (statement_is line s is)) in
          rw is (rw other refl)

  pub skipped : (target line : List ℕ) (before after : List (List ℕ)) → IsSkipped number line
      → facts_of number target (before ++ line ∷ after) ≡ facts_of number target (before ++ after)
  skipped target line before after is =
      ap (facts_by target)
      (stated-append before (line ∷ after) ∙ ap (λ (ss : List Statement). stated_in before ++ ss) (stated-skip line after is)
      ∙ sym (stated-append before after))

  -- No line before a `log` line counts.
  since-behind : (front : List Statement) (s : Statement) (others : List Statement) → is_log s.form ≡ true
      → (name : List ℕ) (found : List Statement) → since_log (s ∷ others) ≡ Some (name, found)
      → since_log (front ++ s ∷ others) ≡ Some (name, found)
  since-behind [] s others is name found so = so
  since-behind (t ∷ front) s others is name found so =
      ap (λ (since : Option (List ℕ × List Statement)). option_or since
      (cond (is_log t.form) (Some (t.text, front ++ s ∷ others)) None)) (since-behind front s others is name found so)

  since-some : (s : Statement) (others : List Statement) → is_log s.form ≡ true → (front : List Statement)
      → since_log (front ++ s ∷ others) ≡ since_log (s ∷ others)
  since-some s others is front = by (since_log others) refl
    where
      by : (since : Option (List ℕ × List Statement)) → since_log others ≡ since → since_log (front ++ s ∷ others) ≡ since_log (s ∷ others)
      by None none =
          let so : since_log (s ∷ others) ≡ Some (s.text, others) = rw none (rw is refl) in
          since-behind front s others is s.text others so ∙ sym so
      by (Some since) some =
          let so : since_log (s ∷ others) ≡ Some since = rw some refl in
          since-behind front s others is since.0 since.1 so ∙ sym so

  stated-log : (line : List ℕ) (after : List (List ℕ)) (s : Statement) → statement_of line ≡ Some s → s.number ≡ number
      → stated_in (line ∷ after) ≡ s ∷ stated_in after
  stated-log line after s is same =
      let own : (s.number == number) ≡ true = eq-eqb s.number number same in
      rw is (rw own refl)

  pub begun : (target line : List ℕ) (before after : List (List ℕ)) → BeginsLog number line
      → facts_of number target (before ++ line ∷ after) ≡ facts_of number target (line ∷ after)
  begun target line before after begins =
      let s = begins.0 in
      let stated = stated-log line after s (statement_found line s begins.1) begins.2 in
      let is : is_log s.form ≡ true = ap is_log begins.3 in
      ap (facts_by target) (stated-append before (line ∷ after))
      ∙ ap (λ (ss : List Statement). facts_by target (stated_in before ++ ss)) stated
      ∙ ap (facts_since target) (since-some s (stated_in after) is (stated_in before))
      ∙ ap (facts_by target) (sym stated)
