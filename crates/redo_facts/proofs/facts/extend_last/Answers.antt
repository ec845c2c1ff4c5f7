use Rattle.std.proofs.Common.{◌≡◌, List, ℕ, [], ◌∷◌, ◌++◌, ap, sym, ◌∙◌}
use Rattle.std.proofs.lemmas.List.{append_assoc}
use Rattle.redo_line.specs.Lines.{line_feed}
use Rattle.redo_facts.specs.Facts.{RecipeCommand}
use Rattle.redo_facts.specs.Private.Adding.{with_more}
use Rattle.redo_facts.proofs.FactLemmas.{with_more-last}
use Rattle.redo_facts.proofs.facts.extend_last.Goals as goal

pub returns-in_ok-push-2 : goal.returns-in_ok-push-2
returns-in_ok-push-2 c =
    let text = c.args.text.now in
    let front = c.pop.new.self.items in
    let inside = c.last.inside in
    let text_is : c.extend_from_slice.new.self.items ≡ inside.text.items ++ line_feed ∷ text =
    c.in_ok-extend_from_slice.ensures.items ∙ ap (λ (bytes : List ℕ). bytes ++ text) c.in_ok-push.ensures.items
    ∙ append_assoc inside.text.items (line_feed ∷ []) text in
    c.in_ok-push-2.ensures.items
    ∙ (λ i. front ++ record { text = text_is i; is_whole = inside.is_whole } ∷ [])
    ∙ ap (λ (last : RecipeCommand). front ++ record { text = last.text ++ line_feed ∷ text; is_whole = last.is_whole } ∷ []) c.last.view_is
    ∙ sym (with_more-last text front c.in-Some.last)
    ∙ ap (with_more text) (sym c.in-Some.ensures.items)
