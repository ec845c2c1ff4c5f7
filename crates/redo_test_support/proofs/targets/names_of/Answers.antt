use Rattle.std.proofs.Common.{◌≡◌, ℕ, List, ◌+◌, take, ◌++◌, [], ◌∷◌, Some, get_or, ap, sym, ◌∙◌}
use Rattle.std.specs.Prelude.{slice_get}
use Rattle.std.proofs.lemmas.List.{take_more}
use Rattle.std.proofs.lemmas.Option.{slice_get_within, get_or_from_slice_get}
use Rattle.redo_test_support.proofs.targets.names_of.Goals as goal

-- The names of the first targets, followed by the copy of the next one, are the names of one target more.
one_more : (targets names after : List (List ℕ)) (i : ℕ) (target name : List ℕ) → names ≡ take i targets → slice_get targets i ≡ Some target
    → name ≡ target → after ≡ names ++ name ∷ [] → after ≡ take (i + 1) targets
one_more targets names after i target name names_are next same pushed =
    let read : target ≡ get_or targets i target = sym (get_or_from_slice_get targets i target target next) in
    pushed
    ∙ ap (λ (front : List (List ℕ)). front ++ name ∷ []) names_are
    ∙ ap (λ (last : List ℕ). take i targets ++ last ∷ []) (same ∙ read)
    ∙ sym (take_more targets i target (slice_get_within targets i target next))

pub loop-number-preserved : goal.loop-number-preserved
loop-number-preserved c = one_more _ _ _ _ _ _ c.loop-number.invariant c.name.ensures c.in_ok-copy.ensures c.in_ok-push.ensures.items
