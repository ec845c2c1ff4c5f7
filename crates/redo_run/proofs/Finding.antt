-- The targets that arguments name.
use Rattle.std.proofs.Common.{◌≡◌, ℕ, ◌+◌, ◌<◌, cond, get_or, drop, Bool, true, false, is_some, is_none, List, [], ◌∷◌, ◌++◌, Option, None, Some, option_and_then, length, take, nat_eq, refl, sym, ap, ◌∙◌, arith}
use Rattle.std.specs.Bool.{then_some}
use Rattle.std.specs.Global.{Vec}
use Rattle.std.specs.Cmp.Lexicographic.{pointwise}
use Rattle.std.specs.List.{cons_option, position}
use Rattle.std.proofs.lemmas.List.{append_assoc, length-map, length-take-le, map-append, take_more, take-append-drop}
use Rattle.std.proofs.lemmas.List.Elements.{filter_map-append}
use Rattle.redo_name.specs.Names.{normal}
use Rattle.redo_line.proofs.PlaceLemmas.{some_place, first_passes, none_passes}
use Rattle.redo_view.specs.Expansion.{is_among}
use Rattle.redo_options.specs.Arguments.{argument_bytes}
use Rattle.redo_run.specs.Run.{find_target, unknown_argument, find_targets}

module _ (targets : List (List ℕ)) where
  abbrev listed : List ℕ → Option (List ℕ)
  listed name = cond (is_among name targets) (Some name) None

  -- Looking a name up gives the target that the argument names.
  pub looked_up : (argument name : List ℕ) → normal None argument ≡ Some name
      → then_some (is_some (position (pointwise nat_eq name) targets)) name ≡ find_target targets argument
  looked_up argument name is = ap (λ b. then_some b name) (some_place (pointwise nat_eq name) targets) ∙ kept (is_among name targets)
      ∙ ap (option_and_then listed) (sym is)
    where
      kept : (b : Bool) → then_some b name ≡ cond b (Some name) None
      kept true = refl
      kept false = refl

  pub empty_names_none : (argument : List ℕ) → argument ≡ [] → None ≡ find_target targets argument
  unfolding normal
  empty_names_none argument is = ap (find_target targets) (sym is)

  -- The first k arguments name these targets.
  pub record Found (arguments : List (Vec ℕ)) (k : ℕ) (found : List (List ℕ)) : Type 0 where
    pub known : unknown_argument targets (argument_bytes (take k arguments)) ≡ None
    pub targets_are : found ≡ find_targets targets (argument_bytes (take k arguments))

  module _ (arguments : List (Vec ℕ)) (k : ℕ) (found : List (List ℕ)) (default argument : Vec ℕ) (below : k < length arguments)
      (word_is : get_or arguments k default ≡ argument) (so_far : Found arguments k found) where
    abbrev before : List (List ℕ)
    before = argument_bytes (take k arguments)

    one_more : take (k + 1) arguments ≡ take k arguments ++ argument ∷ []
    one_more = take_more arguments k default below ∙ ap (λ w. take k arguments ++ w ∷ []) word_is

    bytes_more : argument_bytes (take (k + 1) arguments) ≡ before ++ argument.items ∷ []
    bytes_more = ap argument_bytes one_more ∙ map-append (λ w. w.items) (take k arguments) (argument ∷ [])

    -- The next argument names a target.
    pub found_more : (name : List ℕ) → find_target targets argument.items ≡ Some name → Found arguments (k + 1) (found ++ name ∷ [])
    found_more name is = record {
      known = ap (unknown_argument targets) bytes_more
          ∙ none_passes (λ w. is_none (find_target targets w)) before argument.items so_far.known (ap is_none is);
      targets_are =
          (λ i. so_far.targets_are i ++ cons_option (sym is i) [])
          ∙ sym (ap (find_targets targets) bytes_more ∙ filter_map-append (find_target targets) before (argument.items ∷ []));
    }

    -- The next argument names none.
    pub not_found : find_target targets argument.items ≡ None → unknown_argument targets (argument_bytes arguments) ≡ Some k
    not_found is =
        ap (λ ws. unknown_argument targets (argument_bytes ws))
        (sym (take-append-drop (k + 1) arguments) ∙ ap (λ ws. ws ++ drop (k + 1) arguments) one_more
        ∙ append_assoc (take k arguments) (argument ∷ []) (drop (k + 1) arguments))
        ∙ ap (unknown_argument targets) (map-append (λ w. w.items) (take k arguments) (argument ∷ drop (k + 1) arguments))
        ∙ first_passes (λ w. is_none (find_target targets w)) before argument.items (argument_bytes (drop (k + 1) arguments)) so_far.known
        (ap is_none is)
        ∙ ap Some (length-map (take k arguments) (λ w. w.items) ∙ length-take-le k arguments (omega (arith, below)))
