use Rattle.std.proofs.Common.{◌<◌, ◌∙◌, ◌++◌, ℕ, List, ap, arith, drop, length, sym}
use Rattle.std.specs.Global.{Vec}
use Rattle.std.specs.List.{flat_map}
use Rattle.std.proofs.lemmas.List.{take_rest}
use Rattle.redo_command.specs.Private.Suggested.{after_comma}
use Rattle.redo_command.proofs.SuggestionLemmas.{listed_from, on_ok}
use Rattle.redo_command.proofs.suggestions.push_listed.Goals as goal

pub returns-in_ok-push-in-len1-up : goal.returns-in_ok-push-in-len1-up
returns-in_ok-push-in-len1-up c =
    let names = c.args.names.now in
    let text = c.args.text.now.items in
    let some : 0 < length names = omega (arith, c.in-len1-up.len_at_least) in
    let first = c.in_ok-push-in-len1-up.ensures ∙ ap (λ (bytes : List ℕ). text ++ bytes) c.deref.ensures.value in
    on_ok c.push_after_commas.result _ _
    (λ after. after ∙ ap (λ (others : List (Vec ℕ)). c.push.new.text.items ++ flat_map after_comma others) (take_rest names 1)
    ∙ ap (λ (so_far : List ℕ). so_far ++ flat_map after_comma (drop 1 names)) first
    ∙ listed_from text names c.first-item.result some (sym c.first-item.is))
    c.push_after_commas.ensures
