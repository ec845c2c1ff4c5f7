use Rattle.std.proofs.Common.{◌≢◌, ◌∙◌, ℕ, List, ap, length, sym, take}
use Rattle.std.proofs.lemmas.Bool.{eqb-false, eqb-true}
use Rattle.std.proofs.lemmas.Result.{IfOk-weaker}
use Rattle.redo_index.specs.Index.{listed_targets}
use Rattle.redo_command.specs.Explanation.{ending_with}
use Rattle.redo_command.proofs.SuggestionLemmas.{first_taken, second_taken}
use Rattle.redo_command.proofs.suggestions.suggestions.Goals as goal

pub returns-then-is_empty : goal.returns-then-is_empty
returns-then-is_empty c =
    let targets = listed_targets c.args.index.now in
    let first = c.in_ok-names.ensures
    ∙ ap (λ (ending : List ℕ). take 5 (ending_with ending targets)) (c.deref.ensures.value ∙ c.in_ok-segments.ensures) in
    let empty = eqb-true c.in_ok-names.names.len 0 (sym c.is_empty.ensures ∙ c.if-is_empty.true) in
    let none = sym c.in_ok-names.names.ok.0 ∙ empty in
    IfOk-weaker c.ending_with-then-is_empty.result _ _
    (λ names is. is ∙ sym (second_taken c.in_ok-names.names.items _ (take 5 (ending_with c.args.name.now targets)) first none))
    c.ending_with-then-is_empty.ensures

pub returns : goal.returns
returns c =
    let targets = listed_targets c.args.index.now in
    let first = c.in_ok-names.ensures
    ∙ ap (λ (ending : List ℕ). take 5 (ending_with ending targets)) (c.deref.ensures.value ∙ c.in_ok-segments.ensures) in
    let filled = eqb-false c.in_ok-names.names.len 0 (sym c.is_empty.ensures ∙ c.if-is_empty.false) in
    let some : length c.in_ok-names.names.items ≢ 0 = λ none. filled (c.in_ok-names.names.ok.0 ∙ none) in
    first_taken c.in_ok-names.names.items _ (take 5 (ending_with c.args.name.now targets)) first some
