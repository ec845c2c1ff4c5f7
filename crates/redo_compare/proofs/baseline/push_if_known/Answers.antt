use Rattle.std.proofs.Common.{List, is_some, ℕ, ◌∷◌, ◌++◌, [], sym, ap, ◌∙◌, append-nil}
use Rattle.redo_compare.proofs.BaselineLemmas.{found-known, known-false, known-true}
use Rattle.redo_compare.proofs.baseline.push_if_known.Goals as goal

pub returns-in_ok-push : goal.returns-in_ok-push
returns-in_ok-push c =
    let table = c.args.table.now in
    let name = c.args.name.now in
    let found = sym (found-known table name) ∙ sym (ap is_some c.find.ensures) ∙ sym c.is_some.ensures ∙ c.if-is_some.true in
    c.in_ok-push.ensures.items ∙ ap (λ (l : List (List ℕ)). c.args.names.now.items ++ l)
    (ap (λ (copy : List ℕ). copy ∷ []) c.in_ok-copy.ensures ∙ sym (known-true table name found))

pub returns-else-is_some : goal.returns-else-is_some
returns-else-is_some c =
    let table = c.args.table.now in
    let name = c.args.name.now in
    let found = sym (found-known table name) ∙ sym (ap is_some c.find.ensures) ∙ sym c.is_some.ensures ∙ c.if-is_some.false in
    sym (append-nil c.args.names.now.items) ∙ ap (λ (l : List (List ℕ)). c.args.names.now.items ++ l) (sym (known-false table name found))
