use Rattle.std.proofs.Common.{ap, ◌∙◌, [], ◌++◌, ◌∷◌, List, ℕ, if◌then◌else◌, nat_eq}
use Rattle.std.specs.Cmp.Lexicographic.{pointwise}
use Rattle.std.specs.List.{list_any}
use Rattle.redo_logs.specs.Private.Store.{Parts}
use Rattle.redo_logs.proofs.Keeping.{bytes_grow, name_grows, front_same, named}
use Rattle.redo_logs.proofs.store.Store.intern.Goals as goal

pub returns-in_err-number-clause-extends : goal.returns-in_err-number-clause-extends
returns-in_err-number-clause-extends c =
    bytes_grow c.args.self.now _ (front_same _ _ (ap (λ (p : Parts). p.bytes) c.self.view_is))
    (front_same _ _ (ap (λ (p : Parts). p.taken) c.self.view_is))
    (ap (λ (p : Parts). p.notes) c.self.view_is) (c.in_err-number.ensures.err ∙ ap (λ (p : Parts). p.names) c.self.view_is)

pub returns-clause-extends : goal.returns-clause-extends
returns-clause-extends c =
    name_grows c.args.self.now _ c.args.name (ap (λ (p : Parts). p.bytes) c.self.view_is) (ap (λ (p : Parts). p.taken) c.self.view_is)
    (ap (λ (p : Parts). p.notes) c.self.view_is)
    (c.in_ok-number.ensures.keys
    ∙ ap (λ (names : List (List ℕ)). if list_any (pointwise nat_eq c.args.name) names then names else names ++ c.args.name ∷ [])
    (ap (λ (p : Parts). p.names) c.self.view_is))

pub returns-clause-is : goal.returns-clause-is
returns-clause-is c = named _ _ c.args.name _ c.in_ok-number.ensures.stored.1 c.in_ok-number.ensures.stored.2
