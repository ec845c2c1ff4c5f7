use Rattle.std.proofs.Common.{◌≡◌, ℕ, true, nat_eq, List, sym, subst}
use Rattle.std.specs.Cmp.Lexicographic.{pointwise}
use Rattle.redo_logs.specs.Private.Store.{HasNumber, Parts}
use Rattle.redo_logs.proofs.Growing.{name_there}
use Rattle.redo_logs.proofs.store.Store.cached_number.Goals as goal

pub returns-then-eq : goal.returns-then-eq
returns-then-eq c =
    let name = c.args.name.now in
    let same = subst (λ (last : List ℕ). true ≡ pointwise nat_eq last name) c.bytes.ensures.bytes c.if-eq.ensures in
    subst (λ (p : Parts). HasNumber p.names c.self.inside.last name) c.self.view_is
    (name_there c.self.inside.names.keys name c.in_ok-last.last.now c.self.inside.last (sym c.in_ok-last.ensures.key) same)
