use Rattle.std.proofs.Common.{◌≡◌, List, [], ◌∷◌, ℕ, ◌∙◌, ap}
use Rattle.std.specs.Cow.{cow_slice_items}
use Rattle.std.specs.List.{fold}
use Rattle.redo_diagnostics.specs.Keys.{hash_parts}
use Rattle.redo_diagnostics.proofs.KeyPartLemmas.{hashed, joined}
use Rattle.redo_diagnostics.proofs.key.KeyHash.hash.Goals as goal

pub returns : goal.returns
returns g c =
    let origin = cow_slice_items c.self.inside.origin in
    let tail = cow_slice_items c.self.inside.tail in
    let view : joined origin tail ≡ c.args.self.now = cc (c.self.view_is) in
    let parts : tail ∷ origin ∷ [] ≡ hash_parts c.args.self.now = hashed origin tail c.self.invariant ∙ ap hash_parts view in
    let writes : c.write-2.new.self ≡ fold g.H.Hasher.write c.args.state.now (tail ∷ origin ∷ []) =
    cc (c.write-2.ensures, c.write.ensures, c.as_slice.ensures.value, c.as_slice-2.ensures.value) in
    writes ∙ ap (λ (pieces : List (List ℕ)). fold g.H.Hasher.write c.args.state.now pieces) parts
