-- Examples of prefixes of lists of entries, computed.
use Rattle.std.proofs.Common.{◌≡◌, [], ◌∷◌, pos, refl}
use Rattle.std.specs.Prelude.{codes}
use Rattle.redo_line.specs.declared.entry.Entry.{Entry}
use Rattle.redo_line.specs.declared.entry.Entry.TheVariants.{Closing, Text}
use Rattle.redo_line.specs.Laws.{IsPrefix}

abbrev x : Entry
x = Text (codes "x")

abbrev y : Entry
y = Closing 7 (pos 0)

fronts : IsPrefix [] (x ∷ y ∷ []) × IsPrefix (x ∷ []) (x ∷ y ∷ []) × IsPrefix (x ∷ y ∷ []) (x ∷ y ∷ [])
fronts = ((x ∷ y ∷ [], refl), (y ∷ [], refl), ([], refl))

-- A suffix is not a prefix, and neither is a longer list.
not_fronts : (IsPrefix (y ∷ []) (x ∷ y ∷ []) → ⊥) × (IsPrefix (x ∷ y ∷ []) (x ∷ []) → ⊥)
not_fronts = (
  (λ front. let same : Text (codes "x") ∷ y ∷ [] ≡ Closing 7 (pos 0) ∷ front.0 = front.1 in absurd (cc)),
  (λ front. let same : x ∷ [] ≡ x ∷ y ∷ front.0 = front.1 in absurd (cc)),
)
