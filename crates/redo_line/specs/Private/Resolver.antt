-- The model of a `Resolver`, which resolves the names in records.
use Rattle.std.specs.Prelude.{◌≡◌, ℕ, List, [], ◌∷◌, Some, ⊤}
use Rattle.redo_name.specs.Names.{IsNormal, normal}

pub record Resolver : Type 0 where
  pub target : List ℕ
  -- The normal form that was computed last.
  pub path : List ℕ

-- The path is the normal form of this name, unless the name is empty.
abbrev pub IsOfLast : List ℕ → List ℕ → List ℕ → Type 0
IsOfLast target [] path = ⊤
IsOfLast target (byte ∷ bytes) path = (normal (Some target) (byte ∷ bytes) ≡ Some path) × IsNormal path
