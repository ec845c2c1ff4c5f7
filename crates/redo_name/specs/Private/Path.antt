-- A path that is built from the front, and the segments that it represents.
use Rattle.std.specs.Prelude.{◌≡◌, ℕ, Bool, true, false, List, [], ◌∷◌, ◌++◌, replicate, Option, MatchOption, take}
use Rattle.std.specs.List.{AllByRecursion, flat_map, join_with_byte}
use Rattle.redo_name.specs.Names.{slash, dot_dot, segment_kind, Ordinary, HasNoSlash, reduce_suffix, remaining_segments}

-- `parts` are the segments of a normal form: `ups` segments `..` and then the ordinary segments `kept`. An absolute normal form
-- has no `..`, and no segment contains a slash.
pub record IsReduced (absolute : Bool) (parts : List (List ℕ)) (ups : ℕ) (kept : List (List ℕ)) : Type 0 where
  pub is : parts ≡ replicate ups dot_dot ++ kept
  pub root : absolute ≡ true → ups ≡ 0
  pub ordinary : AllByRecursion (λ part. segment_kind part ≡ Ordinary) kept
  pub each : AllByRecursion HasNoSlash parts

-- The path of these segments, each after a slash. A relative path has no slash before its first segment.
abbrev pub built : Bool → List (List ℕ) → List ℕ
built true parts = flat_map (λ part. slash ∷ part) parts
built false parts = join_with_byte slash parts

-- The path represents these segments.
pub record Represents (absolute : Bool) (path : List ℕ) (parts : List (List ℕ)) : Type 0 where
  pub ups : ℕ
  pub kept : List (List ℕ)
  pub left : IsReduced absolute parts ups kept
  pub bytes : path ≡ built absolute parts

-- The path represents segments that have the same normal form as `before` followed by `more`, for all segments that follow.
pub record RepresentsExtended (absolute : Bool) (before more : List (List ℕ)) (path : List ℕ) : Type 0 where
  pub parts : List (List ℕ)
  pub stands : Represents absolute path parts
  pub leaves : (behind : List (List ℕ)) → remaining_segments absolute (reduce_suffix (parts ++ behind)) ≡ remaining_segments absolute (reduce_suffix (before ++ (more ++ behind)))

-- `after` is `path` with the segments `more` added.
abbrev pub Adds : Bool → List ℕ → List (List ℕ) → List ℕ → Type 0
Adds absolute path more after = AllByRecursion HasNoSlash more → (parts : List (List ℕ)) → Represents absolute path parts → RepresentsExtended absolute parts more after

-- The path with the slash before a further segment. A relative path without segments needs none.
abbrev pub with_separator : Bool → List ℕ → List ℕ
with_separator true path = path ++ slash ∷ []
with_separator false [] = []
with_separator false (byte ∷ path) = (byte ∷ path) ++ slash ∷ []

-- `above` is the length of the path without its last ordinary segment and the slash before it, or none if there is no such segment.
abbrev pub CanPop : List ℕ → Option ℕ → Type 0
CanPop path above = (absolute : Bool) (parts : List (List ℕ)) (stands : Represents absolute path parts)
    → MatchOption above (stands.kept ≡ []) (λ n. (kept : List (List ℕ)) × (last : List ℕ) × (stands.kept ≡ kept ++ last ∷ []) × (take n path ≡ built absolute (replicate stands.ups dot_dot ++ kept)))

-- Processing these segments gives the same state as processing the others, for all segments that follow.
abbrev pub LeavesSame : List (List ℕ) → List (List ℕ) → Type 0
LeavesSame segments others = (behind : List (List ℕ)) → reduce_suffix (segments ++ behind) ≡ reduce_suffix (others ++ behind)
