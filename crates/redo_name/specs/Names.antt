-- The normal form of a name.
use Rattle.std.specs.Prelude.{◌≡◌, ◌≢◌, ℕ, zero, suc, ◌+◌, Bool, true, false, ◌==◌, List, [], ◌∷◌, ◌++◌, Option, None, Some, replicate, if◌then◌else◌}
use Rattle.std.specs.List.{AllByRecursion, slice_split, join_with_byte}

-- The byte between the segments of a name.
abbrev pub slash : ℕ
slash = 47

-- Whether no byte is a slash, as in a segment.
abbrev pub HasNoSlash : List ℕ → Type 0
HasNoSlash bytes = AllByRecursion (λ byte. byte ≢ slash) bytes

-- The segment `.`, the directory itself.
abbrev pub dot : List ℕ
dot = 46 ∷ []

-- The segment `..`, the parent directory.
abbrev pub dot_dot : List ℕ
dot_dot = 46 ∷ 46 ∷ []

-- The segments of a name: its parts between slashes.
abbrev pub segments : List ℕ → List (List ℕ)
segments name = slice_split (λ byte. byte == slash) name

-- Whether a name begins with a slash.
abbrev pub is_absolute : List ℕ → Bool
is_absolute [] = false
is_absolute (byte ∷ bytes) = byte == slash

-- All segments except the last. For a target's name, these are the segments of its directory.
abbrev pub without_last : List (List ℕ) → List (List ℕ)
without_last (segment ∷ next ∷ others) = segment ∷ without_last (next ∷ others)
without_last segments = []

-- The kind of a segment for the normal form: empty or `.` (skipped), `..` (upward), or any other (ordinary).
pub data SegmentKind : Type 0 where
  Skipped Upward Ordinary : SegmentKind

abbrev pub segment_kind : List ℕ → SegmentKind
segment_kind [] = Skipped
segment_kind (a ∷ []) = if a == 46 then Skipped else Ordinary
segment_kind (a ∷ b ∷ []) = if a == 46 then (if b == 46 then Upward else Ordinary) else Ordinary
segment_kind (a ∷ b ∷ c ∷ others) = Ordinary

-- The state of processing segments from the last to the first: the segments kept, and the number of `..` that haven't removed a
-- segment yet.
pub record Suffix : Type 0 where
  pub kept : List (List ℕ)
  pub count : ℕ

-- Processes an ordinary segment. A `..` after it removes it if one is left; otherwise the segment is kept.
abbrev pub push_or_cancel : List ℕ → List (List ℕ) → ℕ → Suffix
push_or_cancel segment kept zero = record { kept = segment ∷ kept; count = 0 }
push_or_cancel segment kept (suc count) = record { kept = kept; count = count }

-- Processes one segment: takes the state of the segments after it and returns the state that includes it.
abbrev pub with_segment : SegmentKind → List ℕ → Suffix → Suffix
with_segment Skipped segment behind = behind
with_segment Upward segment behind = record { kept = behind.kept; count = behind.count + 1 }
with_segment Ordinary segment behind = push_or_cancel segment behind.kept behind.count

-- The state of all these segments.
unfoldable pub reduce_suffix : List (List ℕ) → Suffix
reduce_suffix [] = record { kept = []; count = 0 }
reduce_suffix (segment ∷ others) = with_segment (segment_kind segment) segment (reduce_suffix others)

-- The segments of the normal form. A relative name keeps the remaining `..` at its front. An absolute name drops them, because the
-- root has no parent directory.
abbrev pub remaining_segments : Bool → Suffix → List (List ℕ)
remaining_segments true behind = behind.kept
remaining_segments false behind = replicate behind.count dot_dot ++ behind.kept

-- The name of these segments, joined by single slashes. The name of no segments is `/` if absolute, otherwise `.`.
abbrev pub join_segments : Bool → List (List ℕ) → List ℕ
join_segments true left = slash ∷ join_with_byte slash left
join_segments false [] = dot
join_segments false (segment ∷ others) = join_with_byte slash (segment ∷ others)

-- The directory in which a name is resolved: whether it is absolute, and its segments. For an absolute name that is the root. For a
-- relative name it is the directory of the target in whose log the name is, or the base directory if the name is in no log.
abbrev pub directory_of : Bool → Option (List ℕ) → Bool × List (List ℕ)
directory_of true target = (true, [])
directory_of false None = (false, [])
directory_of false (Some target) = (is_absolute target, without_last (segments target))

-- The normal form of a name in the log of the target `of`, or of a name in no log. The empty name has none.
unfoldable pub normal : Option (List ℕ) → List ℕ → Option (List ℕ)
normal target [] = None
normal target (byte ∷ bytes) = let directory = directory_of (is_absolute (byte ∷ bytes)) target in
    Some (join_segments directory.0 (remaining_segments directory.0 (reduce_suffix (directory.1 ++ segments (byte ∷ bytes)))))

-- Whether a name is its own normal form.
abbrev pub IsNormal : List ℕ → Type 0
IsNormal name = normal None name ≡ Some name
