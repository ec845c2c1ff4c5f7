-- The directory that a name is relative to, and the bytes of its normal form.
use Rattle.std.proofs.Common.{◌≡◌, ℕ, ◌<◌, Bool, true, false, cond, eqb, List, [], ◌∷◌, ◌++◌, Option, Some, ◌⊎◌, inl, inr, length, take, refl, sym, ◌∙◌, ap, arith}
use Rattle.std.specs.List.{AllByRecursion, onto_first, join_with_byte}
use Rattle.std.proofs.lemmas.Bool.{eqb-true, eqb-false}
use Rattle.std.proofs.lemmas.List.{append-nil, take_at}
use Rattle.redo_name.specs.Names.{slash, segments, is_absolute, without_last, reduce_suffix, remaining_segments, join_segments, directory_of, normal, HasNoSlash}
use Rattle.redo_name.specs.Private.Path.{built, Represents, RepresentsExtended, Adds}
use Rattle.redo_name.proofs.NameLemmas.{cut, cut-cons, cut-free, cut-each, left_again, left_some}
use Rattle.redo_name.proofs.SegmentLemmas.{Some_first, cut-some}
use Rattle.redo_name.proofs.PathLemmas.{AfterSlash, WithoutSlash, join_some}

-- The segments before and after a slash.
cut-slash_by : (byte : ℕ) (front more : List ℕ) (is : Bool) → eqb byte slash ≡ is → Some_first (cut front)
    → cut (front ++ slash ∷ more) ≡ cut front ++ cut more
    → cut (byte ∷ (front ++ slash ∷ more)) ≡ cut (byte ∷ front) ++ cut more
cut-slash_by byte front more true is some rest =
    cut-cons byte (front ++ slash ∷ more) true is ∙ ap (λ ps. [] ∷ ps) rest ∙ ap (λ ps. ps ++ cut more) (sym (cut-cons byte front true is))
cut-slash_by byte front more false is some rest =
    cut-cons byte (front ++ slash ∷ more) false is ∙ ap (onto_first byte) (rest ∙ ap (λ ps. ps ++ cut more) some.2)
    ∙ ap (λ ps. ps ++ cut more) (sym (cut-cons byte front false is ∙ ap (onto_first byte) some.2))

pub cut-slash : (front more : List ℕ) → cut (front ++ slash ∷ more) ≡ cut front ++ cut more
cut-slash [] more = cut-cons slash more true refl
cut-slash (byte ∷ front) more = cut-slash_by byte front more (eqb byte slash) refl (cut-some front) (cut-slash front more)

pub cut-last : (front last : List ℕ) → HasNoSlash last → cut (front ++ slash ∷ last) ≡ cut front ++ last ∷ []
cut-last front last free = cut-slash front last ∙ ap (λ ps. cut front ++ ps) (cut-free last free)

pub without_last-push : (parts : List (List ℕ)) (last : List ℕ) → without_last (parts ++ last ∷ []) ≡ parts
without_last-push [] last = refl
without_last-push (part ∷ []) last = refl
without_last-push (part ∷ next ∷ parts) last = ap (λ ps. part ∷ ps) (without_last-push (next ∷ parts) last)

-- A name has no slash, or a last one.
abbrev LastSlash : List ℕ → Type 0
LastSlash name = HasNoSlash name ⊎ ((front : List ℕ) × (last : List ℕ) × HasNoSlash last × (name ≡ front ++ slash ∷ last))

last_slash_by : (byte : ℕ) (name : List ℕ) (is : Bool) → eqb byte slash ≡ is → LastSlash name → LastSlash (byte ∷ name)
last_slash_by byte name true is (inl free) = inr ([], name, free, ap (λ b. b ∷ name) (eqb-true byte slash is))
last_slash_by byte name false is (inl free) = inl (eqb-false byte slash is, free)
last_slash_by byte name is h (inr more) = inr (byte ∷ more.0, more.1, more.2, ap (λ n. byte ∷ n) more.3)

last_slash : (name : List ℕ) → LastSlash name
last_slash [] = inl tt
last_slash (byte ∷ name) = last_slash_by byte name (eqb byte slash) refl (last_slash name)

-- An empty directory adds nothing.
pub no_directory : (behind : List (List ℕ)) → reduce_suffix ([] ∷ behind) ≡ reduce_suffix behind
unfolding reduce_suffix
no_directory behind = refl

-- The bytes before the last slash of a target's name have the segments of its directory.
directory_by : (target : List ℕ) (above : ℕ) (found : List ℕ) → AfterSlash target above found → WithoutSlash target above found
    → LastSlash target
    → (behind : List (List ℕ)) → reduce_suffix (segments (take above target) ++ behind)
    ≡ reduce_suffix (without_last (segments target) ++ behind)
directory_by target above found after without (inl free) behind =
    ap (λ (n : ℕ). reduce_suffix (segments (take n target) ++ behind)) (without free).0 ∙ no_directory behind
    ∙ ap (λ ps. reduce_suffix (without_last ps ++ behind)) (sym (cut-free target free))
directory_by target above found after without (inr (front, last, free, is)) behind =
    let above_is = (after front last free is).0 in
    let front_is : take above target ≡ front =
    ap (λ (n : ℕ). take n target) above_is ∙ ap (take (length front)) is ∙ take_at front (slash ∷ last) (length front) refl in
    ap (λ b. reduce_suffix (segments b ++ behind)) front_is
    ∙ ap (λ ps. reduce_suffix (ps ++ behind))
    (sym (without_last-push (cut front) last) ∙ ap without_last (sym (cut-last front last free) ∙ ap cut (sym is)))

pub directory_is : (target : List ℕ) (above : ℕ) (found : List ℕ) → AfterSlash target above found → WithoutSlash target above found
    → (behind : List (List ℕ)) → reduce_suffix (segments (take above target) ++ behind)
    ≡ reduce_suffix (without_last (segments target) ++ behind)
directory_is target above found after without behind = directory_by target above found after without (last_slash target) behind

-- The empty path has no segments.
pub at_start : (absolute : Bool) → Represents absolute [] []
at_start true = record { ups = 0; kept = []; left = record { is = refl; root = λ is. refl; ordinary = tt; each = tt }; bytes = refl }
at_start false = record { ups = 0; kept = []; left = record { is = refl; root = λ is. refl; ordinary = tt; each = tt }; bytes = refl }

-- The name of segments: their path, or `/` or `.` if there are none.
flat_joined : (part : List ℕ) (parts : List (List ℕ)) → built true (part ∷ parts) ≡ slash ∷ join_with_byte slash (part ∷ parts)
flat_joined part [] = append-nil (slash ∷ part)
flat_joined part (next ∷ parts) = ap (λ b. (slash ∷ part) ++ b) (flat_joined next parts)

pub written_some : (absolute : Bool) (parts : List (List ℕ)) → 0 < length (built absolute parts)
    → join_segments absolute parts ≡ built absolute parts
written_some true [] some = absurd (omega arith)
written_some true (part ∷ parts) some = sym (flat_joined part parts)
written_some false [] some = absurd (omega arith)
written_some false (part ∷ parts) some = refl

written_none_by : (absolute : Bool) (parts : List (List ℕ)) → AllByRecursion (λ part. 0 < length part) parts → built absolute parts ≡ []
    → join_segments absolute parts ≡ cond absolute slash 46 ∷ []
written_none_by true [] some is = refl
written_none_by true (part ∷ parts) some is = cc
written_none_by false [] some is = refl
written_none_by false (part ∷ parts) some is = let size = join_some part parts some.0 in absurd (omega (arith, ap length is))

normal_some : (target : Option (List ℕ)) (name : List ℕ) → 0 < length name
    → normal target name ≡ Some (join_segments (directory_of (is_absolute name) target).0
    (remaining_segments (directory_of (is_absolute name) target).0
    (reduce_suffix ((directory_of (is_absolute name) target).1 ++ segments name))))
unfolding normal
normal_some target [] some = absurd (omega arith)
normal_some target (byte ∷ name) some = refl

module _ (target : Option (List ℕ)) (name directory first path : List ℕ) (absolute : Bool) (some : 0 < length name)
    (absolute_is : absolute ≡ (directory_of (is_absolute name) target).0)
    (directory_are : (behind : List (List ℕ))
    → reduce_suffix (segments directory ++ behind) ≡ reduce_suffix ((directory_of (is_absolute name) target).1 ++ behind))
    (adds_directory : Adds absolute [] (segments directory) first) (adds_name : Adds absolute first (segments name) path) where
  abbrev above : RepresentsExtended absolute [] (segments directory) first
  above = adds_directory (cut-each directory) [] (at_start absolute)

  abbrev whole : RepresentsExtended absolute above.parts (segments name) path
  whole = adds_name (cut-each name) above.parts above.stands

  -- The path represents the segments of the normal form.
  left_are : whole.parts ≡ remaining_segments absolute (reduce_suffix ((directory_of (is_absolute name) target).1 ++ segments name))
  left_are =
      let none = append-nil (segments name) in
      sym (left_again absolute whole.parts whole.stands.ups whole.stands.kept whole.stands.left)
      ∙ ap (λ ps. remaining_segments absolute (reduce_suffix ps)) (sym (append-nil whole.parts)) ∙ whole.leaves []
      ∙ ap (λ ps. remaining_segments absolute (reduce_suffix (above.parts ++ ps))) none ∙ above.leaves (segments name)
      ∙ ap (remaining_segments absolute) (directory_are (segments name))

  pub normal_is_written : normal target name ≡ Some (join_segments absolute whole.parts)
  normal_is_written =
      normal_some target name some ∙ ap (λ a.
      Some (join_segments a (remaining_segments a (reduce_suffix ((directory_of (is_absolute name) target).1 ++ segments name)))))
      (sym absolute_is)
      ∙ ap (λ ps. Some (join_segments absolute ps)) (sym left_are)

  pub normal_is_path : 0 < length path → normal target name ≡ Some path
  normal_is_path nonempty =
      let size : 0 < length (built absolute whole.parts) = omega (arith, ap length whole.stands.bytes) in
      normal_is_written ∙ ap Some (written_some absolute whole.parts size ∙ sym whole.stands.bytes)

  pub normal_is_single : path ≡ [] → normal target name ≡ Some (cond absolute slash 46 ∷ [])
  normal_is_single none =
      normal_is_written ∙ ap Some (written_none_by absolute whole.parts
      (left_some absolute whole.parts whole.stands.ups whole.stands.kept whole.stands.left) (sym whole.stands.bytes ∙ none))
