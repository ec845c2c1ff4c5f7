-- The laws about names: which segments are kept, and which directory a name in a log is relative to.
use Rattle.std.proofs.Common.{◌≡◌, ℕ, zero, suc, Bool, true, false, cond, eqb, List, [], ◌∷◌, ◌++◌, Option, None, Some, replicate, refl, sym, ◌∙◌, ap, add-one}
use Rattle.std.specs.List.{AllByRecursion}
use Rattle.std.proofs.lemmas.Bool.{eqb-true}
use Rattle.redo_name.specs.Laws.{IsDropped, IsCancelled, IsOrdinary, IsRelative, ResolvesIn, AreKept}
use Rattle.redo_name.specs.Names.{slash, dot, dot_dot, segments, is_absolute, without_last, segment_kind, Skipped, Upward, Ordinary, with_segment, reduce_suffix, remaining_segments, join_segments, directory_of, normal, HasNoSlash}
use Rattle.redo_name.proofs.DirectoryLemmas.{cut-slash, cut-last, without_last-push}
use Rattle.redo_name.proofs.NameLemmas.{AllOrdinary, cut-free, reduce_suffix-cons, reduce_suffix-behind, reduce_suffix-ordinary}

pub empty_goes : IsDropped []
empty_goes front behind = reduce_suffix-behind front ([] ∷ behind) behind (reduce_suffix-cons [] behind Skipped refl)

pub dot_goes : IsDropped dot
dot_goes front behind = reduce_suffix-behind front (dot ∷ behind) behind (reduce_suffix-cons dot behind Skipped refl)

ordinary_is : (segment : List ℕ) → IsOrdinary segment → segment_kind segment ≡ Ordinary
ordinary_is [] is = absurd (is.0 refl)
ordinary_is (a ∷ []) is = by (eqb a 46) refl
  where
    by : (same : Bool) → eqb a 46 ≡ same → segment_kind (a ∷ []) ≡ Ordinary
    by true same = absurd (is.1 (ap (λ (b : ℕ). b ∷ []) (eqb-true a 46 same)))
    by false other = ap (λ b. cond b Skipped Ordinary) other
ordinary_is (a ∷ b ∷ []) is = by (eqb a 46) (eqb b 46) refl refl
  where
    by : (first second : Bool) → eqb a 46 ≡ first → eqb b 46 ≡ second → segment_kind (a ∷ b ∷ []) ≡ Ordinary
    by true true first second = absurd (is.2
        (ap (λ (c : ℕ). c ∷ b ∷ []) (eqb-true a 46 first) ∙ ap (λ (c : ℕ). 46 ∷ c ∷ []) (eqb-true b 46 second)))
    by true false first second = ap (λ c. cond c (cond (eqb b 46) Upward Ordinary) Ordinary) first ∙ ap (λ c. cond c Upward Ordinary) second
    by false second first is_second = ap (λ c. cond c (cond (eqb b 46) Upward Ordinary) Ordinary) first
ordinary_is (a ∷ b ∷ c ∷ others) is = refl

pub goes_with_upward : (segment : List ℕ) → IsOrdinary segment → IsCancelled segment
goes_with_upward segment is front behind =
    reduce_suffix-behind front (segment ∷ dot_dot ∷ behind) behind
    (reduce_suffix-cons segment (dot_dot ∷ behind) Ordinary (ordinary_is segment is)
    ∙ ap (with_segment Ordinary segment) (reduce_suffix-cons dot_dot behind Upward refl)
    ∙ ap (λ (n : ℕ). with_segment Ordinary segment (record { kept = (reduce_suffix behind).kept; count = n }))
    (add-one (reduce_suffix behind).count))

all_ordinary : (kept : List (List ℕ)) → AllByRecursion IsOrdinary kept → AllOrdinary kept
all_ordinary [] are = tt
all_ordinary (segment ∷ kept) are = (ordinary_is segment are.0, all_ordinary kept are.1)

pub stay : (ups : ℕ) (kept : List (List ℕ)) → AllByRecursion IsOrdinary kept → AreKept ups kept
stay zero kept are = reduce_suffix-ordinary kept (all_ordinary kept are)
stay (suc ups) kept are =
    reduce_suffix-cons dot_dot (replicate ups dot_dot ++ kept) Upward refl ∙ ap (with_segment Upward dot_dot) (stay ups kept are)
    ∙ ap (λ (n : ℕ). record { kept = kept; count = n }) (add-one ups)

-- The normal form depends only on the directory and the segments of the name.
abbrev made : Bool → List (List ℕ) → Option (List ℕ)
made absolute parts = Some (join_segments absolute (remaining_segments absolute (reduce_suffix parts)))

normal_made : (target : Option (List ℕ)) (byte : ℕ) (name : List ℕ)
    → normal target (byte ∷ name) ≡ made (directory_of (is_absolute (byte ∷ name)) target).0
    ((directory_of (is_absolute (byte ∷ name)) target).1 ++ segments (byte ∷ name))
unfolding normal
normal_made target byte name = refl

same_made : (target other : Option (List ℕ)) (byte : ℕ) (name : List ℕ)
    → directory_of (is_absolute (byte ∷ name)) target ≡ directory_of (is_absolute (byte ∷ name)) other
    → normal target (byte ∷ name) ≡ normal other (byte ∷ name)
same_made target other byte name same =
    normal_made target byte name ∙ ap (λ d. made d.0 (d.1 ++ segments (byte ∷ name))) same ∙ sym (normal_made other byte name)

none_normal : (target other : Option (List ℕ)) → normal target [] ≡ normal other []
unfolding normal
none_normal target other = refl

pub absolute_alone : (target : Option (List ℕ)) (name : List ℕ) → is_absolute name ≡ true → normal target name ≡ normal None name
absolute_alone target [] is = none_normal target None
absolute_alone target (byte ∷ name) is =
    same_made target None byte name (ap (λ a. directory_of a target) is ∙ sym (ap (λ a. directory_of a None) is))

free_relative : (target : List ℕ) → HasNoSlash target → is_absolute target ≡ false
free_relative [] free = refl
free_relative (byte ∷ target) free = by (eqb byte slash) refl
  where
    by : (same : Bool) → eqb byte slash ≡ same → is_absolute (byte ∷ target) ≡ false
    by true same = absurd (free.0 (eqb-true byte slash same))
    by false other = other

beside_by : (absolute : Bool) (target : List ℕ) → HasNoSlash target → directory_of absolute (Some target) ≡ directory_of absolute None
beside_by true target free = refl
beside_by false target free = ap (λ a. (a, without_last (segments target))) (free_relative target free)
    ∙ ap (λ ps. (false, without_last ps)) (cut-free target free)

pub beside : (target name : List ℕ) → HasNoSlash target → normal (Some target) name ≡ normal None name
beside target [] free = none_normal (Some target) None
beside target (byte ∷ name) free = same_made (Some target) None byte name (beside_by (is_absolute (byte ∷ name)) target free)

same_root : (front last name : List ℕ) → is_absolute (front ++ slash ∷ last) ≡ is_absolute (front ++ slash ∷ name)
same_root [] last name = refl
same_root (byte ∷ front) last name = refl

alone : (absolute : Bool) → directory_of absolute None ≡ (absolute, [])
alone true = refl
alone false = refl

-- A name with a slash, in no log.
with_slash : (front name : List ℕ) → normal None (front ++ slash ∷ name)
    ≡ made (is_absolute (front ++ slash ∷ name)) (segments front ++ segments name)
with_slash [] name = normal_made None slash name ∙ ap (λ ps. made true ps) (cut-slash [] name)
with_slash (byte ∷ front) name =
    normal_made None byte (front ++ slash ∷ name)
    ∙ ap (λ d. made d.0 (d.1 ++ segments (byte ∷ (front ++ slash ∷ name)))) (alone (is_absolute (byte ∷ (front ++ slash ∷ name))))
    ∙ ap (made (is_absolute (byte ∷ (front ++ slash ∷ name)))) (cut-slash (byte ∷ front) name)

pub within : (front last name : List ℕ) → HasNoSlash last → IsRelative name → ResolvesIn front last name
within front last [] free is = absurd (is.0 refl)
within front last (byte ∷ name) free is =
    normal_made (Some (front ++ slash ∷ last)) byte name
    ∙ ap (λ a. made (directory_of a (Some (front ++ slash ∷ last))).0
    ((directory_of a (Some (front ++ slash ∷ last))).1 ++ segments (byte ∷ name))) is.1
    ∙ ap (λ ps. made (is_absolute (front ++ slash ∷ last)) (without_last ps ++ segments (byte ∷ name))) (cut-last front last free)
    ∙ ap (λ ps. made (is_absolute (front ++ slash ∷ last)) (ps ++ segments (byte ∷ name))) (without_last-push (segments front) last)
    ∙ ap (λ a. made a (segments front ++ segments (byte ∷ name))) (same_root front last (byte ∷ name))
    ∙ sym (with_slash front (byte ∷ name))
