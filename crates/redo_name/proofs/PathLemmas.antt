-- How a path that is built from the front represents segments.
use Rattle.std.proofs.Common.{◌≡◌, ◌≢◌, ℕ, zero, suc, ◌+◌, ◌-◌, ◌<◌, Bool, true, false, cond, eqb, List, [], ◌∷◌, ◌++◌, None, Some, ◌⊎◌, inl, inr, length, take, drop, get_or, replicate, refl, sym, ◌∙◌, ap, subst, arith, add-one, zero-le}
use Rattle.std.specs.List.{AllByRecursion, join_with_byte}
use Rattle.std.proofs.lemmas.Bool.{eq-eqb, eqb-true, cases_order, false≢true}
use Rattle.std.proofs.lemmas.List.{append_assoc, append-nil, length-append, get_or_at, get_or-append-add, take_at, drop_at, take_rest}
use Rattle.std.proofs.lemmas.List.Concat.{flat_map-append}
use Rattle.std.proofs.lemmas.List.Elements.{All-from_recursion}
use Rattle.memchr.specs.Find.{Passes, Nowhere, NoneAfter, is_byte}
use Rattle.redo_name.specs.Names.{slash, dot_dot, SegmentKind, Skipped, Upward, Ordinary, segment_kind, reduce_suffix, remaining_segments, with_segment, push_or_cancel, HasNoSlash}
use Rattle.redo_name.specs.Private.Path.{built, Represents, RepresentsExtended, Adds, CanPop, with_separator}
use Rattle.redo_name.proofs.NameLemmas.{Each, AllOrdinary, reduce_suffix-cons, reduce_suffix-behind, each-append, each-upward, left_some}

-- If `last` has no slash, the last slash of `front/last` directly follows `front`.
pub last_place : (front last : List ℕ) (at : ℕ) → HasNoSlash last → at < length (front ++ slash ∷ last)
    → Passes (is_byte slash) (front ++ slash ∷ last) at
    → Nowhere (Passes (is_byte slash) (front ++ slash ∷ last)) (at + 1) (length (front ++ slash ∷ last)) → at ≡ length front
last_place front last at free below here after =
    let name = front ++ slash ∷ last in
    let size = length-append front (slash ∷ last) in
    let there : Passes (is_byte slash) name (length front) =
    eq-eqb (get_or name (length front) 0) slash (get_or_at front slash last 0 (length front) refl) in
    elim (cases_order at (length front)) [
      | inl same ↦ same
      | inr (inl before) ↦ absurd (after (length front) (omega arith) (omega arith) there)
      | inr (inr behind) ↦
          let k = at - (length front + 1) in
          let at_is : at ≡ length front + (k + 1) = omega arith in
          let read : get_or name at 0 ≡ get_or last k 0 =
          ap (λ (n : ℕ). get_or name n 0) at_is ∙ get_or-append-add front (slash ∷ last) (k + 1) 0
          ∙ ap (λ (n : ℕ). get_or (slash ∷ last) n 0) (add-one k) in
          absurd (All-from_recursion (λ (byte : ℕ). byte ≢ slash) last free k 0 (omega arith)
          (sym read ∙ eqb-true (get_or name at 0) slash here))
    ]

-- The index `at` of the last slash splits a name into `front` and `last`.
abbrev Splits : List ℕ → List ℕ → List ℕ → ℕ → Type 0
Splits front last name at = (at ≡ length front) × (take (length name - (at + 1)) (drop (at + 1) name) ≡ last)

splits_at : (front last : List ℕ) (at : ℕ) → at ≡ length front → Splits front last (front ++ slash ∷ last) at
splits_at front last at is =
    let name = front ++ slash ∷ last in
    let again : name ≡ (front ++ slash ∷ []) ++ last = sym (append_assoc front (slash ∷ []) last) in
    let size : length (front ++ slash ∷ []) ≡ at + 1 = omega (arith, length-append front (slash ∷ [])) in
    (is, take_rest name (at + 1) ∙ ap (drop (at + 1)) again ∙ drop_at (front ++ slash ∷ []) last (at + 1) size)

pub slash_found : (name front last : List ℕ) (at : ℕ) → HasNoSlash last → name ≡ front ++ slash ∷ last
    → NoneAfter (Passes (is_byte slash) name) 0 (length name) at × Passes (is_byte slash) name at → Splits front last name at
slash_found name front last at free is found =
    let moved = subst (λ (n : List ℕ). NoneAfter (Passes (is_byte slash) n) 0 (length n) at × Passes (is_byte slash) n at) is found in
    subst (λ (n : List ℕ). Splits front last n at) (sym is)
    (splits_at front last at (last_place front last at free moved.0.high moved.1 moved.0.after))

pub no_slash_found : (name front last : List ℕ) → name ≡ front ++ slash ∷ last → Nowhere (Passes (is_byte slash) name) 0 (length name) → ⊥
no_slash_found name front last is nowhere =
    let moved = subst (λ (n : List ℕ). Nowhere (Passes (is_byte slash) n) 0 (length n)) is nowhere in
    moved (length front) zero-le (omega (arith, length-append front (slash ∷ last)))
    (eq-eqb (get_or (front ++ slash ∷ last) (length front) 0) slash (get_or_at front slash last 0 (length front) refl))

-- A list is empty or has a last element.
snoc : {X : Type 0} (xs : List X) → (xs ≡ []) ⊎ ((ys : List X) × (y : X) × (xs ≡ ys ++ y ∷ []))
snoc [] = inl refl
snoc (x ∷ xs) = elim (snoc xs) [
  | inl none ↦ inr ([], x, ap (λ zs. x ∷ zs) none)
  | inr more ↦ inr (x ∷ more.0, more.1, ap (λ zs. x ∷ zs) more.2)
]

-- Appending one segment.
join-push : (part : List ℕ) (parts : List (List ℕ)) (last : List ℕ)
    → join_with_byte slash ((part ∷ parts) ++ last ∷ []) ≡ join_with_byte slash (part ∷ parts) ++ slash ∷ last
join-push part [] last = refl
join-push part (next ∷ parts) last =
    ap (λ (b : List ℕ). part ++ (slash ∷ b)) (join-push next parts last)
    ∙ sym (append_assoc part (slash ∷ join_with_byte slash (next ∷ parts)) (slash ∷ last))

flat-push : (parts : List (List ℕ)) (last : List ℕ) → built true (parts ++ last ∷ []) ≡ built true parts ++ slash ∷ last
flat-push parts last = flat_map-append (λ part. slash ∷ part) parts (last ∷ [])
    ∙ ap (λ (b : List ℕ). built true parts ++ slash ∷ b) (append-nil last)

-- If no segment is empty, only the empty list of segments gives an empty path.
pub join_some : (part : List ℕ) (parts : List (List ℕ)) → 0 < length part → 0 < length (join_with_byte slash (part ∷ parts))
join_some part [] some = some
join_some part (next ∷ parts) some = omega (arith, length-append part (slash ∷ join_with_byte slash (next ∷ parts)))

pub built-push : (absolute : Bool) (path : List ℕ) (parts : List (List ℕ)) (last : List ℕ) → AllByRecursion (λ part. 0 < length part) parts
    → path ≡ built absolute parts → with_separator absolute path ++ last ≡ built absolute (parts ++ last ∷ [])
built-push true path parts last some is =
    append_assoc path (slash ∷ []) last ∙ ap (λ (p : List ℕ). p ++ slash ∷ last) is ∙ sym (flat-push parts last)
built-push false [] [] last some is = refl
built-push false (byte ∷ path) [] last some is = cc
built-push false [] (part ∷ parts) last some is = let size = join_some part parts some.0 in absurd (omega (arith, ap length is))
built-push false (byte ∷ path) (part ∷ parts) last some is =
    append_assoc (byte ∷ path) (slash ∷ []) last ∙ ap (λ (p : List ℕ). p ++ slash ∷ last) is ∙ sym (join-push part parts last)

-- The postcondition of `last_segment` about the length and the segment that it returns.
abbrev pub AfterSlash : List ℕ → ℕ → List ℕ → Type 0
AfterSlash path above last = (front behind : List ℕ) → HasNoSlash behind → path ≡ front ++ slash ∷ behind
    → (above ≡ length front) × (last ≡ behind)

abbrev pub WithoutSlash : List ℕ → ℕ → List ℕ → Type 0
WithoutSlash path above last = HasNoSlash path → (above ≡ 0) × (last ≡ path)

abbrev NoneEmpty : List (List ℕ) → Type 0
NoneEmpty parts = AllByRecursion (λ part. 0 < length part) parts

last_of_each : (P : List ℕ → Type 0) (parts : List (List ℕ)) (last : List ℕ) → AllByRecursion P (parts ++ last ∷ []) → P last
last_of_each P [] last all = all.0
last_of_each P (part ∷ parts) last all = last_of_each P parts last all.1

front_of_each : (P : List ℕ → Type 0) (parts : List (List ℕ)) (last : List ℕ) → AllByRecursion P (parts ++ last ∷ [])
    → AllByRecursion P parts
front_of_each P [] last all = tt
front_of_each P (part ∷ parts) last all = (all.0, front_of_each P parts last all.1)

both_of_each : (P : List ℕ → Type 0) (parts more : List (List ℕ)) → AllByRecursion P parts → AllByRecursion P more
    → AllByRecursion P (parts ++ more)
both_of_each P [] more all rest = rest
both_of_each P (part ∷ parts) more all rest = (all.0, both_of_each P parts more all.1 rest)

behind_slash : (front last path built_front : List ℕ) (above : ℕ) (found : List ℕ) → HasNoSlash last → path ≡ front ++ slash ∷ last
    → AfterSlash path above found → front ≡ built_front → (found ≡ last) × (take above path ≡ built_front)
behind_slash front last path built_front above found free is after same =
    let a = after front last free is in
    (a.1, ap (λ (n : ℕ). take n path) a.0 ∙ ap (take (length front)) is ∙ take_at front (slash ∷ last) (length front) refl ∙ same)

-- The last segment of a path, and the bytes before it.
pub path_last : (absolute : Bool) (path : List ℕ) (parts : List (List ℕ)) (last : List ℕ) (above : ℕ) (found : List ℕ)
    → Each (parts ++ last ∷ []) → path ≡ built absolute (parts ++ last ∷ [])
    → AfterSlash path above found → WithoutSlash path above found → (found ≡ last) × (take above path ≡ built absolute parts)
path_last true path parts last above found each is after without =
    behind_slash (built true parts) last path (built true parts) above found (last_of_each HasNoSlash parts last each)
    (is ∙ flat-push parts last) after refl
path_last false path [] last above found each is after without =
    let w = without (subst HasNoSlash (sym is) each.0) in (w.1 ∙ is, ap (λ (n : ℕ). take n path) w.0)
path_last false path (part ∷ parts) last above found each is after without =
    behind_slash (built false (part ∷ parts)) last path (built false (part ∷ parts)) above found
    (last_of_each HasNoSlash (part ∷ parts) last each) (is ∙ join-push part parts last) after refl

-- A list of at least one `..` ends in `..`.
upward-snoc : (ups : ℕ) → replicate (suc ups) dot_dot ≡ replicate ups dot_dot ++ dot_dot ∷ []
upward-snoc zero = refl
upward-snoc (suc ups) = ap (λ ps. dot_dot ∷ ps) (upward-snoc ups)

-- A path with a segment is not empty.
built-some : (absolute : Bool) (parts : List (List ℕ)) (last : List ℕ) → NoneEmpty (parts ++ last ∷ [])
    → 0 < length (built absolute (parts ++ last ∷ []))
built-some true [] last some = omega arith
built-some true (part ∷ parts) last some = omega arith
built-some false [] last some = some.0
built-some false (part ∷ parts) last some = join_some part (parts ++ last ∷ []) some.0

each_upward : (ups : ℕ) → Each (replicate ups dot_dot)
each_upward ups = subst Each (append-nil (replicate ups dot_dot)) (each-upward ups [] tt)

-- A path that is not empty and has only segments `..` ends in `..`.
only_upward : (absolute : Bool) (ups : ℕ) {path : List ℕ} → (absolute ≡ true → ups ≡ 0) → path ≡ built absolute (replicate ups dot_dot)
    → 0 < length path
    → (above : ℕ) (found : List ℕ) → AfterSlash path above found → WithoutSlash path above found → (segment_kind found ≡ Upward → ⊥) → ⊥
only_upward true zero root is some above found after without ordinary = omega (arith, ap length is)
only_upward false zero root is some above found after without ordinary = omega (arith, ap length is)
only_upward true (suc ups) root is some above found after without ordinary = let none = root refl in omega (arith, none)
only_upward false (suc ups) {path} root is some above found after without ordinary =
    let split = upward-snoc ups in
    let each = subst Each split (each_upward (suc ups)) in
    let last = path_last false path (replicate ups dot_dot) dot_dot above found each (is ∙ ap (built false) split) after without in
    ordinary (ap segment_kind last.0)

module _ (absolute : Bool) (path : List ℕ) (parts : List (List ℕ)) (stands : Represents absolute path parts) where
  -- The segments before the last ordinary one.
  abbrev fronts : List (List ℕ) → List (List ℕ)
  fronts kept = replicate stands.ups dot_dot ++ kept

  parts_are : (kept : List (List ℕ)) (last : List ℕ) → stands.kept ≡ kept ++ last ∷ [] → parts ≡ fronts kept ++ last ∷ []
  parts_are kept last is = stands.left.is ∙ ap (λ ks. replicate stands.ups dot_dot ++ ks) is
      ∙ sym (append_assoc (replicate stands.ups dot_dot) kept (last ∷ []))

  path_is : (kept : List (List ℕ)) (last : List ℕ) → stands.kept ≡ kept ++ last ∷ [] → path ≡ built absolute (fronts kept ++ last ∷ [])
  path_is kept last is = stands.bytes ∙ ap (built absolute) (parts_are kept last is)

  ends : (kept : List (List ℕ)) (last : List ℕ) → stands.kept ≡ kept ++ last ∷ [] → (above : ℕ) (found : List ℕ)
      → AfterSlash path above found → WithoutSlash path above found
      → (found ≡ last) × (take above path ≡ built absolute (fronts kept))
  ends kept last is above found after without =
      path_last absolute path (fronts kept) last above found (subst Each (parts_are kept last is) stands.left.each)
      (path_is kept last is) after without

  last_ordinary : (kept : List (List ℕ)) (last : List ℕ) → stands.kept ≡ kept ++ last ∷ [] → segment_kind last ≡ Ordinary
  last_ordinary kept last is = last_of_each (λ part. segment_kind part ≡ Ordinary) kept last (subst AllOrdinary is stands.left.ordinary)

  -- An empty path has no ordinary segment, and neither has a path that ends in `..`.
  pub empty_path : path ≡ [] → stands.kept ≡ []
  empty_path none = elim (snoc stands.kept) [
    | inl is ↦ is
    | inr some ↦
        let size = built-some absolute (fronts some.0) some.1
        (subst NoneEmpty (parts_are some.0 some.1 some.2) (left_some absolute parts stands.ups stands.kept stands.left)) in
        absurd (omega (arith, ap length (path_is some.0 some.1 some.2), ap length none))
  ]

  pub upward_path : (above : ℕ) (found : List ℕ) → AfterSlash path above found → WithoutSlash path above found → segment_kind found ≡ Upward
      → stands.kept ≡ []
  upward_path above found after without upward = elim (snoc stands.kept) [
    | inl is ↦ is
    | inr some ↦
        let same = (ends some.0 some.1 some.2 above found after without).0 in
        let ordinary = last_ordinary some.0 some.1 some.2 in
        let both : Ordinary ≡ Upward = sym ordinary ∙ ap segment_kind (sym same) ∙ upward in absurd (cc)
  ]

  pub ordinary_path : 0 < length path → (above : ℕ) (found : List ℕ) → AfterSlash path above found → WithoutSlash path above found
      → (segment_kind found ≡ Upward → ⊥)
      → (kept : List (List ℕ)) × (last : List ℕ) × (stands.kept ≡ kept ++ last ∷ []) × (take above path ≡ built absolute (fronts kept))
  ordinary_path some above found after without ordinary = elim (snoc stands.kept) [
    | inl none ↦ absurd (only_upward absolute stands.ups (λ is. stands.left.root is)
        (stands.bytes ∙ ap (built absolute)
        (stands.left.is ∙ ap (λ ks. replicate stands.ups dot_dot ++ ks) none ∙ append-nil (replicate stands.ups dot_dot))) some above found
        after without ordinary)
    | inr more ↦ (more.0, more.1, more.2, (ends more.0 more.1 more.2 above found after without).1)
  ]

-- Segments that leave the path unchanged.
stands_same : (absolute : Bool) (path : List ℕ) (parts more : List (List ℕ)) → Represents absolute path parts
    → ((behind : List (List ℕ)) → remaining_segments absolute (reduce_suffix (parts ++ behind))
    ≡ remaining_segments absolute (reduce_suffix (parts ++ (more ++ behind)))) → RepresentsExtended absolute parts more path
stands_same absolute path parts more stands leaves = record { parts = parts; stands = stands; leaves = leaves }

-- A skipped segment changes nothing.
pub adds_skipped : (absolute : Bool) (path segment : List ℕ) → segment_kind segment ≡ Skipped → Adds absolute path (segment ∷ []) path
adds_skipped absolute path segment skipped each parts stands =
    stands_same absolute path parts (segment ∷ []) stands
    (λ behind. ap (remaining_segments absolute)
    (reduce_suffix-behind parts behind (segment ∷ behind) (sym (reduce_suffix-cons segment behind Skipped skipped))))

-- A segment that is kept.
module _ (absolute : Bool) (path segment : List ℕ) (parts : List (List ℕ)) (stands : Represents absolute path parts)
    (free : HasNoSlash segment) where
  stays : (ups : ℕ) (kept : List (List ℕ)) → parts ++ segment ∷ [] ≡ replicate ups dot_dot ++ kept → (absolute ≡ true → ups ≡ 0)
      → AllOrdinary kept → RepresentsExtended absolute parts (segment ∷ []) (with_separator absolute path ++ segment)
  stays ups kept is root ordinary = record {
    parts = parts ++ segment ∷ [];
    stands = record {
      ups = ups;
      kept = kept;
      left = record { is = is; root = root; ordinary = ordinary; each = each-append parts (segment ∷ []) stands.left.each (free, tt) };
      bytes = built-push absolute path parts segment (left_some absolute parts stands.ups stands.kept stands.left) stands.bytes;
    };
    leaves = λ behind. ap (λ (ps : List (List ℕ)). remaining_segments absolute (reduce_suffix ps))
        (append_assoc parts (segment ∷ []) behind);
  }

pub adds_ordinary : (absolute : Bool) (path segment : List ℕ) → segment_kind segment ≡ Ordinary
    → Adds absolute path (segment ∷ []) (with_separator absolute path ++ segment)
adds_ordinary absolute path segment ordinary each parts stands =
    stays absolute path segment parts stands each.0 stands.ups (stands.kept ++ segment ∷ [])
    (ap (λ ps. ps ++ segment ∷ []) stands.left.is ∙ append_assoc (replicate stands.ups dot_dot) stands.kept (segment ∷ []))
    (λ is. stands.left.root is)
    (both_of_each (λ part. segment_kind part ≡ Ordinary) stands.kept (segment ∷ []) stands.left.ordinary (ordinary, tt))

-- A segment of the kind `Upward` is `..`.
one_byte : (is : Bool) → cond is Skipped Ordinary ≡ Upward → ⊥
one_byte true h = cc
one_byte false h = cc

two_bytes : (a b : ℕ) (x y : Bool) → eqb a 46 ≡ x → eqb b 46 ≡ y → cond x (cond y Upward Ordinary) Ordinary ≡ Upward → a ∷ b ∷ [] ≡ dot_dot
two_bytes a b true true first second h = ap (λ n. n ∷ b ∷ []) (eqb-true a 46 first) ∙ ap (λ n. 46 ∷ n ∷ []) (eqb-true b 46 second)
two_bytes a b true false first second h = cc
two_bytes a b false y first second h = cc

upward-is : (segment : List ℕ) → segment_kind segment ≡ Upward → segment ≡ dot_dot
upward-is [] is = cc
upward-is (a ∷ []) is = absurd (one_byte (eqb a 46) is)
upward-is (a ∷ b ∷ []) is = two_bytes a b (eqb a 46) (eqb b 46) refl refl is
upward-is (a ∷ b ∷ c ∷ others) is = cc

-- `..` removes the ordinary segment before it.
taken : (last segment : List ℕ) (behind : List (List ℕ)) → segment_kind last ≡ Ordinary → segment_kind segment ≡ Upward
    → reduce_suffix (last ∷ segment ∷ behind) ≡ reduce_suffix behind
taken last segment behind ordinary upward =
    reduce_suffix-cons last (segment ∷ behind) Ordinary ordinary
    ∙ ap (with_segment Ordinary last) (reduce_suffix-cons segment behind Upward upward)
    ∙ ap (λ (n : ℕ). push_or_cancel last (reduce_suffix behind).kept n) (add-one (reduce_suffix behind).count)

pub adds_removed : (absolute : Bool) (path segment : List ℕ) (above : ℕ) → CanPop path (Some above) → segment_kind segment ≡ Upward
    → Adds absolute path (segment ∷ []) (take above path)
adds_removed absolute path segment above ends_so upward each parts stands =
    let found = ends_so absolute parts stands in
    let kept = found.0 in let last = found.1 in
    let front = replicate stands.ups dot_dot ++ kept in
    let split = parts_are absolute path parts stands kept last found.2 in
    let ordinary = last_ordinary absolute path parts stands kept last found.2 in record {
      parts = front;
      stands = record {
        ups = stands.ups;
        kept = kept;
        left = record {
          is = refl;
          root = λ is. stands.left.root is;
          ordinary = front_of_each (λ part. segment_kind part ≡ Ordinary) kept last (subst AllOrdinary found.2 stands.left.ordinary);
          each = front_of_each HasNoSlash front last (subst Each split stands.left.each);
        };
        bytes = found.3;
      };
      leaves = λ behind. ap (remaining_segments absolute) (
          reduce_suffix-behind front behind (last ∷ segment ∷ behind) (sym (taken last segment behind ordinary upward))
          ∙ ap reduce_suffix (sym (append_assoc front (last ∷ []) (segment ∷ behind)) ∙ ap (λ ps. ps ++ (segment ∷ behind)) (sym split)));
    }

-- At the root `..` changes nothing.
at_root : (segment : List ℕ) (behind : List (List ℕ)) → segment_kind segment ≡ Upward
    → remaining_segments true (reduce_suffix behind) ≡ remaining_segments true (reduce_suffix (segment ∷ behind))
at_root segment behind upward = ap (λ b. b.kept) (sym (reduce_suffix-cons segment behind Upward upward))

pub adds_at_root : (path segment : List ℕ) → CanPop path None → segment_kind segment ≡ Upward → Adds true path (segment ∷ []) path
adds_at_root path segment ends_so upward each parts stands =
    let none : parts ≡ [] = stands.left.is ∙ ap (λ (n : ℕ). replicate n dot_dot ++ stands.kept) (stands.left.root refl)
    ∙ ends_so true parts stands in
    stands_same true path parts (segment ∷ []) stands
    (λ behind. ap (λ ps. remaining_segments true (reduce_suffix (ps ++ behind))) none ∙ at_root segment behind upward
    ∙ ap (λ ps. remaining_segments true (reduce_suffix (ps ++ (segment ∷ behind)))) (sym none))

-- A relative path keeps `..` if there is no ordinary segment to remove.
pub adds_upward : (path segment : List ℕ) → CanPop path None → segment_kind segment ≡ Upward
    → Adds false path (segment ∷ []) (with_separator false path ++ segment)
adds_upward path segment ends_so upward each parts stands =
    let none = ends_so false parts stands in
    let only : parts ≡ replicate stands.ups dot_dot =
    stands.left.is ∙ ap (λ ks. replicate stands.ups dot_dot ++ ks) none ∙ append-nil (replicate stands.ups dot_dot) in
    stays false path segment parts stands each.0 (suc stands.ups) []
    (ap (λ ps. ps ++ segment ∷ []) only ∙ ap (λ s. replicate stands.ups dot_dot ++ s ∷ []) (upward-is segment upward)
    ∙ sym (upward-snoc stands.ups) ∙ sym (append-nil (replicate (suc stands.ups) dot_dot)))
    (λ is. absurd (false≢true is)) tt

-- A segment that is neither skipped nor `..` is ordinary.
pub ordinary_else : (segment : List ℕ) → (segment_kind segment ≡ Skipped → ⊥) → (segment_kind segment ≡ Upward → ⊥)
    → segment_kind segment ≡ Ordinary
ordinary_else segment not_skipped not_upward = else (segment_kind segment) refl not_skipped not_upward
  where
    else : (kind : SegmentKind) → segment_kind segment ≡ kind → (segment_kind segment ≡ Skipped → ⊥) → (segment_kind segment ≡ Upward → ⊥)
        → segment_kind segment ≡ Ordinary
    else Skipped is a b = absurd (a is)
    else Upward is a b = absurd (b is)
    else Ordinary is a b = is

-- Some of the segments `all` were added; the segments `rest` are left.
pub record Halfway (absolute : Bool) (before all rest : List (List ℕ)) (path : List ℕ) : Type 0 where
  pub parts : List (List ℕ)
  pub stands : Represents absolute path parts
  pub leaves : (behind : List (List ℕ))
      → remaining_segments absolute (reduce_suffix (parts ++ (rest ++ behind)))
      ≡ remaining_segments absolute (reduce_suffix (before ++ (all ++ behind)))

pub none_yet : (absolute : Bool) (before all : List (List ℕ)) (path : List ℕ) → Represents absolute path before
    → Halfway absolute before all all path
none_yet absolute before all path stands = record { parts = before; stands = stands; leaves = λ behind. refl }

pub one_more : (absolute : Bool) (before all rest : List (List ℕ)) (segment path after : List ℕ) → HasNoSlash segment
    → Halfway absolute before all (segment ∷ rest) path → Adds absolute path (segment ∷ []) after
    → Halfway absolute before all rest after
one_more absolute before all rest segment path after free half adds =
    let more = adds (free, tt) half.parts half.stands in record {
      parts = more.parts;
      stands = more.stands;
      leaves = λ behind. more.leaves (rest ++ behind) ∙ half.leaves behind;
    }

pub all_added : (absolute : Bool) (before all : List (List ℕ)) (path : List ℕ) → Halfway absolute before all [] path
    → RepresentsExtended absolute before all path
all_added absolute before all path half = record { parts = half.parts; stands = half.stands; leaves = half.leaves }
