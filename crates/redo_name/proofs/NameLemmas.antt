-- Normal forms: how segments are processed from the back, and that every normal form is its own normal form.
use Rattle.std.proofs.Common.{◌≡◌, ◌≢◌, ℕ, zero, suc, ◌+◌, ◌<◌, Bool, true, false, cond, eqb, List, [], ◌∷◌, ◌++◌, Option, None, Some, length, replicate, refl, sym, ◌∙◌, ap, subst, arith}
use Rattle.std.specs.List.{AllByRecursion, slice_split, onto_first, join_with_byte}
use Rattle.std.proofs.lemmas.Bool.{ne_eqb, eqb-false, false≢true}
use Rattle.std.proofs.lemmas.List.{append-nil}
use Rattle.redo_name.specs.Private.Path.{IsReduced}
use Rattle.redo_name.specs.Names.{slash, dot_dot, segments, is_absolute, without_last, SegmentKind, Skipped, Upward, Ordinary, segment_kind, Suffix, push_or_cancel, with_segment, reduce_suffix, remaining_segments, join_segments, directory_of, normal, IsNormal, HasNoSlash}

abbrev pub Each : List (List ℕ) → Type 0
Each parts = AllByRecursion HasNoSlash parts

abbrev pub AllOrdinary : List (List ℕ) → Type 0
AllOrdinary parts = AllByRecursion (λ part. segment_kind part ≡ Ordinary) parts

abbrev pub cut : List ℕ → List (List ℕ)
cut bytes = slice_split (λ byte. eqb byte slash) bytes

pub cut-cons : (byte : ℕ) (bytes : List ℕ) (is : Bool) → eqb byte slash ≡ is
    → cut (byte ∷ bytes) ≡ cond is ([] ∷ cut bytes) (onto_first byte (cut bytes))
cut-cons byte bytes is h = ap (λ b. cond b ([] ∷ cut bytes) (onto_first byte (cut bytes))) h

-- A segment contains no slash.
onto_first-each : (byte : ℕ) (parts : List (List ℕ)) → byte ≢ slash → Each parts → Each (onto_first byte parts)
onto_first-each byte [] ne each = ((ne, tt), tt)
onto_first-each byte (part ∷ parts) ne each = ((ne, each.0), each.1)

cond-each : (byte : ℕ) (bytes : List ℕ) (is : Bool) → eqb byte slash ≡ is → Each (cut bytes)
    → Each (cond is ([] ∷ cut bytes) (onto_first byte (cut bytes)))
cond-each byte bytes true h each = (tt, each)
cond-each byte bytes false h each = onto_first-each byte (cut bytes) (eqb-false byte slash h) each

pub cut-each : (bytes : List ℕ) → Each (cut bytes)
cut-each [] = (tt, tt)
cut-each (byte ∷ bytes) = cond-each byte bytes (eqb byte slash) refl (cut-each bytes)

-- Bytes without a slash are one segment, and the bytes before the first slash are the first segment.
pub cut-free : (part : List ℕ) → HasNoSlash part → cut part ≡ part ∷ []
cut-free [] free = refl
cut-free (byte ∷ part) free = cut-cons byte part false (ne_eqb byte slash free.0) ∙ ap (onto_first byte) (cut-free part free.1)

pub cut-at : (part more : List ℕ) → HasNoSlash part → cut (part ++ slash ∷ more) ≡ part ∷ cut more
cut-at [] more free = refl
cut-at (byte ∷ part) more free = cut-cons byte (part ++ slash ∷ more) false (ne_eqb byte slash free.0)
    ∙ ap (onto_first byte) (cut-at part more free.1)

-- Joined segments are split into the same segments again.
pub cut-joined : (part : List ℕ) (parts : List (List ℕ)) → Each (part ∷ parts) → cut (join_with_byte slash (part ∷ parts)) ≡ part ∷ parts
cut-joined part [] each = cut-free part each.0
cut-joined part (next ∷ parts) each =
    cut-at part (join_with_byte slash (next ∷ parts)) each.0 ∙ ap (λ ps. part ∷ ps) (cut-joined next parts each.1)

-- One segment, by its kind.
pub reduce_suffix-cons : (part : List ℕ) (parts : List (List ℕ)) (kind : SegmentKind) → segment_kind part ≡ kind
    → reduce_suffix (part ∷ parts) ≡ with_segment kind part (reduce_suffix parts)
unfolding reduce_suffix
reduce_suffix-cons part parts kind is = ap (λ k. with_segment k part (reduce_suffix parts)) is

-- Lists with the same state still have the same state with the same segments before them.
pub reduce_suffix-behind : (front a b : List (List ℕ)) → reduce_suffix a ≡ reduce_suffix b
    → reduce_suffix (front ++ a) ≡ reduce_suffix (front ++ b)
unfolding reduce_suffix
reduce_suffix-behind [] a b same = same
reduce_suffix-behind (part ∷ front) a b same = ap (with_segment (segment_kind part) part) (reduce_suffix-behind front a b same)

-- Ordinary segments are kept.
pub reduce_suffix-ordinary : (kept : List (List ℕ)) → AllOrdinary kept → reduce_suffix kept ≡ record { kept = kept; count = 0 }
unfolding reduce_suffix
reduce_suffix-ordinary [] all = refl
reduce_suffix-ordinary (part ∷ kept) all =
    ap (λ k. with_segment k part (reduce_suffix kept)) all.0 ∙ ap (with_segment Ordinary part) (reduce_suffix-ordinary kept all.1)

reduce_suffix-upward : (ups : ℕ) (kept : List (List ℕ)) → AllOrdinary kept
    → reduce_suffix (replicate ups dot_dot ++ kept) ≡ record { kept = kept; count = ups }
unfolding reduce_suffix
reduce_suffix-upward zero kept all = reduce_suffix-ordinary kept all
reduce_suffix-upward (suc ups) kept all =
    ap (with_segment Upward dot_dot) (reduce_suffix-upward ups kept all)
    ∙ ap (λ (n : ℕ). record { kept = kept; count = n }) (let e : ups + 1 ≡ suc ups = omega arith in e)

-- The segments of a normal form stay unchanged.
pub left_again : (absolute : Bool) (parts : List (List ℕ)) (ups : ℕ) (kept : List (List ℕ)) → IsReduced absolute parts ups kept
    → remaining_segments absolute (reduce_suffix parts) ≡ parts
left_again absolute parts ups kept left =
    ap (λ ps. remaining_segments absolute (reduce_suffix ps)) left.is
    ∙ ap (remaining_segments absolute) (reduce_suffix-upward ups kept left.ordinary) ∙ at_root absolute left.root ∙ sym left.is
  where
    at_root : (a : Bool) → (a ≡ true → ups ≡ 0) → remaining_segments a (record { kept = kept; count = ups }) ≡ replicate ups dot_dot ++ kept
    at_root true none = ap (λ (n : ℕ). replicate n dot_dot ++ kept) (sym (none refl))
    at_root false none = refl

-- The segments that are kept are ordinary and contain no slash.
behind-ordinary : (parts : List (List ℕ)) → Each parts → AllOrdinary (reduce_suffix parts).kept × Each (reduce_suffix parts).kept
unfolding reduce_suffix
behind-ordinary [] each = (tt, tt)
behind-ordinary (part ∷ parts) each = by_kind (segment_kind part) refl (behind-ordinary parts each.1)
  where
    one : (count : ℕ) → segment_kind part ≡ Ordinary → AllOrdinary (reduce_suffix parts).kept × Each (reduce_suffix parts).kept
        → AllOrdinary (push_or_cancel part (reduce_suffix parts).kept count).kept
        × Each (push_or_cancel part (reduce_suffix parts).kept count).kept
    one zero is behind = ((is, behind.0), (each.0, behind.1))
    one (suc count) is behind = behind

    by_kind : (kind : SegmentKind) → segment_kind part ≡ kind → AllOrdinary (reduce_suffix parts).kept × Each (reduce_suffix parts).kept
        → AllOrdinary (with_segment kind part (reduce_suffix parts)).kept × Each (with_segment kind part (reduce_suffix parts)).kept
    by_kind Skipped is behind = behind
    by_kind Upward is behind = behind
    by_kind Ordinary is behind = one (reduce_suffix parts).count is behind

pub each-append : (a b : List (List ℕ)) → Each a → Each b → Each (a ++ b)
each-append [] b first behind = behind
each-append (part ∷ a) b first behind = (first.0, each-append a b first.1 behind)

pub each-upward : (ups : ℕ) (kept : List (List ℕ)) → Each kept → Each (replicate ups dot_dot ++ kept)
each-upward zero kept each = each
each-upward (suc ups) kept each = (
  ((λ e. absurd (eqb-false 46 47 refl e)), ((λ e. absurd (eqb-false 46 47 refl e)), tt)),
  each-upward ups kept each,
)

each-without_last : (parts : List (List ℕ)) → Each parts → Each (without_last parts)
each-without_last [] each = tt
each-without_last (part ∷ []) each = tt
each-without_last (part ∷ next ∷ parts) each = (each.0, each-without_last (next ∷ parts) each.1)

-- All segments result in the segments of a normal form.
abbrev pub upward_of : Bool → Suffix → ℕ
upward_of true behind = 0
upward_of false behind = behind.count

pub left_is : (absolute : Bool) (parts : List (List ℕ)) → Each parts
    → IsReduced absolute (remaining_segments absolute (reduce_suffix parts)) (upward_of absolute (reduce_suffix parts))
    (reduce_suffix parts).kept
left_is true parts each = let kept = behind-ordinary parts each in record { is = refl; root = λ e. refl; ordinary = kept.0; each = kept.1 }
left_is false parts each =
    let kept = behind-ordinary parts each in
    record {
      is = refl;
      root = λ e. absurd (false≢true e);
      ordinary = kept.0;
      each = each-upward (reduce_suffix parts).count (reduce_suffix parts).kept kept.1;
    }

-- No segment of a normal form is empty.
abbrev NoneEmpty : List (List ℕ) → Type 0
NoneEmpty parts = AllByRecursion (λ part. 0 < length part) parts

ordinary-some : (part : List ℕ) → segment_kind part ≡ Ordinary → 0 < length part
ordinary-some [] is = cc
ordinary-some (byte ∷ part) is = omega arith

ordinary-none_empty : (kept : List (List ℕ)) → AllOrdinary kept → NoneEmpty kept
ordinary-none_empty [] all = tt
ordinary-none_empty (part ∷ kept) all = (ordinary-some part all.0, ordinary-none_empty kept all.1)

upward-none_empty : (ups : ℕ) (kept : List (List ℕ)) → NoneEmpty kept → NoneEmpty (replicate ups dot_dot ++ kept)
upward-none_empty zero kept some = some
upward-none_empty (suc ups) kept some = (omega arith, upward-none_empty ups kept some)

pub left_some : (absolute : Bool) (parts : List (List ℕ)) (ups : ℕ) (kept : List (List ℕ)) → IsReduced absolute parts ups kept
    → NoneEmpty parts
left_some absolute parts ups kept left = subst NoneEmpty (sym left.is) (upward-none_empty ups kept (ordinary-none_empty kept left.ordinary))

-- The name of such segments is not empty, is absolute if they are, and splits into segments with the same result.
abbrev Rewritten : Bool → List (List ℕ) → List ℕ → Type 0
Rewritten absolute parts name = (0 < length name) × (is_absolute name ≡ absolute) × (reduce_suffix (segments name) ≡ reduce_suffix parts)

begins : (part more : List ℕ) → 0 < length part → HasNoSlash part → (0 < length (part ++ more)) × (is_absolute (part ++ more) ≡ false)
begins [] more some free = absurd (omega arith)
begins (byte ∷ part) more some free = (omega arith, ne_eqb byte slash free.0)

joined_begins : (part : List ℕ) (parts : List (List ℕ)) → 0 < length part → HasNoSlash part
    → (0 < length (join_with_byte slash (part ∷ parts))) × (is_absolute (join_with_byte slash (part ∷ parts)) ≡ false)
joined_begins part [] some free = let b = begins part [] some free in let e = append-nil part in (rw e at b.0, rw e at b.1)
joined_begins part (next ∷ parts) some free = begins part (slash ∷ join_with_byte slash (next ∷ parts)) some free

rewritten : (absolute : Bool) (parts : List (List ℕ)) → Each parts → NoneEmpty parts
    → Rewritten absolute parts (join_segments absolute parts)
unfolding reduce_suffix
rewritten true [] each some = (omega arith, refl, refl)
rewritten true (part ∷ parts) each some = (
  omega arith,
  refl,
  ap reduce_suffix
      (cut-at [] (join_with_byte slash (part ∷ parts)) tt ∙ ap (λ ps. [] ∷ ps) (cut-joined part parts each)),
)
rewritten false [] each some = (omega arith, refl, refl)
rewritten false (part ∷ parts) each some =
    let b = joined_begins part parts some.0 each.0 in (b.0, b.1, ap reduce_suffix (cut-joined part parts each))

directory_alone : (absolute : Bool) → directory_of absolute None ≡ (absolute, [])
directory_alone true = refl
directory_alone false = refl

normal_alone : (name : List ℕ) → 0 < length name
    → normal None name ≡ Some (join_segments (is_absolute name) (remaining_segments (is_absolute name) (reduce_suffix (segments name))))
unfolding normal
normal_alone [] some = absurd (omega arith)
normal_alone (byte ∷ bytes) some =
    ap (λ (directory : Bool × List (List ℕ)).
    Some (join_segments directory.0 (remaining_segments directory.0 (reduce_suffix (directory.1 ++ segments (byte ∷ bytes))))))
    (directory_alone (is_absolute (byte ∷ bytes)))

-- The name of the segments of a normal form is a normal form.
pub written_normal : (absolute : Bool) (parts : List (List ℕ)) (ups : ℕ) (kept : List (List ℕ)) → IsReduced absolute parts ups kept
    → IsNormal (join_segments absolute parts)
written_normal absolute parts ups kept left =
    let again = rewritten absolute parts left.each (left_some absolute parts ups kept left) in
    normal_alone (join_segments absolute parts) again.0
    ∙ ap (λ a. Some (join_segments a (remaining_segments a (reduce_suffix (segments (join_segments absolute parts)))))) again.1
    ∙ ap (λ b. Some (join_segments absolute (remaining_segments absolute b))) again.2
    ∙ ap (λ ps. Some (join_segments absolute ps)) (left_again absolute parts ups kept left)

directory-each : (absolute : Bool) (target : Option (List ℕ)) → Each (directory_of absolute target).1
directory-each true target = tt
directory-each false None = tt
directory-each false (Some target) = each-without_last (segments target) (cut-each target)

-- Every value of `normal` is a normal form.
pub normal_is_normal : (target : Option (List ℕ)) (name value : List ℕ) → normal target name ≡ Some value → IsNormal value
unfolding normal
normal_is_normal target [] value is = cc
normal_is_normal target (byte ∷ bytes) value is =
    let directory = directory_of (is_absolute (byte ∷ bytes)) target in
    let parts = directory.1 ++ segments (byte ∷ bytes) in
    let each = each-append directory.1 (segments (byte ∷ bytes)) (directory-each (is_absolute (byte ∷ bytes)) target)
    (cut-each (byte ∷ bytes)) in
    let same : join_segments directory.0 (remaining_segments directory.0 (reduce_suffix parts)) ≡ value = cc in
    subst IsNormal same (written_normal directory.0 (remaining_segments directory.0 (reduce_suffix parts))
    (upward_of directory.0 (reduce_suffix parts)) (reduce_suffix parts).kept (left_is directory.0 parts each))
