-- Readers, each with the must-close flag at its index.
use Rattle.std.proofs.Common.{◌≡◌, suc, List, [], ◌∷◌, ◌++◌, Some, length, zip, slice_get, refl, ap, arith}

pub zip-none : {A B : Type 0} (keys : List A) (none : List B) → none ≡ [] → zip keys none ≡ []
zip-none [] none is = refl
zip-none (key ∷ keys) [] is = refl
zip-none (key ∷ keys) (value ∷ none) is = absurd (cc)

-- One more value, for the next key.
pub zip-push : {A B : Type 0} (keys : List A) (values : List B) (key : A) (value : B) → slice_get keys (length values) ≡ Some key
    → zip keys (values ++ value ∷ []) ≡ zip keys values ++ (key, value) ∷ []
zip-push [] values key value here = absurd (cc)
zip-push (first ∷ keys) [] key value here = (let same : first ≡ key = cc in λ i. (same i, value) ∷ zip-none keys [] refl i)
zip-push (first ∷ keys) (other ∷ values) key value here = ap (λ pairs. (first, other) ∷ pairs) (zip-push keys values key value here)

-- There are as many pairs as values, if there are as many keys.
pub count_zip : {A B : Type 0} (keys : List A) (values : List B) → length values ≡ length keys → length (zip keys values) ≡ length values
count_zip [] [] same = refl
count_zip [] (value ∷ values) same = absurd (omega (arith, same))
count_zip (key ∷ keys) [] same = absurd (omega (arith, same))
count_zip (key ∷ keys) (value ∷ values) same = ap suc (count_zip keys values (omega (arith, same)))
