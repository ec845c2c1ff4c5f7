-- The segments of a name, by its first slash.
use Rattle.std.proofs.Common.{◌≡◌, ◌≢◌, ℕ, ◌+◌, ◌<◌, Bool, true, false, eqb, List, [], ◌∷◌, ◌++◌, length, take, drop, get_or, refl, sym, subst, ◌∙◌, ap, arith, le_refl}
use Rattle.std.specs.List.{onto_first}
use Rattle.std.proofs.lemmas.Bool.{eq-eqb, eqb-true}
use Rattle.std.proofs.lemmas.List.{append_assoc, get_or-take, get_or_default, length-take, take-append-drop, take_all, take_more}
use Rattle.std.proofs.lemmas.List.Elements.{recursion_from_All}
use Rattle.memchr.specs.Find.{Passes, NoneBefore, Nowhere, is_byte}
use Rattle.redo_name.specs.Names.{slash, segments, HasNoSlash}
use Rattle.redo_name.proofs.NameLemmas.{cut, cut-at, cut-cons}

-- There is a first segment.
abbrev pub Some_first : List (List ℕ) → Type 0
Some_first parts = (first : List ℕ) × (others : List (List ℕ)) × (parts ≡ first ∷ others)

some_by : (byte : ℕ) (bytes : List ℕ) (is : Bool) → eqb byte slash ≡ is → Some_first (cut bytes) → Some_first (cut (byte ∷ bytes))
some_by byte bytes true is more = ([], cut bytes, cut-cons byte bytes true is)
some_by byte bytes false is more = (byte ∷ more.0, more.1, cut-cons byte bytes false is ∙ ap (onto_first byte) more.2)

pub cut-some : (bytes : List ℕ) → Some_first (cut bytes)
cut-some [] = ([], [], refl)
cut-some (byte ∷ bytes) = some_by byte bytes (eqb byte slash) refl (cut-some bytes)

-- The bytes before the first slash contain none.
pub free_before : (bytes : List ℕ) (n : ℕ) → Nowhere (Passes (is_byte slash) bytes) 0 n → HasNoSlash (take n bytes)
free_before bytes n nowhere =
    recursion_from_All (λ (byte : ℕ). byte ≢ slash) (take n bytes) (λ k d below is.
    let inside : (k < n) × (k < length bytes) = let l = length-take n bytes in (omega arith, omega arith) in
    let read : get_or (take n bytes) k d ≡ get_or bytes k 0 = let in_front : k < n = inside.0 in let in_bytes : k < length bytes =
    inside.1 in get_or-take n bytes k d in_front ∙ get_or_default bytes k d 0 in_bytes in
    nowhere k (omega arith) inside.0 (eq-eqb (get_or bytes k 0) slash (sym read ∙ is)))

-- Bytes in which no slash is found contain none.
pub holds_none : (bytes : List ℕ) → Nowhere (Passes (is_byte slash) bytes) 0 (length bytes) → HasNoSlash bytes
holds_none bytes nowhere = subst HasNoSlash (take_all (length bytes) bytes (le_refl (length bytes)))
    (free_before bytes (length bytes) nowhere)

-- The first segment is before the first slash, and the others are after it.
pub cut_first : (bytes : List ℕ) (at : ℕ) → NoneBefore (Passes (is_byte slash) bytes) 0 (length bytes) at × Passes (is_byte slash) bytes at
    → segments bytes ≡ take at bytes ∷ segments (drop (at + 1) bytes)
cut_first bytes at found =
    let upto = take_more bytes at 0 found.0.high ∙ ap (λ (b : ℕ). take at bytes ++ b ∷ []) (eqb-true (get_or bytes at 0) slash found.1) in
    let parts = sym (take-append-drop (at + 1) bytes) ∙ ap (λ (b : List ℕ). b ++ drop (at + 1) bytes) upto
    ∙ append_assoc (take at bytes) (slash ∷ []) (drop (at + 1) bytes) in
    ap cut parts ∙ cut-at (take at bytes) (drop (at + 1) bytes) (free_before bytes at found.0.before)
