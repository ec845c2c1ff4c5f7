-- Bytes are split at the first index of a byte.
use Rattle.std.proofs.Common.{◌≡◌, ℕ, zero, suc, ◌+◌, ◌-◌, ◌<◌, ◌==◌, Bool, true, false, List, [], ◌∷◌, None, Some, length, take, drop, refl, sym, ap, ◌∙◌, arith, zero-le}
use Rattle.std.specs.Prelude.{option_map}
use Rattle.std.proofs.lemmas.List.{take_rest}
use Rattle.memchr.specs.Find.{Passes, Nowhere, NoneBefore, is_byte}
use Rattle.redo_line.specs.Parts.{split_once}
use Rattle.redo_line.proofs.PartLemmas.{onto, split_once-cons}

fails : (test : Bool) → ¬ (test ≡ true) → test ≡ false
fails true never = absurd (never refl)
fails false never = refl

parted_there : (at : ℕ) (bytes : List ℕ) (place : ℕ) → place < length bytes → Nowhere (Passes (is_byte at) bytes) 0 place
    → Passes (is_byte at) bytes place
    → split_once at bytes ≡ Some (take place bytes, drop (suc place) bytes)
parted_there at [] place below none is = absurd (omega (arith, below))
parted_there at (byte ∷ bytes) zero below none is = split_once-cons at byte bytes true is
parted_there at (byte ∷ bytes) (suc place) below none is =
    let first : (byte == at) ≡ false = fails (byte == at) (none 0 zero-le (omega arith)) in
    let later = parted_there at bytes place (omega (arith, below)) (λ k low high. none (suc k) zero-le (omega (arith, high))) is in
    split_once-cons at byte bytes false first ∙ ap (option_map (onto byte)) later

pub parted_nowhere : (at : ℕ) (bytes : List ℕ) → Nowhere (Passes (is_byte at) bytes) 0 (length bytes) → split_once at bytes ≡ None
unfolding split_once
parted_nowhere at [] none = refl
parted_nowhere at (byte ∷ bytes) none =
    let first : (byte == at) ≡ false = fails (byte == at) (none 0 zero-le (omega arith)) in
    split_once-cons at byte bytes false first
    ∙ ap (option_map (onto byte)) (parted_nowhere at bytes (λ k low high. none (suc k) zero-le (omega (arith, high))))

pub parted_at : (at : ℕ) (bytes : List ℕ) (place : ℕ)
    → NoneBefore (Passes (is_byte at) bytes) 0 (length bytes) place × Passes (is_byte at) bytes place
    → split_once at bytes ≡ Some (take place bytes, take (length bytes - (place + 1)) (drop (place + 1) bytes))
parted_at at bytes place found =
    let next : suc place ≡ place + 1 = omega arith in
    parted_there at bytes place found.0.high found.0.before found.1
    ∙ ap (λ behind. Some (take place bytes, behind)) (sym (take_rest bytes (suc place)))
    ∙ ap (λ n. Some (take place bytes, take (length bytes - n) (drop n bytes))) next
