-- Examples of arguments as bytes, computed.
use Rattle.std.proofs.Common.{◌≡◌, ℕ, [], ◌∷◌, length, refl, arith}
use Rattle.std.specs.Global.{Vec}
use Rattle.redo_options.specs.Arguments.{argument_bytes}

of_words : (a b : Vec ℕ) → (length (argument_bytes (a ∷ b ∷ [])) ≡ 2) × (argument_bytes (a ∷ b ∷ []) ≡ a.items ∷ b.items ∷ [])
of_words a b = (refl, refl)

-- An argument of one byte. The pointer and the allocator of another argument don't matter.
abbrev of_byte : Vec ℕ → ℕ → Vec ℕ
of_byte other byte = record {
  ptr = other.ptr;
  len = 1;
  cap = 1;
  alloc = other.alloc;
  items = byte ∷ [];
  ok = (refl, omega arith);
  small = omega arith;
}

in_order : (other : Vec ℕ) → argument_bytes (of_byte other 98 ∷ of_byte other 97 ∷ []) ≡ (98 ∷ []) ∷ (97 ∷ []) ∷ []
in_order other = refl
