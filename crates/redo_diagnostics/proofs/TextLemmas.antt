-- A text that is split at a byte.
use Rattle.std.proofs.Common.{◌≡◌, ℕ, ◌+◌, ◌-◌, ◌<◌, true, List, ◌∷◌, ◌++◌, Some, length, take, drop, length-drop, take-append-drop, sym, ◌∙◌, ap, subst, arith, zero-le}
use Rattle.std.specs.Prelude.{slice_index}
use Rattle.std.proofs.lemmas.Bool.{eqb-true}
use Rattle.std.proofs.lemmas.List.{drop_more, get_or-take, length-take, take_all}
use Rattle.memchr.specs.Find.{NoneBefore, Passes, is_byte}
use Rattle.redo_line.proofs.PartLemmas.{HasNo, parted_at}
use Rattle.redo_line.specs.Parts.{split_once}
use Rattle.redo_diagnostics.proofs.FlagLemmas.{nowhere_free}

module _ (byte : ℕ) (bytes : List ℕ) (at : ℕ)
    (found : NoneBefore (Passes (is_byte byte) bytes) 0 (length bytes) at × Passes (is_byte byte) bytes at) where
  front_free : HasNo byte (take at bytes)
  front_free = nowhere_free byte (take at bytes) (λ k low high passes.
      let size = length-take at bytes in
      let within : k < at = omega (arith, high, size) in
      found.0.before k zero-le within
      (subst (λ b. is_byte byte b ≡ true) (get_or-take at bytes k 0 within) passes))

  whole : bytes ≡ take at bytes ++ byte ∷ drop (at + 1) bytes
  whole =
      sym (take-append-drop at bytes)
      ∙ ap (λ (l : List ℕ). take at bytes ++ l)
      (drop_more bytes at 0 found.0.high ∙ ap (λ (b : ℕ). b ∷ drop (at + 1) bytes) (eqb-true (slice_index bytes at) byte found.1))

  pub text_parts : split_once byte bytes ≡ Some (take at bytes, take (length bytes - (at + 1)) (drop (at + 1) bytes))
  text_parts =
      ap (split_once byte) whole ∙ parted_at byte (take at bytes) (drop (at + 1) bytes) front_free
      ∙ ap (λ (l : List ℕ). Some (take at bytes, l))
      (sym (take_all (length bytes - (at + 1)) (drop (at + 1) bytes) (let size = length-drop (at + 1) bytes in omega (arith, size))))
