-- A line is split at its first space.
use Rattle.std.proofs.Common.{◌≡◌, ◌==◌, ℕ, ◌+◌, ◌-◌, ◌<◌, Bool, true, false, cond, List, [], ◌∷◌, Option, None, Some, length, take, drop, get_or, refl, sym, ◌∙◌, ap, arith, le_refl, le_of_lt, le_of_eq, zero-le}
use Rattle.std.proofs.lemmas.List.{take_all, drop_all, length-drop}
use Rattle.std.proofs.lemmas.List.Sums.{position_or_len_is}
use Rattle.std.specs.List.{position_or_len}
use Rattle.std.proofs.lemmas.Bool.{eq-eqb, eqb-true}
use Rattle.memchr.specs.Find.{Passes, Nowhere, NoneBefore, is_byte}
use Rattle.redo_name.specs.Names.{normal}
use Rattle.redo_index.specs.Index.{is_space, entry_of_parts, parse_number, parse_fields, parse_line}

fails : (test : Bool) → ¬ (test ≡ true) → test ≡ false
fails true never = absurd (never refl)
fails false never = refl

at_space : (line : List ℕ) (at : ℕ) → NoneBefore (Passes (is_byte 32) line) 0 (length line) at × Passes (is_byte 32) line at
    → position_or_len is_space line ≡ at
at_space line at found = position_or_len_is is_space line at 0 (le_of_lt found.0.high)
    (λ k h. fails (is_space (get_or line k 0)) (found.0.before k zero-le h)) (λ _. found.1)

no_space : (line : List ℕ) → Nowhere (Passes (is_byte 32) line) 0 (length line) → position_or_len is_space line ≡ length line
no_space line nowhere = position_or_len_is is_space line (length line) 0 (le_refl (length line))
    (λ k h. fails (is_space (get_or line k 0)) (nowhere k zero-le h)) (λ h. absurd (omega (arith, h)))

entry_of_parts-none : (must_close : Bool) (fid : Option ℕ) → entry_of_parts must_close fid None ≡ None
entry_of_parts-none must_close None = refl
entry_of_parts-none must_close (Some fid) = refl

pub none_of : (must_close : Bool) (line : List ℕ) → Nowhere (Passes (is_byte 32) line) 0 (length line) → parse_fields must_close line ≡ None
unfolding parse_fields normal
none_of must_close line nowhere =
    let after_space : drop (position_or_len is_space line + 1) line ≡ [] =
    drop_all (position_or_len is_space line + 1) line (let at = no_space line nowhere in omega (arith, at)) in
    ap (λ name. entry_of_parts must_close (parse_number (take (position_or_len is_space line) line)) (normal None name)) after_space
    ∙ entry_of_parts-none must_close (parse_number (take (position_or_len is_space line) line))

module _ (must_close : Bool) (line : List ℕ) (at : ℕ)
    (found : NoneBefore (Passes (is_byte 32) line) 0 (length line) at × Passes (is_byte 32) line at) where
  abbrev before_space : List ℕ
  before_space = take at line

  abbrev after_space : List ℕ
  after_space = take (length line - (at + 1)) (drop (at + 1) line)

  at_first_space : parse_fields must_close line ≡ entry_of_parts must_close (parse_number before_space) (normal None after_space)
  unfolding parse_fields
  at_first_space =
      let suffix_is : after_space ≡ drop (at + 1) line = take_all _ _ (le_of_eq (length-drop (at + 1) line)) in
      ap (λ i. entry_of_parts must_close (parse_number (take i line)) (normal None (drop (i + 1) line))) (at_space line at found)
      ∙ ap (λ name. entry_of_parts must_close (parse_number before_space) (normal None name)) (sym suffix_is)

  pub no_number : parse_number before_space ≡ None → parse_fields must_close line ≡ None
  no_number is = at_first_space ∙ ap (λ fid. entry_of_parts must_close fid (normal None after_space)) is

  pub no_name : after_space ≡ [] → parse_fields must_close line ≡ None
  unfolding normal
  no_name is = at_first_space ∙ ap (λ name. entry_of_parts must_close (parse_number before_space) (normal None name)) is
      ∙ entry_of_parts-none must_close (parse_number before_space)

  pub all_fields : (fid : ℕ) (name : List ℕ) → parse_number before_space ≡ Some fid → normal None after_space ≡ Some name
      → parse_fields must_close line ≡ Some (record { number = fid; target = name; must_close = must_close })
  all_fields fid name fid_is name_is =
      at_first_space ∙ ap (λ f. entry_of_parts must_close f (normal None after_space)) fid_is
      ∙ ap (λ n. entry_of_parts must_close (Some fid) n) name_is

-- ---- the must-close flag

pub flagged : (line : List ℕ) (first : ℕ) → 0 < length line → first ≡ get_or line 0 first → first ≡ 33
    → parse_line line ≡ parse_fields true (drop 1 line)
flagged [] first some here is = absurd (omega (arith, some))
flagged (byte ∷ line) first some here is =
    ap (λ b. cond b (parse_fields true line) (parse_fields false (byte ∷ line))) (eq-eqb byte 33 (sym here ∙ is))

pub unflagged : (line : List ℕ) (first : ℕ) → 0 < length line → first ≡ get_or line 0 first → (first ≡ 33 → ⊥)
    → parse_line line ≡ parse_fields false line
unflagged [] first some here other = absurd (omega (arith, some))
unflagged (byte ∷ line) first some here other =
    ap (λ b. cond b (parse_fields true line) (parse_fields false (byte ∷ line)))
    (fails (byte == 33) (λ is. other (here ∙ eqb-true byte 33 is)))

pub empty_unflagged : (line : List ℕ) → length line ≡ 0 → parse_line line ≡ parse_fields false line
empty_unflagged [] none = refl
empty_unflagged (byte ∷ line) none = absurd (omega (arith, none))
