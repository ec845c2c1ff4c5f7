-- A line lists the target that its parts denote, and no other.
use Rattle.std.proofs.Common.{◌≡◌, ◌≢◌, ◌⊎◌, ◌==◌, ◌+◌, ◌≤◌, ◌<◌, ℕ, Bool, true, false, cond, not, inl, inr, List, [], ◌∷◌, ◌++◌, Option, None, Some, length, get_or, take, drop, refl, sym, ◌∙◌, ap, subst, arith}
use Rattle.std.specs.Bool.{Decides}
use Rattle.std.specs.List.{before_first, after_first, position_or_len}
use Rattle.std.proofs.Math.Seq.{take-append_seam, drop-append-add}
use Rattle.std.proofs.lemmas.Bool.{cases_lt, eqb-true, eqb-false, ne_eqb, false≢true, not-true}
use Rattle.std.proofs.lemmas.Bool.Decides.{Decides-and, Decides-like}
use Rattle.std.proofs.lemmas.List.{append_assoc, drop_all}
use Rattle.std.proofs.lemmas.List.Sums.{passes_at_first, split_at_first}
use Rattle.std.proofs.lemmas.Option.{none-some, same_Some, cond_some}
use Rattle.redo_line.specs.Decimal.{are_digits}
use Rattle.redo_line.specs.Decimal as decimal
use Rattle.redo_line.specs.Record.{space}
use Rattle.redo_line.proofs.DigitLemmas.{are_digits-Decides, digits_free}
use Rattle.redo_line.proofs.PartLemmas.{HasNo}
use Rattle.redo_name.specs.Names.{normal}
use Rattle.redo_index.specs.declared.index_entry.IndexEntry.{IndexEntry}
use Rattle.redo_index.specs.Index.{IsNumber, flag_prefix, IsIndexLine, is_number, parse_number, entry_of_parts, is_space, parse_fields, is_flag, parse_line}

-- ---- the first space

first_space : (a b : List ℕ) → HasNo space a → position_or_len is_space (a ++ space ∷ b) ≡ length a
first_space [] b free = refl
first_space (byte ∷ a) b free =
    ap (λ (t : Bool). cond (not t) (1 + position_or_len is_space (a ++ space ∷ b)) 0) (ne_eqb byte space free.0)
    ∙ (let more = first_space a b free.1 in omega (arith, more))

before_space : (a b : List ℕ) → HasNo space a → before_first is_space (a ++ space ∷ b) ≡ a
before_space a b free = ap (λ (i : ℕ). take i (a ++ space ∷ b)) (first_space a b free) ∙ take-append_seam a (space ∷ b)

after_space : (a b : List ℕ) → HasNo space a → after_first is_space (a ++ space ∷ b) ≡ b
after_space a b free = ap (λ (i : ℕ). drop (i + 1) (a ++ space ∷ b)) (first_space a b free) ∙ drop-append-add a (space ∷ b) 1

-- A line with a space is the bytes before its first space, the space and the bytes after it.
parts : (line : List ℕ) → position_or_len is_space line < length line
    → line ≡ before_first is_space line ++ space ∷ after_first is_space line
parts line some =
    split_at_first is_space line 0 some
    ∙ ap (λ (byte : ℕ). before_first is_space line ++ byte ∷ after_first is_space line)
    (eqb-true (get_or line (position_or_len is_space line) 0) space (passes_at_first is_space line 0 some))

-- ---- a number

number-Decides : (digits : List ℕ) → Decides (is_number digits) (IsNumber digits)
number-Decides [] = (λ is. absurd (false≢true is), λ are. absurd (let some = are.digits_are.some in omega (arith, some)))
number-Decides (first ∷ others) =
    let begins : Decides (not (first == 48)) (first ≢ 48) =
    (λ is. eqb-false first 48 (not-true (first == 48) is), λ other. ap not (ne_eqb first 48 other)) in
    Decides-like (is_number (first ∷ others))
    (λ pair. record { digits_are = pair.1; first_not_0 = λ suffix same. let is : first ≡ 48 = cc in pair.0 is })
    (λ are. ((λ same. are.first_not_0 others (ap (λ (byte : ℕ). byte ∷ others) same)), are.digits_are))
    (Decides-and (not (first == 48)) (are_digits 9 (first ∷ others)) begins (are_digits-Decides 9 (first ∷ others)))

number_found : (digits : List ℕ) → IsNumber digits → parse_number digits ≡ Some (decimal.number digits)
number_found digits are = ap (λ (is : Bool). cond is (Some (decimal.number digits)) None) ((number-Decides digits).1 are)

-- ---- the bytes after the flag

module _ (must_close : Bool) where
  parts_of_entry : (number : Option ℕ) (name : Option (List ℕ)) (entry : IndexEntry) → entry_of_parts must_close number name ≡ Some entry
      → (number ≡ Some entry.number) × (name ≡ Some entry.target) × (must_close ≡ entry.must_close)
  parts_of_entry None name entry so = absurd (none-some entry so)
  parts_of_entry (Some number) None entry so = absurd (none-some entry so)
  parts_of_entry (Some number) (Some name) entry so =
      let same = same_Some (record { number = number; target = name; must_close = must_close }) entry so in (
        ap (λ (one : IndexEntry). Some one.number) same,
        ap (λ (one : IndexEntry). Some one.target) same,
        ap
            (λ (one : IndexEntry). one.must_close) same,
      )

  -- The parts of a line that follow the flag.
  record HasFields (line : List ℕ) (entry : IndexEntry) : Type 0 where
    digits : List ℕ
    name : List ℕ
    whole : line ≡ digits ++ space ∷ name
    form : IsNumber digits
    number_is : entry.number ≡ decimal.number digits
    some : name ≢ []
    target_is : normal None name ≡ Some entry.target
    flag_is : must_close ≡ entry.must_close

  named : (name value : List ℕ) → normal None name ≡ Some value → name ≢ []
  unfolding normal
  named [] value is same = none-some value is
  named (byte ∷ bytes) value is same = cc

  parse_fields_is_sound : (line : List ℕ) (entry : IndexEntry) → parse_fields must_close line ≡ Some entry → HasFields line entry
  unfolding parse_fields
  parse_fields_is_sound line entry so = by (cases_lt (position_or_len is_space line) (length line))
    where
      parts_are : (parse_number (before_first is_space line) ≡ Some entry.number)
          × (normal None (after_first is_space line) ≡ Some entry.target) × (must_close ≡ entry.must_close)
      parts_are = parts_of_entry (parse_number (before_first is_space line)) (normal None (after_first is_space line)) entry so

      by : (position_or_len is_space line < length line) ⊎ (length line ≤ position_or_len is_space line) → HasFields line entry
      by (inl there) =
          let digits = before_first is_space line in
          let number = cond_some (is_number digits) (decimal.number digits) entry.number parts_are.0 in
          record {
            digits = digits;
            name = after_first is_space line;
            whole = parts line there;
            form = (number-Decides digits).0 number.0;
            number_is = sym number.1;
            some = named (after_first is_space line) entry.target parts_are.1;
            target_is = parts_are.1;
            flag_is = parts_are.2;
          }
      by (inr none) = absurd (named (after_first is_space line) entry.target parts_are.1
          (drop_all (position_or_len is_space line + 1) line (omega (arith, none))))

  parse_fields_is_complete : (digits name : List ℕ) (entry : IndexEntry) → IsNumber digits → entry.number ≡ decimal.number digits
      → normal None name ≡ Some entry.target → must_close ≡ entry.must_close
      → parse_fields must_close (digits ++ space ∷ name) ≡ Some entry
  unfolding parse_fields
  parse_fields_is_complete digits name entry are number_is target_is flag_is =
      let free = digits_free 9 space digits refl are.digits_are in
      ap (λ (bytes : List ℕ). entry_of_parts must_close (parse_number bytes) (normal None (after_first is_space (digits ++ space ∷ name))))
      (before_space digits name free)
      ∙ ap (λ (bytes : List ℕ). entry_of_parts must_close (parse_number digits) (normal None bytes)) (after_space digits name free)
      ∙ ap (λ (number : Option ℕ). entry_of_parts must_close number (normal None name)) (number_found digits are ∙ ap Some (sym number_is))
      ∙ ap (λ (target : Option (List ℕ)). entry_of_parts must_close (Some entry.number) target) target_is
      ∙ ap (λ (flag : Bool). Some (record { number = entry.number; target = entry.target; must_close = flag })) flag_is

-- ---- any line

is_index_line : (must_close : Bool) (line : List ℕ) (entry : IndexEntry) → HasFields must_close line entry
    → IsIndexLine (flag_prefix must_close ++ line) entry
is_index_line must_close line entry are = record {
  digits = are.digits;
  name = are.name;
  whole = ap (λ (bytes : List ℕ). flag_prefix must_close ++ bytes) are.whole
      ∙ ap (λ (flag : Bool). flag_prefix flag ++ (are.digits ++ space ∷ are.name)) are.flag_is
      ∙ sym (append_assoc (flag_prefix entry.must_close) are.digits (space ∷ are.name));
  form = are.form;
  number_is = are.number_is;
  some = are.some;
  target_is = are.target_is;
}

pub parse_line_is_sound : (line : List ℕ) (entry : IndexEntry) → parse_line line ≡ Some entry → IsIndexLine line entry
parse_line_is_sound [] entry so = is_index_line false [] entry (parse_fields_is_sound false [] entry so)
parse_line_is_sound (first ∷ others) entry so = by (is_flag first) refl so
  where
    by : (flagged : Bool) → is_flag first ≡ flagged
        → cond flagged (parse_fields true others) (parse_fields false (first ∷ others)) ≡ Some entry → IsIndexLine (first ∷ others) entry
    by true is found = subst (λ (byte : ℕ). IsIndexLine (byte ∷ others) entry) (sym (eqb-true first 33 is))
        (is_index_line true others entry (parse_fields_is_sound true others entry found))
    by false is found = is_index_line false (first ∷ others) entry (parse_fields_is_sound false (first ∷ others) entry found)

unflagged : (digits name : List ℕ) → IsNumber digits → parse_line (digits ++ space ∷ name) ≡ parse_fields false (digits ++ space ∷ name)
unflagged [] name are = absurd (let some = are.digits_are.some in omega (arith, some))
unflagged (first ∷ others) name are =
    let other : first ≢ 33 = λ same. let low = are.digits_are.each.0.0 in omega (arith, low, same) in
    ap (λ (flagged : Bool). cond flagged (parse_fields true (others ++ space ∷ name)) (parse_fields false (first ∷ others ++ space ∷ name)))
    (ne_eqb first 33 other)

pub parse_line_is_complete : (line : List ℕ) (entry : IndexEntry) → IsIndexLine line entry → parse_line line ≡ Some entry
parse_line_is_complete line entry is =
    ap parse_line (is.whole ∙ append_assoc (flag_prefix entry.must_close) is.digits (space ∷ is.name)) ∙ by entry.must_close refl
  where
    by : (flag : Bool) → flag ≡ entry.must_close → parse_line (flag_prefix flag ++ (is.digits ++ space ∷ is.name)) ≡ Some entry
    by true same = parse_fields_is_complete true is.digits is.name entry is.form is.number_is is.target_is same
    by false same = unflagged is.digits is.name is.form
        ∙ parse_fields_is_complete false is.digits is.name entry is.form is.number_is is.target_is same
