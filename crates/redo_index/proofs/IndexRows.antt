-- Examples of indexes, computed: the lines, and the targets that they list or why one is rejected.
use Rattle.std.proofs.Common.{◌≡◌, ℕ, ◌≤◌, true, false, List, [], ◌∷◌, Option, None, Some, length, get_or, arith, refl, ap}
use Rattle.std.specs.Prelude.{codes}
use Rattle.std.specs.List.{AllByRecursion, IsDistinct}
use Rattle.std.proofs.lemmas.List.{length-append}
use Rattle.redo_name.specs.Names.{reduce_suffix, normal}
use Rattle.redo_index.specs.declared.index_fault.IndexFault.{IndexFault}
use Rattle.redo_index.specs.declared.index_fault.IndexFault.TheVariants.{BadLine, FidTwice, NameTwice, TooMany}
use Rattle.redo_line.specs.Decimal.{number}
use Rattle.redo_index.specs.declared.index_entry.IndexEntry.{IndexEntry}
use Rattle.redo_index.specs.Index.{max_targets, IsIndexLine, parse_fields, parse_line, parse_lines, numbers_of, listed_targets, must_close_flags, fault_after, fault_at, AreFaultFree, IsIndexOf, IsRejected, IsIndex}

abbrev one : ℕ → List ℕ → IndexEntry
one number target = record { number = number; target = target; must_close = false }

-- The entry of a line with the must-close flag.
abbrev flagged : ℕ → List ℕ → IndexEntry
flagged number target = record { number = number; target = target; must_close = true }

-- ---- the entries of lines

record LineRow : Type 0 where
  line : List ℕ
  entry : Option IndexEntry

abbrev lists : List ℕ → IndexEntry → LineRow
lists line entry = record { line = line; entry = Some entry }

abbrev bad : List ℕ → LineRow
bad line = record { line = line; entry = None }

abbrev lines : List LineRow
lines =
    lists (codes "1 all") (one 1 (codes "all")) ∷
    lists (codes "7 d/./a") (one 7 (codes "d/a")) ∷
    lists (codes "999999999 b") (one 999999999 (codes "b")) ∷
    lists (codes "1  a") (one 1 (codes " a")) ∷
    lists (codes "1 a b") (one 1 (codes "a b")) ∷
    lists (codes "10 a") (one 10 (codes "a")) ∷
    lists (codes "!1 a") (flagged 1 (codes "a")) ∷
    lists (codes "!20 ./a") (flagged 20 (codes "a")) ∷
    lists (codes "1 !a") (one 1 (codes "!a")) ∷
    bad [] ∷
    bad (codes "x") ∷
    bad (codes "1") ∷
    bad (codes "1 ") ∷
    bad (codes " a") ∷
    bad (49 ∷ 9 ∷ 97 ∷ []) ∷
    bad (codes "01 a") ∷
    bad (codes "0 a") ∷
    bad (codes "1x a") ∷
    bad (codes "1234567890 a") ∷
    bad (codes "!") ∷
    bad (codes "! 1 a") ∷
    bad (codes "!!1 a") ∷
    bad (codes "!01 a") ∷
    bad (codes "!1") ∷
    []

these_lines : AllByRecursion (λ row. parse_line row.line ≡ row.entry) lines
unfolding reduce_suffix normal number parse_fields
these_lines = (
  refl,
  (
    refl,
    (
      refl,
      (
        refl,
        (
          refl,
          (
            refl,
            (
              refl,
              (
                refl,
                (
                  refl,
                  (
                    refl,
                    (
                      refl,
                      (
                        refl,
                        (
                          refl,
                          (
                            refl,
                            (refl, (refl, (refl, (refl, (refl, (refl, (refl, (refl, (refl, (refl, tt)))))))))),
                          ),
                        ),
                      ),
                    ),
                  ),
                ),
              ),
            ),
          ),
        ),
      ),
    ),
  ),
)

-- The parts of two lines.
unflagged_line : IsIndexLine (codes "1 a") (one 1 (codes "a"))
unfolding reduce_suffix normal number
unflagged_line = record {
  digits = codes "1";
  name = codes "a";
  whole = refl;
  form = record {
    digits_are = record { some = omega arith; few = omega arith; each = ((omega arith, omega arith), tt) };
    first_not_0 = λ others same. let byte = ap (λ (bytes : List ℕ). get_or bytes 0 0) same in omega (arith, byte);
  };
  number_is = refl;
  some = λ same. cc;
  target_is = refl;
}

flagged_line : IsIndexLine (codes "!9 ./ a") (flagged 9 (codes " a"))
unfolding reduce_suffix normal number
flagged_line = record {
  digits = codes "9";
  name = codes "./ a";
  whole = refl;
  form = record {
    digits_are = record { some = omega arith; few = omega arith; each = ((omega arith, omega arith), tt) };
    first_not_0 = λ others same. let byte = ap (λ (bytes : List ℕ). get_or bytes 0 0) same in omega (arith, byte);
  };
  number_is = refl;
  some = λ same. cc;
  target_is = refl;
}

-- ---- why a line is rejected

record FaultRow : Type 0 where
  before : List (List ℕ)
  line : List ℕ
  fault : Option IndexFault

abbrev after_lines : List (List ℕ) → List ℕ → Option IndexFault → FaultRow
after_lines before line fault = record { before = before; line = line; fault = fault }

abbrev faults : List FaultRow
faults =
    after_lines [] (codes "1 a") None ∷
    after_lines (codes "7 d/./a" ∷ []) (codes "999999999 b") None ∷
    after_lines (codes "!1 a" ∷ []) (codes "2 b") None ∷
    after_lines [] (codes "01 a") (Some (BadLine 1)) ∷
    after_lines (codes "1 a" ∷ []) (codes "x") (Some (BadLine 2)) ∷
    after_lines (codes "1 a" ∷ []) (codes "1 b") (Some (FidTwice 2)) ∷
    after_lines (codes "!1 a" ∷ []) (codes "1 b") (Some (FidTwice 2)) ∷
    after_lines (codes "1 a" ∷ codes "2 b" ∷ []) (codes "1 c") (Some (FidTwice 3)) ∷
    after_lines (codes "1 a" ∷ []) (codes "2 ./a") (Some (NameTwice 2)) ∷
    -- a duplicate number and a duplicate name
    after_lines (codes "1 a" ∷ []) (codes "1 a") (Some (FidTwice 2)) ∷
    []

these_faults : AllByRecursion (λ row. fault_at row.before row.line ≡ row.fault) faults
unfolding reduce_suffix normal number parse_fields
these_faults = (refl, (refl, (refl, (refl, (refl, (refl, (refl, (refl, (refl, (refl, tt))))))))))

-- After 1,048,575 lines another line is rejected; after 1,048,574 it isn't.
the_limit : (max_targets ≡ 1048575) × (fault_after 1048574 [] (Some (one 1 (codes "a"))) ≡ None)
    × (fault_after 1048575 [] (Some (one 1 (codes "a"))) ≡ Some TooMany)
the_limit = (refl, refl, refl)

-- After 1,048,575 lines, a duplicate number is the cause and not the limit, and so is a duplicate name or a bad line.
causes_before_the_limit :
    (fault_after 1048575 [] None ≡ Some (BadLine 1048576))
    × (fault_after 1048575 (one 1 (codes "a") ∷ []) (Some (one 1 (codes "b"))) ≡ Some (FidTwice 1048576))
    × (fault_after 1048575 (one 1 (codes "a") ∷ []) (Some (one 2 (codes "a"))) ≡ Some (NameTwice 1048576))
causes_before_the_limit = (refl, refl, refl)

-- ---- whole indexes

no_lines_are_fault_free : AreFaultFree []
no_lines_are_fault_free before line after same = absurd (let n = ap length same in omega (arith, n, length-append before (line ∷ after)))

one_line_is_fault_free : (only : List ℕ) → fault_at [] only ≡ None → AreFaultFree (only ∷ [])
one_line_is_fault_free only is [] line after same = let e : line ≡ only = cc in rw e is
one_line_is_fault_free only is (first ∷ before) line after same =
    absurd (let n = ap length same in omega (arith, n, length-append before (line ∷ after)))

no_line : IsIndexOf [] []
no_line = record { fault_free = no_lines_are_fault_free; lists = refl }

one_line : IsIndexOf (codes "!1 ./a" ∷ []) (flagged 1 (codes "a") ∷ [])
unfolding reduce_suffix normal number parse_fields
one_line = record { fault_free = one_line_is_fault_free (codes "!1 ./a") refl; lists = refl }

two_lines : parse_lines (codes "!1 a" ∷ codes "2 b" ∷ []) ≡ flagged 1 (codes "a") ∷ one 2 (codes "b") ∷ []
unfolding reduce_suffix normal number parse_fields
two_lines = refl

lists_all : (index : List IndexEntry) → IsIndexOf (codes "1 a" ∷ []) index → index ≡ one 1 (codes "a") ∷ []
unfolding reduce_suffix normal number parse_fields
lists_all index is = is.lists

not_an_index : IsIndexOf (codes "x" ∷ []) [] → ⊥
unfolding reduce_suffix normal number parse_fields
not_an_index is = let none : Some (BadLine 1) ≡ None = is.fault_free [] (codes "x") [] refl in absurd (cc)

first_line_rejected : IsRejected (codes "x" ∷ codes "1 b" ∷ []) (BadLine 1)
unfolding reduce_suffix normal number parse_fields
first_line_rejected = record {
  before = [];
  line = codes "x";
  after = codes "1 b" ∷ [];
  lines_are = refl;
  fault_free_before = no_lines_are_fault_free;
  fault_is = refl;
}

second_line_rejected : IsRejected (codes "1 a" ∷ codes "2 a" ∷ codes "x" ∷ []) (NameTwice 2)
unfolding reduce_suffix normal number parse_fields
second_line_rejected = record {
  before = codes "1 a" ∷ [];
  line = codes "2 a";
  after = codes "x" ∷ [];
  lines_are = refl;
  fault_free_before = one_line_is_fault_free (codes "1 a") refl;
  fault_is = refl;
}

-- The numbers, names and flags of an index, and its invariant.
abbrev two : List IndexEntry
two = flagged 7 (codes "b") ∷ one 3 (codes "a") ∷ []

two_entries : (numbers_of two ≡ 7 ∷ 3 ∷ []) × (listed_targets two ≡ codes "b" ∷ codes "a" ∷ []) × (must_close_flags two ≡ true ∷ false ∷ [])
two_entries = (refl, refl, refl)

-- An index of three targets. The last one has the flag.
abbrev three : List IndexEntry
three = one 7 (codes "b") ∷ one 3 (codes "a") ∷ flagged 5 (codes "c") ∷ []

three_told : (numbers_of three ≡ 7 ∷ 3 ∷ 5 ∷ []) × (listed_targets three ≡ codes "b" ∷ codes "a" ∷ codes "c" ∷ [])
    × (must_close_flags three ≡ false ∷ false ∷ true ∷ [])
three_told = (refl, refl, refl)

two_differ : IsIndex two
unfolding IsDistinct
two_differ = record { size = omega arith; numbers_differ = ((refl, tt), (tt, tt)); names_differ = ((refl, tt), (tt, tt)) }

same_number : IsIndex (one 1 (codes "a") ∷ one 1 (codes "b") ∷ []) → ⊥
unfolding IsDistinct
same_number is = let same : true ≡ false = is.numbers_differ.0.0 in absurd (cc)

same_name : IsIndex (one 1 (codes "a") ∷ one 2 (codes "a") ∷ []) → ⊥
unfolding IsDistinct
same_name is = let same : true ≡ false = is.names_differ.0.0 in absurd (cc)

at_most : (index : List IndexEntry) → IsIndex index → length index ≤ 1048575
at_most index is = is.size
