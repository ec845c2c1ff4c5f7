-- The entries of an index, and which of its lines is rejected.
use Rattle.std.specs.Prelude.{◌≡◌, ◌≢◌, ℕ, ◌+◌, ◌≤◌, nat_le, nat_eq, Bool, true, false, not, ◌==◌, ◌&&◌, List, [], ◌∷◌, ◌++◌, Option, None, Some, length, map, filter_map, codes, if◌then◌else◌}
use Rattle.std.specs.List.{list_any, before_first, after_first, IsDistinct}
use Rattle.std.specs.Cmp.Lexicographic.{pointwise}
use Rattle.redo_line.specs.Decimal.{AreDigits, are_digits}
use Rattle.redo_line.specs.Decimal as decimal
use Rattle.redo_line.specs.Record.{space}
use Rattle.redo_name.specs.Names.{normal}
use Rattle.redo_index.specs.declared.index_fault.IndexFault.{IndexFault}
use Rattle.redo_index.specs.declared.index_fault.IndexFault.TheVariants.{BadLine, FidTwice, NameTwice, TooMany}
use Rattle.redo_index.specs.declared.index_entry.IndexEntry.{IndexEntry}

-- The maximum number of targets in an index.
abbrev pub max_targets : ℕ
max_targets = 1048575

-- ---- one line

-- Whether `digits` are one to nine digits, the first not `0`.
pub record IsNumber (digits : List ℕ) : Type 0 where
  pub digits_are : AreDigits 9 digits
  pub first_not_0 : (others : List ℕ) → digits ≢ 48 ∷ others

-- The prefix of a line: `!` with the must-close flag, otherwise nothing.
abbrev pub flag_prefix : Bool → List ℕ
flag_prefix true = codes "!"
flag_prefix false = []

-- Whether `line` lists this target: it is an optional must-close flag, a number, one space and a name that isn't empty. The
-- target is the normal form of the name.
pub record IsIndexLine (line : List ℕ) (entry : IndexEntry) : Type 0 where
  pub digits : List ℕ
  pub name : List ℕ
  pub whole : line ≡ flag_prefix entry.must_close ++ digits ++ space ∷ name
  pub form : IsNumber digits
  pub number_is : entry.number ≡ decimal.number digits
  pub some : name ≢ []
  pub target_is : normal None name ≡ Some entry.target

-- The definitions from here to `parse_line` compute the entry that `IsIndexLine` states. The law `index_line_has_one_parse` says that
-- both agree. Whether these bytes are one to nine digits, the first not `0`.
abbrev pub is_number : List ℕ → Bool
is_number [] = false
is_number (first ∷ others) = not (first == 48) && are_digits 9 (first ∷ others)

-- The number that these bytes denote, if they are one.
abbrev pub parse_number : List ℕ → Option ℕ
parse_number bytes = if is_number bytes then Some (decimal.number bytes) else None

abbrev pub entry_of_parts : Bool → Option ℕ → Option (List ℕ) → Option IndexEntry
entry_of_parts must_close None name = None
entry_of_parts must_close (Some number) None = None
entry_of_parts must_close (Some number) (Some name) = Some (record { number = number; target = name; must_close = must_close })

abbrev pub is_space : ℕ → Bool
is_space byte = byte == 32

-- The entry of a line, or of its bytes after the flag, if they have the form: a number before the first space and a name after it.
-- Without a space the name is empty, and an empty name has no normal form.
unfoldable pub parse_fields : Bool → List ℕ → Option IndexEntry
parse_fields must_close line = entry_of_parts must_close (parse_number (before_first is_space line)) (normal None (after_first is_space line))

-- Whether `byte` is the must-close flag, `!`.
abbrev pub is_flag : ℕ → Bool
is_flag byte = byte == 33

-- The entry of a line, if the line has the form. If it begins with the flag, `parse_fields` reads the bytes after the flag.
abbrev pub parse_line : List ℕ → Option IndexEntry
parse_line [] = parse_fields false []
parse_line (first ∷ others) = if is_flag first then parse_fields true others else parse_fields false (first ∷ others)

-- ---- all lines

-- The entries of these lines, in order.
abbrev pub parse_lines : List (List ℕ) → List IndexEntry
parse_lines lines = filter_map parse_line lines

abbrev pub numbers_of : List IndexEntry → List ℕ
numbers_of index = map (λ entry. entry.number) index

abbrev pub listed_targets : List IndexEntry → List (List ℕ)
listed_targets index = map (λ entry. entry.target) index

abbrev pub must_close_flags : List IndexEntry → List Bool
must_close_flags index = map (λ entry. entry.must_close) index

-- The fault of a line, if it has one, from the number of lines before it, their entries, and its own entry. The first cause that
-- holds counts.
abbrev pub fault_after : ℕ → List IndexEntry → Option IndexEntry → Option IndexFault
fault_after lines before None = Some (BadLine (lines + 1))
fault_after lines before (Some entry) =
    if list_any (nat_eq entry.number) (numbers_of before) then Some (FidTwice (lines + 1))
    else if list_any (pointwise nat_eq entry.target) (listed_targets before) then Some (NameTwice (lines + 1))
    else if nat_le max_targets lines then Some TooMany
    else None

-- The fault of `line` after the lines `before`, if it has one.
abbrev pub fault_at : List (List ℕ) → List ℕ → Option IndexFault
fault_at before line = fault_after (length before) (parse_lines before) (parse_line line)

-- Whether no line is rejected.
abbrev pub AreFaultFree : List (List ℕ) → Type 0
AreFaultFree lines = (before : List (List ℕ)) (line : List ℕ) (after : List (List ℕ)) → lines ≡ before ++ line ∷ after → fault_at before line ≡ None

-- Whether a line is rejected with this fault, and no line before it is rejected.
pub record IsRejected (lines : List (List ℕ)) (fault : IndexFault) : Type 0 where
  pub before : List (List ℕ)
  pub line : List ℕ
  pub after : List (List ℕ)
  pub lines_are : lines ≡ before ++ line ∷ after
  pub fault_free_before : AreFaultFree before
  pub fault_is : fault_at before line ≡ Some fault

-- Whether these lines are an index: none is rejected, and `index` has their entries.
pub record IsIndexOf (lines : List (List ℕ)) (index : List IndexEntry) : Type 0 where
  pub fault_free : AreFaultFree lines
  pub lists : index ≡ parse_lines lines

-- The invariant of an index: it isn't too long, and no number and no name occurs in it twice.
pub record IsIndex (index : List IndexEntry) : Type 0 where
  pub size : length index ≤ max_targets
  pub numbers_differ : IsDistinct nat_eq (numbers_of index)
  pub names_differ : IsDistinct (pointwise nat_eq) (listed_targets index)
