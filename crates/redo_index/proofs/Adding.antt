-- Adding one more line, given the numbers and the map entries of the lines before it.
use Rattle.std.proofs.Common.{◌≡◌, ℕ, ◌+◌, ◌<◌, ◌≤◌, Bool, true, false, nat_le, nat_eq, List, [], ◌∷◌, ◌++◌, Some, is_some, length, sym, ◌∙◌, ap, subst, arith}
use Rattle.std.specs.Cmp.Lexicographic.{pointwise}
use Rattle.std.specs.List.{IsDistinct, list_any}
use Rattle.std.specs.Map.{keys_of, lookup}
use Rattle.std.proofs.lemmas.Bool.{le-leb, lt-leb}
use Rattle.std.proofs.lemmas.List.{length-append, length-map, map_push}
use Rattle.std.proofs.lemmas.Map.Made.{is_some-lookup}
use Rattle.redo_index.specs.declared.index_fault.IndexFault.TheVariants.{NameTwice, TooMany}
use Rattle.redo_index.specs.declared.index.TargetLog.{TargetLog}
use Rattle.redo_index.specs.declared.index_entry.IndexEntry.{IndexEntry}
use Rattle.redo_index.specs.Index.{max_targets, numbers_of, listed_targets, parse_line, fault_after}
use Rattle.redo_index.specs.Private.Entries.{Hold, HoldMore, entry_of_pair, entries_of_pairs}
use Rattle.redo_index.proofs.IndexEntries.{entries_of_pairs-more, entries_of_pairs-names}

module _ (numbers : List ℕ) (entries : List (List ℕ × TargetLog)) (index : List IndexEntry) (holds : Hold numbers entries index)
    (line : List ℕ) (number : ℕ) (name : List ℕ) (must_close : Bool)
    (form : parse_line line ≡ Some (record { number = number; target = name; must_close = must_close }))
    (number_is_new : list_any (nat_eq number) numbers ≡ false) where
  count : length numbers ≡ length index
  count = ap length holds.numbers_are ∙ length-map index (λ one. one.number)

  entries_count : length entries ≡ length index
  entries_count = sym (length-map entries entry_of_pair) ∙ ap length holds.entries_are

  no_number : list_any (nat_eq number) (numbers_of index) ≡ false
  no_number = ap (list_any (nat_eq number)) (sym holds.numbers_are) ∙ number_is_new

  among : (is : Bool) → is_some (lookup (pointwise nat_eq name) entries) ≡ is → list_any (pointwise nat_eq name) (listed_targets index) ≡ is
  among is known =
      ap (λ (ls : List IndexEntry). list_any (pointwise nat_eq name) (listed_targets ls)) (sym holds.entries_are)
      ∙ ap (list_any (pointwise nat_eq name)) (entries_of_pairs-names entries)
      ∙ sym (is_some-lookup (pointwise nat_eq name) entries) ∙ known

  pub name_twice : is_some (lookup (pointwise nat_eq name) entries) ≡ true
      → fault_after (length index) index (parse_line line) ≡ Some (NameTwice (length numbers + 1))
  name_twice twice = rw (form, no_number, among true twice, count)

  pub too_many : is_some (lookup (pointwise nat_eq name) entries) ≡ false → max_targets < length entries + 1
      → fault_after (length index) index (parse_line line) ≡ Some TooMany
  too_many name_is_new many =
      let full : nat_le max_targets (length index) ≡ true = le-leb max_targets (length index) (omega (arith, many, entries_count)) in
      rw (form, no_number, among false name_is_new, full)

  -- A line with a new number and a new name is listed if the index isn't full.
  pub one_more : is_some (lookup (pointwise nat_eq name) entries) ≡ false → length entries + 1 ≤ max_targets
      → (numbers' : List ℕ) (entries' : List (List ℕ × TargetLog)) → numbers' ≡ numbers ++ number ∷ []
      → entries' ≡ entries ++ (name, record { number = number; must_close = must_close }) ∷ [] → IsDistinct nat_eq numbers'
      → IsDistinct (pointwise nat_eq) (keys_of entries') → HoldMore index line numbers' entries'
  one_more name_is_new few numbers' entries' numbers_are entries_are numbers_differ names_differ =
      let room : nat_le max_targets (length index) ≡ false = lt-leb max_targets (length index) (omega (arith, few, entries_count)) in
      let last : IndexEntry = record { number = number; target = name; must_close = must_close } in
      let all_numbers : numbers' ≡ numbers_of (index ++ last ∷ []) =
      numbers_are ∙ ap (λ ns. ns ++ number ∷ []) holds.numbers_are ∙ sym (map_push (λ (one : IndexEntry). one.number) index last) in
      let all_entries : entries_of_pairs entries' ≡ index ++ last ∷ [] =
      ap entries_of_pairs entries_are ∙ entries_of_pairs-more entries (name, record { number = number; must_close = must_close })
      ∙ ap (λ (ls : List IndexEntry). ls ++ last ∷ []) holds.entries_are in
      record {
        last = last;
        form = form;
        no_fault = rw (no_number, among false name_is_new, room);
        hold = record {
          numbers_are = all_numbers;
          entries_are = all_entries;
          fits = record {
            size = omega (arith, few, entries_count, length-append index (last ∷ []));
            numbers_differ = subst (IsDistinct nat_eq) all_numbers numbers_differ;
            names_differ = subst (IsDistinct (pointwise nat_eq))
                (sym (entries_of_pairs-names entries') ∙ ap listed_targets all_entries) names_differ;
          };
        };
      }
