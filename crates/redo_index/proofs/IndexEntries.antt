-- The targets of an index, and the map entries that store them.
use Rattle.std.proofs.Common.{◌≡◌, ℕ, ◌+◌, ◌≤◌, List, [], ◌∷◌, ◌++◌, Some, length, map, take, slice_get, refl, sym, ◌∙◌, ap, subst, nat_eq, arith, zero-le}
use Rattle.std.specs.Cmp.Lexicographic.{pointwise}
use Rattle.std.specs.List.{IsDistinct}
use Rattle.std.specs.Map.{keys_of, values_of}
use Rattle.std.specs.Option.{option_map}
use Rattle.std.proofs.lemmas.List.{length-map, take_more}
use Rattle.std.proofs.lemmas.Option.{get_or_from_slice_get, slice_get-map, slice_get_within}
use Rattle.redo_index.specs.declared.index.TargetLog.{TargetLog}
use Rattle.redo_index.specs.declared.index_entry.IndexEntry.{IndexEntry}
use Rattle.redo_index.specs.Index.{max_targets, numbers_of, listed_targets, must_close_flags, IsIndex}
use Rattle.redo_index.specs.Private.Entries.{entry_of_pair, entries_of_pairs}

pub entries_of_pairs-numbers : (entries : List (List ℕ × TargetLog))
    → numbers_of (entries_of_pairs entries) ≡ map (λ (file : TargetLog). file.number) (values_of entries)
entries_of_pairs-numbers [] = refl
entries_of_pairs-numbers (entry ∷ entries) = ap (λ ns. entry.1.number ∷ ns) (entries_of_pairs-numbers entries)

pub entries_of_pairs-flags : (entries : List (List ℕ × TargetLog))
    → must_close_flags (entries_of_pairs entries) ≡ map (λ (file : TargetLog). file.must_close) (values_of entries)
entries_of_pairs-flags [] = refl
entries_of_pairs-flags (entry ∷ entries) = ap (λ ms. entry.1.must_close ∷ ms) (entries_of_pairs-flags entries)

pub entries_of_pairs-names : (entries : List (List ℕ × TargetLog)) → listed_targets (entries_of_pairs entries) ≡ keys_of entries
entries_of_pairs-names [] = refl
entries_of_pairs-names (entry ∷ entries) = ap (λ ns. entry.0 ∷ ns) (entries_of_pairs-names entries)

pub entries_of_pairs-more : (entries : List (List ℕ × TargetLog)) (entry : List ℕ × TargetLog)
    → entries_of_pairs (entries ++ entry ∷ []) ≡ entries_of_pairs entries ++ entry_of_pair entry ∷ []
entries_of_pairs-more [] entry = refl
entries_of_pairs-more (first ∷ entries) entry =
    ap (λ (index : List IndexEntry). entry_of_pair first ∷ index) (entries_of_pairs-more entries entry)

-- The first `i + 1` elements are the first `i` and the element at position `i`.
pub take-next : {A : Type 0} (xs : List A) (i : ℕ) (x : A) → slice_get xs i ≡ Some x → take (i + 1) xs ≡ take i xs ++ x ∷ []
take-next xs i x there = take_more xs i x (slice_get_within xs i x there)
    ∙ ap (λ last. take i xs ++ last ∷ []) (get_or_from_slice_get xs i x x there)

-- The numbers and the flags of log files, by position.
pub log-number : (files : List TargetLog) (i : ℕ) (file : TargetLog) → slice_get files i ≡ Some file
    → slice_get (map (λ (f : TargetLog). f.number) files) i ≡ Some file.number
log-number files i file there = slice_get-map (λ (f : TargetLog). f.number) files i ∙ ap (option_map (λ (f : TargetLog). f.number)) there

pub log-must_close : (files : List TargetLog) (i : ℕ) (file : TargetLog) → slice_get files i ≡ Some file
    → slice_get (map (λ (f : TargetLog). f.must_close) files) i ≡ Some file.must_close
log-must_close files i file there = slice_get-map (λ (f : TargetLog). f.must_close) files i
    ∙ ap (option_map (λ (f : TargetLog). f.must_close)) there

pub no_index : IsIndex []
unfolding IsDistinct
no_index = record { size = zero-le; numbers_differ = tt; names_differ = tt }

-- The facts about the map entries that the proofs of `Index` use.
pub record IndexFacts (entries : List (List ℕ × TargetLog)) (index : List IndexEntry) : Type 0 where
  pub count : length index ≡ length entries
  pub size : length index ≤ max_targets
  pub numbers_are : numbers_of index ≡ map (λ (file : TargetLog). file.number) (values_of entries)
  pub flags_are : must_close_flags index ≡ map (λ (file : TargetLog). file.must_close) (values_of entries)
  pub names_are : listed_targets index ≡ keys_of entries
  pub names_differ : IsDistinct (pointwise nat_eq) (listed_targets index)

pub index_facts : (entries : List (List ℕ × TargetLog)) (index : List IndexEntry) → entries_of_pairs entries ≡ index
    → IsIndex (entries_of_pairs entries) → IndexFacts entries index
index_facts entries index is valid = record {
  count = ap length (sym is) ∙ length-map entries entry_of_pair;
  size = let size = valid.size in omega (arith, ap length is);
  numbers_are = ap numbers_of (sym is) ∙ entries_of_pairs-numbers entries;
  flags_are = ap must_close_flags (sym is) ∙ entries_of_pairs-flags entries;
  names_are = ap listed_targets (sym is) ∙ entries_of_pairs-names entries;
  names_differ = subst (λ (ls : List IndexEntry). IsDistinct (pointwise nat_eq) (listed_targets ls)) is valid.names_differ;
}
