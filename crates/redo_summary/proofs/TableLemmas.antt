-- A table has the first of some ranks.
use Rattle.std.proofs.Common.{ℕ, zero, suc, inl, inr, min, List, [], ◌∷◌, drop, take, sym, ap, ◌∙◌, subst, arith}
use Rattle.std.specs.List.{AllByRecursion}
use Rattle.std.specs.List.Sorted.{IsPermutation}
use Rattle.std.proofs.lemmas.List.{length-take, take-append-drop}
use Rattle.std.proofs.lemmas.List.Sorted.{length_permutation}
use Rattle.redo_timeline.specs.Order.{sort}
use Rattle.redo_timeline.proofs.OrderLemmas.{sort-permutation}
use Rattle.redo_summary.specs.declared.rank.Rank.{Rank}
use Rattle.redo_summary.specs.Laws.{AreInOrder, HasFirstTen, IsBefore, IsBeforeFirst}
use Rattle.redo_summary.specs.Ranks.{first_ranks, rank_cmp}
use Rattle.redo_summary.proofs.RankLemmas.{sorted_in_order}

before_both : (a b c : Rank) → IsBefore a b → IsBefore b c → IsBefore a c
before_both a b c (inl less) (inl more) = inl (omega (arith, less, more))
before_both a b c (inl less) (inr same) = inl (let value = same.0 in omega (arith, less, value))
before_both a b c (inr same) (inl more) = inl (let value = same.0 in omega (arith, more, value))
before_both a b c (inr same) (inr next) = inr (same.0 ∙ next.0, let low = same.1 in let high = next.1 in omega (arith, low, high))

-- A rank before the first of some ranks in order is before all of them.
before_all : (rank : Rank) (ranks : List Rank) → IsBeforeFirst rank ranks → AreInOrder ranks → AllByRecursion (IsBefore rank) ranks
before_all rank [] first ordered = tt
before_all rank (next ∷ rest) first ordered = (first, before_all rank rest (later rest ordered.0) ordered.1)
  where
    later : (ranks : List Rank) → IsBeforeFirst next ranks → IsBeforeFirst rank ranks
    later [] after = tt
    later (other ∷ ranks) after = before_both rank next other first after

all_dropped : (P : Rank → Type 0) (n : ℕ) (ranks : List Rank) → AllByRecursion P ranks → AllByRecursion P (drop n ranks)
all_dropped P zero ranks all = all
all_dropped P (suc n) [] all = tt
all_dropped P (suc n) (rank ∷ ranks) all = all_dropped P n ranks all.1

-- The first of some ranks in order are before the others.
taken_before : (n : ℕ) (ranks : List Rank) → AreInOrder ranks
    → AllByRecursion (λ (rank : Rank). AllByRecursion (IsBefore rank) (drop n ranks)) (take n ranks)
taken_before zero ranks ordered = tt
taken_before (suc n) [] ordered = tt
taken_before (suc n) (rank ∷ ranks) ordered =
    (all_dropped (IsBefore rank) n ranks (before_all rank ranks ordered.0 ordered.1), taken_before n ranks ordered.1)

pub has_first_ten : (ranks : List Rank) → HasFirstTen ranks (first_ranks ranks)
has_first_ten ranks =
    let sorted = sort rank_cmp ranks in
    let moved : IsPermutation ranks sorted = sort-permutation rank_cmp ranks in
    record {
      others = drop 10 sorted;
      once = subst (λ (all : List Rank). IsPermutation ranks all) (sym (take-append-drop 10 sorted)) moved;
      count = length-take 10 sorted ∙ ap (λ (n : ℕ). min 10 n) (length_permutation ranks sorted moved);
      first = taken_before 10 sorted (sorted_in_order ranks);
    }
