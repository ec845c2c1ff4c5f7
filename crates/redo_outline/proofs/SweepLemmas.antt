-- The state of a sweep after brackets.
use Rattle.std.proofs.Common.{◌≡◌, ℕ, ◌+◌, ◌≤◌, Bool, true, false, List, [], ◌∷◌, ◌++◌, Option, None, Some, length, refl, sym, ap, ◌∙◌, subst, arith, length-append, ◌⊎◌, inl, inr, ℤ}
use Rattle.std.specs.Prelude.{if◌then◌else◌, slice_index_or}
use Rattle.std.specs.List.{AllByRecursion, sum_by}
use Rattle.std.specs.Option.{option_or}
use Rattle.std.proofs.lemmas.List.Sums.{sum_by-append}
use Rattle.redo_logs.specs.Logs.{Log}
use Rattle.redo_outline.specs.declared.collector.Bracket.{Bracket}
use Rattle.redo_outline.specs.declared.collector.OpenedLog.{OpenedLog}
use Rattle.redo_outline.specs.declared.facts.LogFacts.{LogFacts}
use Rattle.redo_outline.specs.declared.node.Node.{Node}
use Rattle.redo_outline.specs.declared.sweep.Summary.{Summary}
use Rattle.redo_outline.specs.Facts.{entries_at}
use Rattle.redo_outline.specs.Private.LogFacts.{facts_of}
use Rattle.redo_outline.specs.Private.Sweeping.{AreCounted, IsCounted, Swept, bracket_added, brackets_added, is_silent_log, last_or_nothing, node_at, node_from, nothing_left, opening_added, opening_added_at, others_of, put_before, split_last, with_log}

-- ---- the last item

pub split_last-append : {A : Type 0} (xs : List A) (x : A) → split_last (xs ++ x ∷ []) ≡ Some (xs, x)
split_last-append [] x = refl
split_last-append (y ∷ xs) x = ap (λ split. Some (put_before y split)) (split_last-append xs x)

pub split_some : {A : Type 0} (old new : List A) (x : A) → old ≡ new ++ x ∷ [] → split_last old ≡ Some (new, x)
split_some old new x is = ap split_last is ∙ split_last-append new x

pub split_none : {A : Type 0} (old new : List A) → length new ≤ 0 → old ≡ new ++ [] → (split_last old ≡ None) × (new ≡ [])
split_none old [] empty is = (ap split_last is, refl)
split_none old (x ∷ new) empty is = absurd (omega (arith, empty))

pub split_whole : {A : Type 0} (xs : List A)
    → ((split_last xs ≡ None) × (xs ≡ [])) ⊎ ((ys : List A) × (y : A) × (split_last xs ≡ Some (ys, y)) × (xs ≡ ys ++ y ∷ []))
split_whole [] = inl (refl, refl)
split_whole (x ∷ xs) = elim (split_whole xs) [
  | inl none ↦ inr ([], x, ap (λ split. Some (put_before x split)) none.0, ap (λ ys. x ∷ ys) none.1)
  | inr last ↦ inr (x ∷ last.0, last.1, ap (λ split. Some (put_before x split)) last.2, ap (λ ys. x ∷ ys) last.3)
]

-- ---- counts

abbrev below_all : List Summary → ℕ
below_all outer = sum_by (λ (rest : Summary). rest.below) outer

all-append : (xs ys : List Summary) → AllByRecursion IsCounted (xs ++ ys) → AllByRecursion IsCounted xs × AllByRecursion IsCounted ys
all-append [] ys all = (tt, all)
all-append (x ∷ xs) ys all = let later = all-append xs ys all.1 in ((all.0, later.0), later.1)

counted-nothing : IsCounted nothing_left
counted-nothing = record { children = omega arith; silent_logs = omega arith }

-- The last one of these logs, and those before it.
record IsSplit (outer : List Summary) (rest : Summary) (others : List Summary) : Type 0 where
  pub total : below_all others + rest.below ≤ below_all outer
  pub rest_is : IsCounted rest
  pub others_are : AllByRecursion IsCounted others

split_last-counted : (outer : List Summary) → AllByRecursion IsCounted outer
    → IsSplit outer (last_or_nothing (split_last outer)) (others_of (split_last outer))
split_last-counted outer all = elim (split_whole outer) [
  | inl none ↦ rw none.0 record { total = (rw none.1 (omega arith)); rest_is = counted-nothing; others_are = tt }
  | inr last ↦
      let parts = all-append last.0 (last.1 ∷ []) (subst (AllByRecursion IsCounted) last.3 all) in
      rw last.2 record {
        total = (let sum = ap below_all last.3 ∙ sum_by-append (λ (rest : Summary). rest.below) last.0 (last.1 ∷ []) in omega (arith, sum));
        rest_is = parts.1.0;
        others_are = parts.0;
      }
]

module _ (inner : Summary) (outer : List Summary) (nodes : List Node) (counted : AreCounted inner outer nodes) where
  abbrev pub popped : Summary
  popped = last_or_nothing (split_last outer)

  abbrev pub left : List Summary
  left = others_of (split_last outer)

  split : IsSplit outer popped left
  split = split_last-counted outer counted.outer_are

  pub popped_below : inner.below + popped.below ≤ length nodes
  popped_below = omega (arith, counted.total, split.total)

  pub popped_children : popped.children ≤ length nodes
  popped_children = omega (arith, counted.total, split.total, split.rest_is.children)

  pub popped_silent : popped.silent_logs ≤ length nodes
  popped_silent = omega (arith, counted.total, split.total, split.rest_is.silent_logs)

  pub counted_without : AreCounted inner left nodes
  counted_without = record { total = omega (arith, counted.total, split.total); inner_is = counted.inner_is; outer_are = split.others_are }

  silent_bound : (silent : Bool) → (if silent then popped.silent_logs + 1 else 0) ≤ inner.below + popped.below + 1
  silent_bound true = omega (arith, split.rest_is.silent_logs)
  silent_bound false = omega arith

  pub counted_with : (log : OpenedLog) (facts : LogFacts) (status : Option ℤ)
      → AreCounted (with_log (node_from log facts status inner popped) inner popped) left
      (nodes ++ node_from log facts status inner popped ∷ [])
  counted_with log facts status = record {
    total = omega (arith, counted.total, split.total, length-append nodes (node_from log facts status inner popped ∷ []));
    inner_is = record { children = omega (arith, split.rest_is.children); silent_logs = silent_bound (is_silent_log status inner) };
    outer_are = split.others_are;
  }

-- ---- an opening

pub node_at_is : (with_warnings : Bool) (logs : List Log) (statuses : List (Option ℤ)) (log : OpenedLog) (inside rest : Summary)
    (facts : LogFacts) (other status : Option ℤ) (node : Node)
    → facts ≡ facts_of with_warnings (entries_at log.number logs) → other ≡ slice_index_or statuses log.number None
    → status ≡ option_or facts.status other → node ≡ node_from log facts status inside rest
    → node ≡ node_at logs statuses with_warnings log inside rest
node_at_is with_warnings logs statuses log inside rest facts other status node facts_are other_is status_is node_is =
    node_is ∙ ap (λ s. node_from log facts s inside rest) (status_is ∙ ap (option_or facts.status) other_is)
    ∙ ap (λ (f : LogFacts). node_from log f (option_or f.status (slice_index_or statuses log.number None)) inside rest) facts_are

abbrev pub swept_of : Bool → List Log → List (Option ℤ) → List OpenedLog → Summary → List Summary → List Node → Swept
swept_of with_warnings logs statuses opened inner outer nodes = record {
  logs = logs;
  with_warnings = with_warnings;
  statuses = statuses;
  opened = opened;
  inner = inner;
  outer = outer;
  nodes = nodes;
}

pub opening_is : (swept : Swept) (log : OpenedLog) (opened : List OpenedLog) (node : Node) (rest inner : Summary) (outer : List Summary)
    (nodes : List Node)
    → split_last swept.opened ≡ Some (opened, log) → rest ≡ last_or_nothing (split_last swept.outer)
    → outer ≡ others_of (split_last swept.outer)
    → node ≡ node_at swept.logs swept.statuses swept.with_warnings log swept.inner rest → nodes ≡ swept.nodes ++ node ∷ []
    → inner ≡ with_log node swept.inner rest
    → swept_of swept.with_warnings swept.logs swept.statuses opened inner outer nodes ≡ opening_added swept
opening_is swept log opened node rest inner outer nodes opened_is rest_is outer_is node_is nodes_are inner_is =
    rw (inner_is, nodes_are, node_is, outer_is, rest_is) (ap (λ split. opening_added_at split swept) (sym opened_is))

-- ---- brackets

pub added-last : (brackets : List Bracket) (bracket : Bracket) (swept : Swept)
    → brackets_added (brackets ++ bracket ∷ []) swept ≡ brackets_added brackets (bracket_added bracket swept)
added-last [] bracket swept = refl
added-last (other ∷ brackets) bracket swept = ap (bracket_added other) (added-last brackets bracket swept)
