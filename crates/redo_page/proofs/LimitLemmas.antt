-- The highest cap at which logs fit into a budget.
use Rattle.std.proofs.Common.{◌≡◌, ℕ, zero, suc, ◌+◌, ◌-◌, ◌<◌, ◌≤◌, min, ◌⊎◌, inl, inr, Bool, true, false, List, [], ◌∷◌, ◌++◌, Some, refl, ◌∙◌, ap, arith}
use Rattle.std.specs.Prelude.{map, if◌then◌else◌}
use Rattle.std.specs.List.{range_with_len}
use Rattle.std.proofs.lemmas.Bool.{cases_lt, le-leb, leb-false, leb-true, lt-leb}
use Rattle.redo_outline.specs.declared.node.Node.{Node}
use Rattle.redo_html.proofs.CutLemmas.{last_below}
use Rattle.redo_html.specs.Cut.{last_where}
use Rattle.redo_page.specs.Limits.{at_most, bytes_shown, fit_in, highest_cap, limit_if}
use Rattle.redo_page.specs.Tree.{Build, position_of}
use Rattle.redo_trim.specs.declared.limit.Limit.{Limit}
use Rattle.std.proofs.lemmas.List.{append_assoc}
use Rattle.std.proofs.lemmas.List.Sums.{sum_by-cons}

more_bytes : (nodes : List Node) (low high : ℕ) → low ≤ high → bytes_shown (Some low) nodes ≤ bytes_shown (Some high) nodes
more_bytes [] low high below = omega arith
more_bytes (node ∷ nodes) low high below =
    let others = more_bytes nodes low high below in
    let less = sum_by-cons (λ (n : Node). at_most (Some low) n.bytes) node nodes in
    let more = sum_by-cons (λ (n : Node). at_most (Some high) n.bytes) node nodes in
    let one : min node.bytes low ≤ min node.bytes high = omega (arith, below) in
    omega (arith, others, less, more, one)

-- ---- the last number that passes a test

module _ (passes : ℕ → Bool) where
  -- The last one passes, if 0 does.
  pub last_passes : (n : ℕ) → passes 0 ≡ true → passes (last_where passes n) ≡ true
  last_passes zero first = first
  last_passes (suc n) first = by (passes (suc n)) refl (last_passes n first)
    where
      by : (is : Bool) → passes (suc n) ≡ is → passes (last_where passes n) ≡ true
          → passes (if is then suc n else last_where passes n) ≡ true
      by true is before = is
      by false is before = before

  pub last_within : (n : ℕ) → last_where passes n ≤ n
  last_within zero = omega arith
  last_within (suc n) = by (passes (suc n)) (last_within n)
    where
      by : (is : Bool) → last_where passes n ≤ n → (if is then suc n else last_where passes n) ≤ suc n
      by true less = omega arith
      by false less = omega (arith, less)

  -- None of the numbers after it passes.
  pub none_after : (n higher : ℕ) → last_where passes n < higher → higher ≤ n → passes higher ≡ false
  none_after zero higher after within = absurd (omega (arith, after, within))
  none_after (suc n) higher after within = by (passes (suc n)) refl (none_after n higher) after (cases_lt n higher)
    where
      by : (is : Bool) → passes (suc n) ≡ is → (last_where passes n < higher → higher ≤ n → passes higher ≡ false)
          → (if is then suc n else last_where passes n) < higher
          → (n < higher) ⊎ (higher ≤ n) → passes higher ≡ false
      by true is before less where_is = absurd (omega (arith, less, within))
      by false is before less (inl above) = let same : higher ≡ suc n = omega (arith, above, within) in ap passes same ∙ is
      by false is before less (inr below) = before less below

-- ---- caps

module _ (budget : ℕ) (nodes : List Node) where
  abbrev pub fits : ℕ → Bool
  fits cap = fit_in (Some cap) budget nodes

  higher_fails : (low high : ℕ) → fits low ≡ false → low ≤ high → fits high ≡ false
  higher_fails low high fails below =
      let too_many = leb-false (bytes_shown (Some low) nodes) budget fails in
      let more = more_bytes nodes low high below in
      lt-leb (bytes_shown (Some high) nodes) budget (omega (arith, too_many, more))

  -- If a cap fails, only lower ones count.
  pub lower_counts : (cap above : ℕ) → fits cap ≡ false → 0 < cap → cap ≤ above → last_where fits above ≡ last_where fits (cap - 1)
  lower_counts cap above fails some below =
      last_below fits (cap - 1) above (omega arith) (λ n higher within. higher_fails cap n fails (omega arith))

no_bytes : (nodes : List Node) → bytes_shown (Some 0) nodes ≡ 0
no_bytes [] = refl
no_bytes (node ∷ nodes) =
    let others = no_bytes nodes in
    let all = sum_by-cons (λ (n : Node). at_most (Some 0) n.bytes) node nodes in
    let one : min node.bytes 0 ≡ 0 = omega arith in
    omega (arith, others, all, one)

pub highest_fits : (budget : ℕ) (nodes : List Node) → bytes_shown (Some (highest_cap budget nodes)) nodes ≤ budget
highest_fits budget nodes =
    let none = no_bytes nodes in
    leb-true (bytes_shown (Some (highest_cap budget nodes)) nodes) budget
    (last_passes (fits budget nodes) budget (le-leb (bytes_shown (Some 0) nodes) budget (omega (arith, none))))

pub none_higher : (budget : ℕ) (nodes : List Node) (cap : ℕ) → highest_cap budget nodes < cap → cap ≤ budget
    → budget < bytes_shown (Some cap) nodes
none_higher budget nodes cap above within =
    leb-false (bytes_shown (Some cap) nodes) budget (none_after (fits budget nodes) budget cap above within)

-- ---- limits, one by one

-- The limit of the log with a number.
abbrev pub limit_in : Build → ℕ → ℕ → Limit
limit_in build cap number = limit_if build.articles build.nodes cap (position_of build.nodes number)

-- The limits of `count` logs, from the one with the number `number` on.
abbrev pub limits_from : Build → ℕ → ℕ → ℕ → List Limit
limits_from build cap number count = map (limit_in build cap) (range_with_len number count)

-- The limit of one log more.
pub next_limit : (build : Build) (cap number count : ℕ) → number < count → (limits after : List Limit) (limit : Limit)
    → limit ≡ limit_in build cap number → after ≡ limits ++ (limit ∷ [])
    → limits ++ limits_from build cap number (count - number) ≡ limits_from build cap 0 count
    → after ++ limits_from build cap (number + 1) (count - (number + 1)) ≡ limits_from build cap 0 count
next_limit build cap number count below limits after limit limit_is after_is so_far =
    let rest = limits_from build cap (number + 1) (count - suc number) in
    let next : number + 1 ≡ suc number = omega arith in
    let left : suc (count - suc number) ≡ count - number = omega (arith, below) in
    ap (λ (n : ℕ). after ++ limits_from build cap (number + 1) (count - n)) next
    ∙ ap (λ (ls : List Limit). ls ++ rest) after_is
    ∙ append_assoc limits (limit ∷ []) rest
    ∙ ap (λ (l : Limit). limits ++ (l ∷ rest)) limit_is
    ∙ ap (λ (n : ℕ). limits ++ limits_from build cap number n) left
    ∙ so_far
