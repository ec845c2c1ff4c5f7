-- How many items ends posted.
use Rattle.std.proofs.Common.{◌≡◌, ◌≢◌, ℕ, suc, ◌+◌, ◌<◌, ◌≤◌, nat_eq, Bool, true, false, List, [], ◌∷◌, ◌++◌, if◌then◌else◌, length, refl, sym, ap, subst, ◌∙◌, inl, inr, arith}
use Rattle.std.specs.List.{AllByRecursion}
use Rattle.std.proofs.lemmas.Bool.{eq-eqb}
use Rattle.std.proofs.lemmas.Bool.Decides.{eqb_tells}
use Rattle.std.proofs.lemmas.List.{append-nil, length-append}
use Rattle.redo_wire.specs.declared.item.Item.{Item}
use Rattle.redo_wire.specs.Machine.{IsPrefix, items_of}
use Rattle.redo_wire.specs.Mailbox.{AreDistinct, IsMet, Met, pending_count}
use Rattle.redo_wire.proofs.Steps.{items_of-append}

-- How many of these ends have the number of an item's sender.
abbrev hit : Bool → ℕ
hit true = 1
hit false = 0

abbrev hits : Item → List Met → ℕ
hits item [] = 0
hits item (met ∷ others) = hit (nat_eq item.sender met.0) + hits item others

-- How many items are of these ends, added up over the ends.
abbrev total : List Item → List Met → ℕ
total items [] = 0
total items (met ∷ others) = length (items_of met.0 items) + total items others

pub not_among : (number : ℕ) (others : List Met) → AllByRecursion (λ other. other.0 ≢ number) others → IsMet number others → ⊥
not_among number [] apart among = among
not_among number (other ∷ others) apart (inl same) = apart.0 same
not_among number (other ∷ others) apart (inr among) = not_among number others apart.1 among

no_hit : (item : Item) (number : ℕ) (others : List Met) → item.sender ≡ number → AllByRecursion (λ other. other.0 ≢ number) others
    → hits item others ≡ 0
no_hit item number [] is apart = refl
no_hit item number (other ∷ others) is apart = elim (eqb_tells item.sender other.0) [
  | inl same ↦ absurd (apart.0 (sym same.1 ∙ is))
  | inr differ ↦ let behind : 0 + hits item others ≡ 0 = omega (arith, no_hit item number others is apart.1) in
      ap (λ b. hit b + hits item others) differ.0 ∙ behind
]

one_hit : (item : Item) (met : List Met) → AreDistinct met → hits item met ≤ 1
one_hit item [] apart = omega arith
one_hit item (met ∷ others) apart = elim (eqb_tells item.sender met.0) [
  | inl same ↦ let none = no_hit item met.0 others same.1 apart.0 in let here = ap hit same.0 in omega (arith, none, here)
  | inr differ ↦ let here = ap hit differ.0 in omega (arith, here, one_hit item others apart.1)
]

one_more : (item : Item) (items : List Item) (met : List Met) → total (item ∷ items) met ≡ hits item met + total items met
one_more item items [] = refl
one_more item items (met ∷ others) =
    let behind = one_more item items others in
    let here = by (nat_eq item.sender met.0) in
    omega (arith, behind, here)
  where
    by : (own : Bool) → length (if own then item ∷ items_of met.0 items else items_of met.0 items) ≡ hit own + length (items_of met.0 items)
    by true = let one : suc (length (items_of met.0 items)) ≡ 1 + length (items_of met.0 items) = omega arith in one
    by false = let none : length (items_of met.0 items) ≡ 0 + length (items_of met.0 items) = omega arith in none

within : (items : List Item) (met : List Met) → AreDistinct met → total items met ≤ length items
within [] met apart = by met
  where
    by : (met : List Met) → total [] met ≤ 0
    by [] = omega arith
    by (met ∷ others) = let behind = by others in omega (arith, behind)
within (item ∷ items) met apart = omega (arith, one_more item items met, one_hit item met apart, within items met apart)

-- If the ends posted the items of `front`, which were taken, and then `items`, then `items` are left.
left_total : (front items : List Item) (met : List Met) → AllByRecursion (λ (m : Met). m.1 ≡ items_of m.0 (front ++ items)) met
    → pending_count front met ≡ total items met
left_total front items [] are = refl
left_total front items (met ∷ others) are =
    let behind = left_total front items others are.1 in
    omega (
      arith,
      behind,
      ap length are.0,
      ap length (items_of-append met.0 front items),
      length-append (items_of met.0 front)
          (items_of met.0 items),
    )

-- If no end was met twice, no more is left than there are items.
pub left_within : (front items : List Item) (met : List Met) → AreDistinct met
    → AllByRecursion (λ (m : Met). m.1 ≡ items_of m.0 (front ++ items)) met → pending_count front met ≤ length items
left_within front items met apart are = omega (arith, left_total front items met are, within items met apart)

-- If, besides, each item is of one of these ends, as many are left as there are items.
one_is_hit : (item : Item) (met : List Met) → AreDistinct met → IsMet item.sender met → hits item met ≡ 1
one_is_hit item [] apart among = absurd among
one_is_hit item (met ∷ others) apart (inl same) =
    let here = ap hit (eq-eqb item.sender met.0 (sym same)) in
    let none = no_hit item met.0 others (sym same) apart.0 in omega (arith, here, none)
one_is_hit item (met ∷ others) apart (inr among) = elim (eqb_tells item.sender met.0) [
  | inl own ↦ absurd (not_among item.sender others
      (subst (λ n. AllByRecursion (λ (other : Met). other.0 ≢ n) others) (sym own.1) apart.0) among)
  | inr differ ↦ let here = ap hit differ.0 in omega (arith, here, one_is_hit item others apart.1 among)
]

each_hit : (items : List Item) (met : List Met) → AreDistinct met → AllByRecursion (λ (item : Item). IsMet item.sender met) items
    → total items met ≡ length items
each_hit [] met apart among = let least = within [] met apart in omega (arith, least)
each_hit (item ∷ items) met apart among =
    omega (arith, one_more item items met, one_is_hit item met apart among.0, each_hit items met apart among.1)

pub left_count : (front items : List Item) (met : List Met) → AreDistinct met
    → AllByRecursion (λ (m : Met). m.1 ≡ items_of m.0 (front ++ items)) met
    → AllByRecursion (λ (item : Item). IsMet item.sender met) items → pending_count front met ≡ length items
left_count front items met apart are among = left_total front items met are ∙ each_hit items met apart among

-- ---- a mailbox for one item

no_items : (items : List Item) → length items ≡ 0 → items ≡ []
no_items [] none = refl
no_items (item ∷ items) none = absurd (omega (arith, none))

-- If nothing is left of the ends, all that they posted was taken.
pub nothing_left : (taken : List Item) (met : List Met) → pending_count taken met < 1
    → AllByRecursion (λ (m : Met). IsPrefix (items_of m.0 taken) m.1) met → AllByRecursion (λ (m : Met). m.1 ≡ items_of m.0 taken) met
nothing_left taken [] less fronts = tt
nothing_left taken (met ∷ others) less fronts =
    let behind = fronts.0.0 in
    let none : length behind ≡ 0 = omega (arith, less, ap length fronts.0.1, length-append (items_of met.0 taken) behind) in (
      fronts.0.1 ∙ ap (λ items. items_of met.0 taken ++ items) (no_items behind none)
          ∙ append-nil (items_of met.0 taken),
      nothing_left taken others (omega (arith, less)) fronts.1,
    )

-- The converse.
pub none_left : (taken : List Item) (met : List Met) → AllByRecursion (λ (m : Met). m.1 ≡ items_of m.0 taken) met
    → pending_count taken met ≡ 0
none_left taken [] whole = refl
none_left taken (met ∷ others) whole = omega (arith, none_left taken others whole.1, ap length whole.0)
