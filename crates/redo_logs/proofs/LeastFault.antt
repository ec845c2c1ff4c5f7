-- The first fault of a list is at the lowest position that has a fault.
use Rattle.std.proofs.Common.{◌≡◌, ℕ, zero, suc, ◌+◌, ◌<◌, List, [], ◌∷◌, Option, None, Some, option_map, slice_get, refl, sym, ap, ◌∙◌, arith}
use Rattle.std.proofs.lemmas.Option.{same_Some}
use Rattle.redo_line.specs.declared.stream_fault.StreamFault.{StreamFault}
use Rattle.redo_logs.specs.Logs.{lowest_fault}

-- A fault, with a position that is greater by one.
abbrev pub behind_one : Option (ℕ × StreamFault) → Option (ℕ × StreamFault)
behind_one first = option_map (λ (found : ℕ × StreamFault). (found.0 + 1, found.1)) first

-- `first` has this fault at the position before `place`.
record Behind (first : Option (ℕ × StreamFault)) (place : ℕ) (fault : StreamFault) : Type 0 where
  pub here : ℕ
  pub first_is : first ≡ Some (here, fault)
  pub place_is : place ≡ suc here

behind : (first : Option (ℕ × StreamFault)) (place : ℕ) (fault : StreamFault) → behind_one first ≡ Some (place, fault)
    → Behind first place fault
behind None place fault is = absurd (cc)
behind (Some found) place fault is =
    let same : (found.0 + 1, found.1) ≡ (place, fault) = same_Some _ _ is in
    record {
      here = found.0;
      first_is = ap (λ (f : StreamFault). Some (found.0, f)) (ap (λ (p : ℕ × StreamFault). p.1) same);
      place_is = let sum = ap (λ (p : ℕ × StreamFault). p.0) same in omega (arith, sum);
    }

pub found_there : (faults : List (Option StreamFault)) (place : ℕ) (fault : StreamFault) → lowest_fault faults ≡ Some (place, fault)
    → slice_get faults place ≡ Some (Some fault)
found_there [] place fault is = absurd (cc)
found_there (Some here ∷ faults) place fault is =
    let same : (0, here) ≡ (place, fault) = same_Some _ _ is in
    ap (λ (n : ℕ). slice_get (Some here ∷ faults) n) (sym (ap (λ (p : ℕ × StreamFault). p.0) same))
    ∙ ap (λ (f : StreamFault). Some (Some f)) (ap (λ (p : ℕ × StreamFault). p.1) same)
found_there (None ∷ faults) place fault is =
    let b = behind (lowest_fault faults) place fault is in
    ap (λ (n : ℕ). slice_get (None ∷ faults) n) b.place_is ∙ found_there faults b.here fault b.first_is

pub none_before : (faults : List (Option StreamFault)) (place : ℕ) (fault : StreamFault) (earlier : ℕ)
    → lowest_fault faults ≡ Some (place, fault) → earlier < place → slice_get faults earlier ≡ Some None
none_before [] place fault earlier is before = absurd (cc)
none_before (Some here ∷ faults) place fault earlier is before =
    let same : (0, here) ≡ (place, fault) = same_Some _ _ is in
    absurd (let zero_is = ap (λ (p : ℕ × StreamFault). p.0) same in omega (arith, zero_is, before))
none_before (None ∷ faults) place fault zero is before = refl
none_before (None ∷ faults) place fault (suc earlier) is before =
    let b = behind (lowest_fault faults) place fault is in
    none_before faults b.here fault earlier b.first_is (omega (arith, b.place_is, before))

pub none_at_all : (faults : List (Option StreamFault)) (place : ℕ) (fault : StreamFault) → lowest_fault faults ≡ None
    → slice_get faults place ≡ Some (Some fault) → ⊥
none_at_all [] place fault none at = absurd (cc)
none_at_all (Some here ∷ faults) place fault none at = absurd (cc)
none_at_all (None ∷ faults) zero fault none at = absurd (cc)
none_at_all (None ∷ faults) (suc place) fault none at = none_at_all faults place fault (by (lowest_fault faults) none) at
  where
    by : (first : Option (ℕ × StreamFault)) → behind_one first ≡ None → first ≡ None
    by None none = refl
    by (Some found) none = absurd (cc)
