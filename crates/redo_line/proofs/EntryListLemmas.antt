-- The first fault of a list of optional entries: the fault of concatenated lists, and its index.
use Rattle.std.proofs.Common.{◌≡◌, ◌⊎◌, inl, inr, ℕ, ◌+◌, ◌<◌, Bool, true, false, List, [], ◌∷◌, ◌++◌, Option, None, Some, length, map, refl, ◌∙◌, ap, arith}
use Rattle.std.specs.List.{filter_map}
use Rattle.redo_line.specs.declared.entry.Entry.{Entry}
use Rattle.redo_line.specs.declared.stream_fault.StreamFault.{StreamFault}
use Rattle.redo_line.specs.declared.stream_fault.StreamFault.TheVariants.{BadRecord, AfterClose}
use Rattle.redo_line.specs.Log.{closes, first_fault}
use Rattle.redo_line.specs.Private.Progress.{closed_by}

-- After entries without a fault, the next fault depends only on their number and on the last of them.
pub first_fault-append-none : (closed : Bool) (line : ℕ) (xs ys : List (Option Entry)) → first_fault closed line xs ≡ None
    → first_fault closed line (xs ++ ys) ≡ first_fault (closed_by closed xs) (line + length xs) ys
unfolding first_fault
first_fault-append-none closed line [] ys none = let e : line ≡ line + 0 = omega arith in ap (λ n. first_fault closed n ys) e
first_fault-append-none true line (entry ∷ xs) ys none = absurd (cc)
first_fault-append-none false line (None ∷ xs) ys none = absurd (cc)
first_fault-append-none false line (Some entry ∷ xs) ys none =
    let e : line + 1 + length xs ≡ line + length (Some entry ∷ xs) = omega arith in
    first_fault-append-none (closes (Some entry)) (line + 1) xs ys none ∙ ap (λ n. first_fault (closed_by (closes (Some entry)) xs) n ys) e

-- A fault among the first entries is the fault of all.
pub first_fault-append-some : (closed : Bool) (line : ℕ) (xs ys : List (Option Entry)) (fault : StreamFault)
    → first_fault closed line xs ≡ Some fault
    → first_fault closed line (xs ++ ys) ≡ Some fault
unfolding first_fault
first_fault-append-some closed line [] ys fault some = absurd (cc)
first_fault-append-some true line (entry ∷ xs) ys fault some = some
first_fault-append-some false line (None ∷ xs) ys fault some = some
first_fault-append-some false line (Some entry ∷ xs) ys fault some =
    first_fault-append-some (closes (Some entry)) (line + 1) xs ys fault some

-- If all entries have no fault, the first of them have none.
pub first_fault-front-none : (closed : Bool) (line : ℕ) (xs ys : List (Option Entry)) → first_fault closed line (xs ++ ys) ≡ None
    → first_fault closed line xs ≡ None
unfolding first_fault
first_fault-front-none closed line [] ys none = refl
first_fault-front-none true line (entry ∷ xs) ys none = none
first_fault-front-none false line (None ∷ xs) ys none = none
first_fault-front-none false line (Some entry ∷ xs) ys none = first_fault-front-none (closes (Some entry)) (line + 1) xs ys none

-- The last entry of concatenated lists decides whether the log is closed.
pub closed_by-append : (closed : Bool) (xs ys : List (Option Entry)) → closed_by closed (xs ++ ys) ≡ closed_by (closed_by closed xs) ys
closed_by-append closed [] ys = refl
closed_by-append closed (entry ∷ xs) ys = closed_by-append (closes entry) xs ys

-- One step: if the log is closed, the first line is after its end; otherwise it is bad if it has no entry; otherwise the others
-- decide.
pub first_fault-bad : (line : ℕ) (xs : List (Option Entry)) → first_fault false line (None ∷ xs) ≡ Some (BadRecord line)
unfolding first_fault
first_fault-bad line xs = refl

pub first_fault-fine : (line : ℕ) (entry : Entry) (xs : List (Option Entry))
    → first_fault false line (Some entry ∷ xs) ≡ first_fault (closes (Some entry)) (line + 1) xs
unfolding first_fault
first_fault-fine line entry xs = refl

pub first_fault-nil : (closed : Bool) (line : ℕ) → first_fault closed line [] ≡ None
unfolding first_fault
first_fault-nil closed line = refl

-- The fault of the line at this index, if the first line has the number `line`.
abbrev pub IsFaultAt : ℕ → ℕ → StreamFault → Type 0
IsFaultAt line place fault = (fault ≡ AfterClose (line + place)) ⊎ (fault ≡ BadRecord (line + place))

next_place : (line place : ℕ) (fault : StreamFault) → IsFaultAt (line + 1) place fault → IsFaultAt line (place + 1) fault
next_place line place fault (inl is) = let e : line + 1 + place ≡ line + (place + 1) = omega arith in inl (is ∙ ap AfterClose e)
next_place line place fault (inr is) = let e : line + 1 + place ≡ line + (place + 1) = omega arith in inr (is ∙ ap BadRecord e)

-- The index of a fault is within the list.
pub fault_within : (closed : Bool) (line : ℕ) (xs : List (Option Entry)) (fault : StreamFault) → first_fault closed line xs ≡ Some fault
    → (place : ℕ) × (place < length xs) × IsFaultAt line place fault
unfolding first_fault
fault_within closed line [] fault some = absurd (cc)
fault_within true line (entry ∷ xs) fault some =
    let e : line ≡ line + 0 = omega arith in
    let here : fault ≡ AfterClose line = cc in
    (0, omega arith, inl (here ∙ ap AfterClose e))
fault_within false line (None ∷ xs) fault some =
    let e : line ≡ line + 0 = omega arith in
    let here : fault ≡ BadRecord line = cc in
    (0, omega arith, inr (here ∙ ap BadRecord e))
fault_within false line (Some entry ∷ xs) fault some =
    let behind = fault_within (closes (Some entry)) (line + 1) xs fault some in
    (behind.0 + 1, omega arith, next_place line behind.0 fault behind.2)

-- If no line is invalid, each has an entry.
pub each_some : (closed : Bool) (line : ℕ) (xs : List (Option Entry)) → first_fault closed line xs ≡ None
    → map Some (filter_map (λ entry. entry) xs) ≡ xs
unfolding first_fault
each_some closed line [] none = refl
each_some true line (entry ∷ xs) none = absurd (cc)
each_some false line (None ∷ xs) none = absurd (cc)
each_some false line (Some entry ∷ xs) none = ap (λ es. Some entry ∷ es) (each_some (closes (Some entry)) (line + 1) xs none)
