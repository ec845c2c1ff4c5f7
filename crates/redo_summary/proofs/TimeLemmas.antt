-- The first and the last of some times.
use Rattle.std.proofs.Common.{◌≡◌, ℕ, ◌+◌, ◌<◌, List, [], ◌∷◌, ◌++◌, Option, None, Some, get_or, length, take, refl, sym, ap, ◌∙◌, arith}
use Rattle.std.specs.Prelude.{option_to_list}
use Rattle.std.proofs.lemmas.List.{take_more}
use Rattle.redo_times.specs.Times.{earlier, first_time, last_time, later}
use Rattle.redo_summary.specs.declared.target.Target.{Target}
use Rattle.redo_summary.specs.Private.Times.{first_of, last_of}
use Rattle.redo_summary.specs.Window.{known_times}

-- ---- the first

earlier_first : (time : ℕ) (first other : Option ℕ)
    → Some (earlier time (first_of first other)) ≡ first_of (Some (earlier time first)) other
earlier_first time None None = refl
earlier_first time None (Some c) = refl
earlier_first time (Some b) None = refl
earlier_first time (Some b) (Some c) = ap (λ (n : ℕ). Some n) (omega arith)

first-append : (xs ys : List ℕ) → first_time (xs ++ ys) ≡ first_of (first_time xs) (first_time ys)
first-append [] ys = refl
first-append (x ∷ xs) ys = ap (λ first. Some (earlier x first)) (first-append xs ys) ∙ earlier_first x (first_time xs) (first_time ys)

first_of_two : (began ended : Option ℕ) → first_time (option_to_list began ++ option_to_list ended) ≡ first_of began ended
first_of_two None None = refl
first_of_two None (Some e) = refl
first_of_two (Some b) None = refl
first_of_two (Some b) (Some e) = refl

-- ---- the last

later_last : (time : ℕ) (last other : Option ℕ) → Some (later time (last_of last other)) ≡ last_of (Some (later time last)) other
later_last time None None = refl
later_last time None (Some c) = refl
later_last time (Some b) None = refl
later_last time (Some b) (Some c) = ap (λ (n : ℕ). Some n) (omega arith)

last-append : (xs ys : List ℕ) → last_time (xs ++ ys) ≡ last_of (last_time xs) (last_time ys)
last-append [] ys = refl
last-append (x ∷ xs) ys = ap (λ last. Some (later x last)) (last-append xs ys) ∙ later_last x (last_time xs) (last_time ys)

last_of_two : (began ended : Option ℕ) → last_time (option_to_list began ++ option_to_list ended) ≡ last_of began ended
last_of_two None None = refl
last_of_two None (Some e) = refl
last_of_two (Some b) None = refl
last_of_two (Some b) (Some e) = refl

-- ---- one more target

append-nil : (xs : List ℕ) → xs ++ [] ≡ xs
append-nil [] = refl
append-nil (x ∷ xs) = ap (λ ys. x ∷ ys) (append-nil xs)

append-assoc : (xs ys zs : List ℕ) → (xs ++ ys) ++ zs ≡ xs ++ (ys ++ zs)
append-assoc [] ys zs = refl
append-assoc (x ∷ xs) ys zs = ap (λ ws. x ∷ ws) (append-assoc xs ys zs)

known_last : (targets : List Target) (target : Target)
    → known_times (targets ++ target ∷ []) ≡ known_times targets ++ (option_to_list target.times.began ++ option_to_list target.times.ended)
known_last [] target = append-nil (option_to_list target.times.began ++ option_to_list target.times.ended)
known_last (t ∷ ts) target =
    ap (λ times. (option_to_list t.times.began ++ option_to_list t.times.ended) ++ times) (known_last ts target)
    ∙ sym (append-assoc (option_to_list t.times.began ++ option_to_list t.times.ended) (known_times ts)
    (option_to_list target.times.began ++ option_to_list target.times.ended))

pub first_more : (targets : List Target) (i : ℕ) (d : Target) → i < length targets →
    first_of (first_time (known_times (take i targets))) (first_of (get_or targets i d).times.began (get_or targets i d).times.ended)
    ≡ first_time (known_times (take (i + 1) targets))
first_more targets i d below =
    let target = get_or targets i d in
    sym
    (ap (λ ts. first_time (known_times ts)) (take_more targets i d below) ∙ ap first_time (known_last (take i targets) target)
    ∙ first-append (known_times (take i targets)) _
    ∙ ap (first_of (first_time (known_times (take i targets)))) (first_of_two target.times.began target.times.ended))

pub last_more : (targets : List Target) (i : ℕ) (d : Target) → i < length targets →
    last_of (last_time (known_times (take i targets))) (last_of (get_or targets i d).times.began (get_or targets i d).times.ended)
    ≡ last_time (known_times (take (i + 1) targets))
last_more targets i d below =
    let target = get_or targets i d in
    sym
    (ap (λ ts. last_time (known_times ts)) (take_more targets i d below) ∙ ap last_time (known_last (take i targets) target)
    ∙ last-append (known_times (take i targets)) _
    ∙ ap (last_of (last_time (known_times (take i targets)))) (last_of_two target.times.began target.times.ended))
