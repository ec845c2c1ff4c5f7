-- The window is over the known times.
use Rattle.std.proofs.Common.{◌≡◌, ℕ, Bool, true, false, leb, zero, suc, ◌+◌, ◌-◌, ◌<◌, ◌⊎◌, List, [], ◌∷◌, ◌++◌, Option, None, Some, get_or, length, max, min, inl, inr, refl, sym, ap, ◌∙◌, subst, arith}
use Rattle.std.specs.Prelude.{option_map, option_to_list, unwrap_or}
use Rattle.std.proofs.lemmas.Bool.{leb-true, leb-false}
use Rattle.std.proofs.lemmas.Option.{none-some, same_Some}
use Rattle.redo_timeline.specs.declared.span.Window.{Window}
use Rattle.redo_times.specs.declared.times.Times.{Times}
use Rattle.redo_times.specs.Laws.{IsFirst, IsLast}
use Rattle.redo_times.specs.Times.{earlier, first_time, last_time, later}
use Rattle.redo_outline.specs.declared.node.Node.{Node}
use Rattle.redo_summary.specs.Laws.{HasTime, IsKnown, IsOverTimes}
use Rattle.redo_summary.specs.Summary.{summary_of}
use Rattle.redo_summary.specs.Spans.{targets_from, targets_of}
use Rattle.redo_summary.specs.Targets.{times_of}
use Rattle.redo_summary.specs.Window.{cut, known_times, time_over}

-- ---- times in a list

min_cases : (a b : ℕ) → (min a b ≡ a) ⊎ (min a b ≡ b)
min_cases a b = by (leb a b) refl
  where
    by : (below : Bool) → leb a b ≡ below → (min a b ≡ a) ⊎ (min a b ≡ b)
    by true is = let le = leb-true a b is in inl (omega (arith, le))
    by false is = let lt = leb-false a b is in inr (omega (arith, lt))

max_cases : (a b : ℕ) → (max a b ≡ a) ⊎ (max a b ≡ b)
max_cases a b = by (leb a b) refl
  where
    by : (below : Bool) → leb a b ≡ below → (max a b ≡ a) ⊎ (max a b ≡ b)
    by true is = let le = leb-true a b is in inr (omega (arith, le))
    by false is = let lt = leb-false a b is in inl (omega (arith, lt))

abbrev IsIn : List ℕ → ℕ → Type 0
IsIn [] time = ⊥
IsIn (one ∷ times) time = (one ≡ time) ⊎ IsIn times time

none_in : (times : List ℕ) → first_time times ≡ None → (time : ℕ) → IsIn times time → ⊥
none_in [] none time here = here
none_in (one ∷ times) none time here = none-some (earlier one (first_time times)) (sym none)

first_in : (times : List ℕ) (time : ℕ) → first_time times ≡ Some time → IsFirst (IsIn times) time
first_in [] time is = absurd (none-some time is)
first_in (one ∷ times) time is =
    by (first_time times) refl (same_Some (earlier one (first_time times)) time is) (first_in times)
  where
    by : (others : Option ℕ) → first_time times ≡ others → earlier one others ≡ time
        → ((other : ℕ) → first_time times ≡ Some other → IsFirst (IsIn times) other) → IsFirst (IsIn (one ∷ times)) time
    by None none same behind = record {
      is = inl same;
      none_earlier = λ other here. elim here [ inl own ↦ omega (arith, same, own) | inr there ↦ absurd (none_in times none other there) ];
    }
    by (Some other) some same behind =
        let found = behind other some in
        record {
          is = elim (min_cases one other)
              [ inl own ↦ inl (sym own ∙ same) | inr others ↦ inr (subst (IsIn times) (sym others ∙ same) found.is) ];
          none_earlier = λ next here. elim here
              [ inl own ↦ omega (arith, same, own) | inr there ↦ (let low = found.none_earlier next there in omega (arith, same, low)) ];
        }

last_in : (times : List ℕ) (time : ℕ) → last_time times ≡ Some time → IsLast (IsIn times) time
last_in [] time is = absurd (none-some time is)
last_in (one ∷ times) time is = by (last_time times) refl (same_Some (later one (last_time times)) time is) (last_in times)
  where
    none : (times : List ℕ) → last_time times ≡ None → (time : ℕ) → IsIn times time → ⊥
    none [] lacks time here = here
    none (one ∷ times) lacks time here = none-some (later one (last_time times)) (sym lacks)

    by : (others : Option ℕ) → last_time times ≡ others → later one others ≡ time
        → ((other : ℕ) → last_time times ≡ Some other → IsLast (IsIn times) other) → IsLast (IsIn (one ∷ times)) time
    by None lacks same behind = record {
      is = inl same;
      none_later = λ other here. elim here [ inl own ↦ omega (arith, same, own) | inr there ↦ absurd (none times lacks other there) ];
    }
    by (Some other) some same behind =
        let found = behind other some in
        record {
          is = elim (max_cases one other)
              [ inl own ↦ inl (sym own ∙ same) | inr others ↦ inr (subst (IsIn times) (sym others ∙ same) found.is) ];
          none_later = λ next here. elim here
              [ inl own ↦ omega (arith, same, own) | inr there ↦ (let low = found.none_later next there in omega (arith, same, low)) ];
        }

-- ---- times of targets

module _ (times : List Times) where
  one_known : (began ended : Option ℕ) (rest : List ℕ) (time : ℕ) → IsIn ((option_to_list began ++ option_to_list ended) ++ rest) time
      → ((began ≡ Some time) ⊎ (ended ≡ Some time)) ⊎ IsIn rest time
  one_known None None rest time here = inr here
  one_known None (Some ended) rest time (inl same) = inl (inr (ap Some same))
  one_known None (Some ended) rest time (inr here) = inr here
  one_known (Some began) None rest time (inl same) = inl (inl (ap Some same))
  one_known (Some began) None rest time (inr here) = inr here
  one_known (Some began) (Some ended) rest time (inl same) = inl (inl (ap Some same))
  one_known (Some began) (Some ended) rest time (inr (inl same)) = inl (inr (ap Some same))
  one_known (Some began) (Some ended) rest time (inr (inr here)) = inr here

  own_in : (began ended : Option ℕ) (rest : List ℕ) (time : ℕ) → (began ≡ Some time) ⊎ (ended ≡ Some time)
      → IsIn ((option_to_list began ++ option_to_list ended) ++ rest) time
  own_in None None rest time (inl is) = absurd (none-some time is)
  own_in None None rest time (inr is) = absurd (none-some time is)
  own_in None (Some ended) rest time (inl is) = absurd (none-some time is)
  own_in None (Some ended) rest time (inr is) = inl (same_Some ended time is)
  own_in (Some began) None rest time (inl is) = inl (same_Some began time is)
  own_in (Some began) None rest time (inr is) = absurd (none-some time is)
  own_in (Some began) (Some ended) rest time (inl is) = inl (same_Some began time is)
  own_in (Some began) (Some ended) rest time (inr is) = inr (inl (same_Some ended time is))

  rest_in : (began ended : Option ℕ) (rest : List ℕ) (time : ℕ) → IsIn rest time
      → IsIn ((option_to_list began ++ option_to_list ended) ++ rest) time
  rest_in None None rest time here = here
  rest_in None (Some ended) rest time here = inr here
  rest_in (Some began) None rest time here = inr here
  rest_in (Some began) (Some ended) rest time here = inr (inr here)

  abbrev all_times : ℕ → List Node → List ℕ
  all_times position nodes = known_times (targets_from times position nodes)

  known : (position : ℕ) (nodes : List Node) (time : ℕ) → IsIn (all_times position nodes) time → IsKnown nodes times time
  known position [] time here = absurd here
  known position (node ∷ nodes) time here =
      by (one_known (times_of times node.number).began (times_of times node.number).ended (all_times (position + 1) nodes) time here)
      (known (position + 1) nodes time)
    where
      by : HasTime (times_of times node.number) time ⊎ IsIn (all_times (position + 1) nodes) time
          → (IsIn (all_times (position + 1) nodes) time → IsKnown nodes times time) → IsKnown (node ∷ nodes) times time
      by (inl own) behind = (node, (0, omega arith, refl), own)
      by (inr there) behind =
          let more = behind there in
          let k = more.1.0 in
          let below : k < length nodes = more.1.1 in
          (more.0, (suc k, omega (arith, below), more.1.2), more.2)

  is_known : (position : ℕ) (nodes : List Node) (time : ℕ) (node : Node) (k : ℕ) → k < length nodes → get_or nodes k node ≡ node
      → HasTime (times_of times node.number) time → IsIn (all_times position nodes) time
  is_known position [] time node k below same has = absurd (omega (arith, below))
  is_known position (other ∷ nodes) time node zero below same has =
      own_in (times_of times other.number).began (times_of times other.number).ended (all_times (position + 1) nodes) time
      (subst (λ (n : Node). HasTime (times_of times n.number) time) (sym same) has)
  is_known position (other ∷ nodes) time node (suc k) below same has =
      rest_in (times_of times other.number).began (times_of times other.number).ended (all_times (position + 1) nodes) time
      (is_known (position + 1) nodes time node k (omega (arith, below)) same has)

pub window_is : (nodes : List Node) (times : List Times) (window : Window)
    → (summary_of nodes times).window ≡ Some window → IsOverTimes nodes times (summary_of nodes times).took window
window_is nodes times window is = by (first_time all) refl (last_time all) refl is
  where
    all : List ℕ
    all = known_times (targets_of nodes times)

    over : ℕ → Window
    over began = record { began = began; width = max 1 (time_over all) }

    by : (first : Option ℕ) → first_time all ≡ first → (last : Option ℕ) → last_time all ≡ last → option_map over first ≡ Some window
        → IsOverTimes nodes times (time_over all) window
    by None lacks last last_is found = absurd (none-some window found)
    by (Some first) first_is None lacks found = absurd (none_last all lacks first (first_in all first first_is).is)
      where
        none_last : (times : List ℕ) → last_time times ≡ None → (time : ℕ) → IsIn times time → ⊥
        none_last [] lacks time here = here
        none_last (one ∷ times) lacks time here = none-some (later one (last_time times)) (sym lacks)
    by (Some first) first_is (Some last) last_is found =
        let same = same_Some (over first) window found in
        let least = first_in all first first_is in
        let most = last_in all last last_is in
        subst (IsOverTimes nodes times (time_over all)) same (record {
          begins = record {
            is = known times 0 nodes first least.is;
            none_earlier = λ other has. least.none_earlier other (is_known times 0 nodes other has.0 has.1.0 has.1.1 has.1.2 has.2);
          };
          last = last;
          ends = record {
            is = known times 0 nodes last most.is;
            none_later = λ other has. most.none_later other (is_known times 0 nodes other has.0 has.1.0 has.1.1 has.1.2 has.2);
          };
          lasts = ap (λ (t : Option ℕ). cut (unwrap_or t 0 - unwrap_or (first_time all) 0)) last_is
              ∙ ap (λ (t : Option ℕ). cut (last - unwrap_or t 0)) first_is;
          width = refl;
        })

pub no_window : (nodes : List Node) (times : List Times) (time : ℕ) → (summary_of nodes times).window ≡ None
    → IsKnown nodes times time → ⊥
no_window nodes times time none has =
    by (first_time all) refl none
  where
    all : List ℕ
    all = known_times (targets_of nodes times)

    over : ℕ → Window
    over began = record { began = began; width = max 1 (time_over all) }

    by : (first : Option ℕ) → first_time all ≡ first → option_map over first ≡ None → ⊥
    by None first_is lacks = none_in all first_is time (is_known times 0 nodes time has.0 has.1.0 has.1.1 has.1.2 has.2)
    by (Some first) first_is lacks = none-some (over first) (sym lacks)
