-- Durations in the units of their ranges.
use Rattle.std.proofs.Common.{◌≡◌, ℕ, ◌/◌, ◌%◌, ◌<◌, ◌≤◌, Bool, true, false, List, [], ◌∷◌, refl, ap, ◌∙◌, arith}
use Rattle.std.specs.Prelude.{codes, nat_lt, if◌then◌else◌}
use Rattle.std.proofs.lemmas.Bool.{le-ltb, lt-ltb}
use Rattle.redo_units.specs.Durations.{AreTenths, AreUnits, duration_words}
use Rattle.redo_units.specs.Words.{WordValue}

chosen : {X : Type 0} (b : Bool) (x y : X) → b ≡ true → (if b then x else y) ≡ x
chosen b x y is = ap (λ c. if c then x else y) is

other : {X : Type 0} (b : Bool) (x y : X) → b ≡ false → (if b then x else y) ≡ y
other b x y is = ap (λ c. if c then x else y) is

pub in_hundredths : (ms : ℕ) → ms < 10000 → AreUnits ms 1000 10 (codes ".") (codes " s") (duration_words ms)
unfolding duration_words
in_hundredths ms below = record {
  whole = ms / 1000;
  part = ms / 10 % 100;
  is = record { least = omega arith; most = omega arith; fits = omega arith };
  words_are = chosen (nat_lt ms 10000) _ _ (lt-ltb ms 10000 below);
}

pub in_tenths : (ms : ℕ) → 10000 ≤ ms → ms < 60000 → AreTenths ms (duration_words ms)
unfolding duration_words
in_tenths ms least below = record {
  whole = ms / 1000;
  part = ms / 100 % 10;
  is = record { least = omega arith; most = omega arith; fits = omega arith };
  words_are = other (nat_lt ms 10000) _ _ (le-ltb ms 10000 least) ∙ chosen (nat_lt ms 60000) _ _ (lt-ltb ms 60000 below);
}

pub in_seconds : (ms : ℕ) → 60000 ≤ ms → ms < 3600000
    → AreUnits ms 60000 1000 (codes " min ") (codes " s") (duration_words ms)
unfolding duration_words
in_seconds ms least below = record {
  whole = ms / 60000;
  part = ms / 1000 % 60;
  is = record { least = omega arith; most = omega arith; fits = omega arith };
  words_are = other (nat_lt ms 10000) _ _ (le-ltb ms 10000 (omega (arith, least)))
      ∙ other (nat_lt ms 60000) _ _ (le-ltb ms 60000 least) ∙ chosen (nat_lt ms 3600000) _ _ (lt-ltb ms 3600000 below);
}

pub in_minutes : (ms : ℕ) → 3600000 ≤ ms → AreUnits ms 3600000 60000 (codes " h ") (codes " min") (duration_words ms)
unfolding duration_words
in_minutes ms least = record {
  whole = ms / 3600000;
  part = ms / 60000 % 60;
  is = record { least = omega arith; most = omega arith; fits = omega arith };
  words_are = other (nat_lt ms 10000) _ _ (le-ltb ms 10000 (omega (arith, least)))
      ∙ other (nat_lt ms 60000) _ _ (le-ltb ms 60000 (omega (arith, least)))
      ∙ other (nat_lt ms 3600000) _ _ (le-ltb ms 3600000 least);
}
