-- Rows of how targets ended before and now.
use Rattle.std.proofs.Common.{◌≡◌, ℕ, Bool, true, false, List, [], ◌∷◌, Option, None, Some, ℤ, pos, negsuc, refl}
use Rattle.std.specs.List.{AllByRecursion}
use Rattle.redo_outline.specs.declared.node.Node.{Node}
use Rattle.redo_compare.specs.declared.outcome.Outcome.{Outcome}
use Rattle.redo_compare.specs.Outcomes.{is_fixed, newly_fails, outcome_in}

record Row : Type 0 where
  before : Option Outcome
  now : Option Outcome
  fails : Bool
  fixed : Bool

abbrev ended : Option ℤ → Bool → Option Outcome
ended status fails_below = Some (record { status = status; fails_below = fails_below })

abbrev failed : Option Outcome
failed = ended (Some (pos 1)) false

abbrev killed : Option Outcome
killed = ended (Some (negsuc 8)) false

abbrev dependent : Option Outcome
dependent = ended (Some (pos 2)) true

abbrev succeeded : Option Outcome
succeeded = ended (Some (pos 0)) false

abbrev tolerant : Option Outcome
tolerant = ended (Some (pos 0)) true

abbrev unknown : Option Outcome
unknown = ended None false

abbrev row : Option Outcome → Option Outcome → Bool → Bool → Row
row before now fails fixed = record { before = before; now = now; fails = fails; fixed = fixed }

abbrev Ends : Row → Type 0
Ends row = (newly_fails row.before row.now ≡ row.fails) × (is_fixed row.before row.now ≡ row.fixed)

abbrev rows : List Row
rows =
    row succeeded failed true false ∷
    row succeeded killed true false ∷
    row succeeded dependent false false ∷
    row unknown failed true false ∷
    row None failed true false ∷
    row failed failed false false ∷
    row killed failed false false ∷
    row dependent failed false false ∷
    row failed succeeded false true ∷
    row killed tolerant false true ∷
    row dependent succeeded false false ∷
    row failed unknown false false ∷
    row failed None false false ∷
    row None succeeded false false ∷
    row succeeded succeeded false false ∷
    []

these_ends : AllByRecursion Ends rows
these_ends = (
  (refl, refl),
  (
    (refl, refl),
    (
      (refl, refl),
      (
        (refl, refl),
        (
          (refl, refl),
          (
            (refl, refl),
            (
              (refl, refl),
              (
                (refl, refl),
                (
                  (refl, refl),
                  ((refl, refl), ((refl, refl), ((refl, refl), ((refl, refl), ((refl, refl), ((refl, refl), tt)))))),
                ),
              ),
            ),
          ),
        ),
      ),
    ),
  ),
)

-- The node of a log.
abbrev node : ℕ → Option ℤ → Bool → Node
node number status fails_below = record {
  number = number;
  parent = None;
  status = status;
  lines = 3;
  bytes = 20;
  warnings = 1;
  below = 1;
  children = 1;
  others = true;
  warnings_below = 0;
  fails_below = fails_below;
  silent = 0;
  took = None;
  ended = None;
}

abbrev nodes : List Node
nodes = node 4 (Some (pos 2)) true ∷ node 7 (Some (pos 0)) false ∷ node 0 None false ∷ []

these_outcomes : (outcome_in nodes (Some 4) ≡ dependent) × (outcome_in nodes (Some 7) ≡ succeeded) × (outcome_in nodes (Some 0) ≡ unknown)
    × (outcome_in nodes (Some 1) ≡ None) × (outcome_in nodes None ≡ None)
these_outcomes = (refl, refl, refl, refl, refl)
