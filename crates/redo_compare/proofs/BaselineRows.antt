-- Rows of what changed in the targets of a build.
use Rattle.std.proofs.Common.{◌≡◌, ℕ, Bool, true, false, List, [], ◌∷◌, Option, None, Some, ℤ, pos, refl}
use Rattle.std.specs.Prelude.{codes}
use Rattle.std.specs.List.{AllByRecursion}
use Rattle.redo_line.specs.Decimal.{number}
use Rattle.redo_line.specs.Parts.{after_prefix, split_once}
use Rattle.redo_line.specs.declared.entry.Entry.{Entry}
use Rattle.redo_line.specs.declared.entry.Entry.TheVariants.{Text, Closing, Mention}
use Rattle.redo_line.specs.declared.entry.How.{How}
use Rattle.redo_line.specs.declared.entry.How.TheVariants.{Made, Unchanged}
use Rattle.redo_logs.specs.Logs.{Log}
use Rattle.redo_logs.specs.declared.log_state.LogState.TheVariants.{Ended}
use Rattle.redo_options.specs.declared.options.Options.{Options}
use Rattle.redo_html.specs.Symbols.{is_sequence, sequence_len}
use Rattle.redo_diagnostics.specs.Diagnostic.{before_bracket, diagnostic_of, first_place, masked_after, place_of, split_flag}
use Rattle.redo_diagnostics.specs.Plain.{plain_after}
use Rattle.redo_outline.specs.declared.node.Node.{Node}
use Rattle.redo_view.specs.Expansion.{show_log, show_log_within}
use Rattle.redo_compare.specs.Source.{source_of}
use Rattle.redo_compare.specs.Baseline.{BaselineValue, ChangesValue, baseline_of, baseline_targets, target_changes}

abbrev log : List ℕ → List Entry → Log
log target entries = record { target = target; entries = entries; state = Ended }

abbrev options : Bool → Options
options unchanged = record { recursive = true; unchanged = unchanged; details = true; debug_locks = false; debug_pids = false }

abbrev all : List ℕ
all = codes "all"

abbrev a : List ℕ
a = codes "a"

abbrev b : List ℕ
b = codes "b"

abbrev c : List ℕ
c = codes "c"

abbrev x : Entry
x = Text (codes "error: x")

abbrev y : Entry
y = Text (codes "error: y")

-- The log of `all`, which mentions `a` and `b`.
abbrev log_of_all : How → ℤ → Log
log_of_all how status = log all (Mention 7 Made b ∷ Mention 7 how a ∷ Closing 7 status ∷ [])

-- In the earlier build, `a` failed and therefore `all`. Its index lists `a` before `all`.
abbrev earlier : How → List Log
earlier how = log a (x ∷ y ∷ Closing 7 (pos 1) ∷ []) ∷ log_of_all how (pos 2) ∷ log b (y ∷ Closing 7 (pos 0) ∷ []) ∷ []

-- Now `b` and `c` fail.
abbrev logs : List Log
logs =
    log c (x ∷ Closing 7 (pos 1) ∷ []) ∷ log a (y ∷ Closing 7 (pos 0) ∷ []) ∷ log b (y ∷ y ∷ Closing 7 (pos 1) ∷ [])
    ∷ log_of_all Made (pos 0) ∷ []

abbrev node_of : ℕ → Option ℤ → Bool → Node
node_of number status fails_below = record {
  number = number;
  parent = None;
  status = status;
  lines = 0;
  bytes = 0;
  warnings = 0;
  below = 0;
  children = 0;
  others = true;
  warnings_below = 0;
  fails_below = fails_below;
  silent = 0;
  took = None;
  ended = None;
}

abbrev node : ℕ → ℤ → Bool → Node
node number status fails_below = node_of number (Some status) fails_below

record Row : Type 0 where
  node : Node
  changes : ChangesValue

abbrev row : Node → Bool → List Bool → ℕ → Bool → Bool → Row
row node was_built new gone newly_fails is_fixed = record {
  node = node;
  changes = record { was_built = was_built; new = new; gone = gone; newly_fails = newly_fails; is_fixed = is_fixed };
}

-- `all` failed because of `a`, so it isn't fixed.
abbrev rows : List Row
rows =
    row (node 3 (pos 0) false) true [] 0 false false
    ∷ row (node 1 (pos 0) false) true (false ∷ []) 1 false true
    ∷ row (node_of 1 None false) true (false ∷ []) 1 false false
    ∷ row (node 2 (pos 1) false) true (false ∷ true ∷ []) 0 true false
    ∷ row (node 2 (pos 1) true) true (false ∷ true ∷ []) 0 false false
    ∷ row (node 0 (pos 1) false) false (true ∷ []) 0 true false
    ∷ []

abbrev baseline : How → Bool → List (List ℕ) → BaselineValue
baseline how unchanged requested = baseline_of (earlier how) (options unchanged) requested

these_targets : AllByRecursion (λ (requested : List (List ℕ) × List (List ℕ)). baseline_targets (earlier Made) requested.0 ≡ requested.1) (
    ([], a ∷ all ∷ b ∷ [])
    ∷ (all ∷ [], all ∷ a ∷ all ∷ b ∷ [])
    ∷ (c ∷ b ∷ codes "A" ∷ all ∷ [], b ∷ all ∷ a ∷ all ∷ b ∷ [])
    ∷ []
    )
these_targets = (refl, (refl, (refl, tt)))

these_changes : AllByRecursion (λ (r : Row). target_changes (baseline Made false (all ∷ c ∷ [])) logs r.node ≡ r.changes) rows
unfolding show_log show_log_within after_prefix split_once number is_sequence sequence_len plain_after first_place place_of before_bracket split_flag masked_after diagnostic_of source_of
these_changes = (refl, (refl, (refl, (refl, (refl, (refl, tt))))))

-- If the baseline showed `a` before `all`, or not the unchanged `a` in `all`, `all` would have failed without a failure below it.
abbrev of_all : BaselineValue → ChangesValue
of_all baseline = target_changes baseline logs (node 3 (pos 0) false)

these_outlines : (of_all (baseline Made false (a ∷ [])) ≡ (row (node 3 (pos 0) false) true [] 0 false true).changes)
    × (of_all (baseline Unchanged false (all ∷ [])) ≡ (row (node 3 (pos 0) false) true [] 0 false true).changes)
    × (of_all (baseline Unchanged true (all ∷ [])) ≡ (row (node 3 (pos 0) false) true [] 0 false false).changes)
unfolding show_log show_log_within after_prefix split_once number is_sequence sequence_len plain_after first_place place_of before_bracket split_flag masked_after diagnostic_of source_of
these_outlines = (refl, refl, refl)

-- Without an earlier log, all is new, and each failure without one below.
these_alone : AllByRecursion (λ (r : Row). target_changes (record { logs = []; nodes = [] }) logs r.node ≡ r.changes) (
    row (node 3 (pos 0) false) false [] 0 false false
    ∷ row (node 1 (pos 0) false) false (true ∷ []) 0 false false
    ∷ row (node 2 (pos 1) false) false (true ∷ true ∷ []) 0 true false
    ∷ []
    )
unfolding show_log show_log_within after_prefix split_once number is_sequence sequence_len plain_after first_place place_of before_bracket split_flag masked_after diagnostic_of source_of
these_alone = (refl, (refl, (refl, tt)))
