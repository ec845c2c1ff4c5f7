-- Rows of files and the facts of one target.
use Rattle.std.proofs.Common.{◌≡◌, ℕ, true, false, List, [], ◌∷◌, ◌++◌, Option, None, Some, refl}
use Rattle.std.specs.Prelude.{codes}
use Rattle.std.specs.List.{AllByRecursion, flat_map}
use Rattle.redo_line.specs.Decimal.{number}
use Rattle.redo_line.specs.Lines.{ended, split_lines, with_line_feed}
use Rattle.redo_line.specs.Parts.{split_once}
use Rattle.redo_name.specs.Names.{normal, reduce_suffix}
use Rattle.redo_facts.specs.declared.statement.Usage.{Usage}
use Rattle.redo_facts.specs.Facts.{RecipeCommand, RecipeFacts, facts_of}
use Rattle.redo_facts.specs.Statement.{statement_of}

abbrev usage : ℕ → ℕ → ℕ → Option Usage
usage user system peak = Some (record { user_ms = user; system_ms = system; peak_kb = peak })

abbrev whole : List ℕ → RecipeCommand
whole text = record { text = text; is_whole = true }

abbrev first_part : List ℕ → RecipeCommand
first_part text = record { text = text; is_whole = false }

record Row : Type 0 where
  lines : List (List ℕ)
  last : List ℕ
  facts : RecipeFacts

-- A file with these lines, and the facts of the target `a`, which has number 7.
abbrev gives : List (List ℕ) → Option (List ℕ) → List RecipeCommand → Option Usage → Row
gives lines directory commands took =
    record { lines = lines; last = []; facts = record { has_log = true; directory = directory; commands = commands; usage = took } }

abbrev gives_none : List (List ℕ) → Row
gives_none lines =
    record { lines = lines; last = []; facts = record { has_log = false; directory = None; commands = []; usage = None } }

abbrev HasFacts : Row → Type 0
HasFacts row = facts_of 7 (codes "a") (ended (flat_map with_line_feed row.lines ++ row.last)) ≡ row.facts

-- The examples of docs/format.md.
abbrev rows : List Row
rows =
    gives_none [] ∷
    gives (codes "7 log a" ∷ codes "7 directory d/e" ∷ codes "7 command x y" ∷ codes "7 usage 30 5 2000" ∷ [])
    (Some (codes "d/e")) (whole (codes "x y") ∷ []) (usage 30 5 2000) ∷
    gives (codes "7 log ./a" ∷ codes "7 command x" ∷ codes "7 more  y" ∷ codes "7 more " ∷ codes "7 command z" ∷ [])
    None (whole (codes "x" ++ 10 ∷ codes " y" ++ 10 ∷ []) ∷ whole (codes "z") ∷ []) None ∷
    gives (codes "7 log a" ∷ codes "7 truncated x" ∷ codes "7 more y" ∷ []) None (first_part (codes "x" ++ 10 ∷ codes "y") ∷ []) None ∷
    gives (codes "7 log a" ∷ codes "7 command " ∷ []) None (whole [] ∷ []) None ∷
    gives (codes "7 log a" ∷ codes "7 command x" ∷ codes "70 command z" ∷ codes "7 directory d" ∷ codes "7 more y" ∷ [])
    (Some (codes "d")) (whole (codes "x" ++ 10 ∷ codes "y") ∷ []) None ∷
    gives (codes "7 log a" ∷ codes "7 directory d" ∷ codes "7 usage 1 2 3" ∷ codes "7 directory /e" ∷ codes "7 usage 04 5 6" ∷ [])
    (Some (codes "/e")) [] (usage 4 5 6) ∷
    gives (codes "7 log b" ∷ codes "7 command x" ∷ codes "7 log a" ∷ codes "7 usage 0 0 1" ∷ []) None [] (usage 0 0 1) ∷
    gives (codes "7 log a" ∷ codes "7 command x" ∷ codes "7 log a" ∷ codes "7 more y" ∷ []) None [] None ∷
    gives_none (codes "7 log a" ∷ codes "7 command x" ∷ codes "7 log b" ∷ codes "7 command y" ∷ []) ∷
    gives_none (codes "7 command x" ∷ codes "8 log a" ∷ codes "8 command x" ∷ []) ∷
    record {
      lines = codes "7 log a" ∷ [];
      last = codes "7 usage 1 2 3";
      facts = record { has_log = true; directory = None; commands = []; usage = None };
    } ∷
    gives (codes "7 log a" ∷ codes "7 usage 1 2" ∷ codes "7 usage 1  2 3" ∷ codes "7 usage 1 2 3 " ∷ codes "7 usage 1 2 -3" ∷ [])
    None [] None ∷
    gives (codes "7 log a" ∷ codes "7 usage 1 2 1234567890123456" ∷ codes "7 usage 999999999999999 2 3" ∷ [])
    None [] (usage 999999999999999 2 3) ∷
    gives (codes "7 log a" ∷ codes "07 command x" ∷ codes "7 command" ∷ codes "7 Command x" ∷ codes "7 directory "
    ∷ codes " 7 usage 1 2 3" ∷ []) None [] None ∷
    gives (codes "7 log a" ∷ codes "7 command x" ∷ codes "7 log " ∷ [] ∷ []) None (whole (codes "x") ∷ []) None ∷
    []

these_rows : AllByRecursion HasFacts rows
unfolding split_lines ended split_once normal reduce_suffix number statement_of
these_rows =
    (refl, (refl, (refl, (refl, (refl, (refl, (refl, (refl, (refl, (refl, (refl, (refl, (refl, (refl, (refl, (refl, tt))))))))))))))))

-- Further rows: `more` without a command and after other facts, and facts before the `log` line.
abbrev others : List Row
others =
    gives (codes "7 log a" ∷ codes "7 more x" ∷ codes "7 command y" ∷ codes "7 usage 1 2 3" ∷ codes "7 more z" ∷ codes "7 truncated u"
    ∷ codes "7 more v" ∷ codes "7 more w" ∷ [])
    None (whole (codes "y" ++ 10 ∷ codes "z") ∷ first_part (codes "u" ++ 10 ∷ codes "v" ++ 10 ∷ codes "w") ∷ []) (usage 1 2 3) ∷
    gives (codes "7 directory d" ∷ codes "7 command x" ∷ codes "7 usage 1 2 3" ∷ codes "7 log a" ∷ []) None [] None ∷
    gives (codes "7 log a" ∷ codes "7 log  b" ∷ codes "7 log b/../a" ∷ codes "7 usage 7 8 9" ∷ codes "7 usage 0000000000000001 8 9" ∷ [])
    None [] (usage 7 8 9) ∷
    gives (codes "7 log a" ∷ codes "7 directory  d " ∷ codes "7 command  x " ∷ []) (Some (codes " d ")) (whole (codes " x ") ∷ []) None ∷
    gives_none (codes "7 log a" ∷ codes "7 log ../a" ∷ codes "7 command x" ∷ []) ∷
    []

these_others : AllByRecursion HasFacts others
unfolding split_lines ended split_once normal reduce_suffix number statement_of
these_others = (refl, (refl, (refl, (refl, (refl, tt)))))
