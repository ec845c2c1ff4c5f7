-- What the search for needs ensures.
use Rattle.std.specs.Prelude.{◌≡◌, ◌==◌, not, ℕ, List, [], ◌++◌, Option, None, Some, drop}
use Rattle.std.specs.List.{list_any}
use Rattle.std.specs.Str.{bytes_eq}
use Rattle.redo_diagnostics.specs.Counts.{times_of}
use Rattle.redo_line.specs.declared.entry.Entry.{Entry}
use Rattle.redo_json.specs.Build.{mentions_in, name_if_new, needs_of, new_names}

abbrev pub names_if_new : Option (List ℕ) → List (List ℕ) → List (List ℕ)
names_if_new None before = []
names_if_new (Some name) before = name_if_new name before

-- A set has exactly these names.
abbrev pub AreKnownNames : List (List ℕ) → List (List ℕ) → Type 0
AreKnownNames set names = (name : List ℕ) → list_any (bytes_eq name) set ≡ not (times_of name names == 0)

-- These are the needs that the entries before entry `at` of a target's log have. `before` are the target and the names that they mention.
pub record FoundNeeds (target : List ℕ) (entries : List Entry) (at : ℕ) (names set : List (List ℕ)) : Type 0 where
  pub before : List (List ℕ)
  pub known : AreKnownNames set before
  pub are : names ++ new_names before (mentions_in (drop at entries)) ≡ needs_of target entries
