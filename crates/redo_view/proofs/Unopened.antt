-- The number of logs that are left to open.
use Rattle.std.specs.Prelude.{ℕ, ◌+◌, Bool, true, false, List, [], ◌∷◌}
use Rattle.redo_logs.specs.Logs.{Log, targets_of}
use Rattle.redo_view.specs.Expansion.{is_among}

abbrev pub one_unless : Bool → ℕ
one_unless true = 0
one_unless false = 1

-- The number of names that are not among others.
abbrev pub not_among : List (List ℕ) → List (List ℕ) → ℕ
not_among others [] = 0
not_among others (name ∷ names) = one_unless (is_among name others) + not_among others names

-- The number of logs that are not opened yet.
abbrev pub left : List Log → List (List ℕ) → ℕ
left logs opened = not_among opened (targets_of logs)
