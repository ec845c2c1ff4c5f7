-- The facts about the shown target at a position. If there is none at a position, its name is empty and its status is unknown.
use Rattle.std.specs.Prelude.{ℕ, ◌==◌, List, [], ◌∷◌, Option, None, Some, ℤ, option_and_then, option_map, slice_get}
use Rattle.std.specs.List.{after_last}
use Rattle.redo_logs.specs.Logs.{Log}
use Rattle.redo_outline.specs.declared.node.Node.{Node}
use Rattle.redo_outline.specs.Facts.{name_or_empty, target_at}

abbrev pub name_at : List Log → List Node → ℕ → List ℕ
name_at logs nodes position = name_or_empty (option_map (λ (node : Node). target_at logs node.number) (slice_get nodes position))

abbrev pub status_at : List Node → ℕ → Option ℤ
status_at nodes position = option_and_then (λ (node : Node). node.status) (slice_get nodes position)

-- The part of a name after its last slash. If it has none, this is the name.
abbrev pub after_last_slash : List ℕ → List ℕ
after_last_slash name = after_last (λ byte. byte == 47) name

abbrev pub nonempty : List ℕ → Option (List ℕ)
nonempty [] = None
nonempty (byte ∷ bytes) = Some (byte ∷ bytes)

-- The part of a name after its last slash, if it isn't empty.
abbrev pub last_part : List ℕ → Option (List ℕ)
last_part name = nonempty (after_last_slash name)
