-- The command-line arguments of the process, without the program's name.
use Rattle.std.specs.Prelude.{◌||◌, Bool, false, List, ℕ, [], ◌∷◌, drop, codes, if◌then◌else◌}
use Rattle.std.specs.Str.{bytes_eq}

-- Whether the arguments request explanations: the first one is `--explain`.
abbrev pub requests_explanations : List (List ℕ) → Bool
requests_explanations [] = false
requests_explanations (argument ∷ arguments) = bytes_eq argument (codes "--explain")

-- The arguments that a command line parses: all but a first one that requests explanations.
abbrev pub command_arguments : List (List ℕ) → List (List ℕ)
command_arguments arguments = if requests_explanations arguments then drop 1 arguments else arguments

-- Whether the only argument is `--version` or `-V`.
abbrev pub is_version_alone : List (List ℕ) → Bool
is_version_alone [] = false
is_version_alone (argument ∷ []) = bytes_eq argument (codes "--version") || bytes_eq argument (codes "-V")
is_version_alone (argument ∷ next ∷ arguments) = false

-- Whether the arguments request the version. Explanations may be requested before it.
abbrev pub requests_version : List (List ℕ) → Bool
requests_version arguments = is_version_alone (command_arguments arguments)
