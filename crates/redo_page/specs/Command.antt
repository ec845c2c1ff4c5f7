-- The command that writes the same logs as one text.
use Rattle.std.specs.Prelude.{ℕ, ◌+◌, ◌/◌, ◌%◌, ◌==◌, ◌||◌, ◌&&◌, not, nat_eq, nat_le, Bool, true, false, List, [], ◌∷◌, ◌++◌, length, codes, if◌then◌else◌}
use Rattle.std.specs.List.{flat_map, list_all, starts_with}
use Rattle.redo_html.specs.Laws.{is_printable_ascii}
use Rattle.redo_html.specs.Shown.{is_printable}
use Rattle.redo_options.specs.declared.options.Options.{Options}

-- A shell reads these bytes as themselves.
unfoldable pub is_safe : ℕ → Bool
is_safe byte =
    (nat_le 97 byte && nat_le byte 122) || ((nat_le 64 byte && nat_le byte 90) || (nat_le 43 byte && nat_le byte 58) || (byte == 37 || byte == 61 || byte == 95))

abbrev pub is_safe_word : List ℕ → Bool
is_safe_word word = not (length word == 0) && list_all is_safe word

abbrev pub quoted_byte : ℕ → List ℕ
quoted_byte byte = if byte == 39 then codes "'\\''" else byte ∷ []

abbrev pub in_quotes : List ℕ → List ℕ
in_quotes word = 39 ∷ (flat_map quoted_byte word ++ 39 ∷ [])

-- A byte in the format of `printf`: three octal digits after a backslash, unless it is a letter, a digit or the like.
abbrev pub octal : ℕ → List ℕ
octal byte = 92 ∷ (48 + byte / 64) ∷ (48 + byte / 8 % 8) ∷ (48 + byte % 8) ∷ []

abbrev pub format_byte : ℕ → List ℕ
format_byte byte = if is_safe byte && not (byte == 37 || byte == 45) then byte ∷ [] else octal byte

-- A word as the output of `printf`.
abbrev pub printed : List ℕ → List ℕ
printed word = codes "\"$(printf '" ++ (flat_map format_byte word ++ codes "')\"")

-- A word of a command for a shell: as it is, if a shell changes none of its bytes; otherwise in quotes, or printed if only ASCII is allowed.
abbrev pub quoted : Bool → List ℕ → List ℕ
quoted ascii word =
    if is_safe_word word then word else if ascii && not (list_all is_printable_ascii word) then printed word else in_quotes word

-- The name of a target as an argument. With `-` in front it would be an option.
abbrev pub argument : Bool → List ℕ → List ℕ
argument ascii name = codes " " ++ ((if starts_with nat_eq name (codes "-") then codes "./" else []) ++ quoted ascii name)

abbrev pub text_if : Bool → List ℕ → List ℕ
text_if condition text = if condition then text else []

abbrev pub command_in : Bool → List ℕ → Options → List (List ℕ) → List ℕ
command_in ascii dir options requested =
    codes "redo-log -r" ++ (text_if options.unchanged (codes " -u") ++ (text_if options.debug_locks (codes " --debug-locks")
    ++ (codes " --dir=" ++ (quoted ascii dir ++ flat_map (argument ascii) requested))))

-- The command that writes the same as one text. It has only ASCII if a page would show it changed otherwise.
abbrev pub command : List ℕ → Options → List (List ℕ) → List ℕ
command dir options requested =
    if is_printable (command_in false dir options requested) then command_in false dir options requested
    else command_in true dir options requested
