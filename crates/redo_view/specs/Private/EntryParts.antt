-- Parts of the text of an entry.
use Rattle.std.specs.Prelude.{ℕ, ℤ, List, ◌++◌, Some, codes}
use Rattle.std.specs.Fmt.{signed_decimal}
use Rattle.redo_options.specs.declared.options.Options.{Options}
use Rattle.redo_view.specs.Text.{redo_line}

-- The text after the name of a failed target.
abbrev pub exit_suffix : ℤ → List ℕ
exit_suffix status = codes " (exit " ++ signed_decimal status ++ codes ")"

abbrev pub check_text : Options → ℕ → ℕ → List ℕ → List ℕ
check_text options depth pid text = redo_line options depth (Some pid) (codes "(" ++ text ++ codes ")")
