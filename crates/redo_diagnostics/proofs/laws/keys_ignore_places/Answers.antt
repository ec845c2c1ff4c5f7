use Rattle.std.proofs.Common.{Some, ◌++◌, ◌∷◌, sym, ◌∙◌, ap}
use Rattle.std.specs.Prelude.{codes, option_map}
use Rattle.std.proofs.lemmas.List.{append_assoc}
use Rattle.redo_line.specs.Record.{space}
use Rattle.redo_diagnostics.specs.Diagnostic.{key_of, masked, parts_in, word_of}
use Rattle.redo_diagnostics.specs.Laws.{written_place}
use Rattle.redo_diagnostics.proofs.PlaceLaws.{key_at}
use Rattle.redo_diagnostics.proofs.laws.keys_ignore_places.Goals as goal

pub returns : goal.returns
returns c = λ file message line severity at.
    ap (λ plain. option_map key_of (parts_in plain))
    (at.whole ∙ append_assoc (written_place file at.row at.column) (word_of severity) (space ∷ message))
    ∙ key_at file at.row message at.column severity at.file_no_colon at.row_digits at.column_digits
    ∙ ap (λ text. Some (masked text)) (sym (append_assoc (file ++ codes ": ") (word_of severity) (space ∷ message)))
