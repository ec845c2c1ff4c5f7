-- A line without colours and links: its bytes that a page shows.
use Rattle.std.specs.Prelude.{ℕ, zero, suc, ◌-◌, List, [], ◌∷◌, if◌then◌else◌}
use Rattle.redo_html.specs.declared.text_kind.TextKind.TheVariants.{Log}
use Rattle.redo_html.specs.Symbols.{is_sequence, sequence_len}

-- The bytes that are in no sequence of a log's text. The first `skipped` bytes belong to the sequence before them.
unfoldable pub plain_after : ℕ → List ℕ → List ℕ
plain_after skipped [] = []
plain_after (suc skipped) (byte ∷ bytes) = plain_after skipped bytes
plain_after zero (byte ∷ bytes) =
    if is_sequence Log (byte ∷ bytes) then plain_after (sequence_len (byte ∷ bytes) - 1) bytes else byte ∷ plain_after 0 bytes

-- A line without colours and links.
abbrev pub plain_line : List ℕ → List ℕ
plain_line line = plain_after 0 line
