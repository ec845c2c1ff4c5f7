-- Where the text of a log may be cut.
use Rattle.std.specs.Prelude.{ℕ, zero, suc, ◌-◌, Bool, true, false, List, [], ◌∷◌, if◌then◌else◌}
use Rattle.redo_html.specs.declared.text_kind.TextKind.TheVariants.{Log}
use Rattle.redo_html.specs.Symbols.{symbol_len}

-- Whether a symbol begins at an index, or the text ends there. The first `skipped` bytes belong to the symbol before them.
unfoldable pub begins_at : ℕ → ℕ → List ℕ → Bool
begins_at zero zero bytes = true
begins_at zero (suc skipped) bytes = false
begins_at (suc at) skipped [] = false
begins_at (suc at) zero (byte ∷ bytes) = begins_at at (symbol_len Log (byte ∷ bytes) - 1) bytes
begins_at (suc at) (suc skipped) (byte ∷ bytes) = begins_at at skipped bytes

-- Whether a text may be cut at an index: in no character, and in no sequence.
abbrev pub may_cut : List ℕ → ℕ → Bool
may_cut bytes at = begins_at at 0 bytes

-- The last number up to `limit` that passes a test, or 0.
abbrev pub last_where : (ℕ → Bool) → ℕ → ℕ
last_where passes zero = 0
last_where passes (suc limit) = if passes (suc limit) then suc limit else last_where passes limit
