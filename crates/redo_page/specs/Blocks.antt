-- Text lines in blocks: a browser lays out only the blocks that are in sight.
use Rattle.std.specs.Prelude.{ℕ, ◌&&◌, nat_le, Bool, List, [], ◌∷◌, ◌++◌, length, if◌then◌else◌}
use Rattle.std.specs.List.{flat_map}
use Rattle.redo_html.specs.declared.markup.Markup.TheVariants.{Pre, EndPre, Item, EndItem}
use Rattle.redo_html.specs.Lines.{line_parts}
use Rattle.redo_html.specs.Style.{plain_style}
use Rattle.redo_html.specs.Parts.{Part}
use Rattle.redo_html.specs.Parts.Part.{MarkupPart}
use Rattle.redo_outline.specs.Facts.{text_size}

abbrev pub max_block_lines : ℕ
max_block_lines = 500

abbrev pub max_block_bytes : ℕ
max_block_bytes = 65536

-- Whether lines fit into one block together.
abbrev pub fit_together : List (List ℕ) → Bool
fit_together lines = nat_le (length lines) max_block_lines && nat_le (text_size lines) max_block_bytes

-- The blocks of lines that follow a block. A line is added to the block before it if it fits, and begins a new one otherwise.
abbrev pub blocks_from : List (List ℕ) → List (List ℕ) → List (List (List ℕ))
blocks_from block [] = block ∷ []
blocks_from block (line ∷ lines) =
    if fit_together (block ++ line ∷ []) then blocks_from (block ++ line ∷ []) lines else block ∷ blocks_from (line ∷ []) lines

abbrev pub blocks_of : List (List ℕ) → List (List (List ℕ))
blocks_of [] = []
blocks_of (line ∷ lines) = blocks_from (line ∷ []) lines

-- A block. A style lasts until its end.
abbrev pub lines_block : List (List ℕ) → List Part
lines_block lines = MarkupPart Pre ∷ (line_parts plain_style lines ++ MarkupPart EndPre ∷ [])

-- The item of text lines that follow each other.
abbrev pub text_item : List (List ℕ) → List Part
text_item lines = MarkupPart Item ∷ (flat_map lines_block (blocks_of lines) ++ MarkupPart EndItem ∷ [])
