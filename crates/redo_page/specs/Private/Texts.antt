-- Many text lines at once.
use Rattle.std.specs.Prelude.{◌≡◌, ℕ, ◌+◌, ◌≤◌, ◌<◌, ◌⊎◌, List, [], ◌∷◌, ◌++◌, Option, length, take, drop}
use Rattle.redo_device.specs.Sink.{Output, append_output}
use Rattle.redo_html.specs.Parts.{Part}
use Rattle.redo_line.specs.Lines.{ended, rest}
use Rattle.redo_page.specs.declared.block.Block.{Block}
use Rattle.redo_page.specs.declared.block.Pending.{Pending}
use Rattle.redo_page.specs.declared.texts.Chunk.{Chunk}
use Rattle.redo_page.specs.Blocks.{max_block_bytes, max_block_lines}
use Rattle.redo_page.specs.Private.Streaming.{after_line, block_for, line_parts, line_size}

abbrev pub lines_parts : Pending → List (List ℕ) → List Part
lines_parts before [] = []
lines_parts before (line ∷ lines) = line_parts before line ++ lines_parts (after_line before line) lines

abbrev pub after_lines : Pending → List (List ℕ) → Pending
after_lines before [] = before
after_lines before (line ∷ lines) = after_lines (after_line before line) lines

-- The first `size` bytes are one line with its line feed.
pub record IsFirstLine (bytes : List ℕ) (size : ℕ) : Type 0 where
  pub within : size ≤ length bytes
  pub complete : rest (take size bytes) ≡ []
  pub line : List ℕ
  pub is : ended (take size bytes) ≡ line ∷ []
  pub size_is : line_size line ≡ size

-- Whether `count` lines, at least one, of `len` bytes go into a block: either one line, or lines that fit into it.
abbrev pub GoInto : Block → ℕ → ℕ → Type 0
GoInto block len count = (count ≡ 1) ⊎ ((block.lines + count ≤ max_block_lines) × (block.bytes + len ≤ max_block_bytes))

-- These bytes are lines, as many as the chunk says, that go into one block. The first one has the size `first`.
pub record AreChunk (block : Block) (first : ℕ) (bytes : List ℕ) (count : ℕ) : Type 0 where
  pub complete : rest bytes ≡ []
  pub line : List ℕ
  pub others : List (List ℕ)
  pub are : ended bytes ≡ line ∷ others
  pub first_is : line_size line ≡ first
  pub count_is : length (line ∷ others) ≡ count
  pub fit : GoInto block (length bytes) count

-- A chunk is at the start of some bytes.
pub record BeginsChunk (before : Pending) (bytes : List ℕ) (chunk : Chunk) : Type 0 where
  pub some : 0 < chunk.len
  pub within : chunk.len ≤ length bytes
  pub complete : rest (drop chunk.len bytes) ≡ []
  pub are : AreChunk (block_for before chunk.first) chunk.first (take chunk.len bytes) chunk.count

-- Everything of a text except `left` was written, and no write failed.
pub record WroteUpTo (before after : Option Output) (text left : List ℕ) : Type 0 where
  pub prefix : List ℕ
  pub wrote : after ≡ append_output before prefix 0
  pub splits : prefix ++ left ≡ text
