-- Text lines in blocks.
use Rattle.std.proofs.Common.{◌≡◌, ℕ, suc, ◌+◌, ◌<◌, ◌≤◌, true, inl, inr, List, [], ◌∷◌, ◌++◌, length, take, drop, refl, sym, ◌∙◌, ap, subst, arith}
use Rattle.std.specs.Prelude.{nat_lt, nat_le}
use Rattle.std.specs.List.{flat_map}
use Rattle.std.proofs.lemmas.Bool.{and_from, lt-ltb, le-leb}
use Rattle.std.proofs.lemmas.List.{append_assoc, append-nil, length-append, length-drop, length-take, take-append-drop}
use Rattle.std.proofs.lemmas.List.Concat.{flat_map-append}
use Rattle.std.proofs.Math.Seq.{take-add}
use Rattle.memchr.specs.Find.{Passes, Nowhere, NoneBefore, is_byte}
use Rattle.redo_html.specs.Lines.{style_after, style_after_lines, lines_html}
use Rattle.redo_html.specs.Lines as html
use Rattle.redo_html.specs.Parts.{Part, part_html}
use Rattle.redo_line.specs.Lines.{ended, rest, with_line_feed}
use Rattle.redo_line.proofs.CutLemmas.{free_before, holds_none, upto_feed}
use Rattle.redo_line.proofs.LineLemmas.{ended-append, rest-append, ended-free, ended-line, rest-free, rest-line, are_lines}
use Rattle.redo_page.specs.declared.block.Block.{Block}
use Rattle.redo_page.specs.declared.block.Pending.{Pending}
use Rattle.redo_page.specs.declared.block.Pending.TheVariants as pending
use Rattle.redo_page.specs.Blocks.{max_block_bytes, max_block_lines}
use Rattle.redo_page.specs.Private.Streaming.{after_line, block_for, fits, line_part, line_parts, line_size, line_start, with_line}
use Rattle.redo_page.specs.Private.Texts.{AreChunk, BeginsChunk, GoInto, IsFirstLine, after_lines, lines_parts}

-- ---- the first line

pub first_found : (bytes : List ℕ) (at : ℕ) → NoneBefore (Passes (is_byte 10) bytes) 0 (length bytes) at × Passes (is_byte 10) bytes at
    → IsFirstLine bytes (at + 1)
first_found bytes at found =
    let below = found.0.high in
    let free = free_before bytes at found.0.before in
    let is = upto_feed bytes at found.0.high found.1 in
    let size = length-take at bytes in
    record {
      within = omega (arith, below);
      complete = ap rest is ∙ rest-line (take at bytes) [] free ∙ rest-free [] tt;
      line = take at bytes;
      is = ap ended is ∙ ended-line (take at bytes) [] free ∙ ap (λ (ls : List (List ℕ)). take at bytes ∷ ls) (ended-free [] tt);
      size_is = omega (arith, below, size);
    }

-- ---- the size of lines

abbrev pub sizes : List (List ℕ) → ℕ
sizes [] = 0
sizes (line ∷ lines) = line_size line + sizes lines

lines_length : (lines : List (List ℕ)) → length (flat_map with_line_feed lines) ≡ sizes lines
lines_length [] = refl
lines_length (line ∷ lines) =
    let two = length-append (with_line_feed line) (flat_map with_line_feed lines) in
    let one = length-append line (10 ∷ []) in
    let others = lines_length lines in
    omega (arith, two, one, others)

pub complete_length : (bytes : List ℕ) → rest bytes ≡ [] → length bytes ≡ sizes (ended bytes)
complete_length bytes complete =
    ap length ((are_lines bytes).whole ∙ ap (λ (r : List ℕ). flat_map with_line_feed (ended bytes) ++ r) complete
    ∙ append-nil (flat_map with_line_feed (ended bytes))) ∙ lines_length (ended bytes)

-- ---- lines that fit into a block

line_fits : (block : Block) (size : ℕ) → block.lines < max_block_lines → block.bytes + size ≤ max_block_bytes → fits block size ≡ true
line_fits block size few small = and_from (nat_lt block.lines max_block_lines) (nat_le (block.bytes + size) max_block_bytes)
    (lt-ltb block.lines max_block_lines few) (le-leb (block.bytes + size) max_block_bytes small)

pub fitting_parts : (block : Block) (lines : List (List ℕ)) → block.lines + length lines ≤ max_block_lines
    → block.bytes + sizes lines ≤ max_block_bytes → lines_parts (pending.Text block) lines ≡ html.line_parts block.style lines
fitting_parts block [] few small = refl
fitting_parts block (line ∷ lines) few small =
    rw (line_fits block (line_size line) (omega (arith, few)) (omega (arith, small)))
    (ap (λ (ps : List Part). line_part block.style line ∷ ps)
    (fitting_parts (with_line block line) lines (omega (arith, few)) (omega (arith, small))))

abbrev with_lines : Block → List (List ℕ) → Block
with_lines block lines = record {
  lines = block.lines + length lines;
  bytes = block.bytes + sizes lines;
  style = style_after_lines block.style lines;
}

same_block : (lines bytes : ℕ) (others : Block) → others.lines ≡ lines → others.bytes ≡ bytes
    → pending.Text others ≡ pending.Text (record { lines = lines; bytes = bytes; style = others.style })
same_block lines bytes others is_lines is_bytes =
    ap (λ (n : ℕ). pending.Text (record { lines = n; bytes = others.bytes; style = others.style })) is_lines
    ∙ ap (λ (n : ℕ). pending.Text (record { lines = lines; bytes = n; style = others.style })) is_bytes

pub after_fitting : (block : Block) (lines : List (List ℕ)) → block.lines + length lines ≤ max_block_lines
    → block.bytes + sizes lines ≤ max_block_bytes → after_lines (pending.Text block) lines ≡ pending.Text (with_lines block lines)
after_fitting block [] few small = same_block (block.lines + 0) (block.bytes + 0) block (omega arith) (omega arith)
after_fitting block (line ∷ lines) few small =
    rw (line_fits block (line_size line) (omega (arith, few)) (omega (arith, small)))
    (after_fitting (with_line block line) lines (omega (arith, few)) (omega (arith, small))
    ∙ same_block (block.lines + suc (length lines)) (block.bytes + (line_size line + sizes lines)) (with_lines (with_line block line) lines)
    (omega arith) (omega arith))

-- ---- a chunk

module _ (block : Block) (line : List ℕ) where
  others_parts : (others : List (List ℕ)) → GoInto block (line_size line + sizes others) (suc (length others))
      → lines_parts (pending.Text (with_line block line)) others ≡ html.line_parts (style_after block.style (with_line_feed line)) others
  others_parts [] fit = refl
  others_parts (other ∷ others) (inl one) = absurd (omega arith)
  others_parts (other ∷ others) (inr both) = let few = both.0 in let small = both.1 in
      fitting_parts (with_line block line) (other ∷ others) (omega (arith, few)) (omega (arith, small))

  after_others : (others : List (List ℕ)) → GoInto block (line_size line + sizes others) (suc (length others))
      → after_lines (pending.Text (with_line block line)) others ≡ pending.Text (with_lines block (line ∷ others))
  after_others [] fit = same_block (block.lines + 1) (block.bytes + (line_size line + 0)) (with_line block line) refl (omega arith)
  after_others (other ∷ others) (inl one) = absurd (omega arith)
  after_others (other ∷ others) (inr both) =
      let few = both.0 in
      let small = both.1 in
      after_fitting (with_line block line) (other ∷ others) (omega (arith, few)) (omega (arith, small))
      ∙ same_block (block.lines + length (line ∷ other ∷ others)) (block.bytes + sizes (line ∷ other ∷ others))
      (with_lines (with_line block line) (other ∷ others)) (omega arith) (omega arith)

module _ (before : Pending) (first : ℕ) (bytes : List ℕ) (count : ℕ) (chunk : AreChunk (block_for before first) first bytes count) where
  size : length bytes ≡ line_size chunk.line + sizes chunk.others
  size = complete_length bytes chunk.complete ∙ ap sizes chunk.are

  fit : GoInto (block_for before (line_size chunk.line)) (line_size chunk.line + sizes chunk.others) (suc (length chunk.others))
  fit = subst (λ (f : ℕ). GoInto (block_for before f) (line_size chunk.line + sizes chunk.others) (suc (length chunk.others)))
      (sym chunk.first_is)
      (subst (λ (n : ℕ). GoInto (block_for before first) n (suc (length chunk.others))) size
      (subst (λ (n : ℕ). GoInto (block_for before first) (length bytes) n) (sym chunk.count_is) chunk.fit))

  chunk_parts : lines_parts before (ended bytes) ≡ line_start before first ++ html.line_parts (block_for before first).style (ended bytes)
  chunk_parts =
      ap (lines_parts before) chunk.are
      ∙ append_assoc (line_start before (line_size chunk.line)) (line_part (block_for before (line_size chunk.line)).style chunk.line ∷ [])
      (lines_parts (after_line before chunk.line) chunk.others)
      ∙ ap (λ (ps : List Part). line_start before (line_size chunk.line)
      ++ line_part (block_for before (line_size chunk.line)).style chunk.line ∷ ps)
      (others_parts (block_for before (line_size chunk.line)) chunk.line chunk.others fit)
      ∙ ap (λ (f : ℕ). line_start before f ++ html.line_parts (block_for before f).style (chunk.line ∷ chunk.others)) chunk.first_is
      ∙ ap (λ (ls : List (List ℕ)). line_start before first ++ html.line_parts (block_for before first).style ls) (sym chunk.are)

  pub chunk_html : flat_map part_html (line_start before first) ++ lines_html (block_for before first).style (ended bytes)
      ≡ flat_map part_html (lines_parts before (ended bytes))
  chunk_html = sym (ap (flat_map part_html) chunk_parts
      ∙ flat_map-append part_html (line_start before first) (html.line_parts (block_for before first).style (ended bytes)))

  pub after_chunk : after_lines before (ended bytes)
      ≡ pending.Text (record {
        lines = (block_for before first).lines + count;
        bytes = (block_for before first).bytes + length bytes;
        style = style_after_lines (block_for before first).style (ended bytes);
      })
  after_chunk =
      ap (after_lines before) chunk.are ∙ after_others (block_for before (line_size chunk.line)) chunk.line chunk.others fit
      ∙ ap (λ (f : ℕ). pending.Text (with_lines (block_for before f) (chunk.line ∷ chunk.others))) chunk.first_is
      ∙ ap (λ (n : ℕ). pending.Text (record {
        lines = (block_for before first).lines + n;
        bytes = (block_for before first).bytes + (line_size chunk.line + sizes chunk.others);
        style = style_after_lines (block_for before first).style (chunk.line ∷ chunk.others);
      })) chunk.count_is
      ∙ ap (λ (n : ℕ). pending.Text (record {
        lines = (block_for before first).lines + count;
        bytes = (block_for before first).bytes + n;
        style = style_after_lines (block_for before first).style (chunk.line ∷ chunk.others);
      })) (sym size)
      ∙ ap (λ (ls : List (List ℕ)). pending.Text
      (record {
        lines = (block_for before first).lines + count;
        bytes = (block_for before first).bytes + length bytes;
        style = style_after_lines (block_for before first).style ls;
      })) (sym chunk.are)

-- ---- finding a chunk

-- Complete lines have a line feed.
pub line_found : (bytes : List ℕ) → Nowhere (Passes (is_byte 10) bytes) 0 (length bytes) → rest bytes ≡ [] → 0 < length bytes → ⊥
line_found bytes nowhere complete some = let none = ap length (sym (rest-free bytes (holds_none bytes nowhere)) ∙ complete) in
    omega (arith, none, some)

-- The bytes after complete lines.
pub complete_after : (bytes : List ℕ) (len : ℕ) → rest (take len bytes) ≡ [] → rest bytes ≡ [] → rest (drop len bytes) ≡ []
complete_after bytes len front complete =
    sym (ap (λ (r : List ℕ). rest (r ++ drop len bytes)) front) ∙ sym (rest-append (take len bytes) (drop len bytes))
    ∙ ap rest (take-append-drop len bytes) ∙ complete

-- The first lines. The first one has the size `first`.
pub record AreFirst (bytes : List ℕ) (first len count : ℕ) : Type 0 where
  pub some : 0 < len
  pub within : len ≤ length bytes
  pub complete : rest (take len bytes) ≡ []
  pub line : List ℕ
  pub others : List (List ℕ)
  pub are : ended (take len bytes) ≡ line ∷ others
  pub first_is : line_size line ≡ first
  pub count_is : length (line ∷ others) ≡ count

pub one_first : (bytes : List ℕ) (first : ℕ) → IsFirstLine bytes first → AreFirst bytes first first 1
one_first bytes first is =
    let size = is.size_is in
    record {
      some = omega (arith, size);
      within = is.within;
      complete = is.complete;
      line = is.line;
      others = [];
      are = is.is;
      first_is = is.size_is;
      count_is = refl;
    }

pub more_first : (bytes : List ℕ) (first len count size : ℕ) → AreFirst bytes first len count → IsFirstLine (drop len bytes) size
    → AreFirst bytes first (len + size) (count + 1)
more_first bytes first len count size so_far next =
    let split = take-add len size bytes in
    let more = take size (drop len bytes) in
    let bound = next.within in
    let left = length-drop len bytes in
    let inside = so_far.within in
    let some = so_far.some in
    let counted = so_far.count_is in
    let both = length-append so_far.others (next.line ∷ []) in
    record {
      some = omega (arith, some);
      within = omega (arith, bound, left, inside);
      complete = ap rest split ∙ rest-append (take len bytes) more ∙ ap (λ (r : List ℕ). rest (r ++ more)) so_far.complete ∙ next.complete;
      line = so_far.line;
      others = so_far.others ++ next.line ∷ [];
      are = ap ended split ∙ ended-append (take len bytes) more
          ∙ ap (λ (r : List ℕ). ended (take len bytes) ++ ended (r ++ more)) so_far.complete
          ∙ ap (λ (ls : List (List ℕ)). ls ++ ended more) so_far.are
          ∙ ap (λ (ls : List (List ℕ)). (so_far.line ∷ so_far.others) ++ ls) next.is;
      first_is = so_far.first_is;
      count_is = omega (arith, both, counted);
    }

pub begins : (before : Pending) (bytes : List ℕ) (first len count : ℕ) → rest bytes ≡ [] → AreFirst bytes first len count
    → GoInto (block_for before first) len count → BeginsChunk before bytes (record { first = first; len = len; count = count })
begins before bytes first len count complete are fit = record {
  some = are.some;
  within = are.within;
  complete = complete_after bytes len are.complete complete;
  are = record {
    complete = are.complete;
    line = are.line;
    others = are.others;
    are = are.are;
    first_is = are.first_is;
    count_is = are.count_is;
    fit = subst (λ (n : ℕ). GoInto (block_for before first) n count)
        (let inside = are.within in let size = length-take len bytes in omega (arith, inside, size)) fit;
  };
}

-- ---- lines before others

pub split_ended : (bytes : List ℕ) (len : ℕ) → rest (take len bytes) ≡ [] → ended bytes ≡ ended (take len bytes) ++ ended (drop len bytes)
split_ended bytes len front =
    ap ended (sym (take-append-drop len bytes)) ∙ ended-append (take len bytes) (drop len bytes)
    ∙ ap (λ (r : List ℕ). ended (take len bytes) ++ ended (r ++ drop len bytes)) front

lines_parts-append : (before : Pending) (lines others : List (List ℕ))
    → lines_parts before (lines ++ others) ≡ lines_parts before lines ++ lines_parts (after_lines before lines) others
lines_parts-append before [] others = refl
lines_parts-append before (line ∷ lines) others =
    ap (λ (ps : List Part). line_parts before line ++ ps) (lines_parts-append (after_line before line) lines others)
    ∙ sym (append_assoc (line_parts before line) (lines_parts (after_line before line) lines)
    (lines_parts (after_lines (after_line before line) lines) others))

after_lines-append : (before : Pending) (lines others : List (List ℕ))
    → after_lines before (lines ++ others) ≡ after_lines (after_lines before lines) others
after_lines-append before [] others = refl
after_lines-append before (line ∷ lines) others = after_lines-append (after_line before line) lines others

module _ (before : Pending) (bytes : List ℕ) (len : ℕ) (front : rest (take len bytes) ≡ []) where
  pub html_then : flat_map part_html (lines_parts before (ended (take len bytes)))
      ++ flat_map part_html (lines_parts (after_lines before (ended (take len bytes))) (ended (drop len bytes)))
      ≡ flat_map part_html (lines_parts before (ended bytes))
  html_then = sym (ap (λ (ls : List (List ℕ)). flat_map part_html (lines_parts before ls)) (split_ended bytes len front)
      ∙ ap (flat_map part_html) (lines_parts-append before (ended (take len bytes)) (ended (drop len bytes)))
      ∙ flat_map-append part_html (lines_parts before (ended (take len bytes)))
      (lines_parts (after_lines before (ended (take len bytes))) (ended (drop len bytes))))

  pub after_then : after_lines (after_lines before (ended (take len bytes))) (ended (drop len bytes)) ≡ after_lines before (ended bytes)
  after_then = sym (ap (after_lines before) (split_ended bytes len front)
      ∙ after_lines-append before (ended (take len bytes)) (ended (drop len bytes)))
