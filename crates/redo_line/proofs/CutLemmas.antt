-- The lines that further bytes add to the lines of the consumed bytes.
use Rattle.std.proofs.Common.{◌≡◌, ◌≢◌, ℕ, ◌+◌, ◌<◌, List, [], ◌∷◌, ◌++◌, length, get_or, take, sym, ◌∙◌, ap, subst, arith, le_refl, zero-le}
use Rattle.std.specs.List.{Contains}
use Rattle.std.proofs.lemmas.Bool.{eq-eqb, eqb-true}
use Rattle.std.proofs.lemmas.List.{append_assoc, length-take, get_or-take, get_or_default, take_more, take_all}
use Rattle.std.proofs.lemmas.List.Elements.{recursion_from_All}
use Rattle.memchr.specs.Find.{Passes, Nowhere, NoneBefore, is_byte}
use Rattle.redo_line.specs.Lines.{line_feed, HasNoLineFeed, ended, rest}
use Rattle.redo_line.specs.Private.CutLine.{Cuts}
use Rattle.redo_line.proofs.PartLemmas.{free-append}
use Rattle.redo_line.proofs.LineLemmas.{ended-append, rest-append, ended-free, rest-free, ended-line, rest-line, are_lines}

-- Bytes that end one line, after the stored bytes.
pub cuts_line : (before front : List ℕ) → HasNoLineFeed front → Cuts before (front ++ line_feed ∷ []) ((before ++ front) ∷ []) []
cuts_line before front free taken kept =
    let line = free-append line_feed (rest taken) front (are_lines taken).rest_holds_none free in
    let joined = sym (append_assoc (rest taken) front (line_feed ∷ [])) in
    let lines : ended (rest taken ++ (front ++ line_feed ∷ [])) ≡ (before ++ front) ∷ [] =
    ap ended joined ∙ ended-line (rest taken ++ front) [] line ∙ ap (λ ls. (rest taken ++ front) ∷ ls) (ended-free [] tt)
    ∙ ap (λ b. (b ++ front) ∷ []) kept in
    let last : rest (rest taken ++ (front ++ line_feed ∷ [])) ≡ [] =
    ap rest joined ∙ rest-line (rest taken ++ front) [] line ∙ rest-free [] tt in
    (ended-append taken (front ++ line_feed ∷ []) ∙ ap (λ ls. ended taken ++ ls) lines, rest-append taken (front ++ line_feed ∷ []) ∙ last)

-- Bytes that end no line.
pub cuts_none : (before bytes : List ℕ) → HasNoLineFeed bytes → Cuts before bytes [] (before ++ bytes)
cuts_none before bytes free taken kept =
    let line = free-append line_feed (rest taken) bytes (are_lines taken).rest_holds_none free in (
      ended-append taken bytes ∙ ap (λ ls. ended taken ++ ls) (ended-free (rest taken ++ bytes) line),
      rest-append taken bytes
          ∙ rest-free (rest taken ++ bytes) line ∙ ap (λ b. b ++ bytes) kept,
    )

-- The bytes before the first line feed contain none.
pub free_before : (bytes : List ℕ) (n : ℕ) → Nowhere (Passes (is_byte line_feed) bytes) 0 n → HasNoLineFeed (take n bytes)
free_before bytes n nowhere =
    recursion_from_All (λ (byte : ℕ). byte ≢ line_feed) (take n bytes) (λ k d below is.
    let inside : (k < n) × (k < length bytes) = let l = length-take n bytes in (omega arith, omega arith) in
    let read : get_or (take n bytes) k d ≡ get_or bytes k 0 = let in_front : k < n = inside.0 in let in_bytes : k < length bytes =
    inside.1 in get_or-take n bytes k d in_front ∙ get_or_default bytes k d 0 in_bytes in
    nowhere k (omega arith) inside.0 (eq-eqb (get_or bytes k 0) line_feed (sym read ∙ is)))

-- The bytes up to and including the first line feed.
pub upto_feed : (bytes : List ℕ) (at : ℕ) → at < length bytes → Passes (is_byte line_feed) bytes at
    → take (at + 1) bytes ≡ take at bytes ++ line_feed ∷ []
upto_feed bytes at below passes = take_more bytes at 0 below
    ∙ ap (λ (b : ℕ). take at bytes ++ b ∷ []) (eqb-true (get_or bytes at 0) line_feed passes)

-- The bytes that a cutter consumes of a chunk with a line feed.
pub line_in : (before line chunk : List ℕ) (at : ℕ)
    → NoneBefore (Passes (is_byte line_feed) chunk) 0 (length chunk) at × Passes (is_byte line_feed) chunk at
    → line ≡ before ++ take at chunk → Cuts before (take (at + 1) chunk) (line ∷ []) []
line_in before line chunk at found line_is taken kept =
    rw (upto_feed chunk at found.0.high found.1, line_is)
    (cuts_line before (take at chunk) (free_before chunk at found.0.before) taken kept)

-- Bytes in which no line feed is found contain none.
pub holds_none : (chunk : List ℕ) → Nowhere (Passes (is_byte line_feed) chunk) 0 (length chunk) → HasNoLineFeed chunk
holds_none chunk nowhere = subst HasNoLineFeed (take_all (length chunk) chunk (le_refl (length chunk)))
    (free_before chunk (length chunk) nowhere)

-- The bytes that a cutter consumes of a chunk without a line feed.
pub none_in : (before after chunk : List ℕ) → Nowhere (Passes (is_byte line_feed) chunk) 0 (length chunk) → after ≡ before ++ chunk
    → Cuts before chunk [] after
none_in before after chunk nowhere after_is taken kept =
    rw after_is (cuts_none before chunk (holds_none chunk nowhere) taken kept)

pub no_feed : (chunk : List ℕ) → Nowhere (Passes (is_byte line_feed) chunk) 0 (length chunk) → Contains chunk line_feed → ⊥
no_feed chunk nowhere here = nowhere here.0 zero-le here.1
    (eq-eqb (get_or chunk here.0 0) line_feed (get_or_default chunk here.0 0 line_feed here.1 ∙ here.2))
