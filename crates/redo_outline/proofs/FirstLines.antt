-- The first line of some bytes.
use Rattle.std.proofs.Common.{◌≡◌, ℕ, ◌+◌, ◌-◌, ◌<◌, List, [], ◌∷◌, ◌++◌, length, take, drop, sym, ap, ◌∙◌, arith}
use Rattle.std.proofs.lemmas.List.{append_assoc, length-drop, take-append-drop, take_all}
use Rattle.memchr.specs.Find.{NoneBefore, Passes, is_byte}
use Rattle.redo_line.proofs.CutLemmas.{free_before, upto_feed}
use Rattle.redo_line.proofs.LineLemmas.{ended-free, ended-line, rest-free, rest-line}
use Rattle.redo_line.specs.Lines.{HasNoLineFeed, ended, line_feed, rest}
use Rattle.redo_outline.specs.TextLines.{IsWholeLine}

-- Bytes with a line feed: the line that it ends, and the bytes after it.
module _ (bytes : List ℕ) (at : ℕ) (found : NoneBefore (Passes (is_byte line_feed) bytes) 0 (length bytes) at
    × Passes (is_byte line_feed) bytes at) where
  after_is : take (length bytes - (at + 1)) (drop (at + 1) bytes) ≡ drop (at + 1) bytes
  after_is = take_all (length bytes - (at + 1)) (drop (at + 1) bytes) (omega (arith, length-drop (at + 1) bytes))

  free : HasNoLineFeed (take at bytes)
  free = free_before bytes at found.0.before

  parts : bytes ≡ take at bytes ++ line_feed ∷ drop (at + 1) bytes
  parts =
      sym (take-append-drop (at + 1) bytes) ∙ ap (λ (b : List ℕ). b ++ drop (at + 1) bytes) (upto_feed bytes at found.0.high found.1)
      ∙ append_assoc (take at bytes) (line_feed ∷ []) (drop (at + 1) bytes)

  abbrev pub first_whole : IsWholeLine (take (at + 1) bytes)
  first_whole = record {
    line = take at bytes;
    bytes_are = upto_feed bytes at found.0.high found.1;
    no_line_feed = free_before bytes at found.0.before;
  }

  pub first_line : ended bytes ≡ take at bytes ∷ ended (take (length bytes - (at + 1)) (drop (at + 1) bytes))
  first_line = ap ended parts ∙ ended-line (take at bytes) (drop (at + 1) bytes) free
      ∙ ap (λ (b : List ℕ). take at bytes ∷ ended b) (sym after_is)

  pub rest_after : rest bytes ≡ rest (take (length bytes - (at + 1)) (drop (at + 1) bytes))
  rest_after = ap rest parts ∙ rest-line (take at bytes) (drop (at + 1) bytes) free ∙ ap rest (sym after_is)

  pub after_shorter : length (take (length bytes - (at + 1)) (drop (at + 1) bytes)) < length bytes
  after_shorter =
      let high = found.0.high in
      let same = ap length after_is in
      omega (arith, same, high, length-drop (at + 1) bytes)

-- One line with its line feed.
pub whole_ended : (bytes : List ℕ) (is : IsWholeLine bytes) → ended bytes ≡ is.line ∷ []
whole_ended bytes is = ap ended is.bytes_are ∙ ended-line is.line [] is.no_line_feed
    ∙ ap (λ (lines : List (List ℕ)). is.line ∷ lines) (ended-free [] tt)

pub whole_rest : (bytes : List ℕ) → IsWholeLine bytes → rest bytes ≡ []
whole_rest bytes is = ap rest is.bytes_are ∙ rest-line is.line [] is.no_line_feed ∙ rest-free [] tt
