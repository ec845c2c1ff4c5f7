-- Examples of entries that share a few buffers, computed: their places, and the entries there.
use Rattle.std.proofs.Common.{◌≡◌, ℕ, List, [], ◌∷◌, ◌++◌, Some, pos, arith, refl}
use Rattle.std.specs.Prelude.{codes}
use Rattle.redo_line.specs.declared.entries.EntryAt.{EntryAt}
use Rattle.redo_line.specs.declared.entries.EntryAt.TheVariants as at
use Rattle.redo_line.specs.declared.entries.Layout.{Layout}
use Rattle.redo_line.specs.declared.entry.Entry.TheVariants.{Text, Mention, Done, Closing, Note}
use Rattle.redo_line.specs.declared.entry.How.TheVariants.{Made}
use Rattle.redo_line.specs.Entries.{entries_at, IsNameAt, IsWithin, AreWithin, AreStoredAt, IsLayout}
use Rattle.redo_line.specs.Lines.{line_feed, AreCompleteLines, split_lines, ended, rest}
use Rattle.redo_name.specs.Names.{reduce_suffix, normal}

-- Two lines and the kind and text of a note; and two names.
abbrev bytes : List ℕ
bytes = codes "ab" ++ line_feed ∷ line_feed ∷ codes "checkx"

abbrev names : List ℕ
names = codes "cd/b"

abbrev places : List EntryAt
places = at.Texts 2 0 4 ∷ at.Mention 7 Made 0 1 ∷ at.Done 8 (pos 1) 1 4 ∷ at.Closing 9 (pos 0) ∷ at.Note 6 4 9 10 ∷ []

stand_there : entries_at bytes names places
    ≡ Text (codes "ab") ∷ Text [] ∷ Mention 7 Made (codes "c") ∷ Done 8 (pos 1) (codes "d/b") ∷ Closing 9 (pos 0)
    ∷ Note 6 (codes "check") (codes "x") ∷ []
unfolding split_lines ended
stand_there = refl

are_whole : AreCompleteLines (codes "ab" ++ line_feed ∷ line_feed ∷ []) 2
unfolding split_lines ended rest
are_whole = record { count_is = refl; some = omega arith; no_rest = refl }

are_within : AreWithin bytes names places
unfolding reduce_suffix normal
are_within = (
  (omega arith, omega arith, are_whole),
  (
    (omega arith, omega arith, refl),
    (
      (omega arith, omega arith, refl),
      (
        tt,
        (
          (
            omega arith,
            omega arith,
            omega arith,
            ((λ is. absurd (cc)), ((λ is. absurd (cc)), ((λ is. absurd (cc)), ((λ is. absurd (cc)), ((λ is. absurd (cc)), tt))))),
            ((λ is. absurd (cc)), tt),
          ),
          tt,
        ),
      ),
    ),
  ),
)

-- Not `IsWithin`: lines with an unended last one, one line too many, or none; offsets out of order, or past the end; line feeds in
-- a note; or lines past the end.
not_within :
    (IsWithin bytes names (at.Texts 2 0 5) → ⊥)
    × (IsWithin bytes names (at.Texts 3 0 4) → ⊥)
    × (IsWithin bytes names (at.Texts 0 4 4) → ⊥)
    × (IsWithin bytes names (at.Note 6 5 4 10) → ⊥)
    × (IsWithin bytes names (at.Note 6 4 10 9) → ⊥)
    × (IsWithin bytes names (at.Note 6 4 9 11) → ⊥)
    × (IsWithin bytes names (at.Note 6 2 3 3) → ⊥)
    × (IsWithin bytes names (at.Note 6 2 2 3) → ⊥)
    × (IsWithin (codes "ab" ++ line_feed ∷ []) names (at.Texts 1 0 9) → ⊥)
    × (IsWithin bytes names (at.Mention 7 Made 1 0) → ⊥)
    × (IsWithin bytes names (at.Done 8 (pos 1) 1 0) → ⊥)
unfolding split_lines ended rest
not_within = (
  (λ is. let same : codes "c" ≡ [] = is.2.no_rest in absurd (cc)),
  (λ is. let count : 2 ≡ 3 = is.2.count_is in omega (arith, count)),
  (λ is. let some = is.2.some in omega (arith, some)),
  (λ is. omega (arith, is.0)),
  (λ is. omega (arith, is.1)),
  (λ is. omega (arith, is.2)),
  (λ is. is.3.0 refl),
  (λ is. is.4.0 refl),
  (λ is. omega (arith, is.1)),
  (λ is. omega (arith, is.0)),
  (λ is. omega (arith, is.0)),
)

no_name : (IsNameAt bytes names 1 0 → ⊥) × (IsNameAt bytes names 0 5 → ⊥) × (IsNameAt bytes (codes "./a") 0 3 → ⊥)
unfolding reduce_suffix normal
no_name = (
  (λ is. omega (arith, is.0)),
  (λ is. omega (arith, is.1)),
  (λ is. let same : Some (codes "a") ≡ Some (codes "./a") = is.2 in absurd (cc)),
)

are_at : AreStoredAt bytes names (at.Texts 2 0 4 ∷ []) (Text (codes "ab") ∷ Text [] ∷ [])
unfolding split_lines ended
are_at = record { are = refl; within = ((omega arith, omega arith, are_whole), tt) }

-- Not `AreStoredAt`: a note with line feeds in its text, one line instead of two, or two lines instead of one.
not_at :
    (AreStoredAt bytes names (at.Note 6 0 2 4 ∷ []) (Note 6 (codes "ab") (line_feed ∷ line_feed ∷ []) ∷ []) → ⊥)
    × (AreStoredAt bytes names (at.Texts 2 0 4 ∷ []) (Text (codes "ab" ++ line_feed ∷ []) ∷ []) → ⊥)
    × (AreStoredAt bytes names (at.Texts 1 0 3 ∷ []) (Text (codes "ab") ∷ Text [] ∷ []) → ⊥)
unfolding split_lines ended
not_at = (
  (λ is. is.within.0.4.0 refl),
  (λ is. let same : Text (codes "ab") ∷ Text [] ∷ [] ≡ Text (codes "ab" ++ line_feed ∷ []) ∷ [] = is.are in absurd (cc)),
  (λ is. let same : Text (codes "ab") ∷ [] ≡ Text (codes "ab") ∷ Text [] ∷ [] = is.are in absurd (cc)),
)

-- The buffers themselves.
abbrev layout : List EntryAt → Layout
layout places =
    record {
      bytes = record { ref_ptr = (0, 0); now = bytes };
      names = record { ref_ptr = (0, 0); now = names };
      places = record { ref_ptr = (0, 0); now = places };
    }

laid_out : IsLayout (layout (at.Texts 2 0 4 ∷ at.Mention 7 Made 0 1 ∷ [])) (Text (codes "ab") ∷ Text [] ∷ Mention 7 Made (codes "c") ∷ [])
unfolding split_lines ended reduce_suffix normal
laid_out = record { are = refl; within = ((omega arith, omega arith, are_whole), ((omega arith, omega arith, refl), tt)) }

not_laid_out : IsLayout (layout (at.Texts 2 0 4 ∷ [])) [] → ⊥
unfolding split_lines ended
not_laid_out is = let same : Text (codes "ab") ∷ Text [] ∷ [] ≡ [] = is.are in absurd (cc)
