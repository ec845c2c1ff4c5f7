-- Excerpts, line by line.
use Rattle.std.proofs.Common.{◌≡◌, ℕ, suc, ◌+◌, ◌≤◌, Bool, true, false, List, [], ◌∷◌, ◌++◌, Option, None, Some, length, refl, sym, ap, ◌∙◌, arith, add-one}
use Rattle.std.specs.Prelude.{if◌then◌else◌}
use Rattle.std.specs.List.{flat_map, position_or_len}
use Rattle.std.proofs.lemmas.List.{append-nil, append_assoc}
use Rattle.redo_html.specs.declared.markup.Markup.TheVariants.{EndPre}
use Rattle.redo_html.specs.Parts.{Part}
use Rattle.redo_html.specs.Parts.Part.{MarkupPart}
use Rattle.redo_page.specs.declared.excerpt.OpenStretch.{OpenStretch}
use Rattle.redo_page.specs.declared.excerpt.OpenStretch.TheVariants.{Nothing, Shown, LeftOut}
use Rattle.redo_page.specs.Errors.{is_error}
use Rattle.redo_page.specs.Excerpt.{Stretch, error_position, excerpt_line_parts, excerpt_parts, is_kept, left_out_parts, stretch_parts, stretches_from, with_left_out, with_shown}
use Rattle.redo_page.specs.Private.Excerpting.{end_parts, open_after, open_count, parts_from, step_parts}

-- ---- the first error

-- The position of the first line that reports an error, if the line at position `at` is the first of those that are left.
abbrev pub error_from : Option ℕ → ℕ → List (List ℕ) → ℕ
error_from (Some error) at lines = error
error_from None at lines = at + position_or_len is_error lines

-- ---- stretches

module _ (position : ℕ) where
  abbrev others : List Stretch → List Part
  others stretches = flat_map (stretch_parts position) stretches

  -- The parts of stretches. The first one goes on if it is of the same kind as the open one.
  abbrev continued : OpenStretch → List Stretch → List Part
  continued Nothing stretches = others stretches
  continued Shown [] = MarkupPart EndPre ∷ []
  continued Shown (Stretch.Shown lines ∷ stretches) = flat_map excerpt_line_parts lines ++ (MarkupPart EndPre ∷ others stretches)
  continued Shown (Stretch.LeftOut more ∷ stretches) = MarkupPart EndPre ∷ others (Stretch.LeftOut more ∷ stretches)
  continued (LeftOut count) [] = left_out_parts position count
  continued (LeftOut count) (Stretch.Shown lines ∷ stretches) = left_out_parts position count ++ others (Stretch.Shown lines ∷ stretches)
  continued (LeftOut count) (Stretch.LeftOut more ∷ stretches) = left_out_parts position (count + more) ++ others stretches

  shown_step : (current : OpenStretch) (line : List ℕ) (stretches : List Stretch)
      → step_parts position current true line ++ continued Shown stretches ≡ continued current (with_shown line stretches)
  shown_step Nothing line [] = simp append_assoc
  shown_step Nothing line (Stretch.Shown lines ∷ stretches) = simp append_assoc
  shown_step Nothing line (Stretch.LeftOut more ∷ stretches) = simp append_assoc
  shown_step Shown line [] = simp append_assoc
  shown_step Shown line (Stretch.Shown lines ∷ stretches) = simp append_assoc
  shown_step Shown line (Stretch.LeftOut more ∷ stretches) = simp append_assoc
  shown_step (LeftOut count) line [] = simp append_assoc
  shown_step (LeftOut count) line (Stretch.Shown lines ∷ stretches) = simp append_assoc
  shown_step (LeftOut count) line (Stretch.LeftOut more ∷ stretches) = simp append_assoc

  begins : (stretches : List Stretch) → continued (LeftOut 1) stretches ≡ others (with_left_out stretches)
  begins [] = sym (append-nil (left_out_parts position 1))
  begins (Stretch.Shown lines ∷ stretches) = refl
  begins (Stretch.LeftOut more ∷ stretches) = let same : 1 + more ≡ suc more = omega arith in
      ap (λ (n : ℕ). left_out_parts position n ++ others stretches) same

  left_out_step : (current : OpenStretch) (line : List ℕ) (stretches : List Stretch)
      → step_parts position current false line ++ continued (open_after current false) stretches
      ≡ continued current (with_left_out stretches)
  left_out_step Nothing line stretches = begins stretches
  left_out_step Shown line [] = ap (λ (parts : List Part). MarkupPart EndPre ∷ parts) (begins [])
  left_out_step Shown line (Stretch.Shown lines ∷ stretches) = refl
  left_out_step Shown line (Stretch.LeftOut more ∷ stretches) =
      ap (λ (parts : List Part). MarkupPart EndPre ∷ parts) (begins (Stretch.LeftOut more ∷ stretches))
  left_out_step (LeftOut count) line [] = sym (append-nil (left_out_parts position (count + 1)))
  left_out_step (LeftOut count) line (Stretch.Shown lines ∷ stretches) = refl
  left_out_step (LeftOut count) line (Stretch.LeftOut more ∷ stretches) =
      let same : count + 1 + more ≡ count + suc more = omega arith in ap (λ (n : ℕ). left_out_parts position n ++ others stretches) same

  step : (kept : Bool) (current : OpenStretch) (line : List ℕ) (stretches : List Stretch)
      → step_parts position current kept line ++ continued (open_after current kept) stretches
      ≡ continued current (if kept then with_shown line stretches else with_left_out stretches)
  step true current line stretches = shown_step current line stretches
  step false current line stretches = left_out_step current line stretches

  ends : (current : OpenStretch) → end_parts position current ≡ continued current []
  ends Nothing = refl
  ends Shown = refl
  ends (LeftOut count) = refl

  continues : (kept : ℕ → Bool) (current : OpenStretch) (at : ℕ) (lines : List (List ℕ))
      → parts_from position kept current at lines ≡ continued current (stretches_from kept at lines)
  continues kept current at [] = ends current
  continues kept current at (line ∷ lines) =
      ap (λ (parts : List Part). step_parts position current (kept at) line ++ parts)
      (continues kept (open_after current (kept at)) (suc at) lines)
      ∙ step (kept at) current line (stretches_from kept (suc at) lines)

  pub line_by_line : (lines : List (List ℕ)) (count error : ℕ) → count ≡ length lines → error ≡ error_position lines
      → excerpt_parts position lines ≡ parts_from position (is_kept count error) Nothing 0 lines
  unfolding excerpt_parts
  line_by_line lines count error count_is error_is =
      sym (continues (is_kept (length lines) (error_position lines)) Nothing 0 lines)
      ∙ ap (λ (n : ℕ). parts_from position (is_kept n (error_position lines)) Nothing 0 lines) (sym count_is)
      ∙ ap (λ (n : ℕ). parts_from position (is_kept count n) Nothing 0 lines) (sym error_is)

-- ---- loops

pub open_next : (current : OpenStretch) (shown : Bool) (at : ℕ) → open_count current ≤ at → open_count (open_after current shown) ≤ at + 1
open_next current true at low = omega arith
open_next Nothing false at low = omega arith
open_next Shown false at low = omega arith
open_next (LeftOut count) false at low = omega (arith, low)

pub next_line : (position : ℕ) (kept : ℕ → Bool) (current next : OpenStretch) (at : ℕ) (shown : Bool) (left : List (List ℕ)) (line : List ℕ)
    (lines : List (List ℕ))
    → left ≡ line ∷ lines → shown ≡ kept at → next ≡ open_after current shown
    → parts_from position kept current at left ≡ step_parts position current shown line ++ parts_from position kept next (at + 1) lines
next_line position kept current next at shown left line lines left_is shown_is next_is =
    ap (parts_from position kept current at) left_is
    ∙ ap (λ (now : Bool). step_parts position current now line ++ parts_from position kept (open_after current now) (suc at) lines)
    (sym shown_is)
    ∙ ap (λ (after : OpenStretch). step_parts position current shown line ++ parts_from position kept after (suc at) lines) (sym next_is)
    ∙ ap (λ (n : ℕ). step_parts position current shown line ++ parts_from position kept next n lines) (sym (add-one at))
