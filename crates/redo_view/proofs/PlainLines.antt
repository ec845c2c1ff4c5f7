-- Plain text as a form.
use Rattle.std.proofs.Common.{◌≡◌, ℕ, Bool, true, false, List, [], ◌∷◌, ◌++◌, refl, ap, ◌∙◌}
use Rattle.std.specs.Prelude.{if◌then◌else◌}
use Rattle.std.specs.List.{flat_map}
use Rattle.std.proofs.lemmas.List.{append-nil}
use Rattle.redo_line.proofs.LineLemmas.{are_lines}
use Rattle.redo_line.specs.Lines.{ended, rest, with_line_feed}
use Rattle.redo_view.specs.declared.plain.PlainText.{PlainText}
use Rattle.redo_view.specs.Event.{Event}
use Rattle.redo_view.specs.Form.{bytes_of, state_after, text_events}
use Rattle.redo_view.specs.Text.{event_text}

abbrev pub plain_bytes : PlainText → Event → List ℕ
plain_bytes form event = event_text form.options event

abbrev pub plain_after : PlainText → Event → PlainText
plain_after form event = form

-- The state stays the same.
pub plain_state : (form : PlainText) (events : List Event) → state_after plain_after form events ≡ form
plain_state form [] = refl
plain_state form (event ∷ events) = plain_state form events

-- The text of events is the text of each.
pub plain_text : (form : PlainText) (events : List Event)
    → bytes_of plain_bytes plain_after form events ≡ flat_map (event_text form.options) events
plain_text form [] = refl
plain_text form (event ∷ events) = ap (λ text. event_text form.options event ++ text) (plain_text form events)

-- The text of text lines.
module _ (form : PlainText) (depth : ℕ) where
  texts_text : (texts : List (List ℕ))
      → (if form.options.details then flat_map with_line_feed texts else [])
      ≡ bytes_of plain_bytes plain_after form (text_events depth texts)
  texts_text [] = none form.options.details
    where
      none : (details : Bool) → (if details then flat_map with_line_feed [] else []) ≡ []
      none true = refl
      none false = refl
  texts_text (text ∷ texts) = one form.options.details
      ∙ ap (λ (rest : List ℕ). (if form.options.details then with_line_feed text else []) ++ rest) (texts_text texts)
    where
      one : (details : Bool) → (if details then flat_map with_line_feed (text ∷ texts) else [])
          ≡ (if details then with_line_feed text else []) ++ (if details then flat_map with_line_feed texts else [])
      one true = refl
      one false = refl

  pub lines_text : (lines : List ℕ) → rest lines ≡ []
      → (if form.options.details then lines else []) ≡ bytes_of plain_bytes plain_after form (text_events depth (ended lines))
  lines_text lines none =
      ap (λ (bytes : List ℕ). if form.options.details then bytes else [])
      ((are_lines lines).whole ∙ ap (λ last. flat_map with_line_feed (ended lines) ++ last) none
      ∙ append-nil (flat_map with_line_feed (ended lines)))
      ∙ texts_text (ended lines)
