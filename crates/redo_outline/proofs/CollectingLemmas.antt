-- The state of a collector after events.
use Rattle.std.proofs.Common.{◌≡◌, ℕ, zero, suc, ◌+◌, ◌<◌, ◌≤◌, true, false, ℤ, List, [], ◌∷◌, ◌++◌, Option, None, Some, length, refl, sym, ap, ◌∙◌, arith, length-append}
use Rattle.std.specs.Prelude.{◌==◌, is_some, slice_index_or, slice_set}
use Rattle.std.specs.List.{flat_map}
use Rattle.std.proofs.lemmas.Bool.{eqb-true, true≢false}
use Rattle.std.proofs.lemmas.List.{append-nil}
use Rattle.redo_device.specs.Sink.{Output, append_output}
use Rattle.redo_line.specs.Lines.{ended, rest, with_line_feed}
use Rattle.redo_line.proofs.LineLemmas.{are_lines}
use Rattle.redo_view.specs.Event.{Event}
use Rattle.redo_view.specs.Form.{bytes_of, state_after, text_events}
use Rattle.redo_outline.specs.Private.Collecting.{Collected, after_event, other_shown, with_status}

-- ---- nothing is written

pub none_written : (output : Option Output) → output ≡ append_output output [] 0
none_written None = refl
none_written (Some taken) = ap Some (λ i.
    record { bytes = sym (append-nil taken.bytes) i; failures = (let same : taken.failures ≡ taken.failures + 0 = omega arith in same) i })

abbrev pub no_bytes : Collected → Event → List ℕ
no_bytes collected event = []

abbrev pub after : Collected → Event → Collected
after collected event = after_event event collected

pub bytes_none : (events : List Event) (collected : Collected) → bytes_of no_bytes after collected events ≡ []
bytes_none [] collected = refl
bytes_none (event ∷ events) collected = bytes_none events (after collected event)

-- ---- texts

texts_after : (depth : ℕ) (text : List ℕ) (texts : List (List ℕ)) (collected : Collected)
    → state_after after collected (text_events depth (text ∷ texts)) ≡ other_shown true collected
texts_after depth text [] collected = refl
texts_after depth text (next ∷ texts) collected = texts_after depth next texts (other_shown true collected)

lines_after : (depth : ℕ) (lines : List (List ℕ)) (collected : Collected) → 0 < length lines
    → state_after after collected (text_events depth lines) ≡ other_shown true collected
lines_after depth [] collected some = absurd (omega (arith, some))
lines_after depth (text ∷ texts) collected some = texts_after depth text texts collected

whole_lines : (bytes : List ℕ) → rest bytes ≡ [] → bytes ≡ flat_map with_line_feed (ended bytes)
whole_lines bytes none = (are_lines bytes).whole ∙ ap (λ last. flat_map with_line_feed (ended bytes) ++ last) none
    ∙ append-nil (flat_map with_line_feed (ended bytes))

some_line : (bytes : List ℕ) (lines : List (List ℕ)) → bytes ≡ flat_map with_line_feed lines → 0 < length bytes → 0 < length lines
some_line bytes [] whole some = let none = ap length whole in absurd (omega (arith, none, some))
some_line bytes (line ∷ lines) whole some = omega arith

pub some_texts : (depth : ℕ) (bytes : List ℕ) (collected : Collected) → rest bytes ≡ [] → 0 < length bytes
    → other_shown true collected ≡ state_after after collected (text_events depth (ended bytes))
some_texts depth bytes collected none some =
    sym (lines_after depth (ended bytes) collected (some_line bytes (ended bytes) (whole_lines bytes none) some))

no_line : (bytes line : List ℕ) (lines : List (List ℕ)) → bytes ≡ flat_map with_line_feed (line ∷ lines) → length bytes ≤ 0 → ⊥
no_line bytes line lines whole none =
    let size = ap length whole in omega
    (arith, size, none, length-append (with_line_feed line) (flat_map with_line_feed lines), length-append line (10 ∷ []))

pub no_texts : (depth : ℕ) (bytes : List ℕ) (collected : Collected) → rest bytes ≡ [] → length bytes ≤ 0
    → collected ≡ state_after after collected (text_events depth (ended bytes))
no_texts depth bytes collected none empty = by (ended bytes) (whole_lines bytes none)
  where
    by : (lines : List (List ℕ)) → bytes ≡ flat_map with_line_feed lines → collected ≡ state_after after collected (text_events depth lines)
    by [] whole = refl
    by (line ∷ lines) whole = absurd (no_line bytes line lines whole empty)

-- ---- statuses

pub status_set : (number : ℕ) (status : ℤ) (statuses : List (Option ℤ)) → number < length statuses
    → is_some (slice_index_or statuses number None) ≡ false → slice_set statuses number (Some status) ≡ with_status number status statuses
status_set number status [] below none = absurd (omega (arith, below))
status_set zero status (None ∷ statuses) below none = refl
status_set zero status (Some old ∷ statuses) below none = absurd (cc)
status_set (suc number) status (old ∷ statuses) below none =
    ap (λ ss. old ∷ ss) (status_set number status statuses (omega (arith, below)) none)

pub status_is_set : (number : ℕ) (status : ℤ) (statuses : List (Option ℤ)) → number < length statuses
    → is_some (slice_index_or statuses number None) ≡ true → statuses ≡ with_status number status statuses
status_is_set number status [] below some = refl
status_is_set zero status (None ∷ statuses) below some = absurd (cc)
status_is_set zero status (Some old ∷ statuses) below some = refl
status_is_set (suc number) status (old ∷ statuses) below some =
    ap (λ ss. old ∷ ss) (status_is_set number status statuses (omega (arith, below)) some)

pub no_status : (number : ℕ) (status : ℤ) (statuses : List (Option ℤ)) → length statuses ≤ number
    → statuses ≡ with_status number status statuses
no_status number status [] past = refl
no_status zero status (old ∷ statuses) past = absurd (omega (arith, past))
no_status (suc number) status (old ∷ statuses) past = ap (λ ss. old ∷ ss) (no_status number status statuses (omega (arith, past)))

-- ---- tests of the code

pub nonempty_text : (bytes : List ℕ) → (length bytes == 0) ≡ false → 0 < length bytes
nonempty_text [] is = absurd (true≢false is)
nonempty_text (byte ∷ bytes) is = omega arith

pub empty_text : (bytes : List ℕ) → (length bytes == 0) ≡ true → length bytes ≤ 0
empty_text bytes is = let none = eqb-true (length bytes) 0 is in omega (arith, none)
