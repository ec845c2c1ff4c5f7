-- The diagnostics of lines that are iterated over.
use Rattle.std.proofs.Common.{◌≡◌, ℕ, suc, ◌+◌, ◌<◌, ◌≤◌, ◌^◌, Bool, true, false, not, List, [], ◌∷◌, ◌++◌, Option, None, Some, length, refl, sym, ap, ◌∙◌, arith}
use Rattle.std.specs.Prelude.{option_map}
use Rattle.std.specs.Str.{bytes_eq}
use Rattle.std.proofs.lemmas.Option.{some_pair_parts}
use Rattle.std.proofs.lemmas.List.Filters.{length-filter_both}
use Rattle.redo_device.specs.Sink.{Output}
use Rattle.redo_diagnostics.specs.Counts.{AreCounts, stored, times_of}
use Rattle.redo_diagnostics.specs.Diagnostic.{DiagnosticValue, diagnostic_of, with_key}
use Rattle.redo_outline.specs.TextLines.{LinesLeft}
use Rattle.redo_json.specs.Diagnostics.{diagnostics_of, first_flag, flagged, numbered_from, other_flags, placed_from, placed_if}
use Rattle.redo_json.specs.Private.Diagnosing.{WroteDiagnostics}
use Rattle.redo_json.specs.Private.Parts.{diagnostic_text, diagnostics_text}
use Rattle.redo_json.proofs.WritingLemmas.{begin, left_is}

pub begins : (output : Option Output) (flags : Option (List Bool)) (lines : List (List ℕ)) (left : LinesLeft) (counts : List (List ℕ × ℕ))
    (buffer : List ℕ) → left.left ≡ lines → left.done ≡ 0 → AreCounts counts [] → buffer ≡ []
    → WroteDiagnostics output output (diagnostics_text true (flagged flags (diagnostics_of lines))) true flags left counts buffer
begins output flags lines left counts buffer is first none empty = record {
  keys = [];
  counted = none;
  few = omega arith;
  wrote = begin output (diagnostics_text true (flagged flags (diagnostics_of lines))) _
      (ap (λ (l : List ℕ). l ++ diagnostics_text true (flagged flags (numbered_from [] (placed_from left.done left.left)))) empty
      ∙ ap (λ (n : ℕ). diagnostics_text true (flagged flags (numbered_from [] (placed_from n left.left)))) first
      ∙ ap (λ (l : List (List ℕ)). diagnostics_text true (flagged flags (numbered_from [] (placed_from 0 l)))) is);
}

-- A diagnostic with its key.
pub found_is : (found : Option DiagnosticValue) (value : DiagnosticValue) (key : List ℕ) → option_map with_key found ≡ Some (value, key)
    → (found ≡ Some value) × (key ≡ value.key)
found_is None value key is = absurd (cc)
found_is (Some other) value key is =
    let both = some_pair_parts other value other.key key is in
    (ap Some both.0, sym both.1 ∙ ap (λ (one : DiagnosticValue). one.key) both.0)

pub none_is : (found : Option DiagnosticValue) → option_map with_key found ≡ None → found ≡ None
none_is None is = refl
none_is (Some other) is = absurd (cc)

pub times_low : (key : List ℕ) (keys : List (List ℕ)) → times_of key keys ≤ length keys
times_low key keys =
    let both = length-filter_both (λ (other : List ℕ). bytes_eq other key) (λ (other : List ℕ). not (bytes_eq other key)) (λ other. refl)
    keys in
    omega (arith, both)

-- A count of some keys is what a map has, if they are not too many.
pub nth_is : (key : List ℕ) (keys : List (List ℕ)) (lines nth : ℕ) → length keys ≤ lines → lines + 1 < 2 ^ 64
    → nth ≡ stored (times_of key keys) → nth ≡ times_of key keys
nth_is key keys lines nth few low is =
    let times = times_low key keys in
    is ∙ omega (arith, times, few, low)

module _ (is_first : Bool) (flags : Option (List Bool)) (left next : LinesLeft) (line : List ℕ)
    (is : left.left ≡ line ∷ next.left) (counted : next.done ≡ left.done + 1) where
  placed : placed_from left.done left.left ≡ placed_if left.done (diagnostic_of line) (placed_from next.done next.left)
  placed =
      let more : suc left.done ≡ next.done = omega (arith, counted) in
      ap (placed_from left.done) is ∙ ap (λ (n : ℕ). placed_if left.done (diagnostic_of line) (placed_from n next.left)) more

  -- A line without a diagnostic.
  pub skips : (before after : Option Output) (text : List ℕ) (counts : List (List ℕ × ℕ)) (buffer : List ℕ) → diagnostic_of line ≡ None
      → WroteDiagnostics before after text is_first flags left counts buffer
      → WroteDiagnostics before after text is_first flags next counts buffer
  skips before after text counts buffer none so_far = record {
    keys = so_far.keys;
    counted = so_far.counted;
    few = let few = so_far.few in omega (arith, few, counted);
    wrote = left_is before after text _ _
        (ap (λ (ps : List (ℕ × DiagnosticValue)). buffer ++ diagnostics_text is_first (flagged flags (numbered_from so_far.keys ps)))
        (placed ∙ ap (λ (d : Option DiagnosticValue). placed_if left.done d (placed_from next.done next.left)) none)) so_far.wrote;
  }

  -- A line with one.
  pub finds : (keys : List (List ℕ)) (value : DiagnosticValue) (position nth : ℕ) (new : Option Bool) (others : Option (List Bool))
      → diagnostic_of line ≡ Some value → position ≡ left.done → nth ≡ times_of value.key keys → new ≡ first_flag flags
      → others ≡ other_flags flags
      → diagnostics_text is_first (flagged flags (numbered_from keys (placed_from left.done left.left)))
      ≡ diagnostic_text is_first (record { line = position; value = value; nth = nth }, new)
      ++ diagnostics_text false (flagged others (numbered_from (keys ++ value.key ∷ []) (placed_from next.done next.left)))
  finds keys value position nth new others some here number flag flags_left =
      let after = numbered_from (keys ++ value.key ∷ []) (placed_from next.done next.left) in
      ap (λ (ps : List (ℕ × DiagnosticValue)). diagnostics_text is_first (flagged flags (numbered_from keys ps)))
      (placed ∙ ap (λ (d : Option DiagnosticValue). placed_if left.done d (placed_from next.done next.left)) some)
      ∙ (λ i. diagnostic_text is_first (record { line = sym here i; value = value; nth = sym number i }, sym flag i)
      ++ diagnostics_text false (flagged (sym flags_left i) after))
