-- Code points of a passage that are written after the highlights before them.
use Rattle.std.proofs.Common.{◌≡◌, ℕ, ◌<◌, ◌≤◌, Bool, List, ◌++◌, Option, Result, Err, length, drop, refl, sym, ◌∙◌, ap, subst}
use Rattle.std.specs.Result.{IsErr}
use Rattle.redo_device.specs.declared.feed.Broken.{Broken}
use Rattle.redo_device.specs.Sink.{Output, append_output, Writes}
use Rattle.redo_html.specs.declared.text_kind.TextKind.{TextKind}
use Rattle.redo_html.specs.declared.look.Look.{Look}
use Rattle.redo_html.specs.Private.Highlighting.{after_code_point, html_from}
use Rattle.redo_html.specs.Private.Writing.{WroteUpTo, WroteSome, WroteSomeOrFailed, style_in}
use Rattle.redo_html.proofs.WritingLemmas.{begin_parts, wrote_more, failed_part, some_failed}

module _ (before : Option Output) (kind : TextKind) (look : Look) (bytes highlights part : List ℕ) (unprintable : Bool) (len : ℕ)
    (step : highlights ++ (part ++ html_from kind (after_code_point look unprintable) (drop len bytes)) ≡ html_from kind look bytes) where
  abbrev rest : List ℕ
  rest = html_from kind (after_code_point look unprintable) (drop len bytes)

  start : WroteUpTo before before (html_from kind look bytes) (highlights ++ (part ++ rest))
  start = begin_parts before (html_from kind look bytes) (highlights ++ (part ++ rest)) step

  pub highlights_failed : (after : Option Output) (broken : Broken) (next : Look) (done : Result ℕ Broken) → IsErr done
      → Writes before after highlights (Err broken) → WroteSomeOrFailed before after kind look bytes next done
  highlights_failed after broken next done failed wrote =
      some_failed before after kind look bytes broken next done failed
      (failed_part before before after (html_from kind look bytes) highlights (part ++ rest) broken (Err broken) refl start wrote)

  pub part_failed : (middle after : Option Output) (broken : Broken) (next : Look) (done : Result ℕ Broken) → IsErr done
      → middle ≡ append_output before highlights 0 → Writes middle after part (Err broken)
      → WroteSomeOrFailed before after kind look bytes next done
  part_failed middle after broken next done failed written wrote =
      some_failed before after kind look bytes broken next done failed
      (failed_part before middle after (html_from kind look bytes) part rest broken (Err broken) refl
      (wrote_more before before middle (html_from kind look bytes) highlights (part ++ rest) start written) wrote)

  pub both_written : (middle after : Option Output) (next : Look) → next ≡ after_code_point look unprintable
      → style_in kind look.wanted (drop len bytes) ≡ style_in kind look.wanted bytes → 0 < len → len ≤ length bytes
      → middle ≡ append_output before highlights 0 → after ≡ append_output middle part 0 → WroteSome before after kind look bytes next len
  both_written middle after next is style some within written wrote = record {
    some = some;
    within = within;
    wrote = subst (λ (l : Look). WroteUpTo before after (html_from kind look bytes) (html_from kind l (drop len bytes))) (sym is)
        (wrote_more before middle after (html_from kind look bytes) part rest
        (wrote_more before before middle (html_from kind look bytes) highlights (part ++ rest) start written) wrote);
    style = ap (λ (l : Look). style_in kind l.wanted (drop len bytes)) is ∙ style;
  }
