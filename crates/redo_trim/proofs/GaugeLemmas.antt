-- The gauges of open logs, kept with the innermost log last.
use Rattle.std.proofs.Common.{◌≡◌, ℕ, zero, suc, ◌+◌, List, [], ◌∷◌, ◌++◌, get_or, length, reverse, refl, sym, ◌∙◌, ap, arith}
use Rattle.std.proofs.Math.ListN.{set}
use Rattle.std.proofs.lemmas.List.{reverse-append}
use Rattle.redo_trim.specs.declared.limit.Gauge.{Gauge}
use Rattle.redo_trim.specs.Trim.{with_bytes, with_text}

-- A log is the innermost one of two or more.
text_append : (size : ℕ) (gauge : Gauge) (inner outer : List Gauge)
    → with_text size ((inner ++ gauge ∷ []) ++ outer) ≡ with_text size (inner ++ gauge ∷ []) ++ outer
text_append size gauge [] outer = refl
text_append size gauge (first ∷ inner) outer = refl

pub last_text : (gauges : List Gauge) (at size : ℕ) (default : Gauge) → at + 1 ≡ length gauges
    → reverse (set gauges at (with_bytes size (get_or gauges at default))) ≡ with_text size (reverse gauges)
last_text [] at size default last = absurd (omega (arith, last))
last_text (gauge ∷ []) zero size default last = refl
last_text (gauge ∷ []) (suc at) size default last = absurd (omega (arith, last))
last_text (gauge ∷ next ∷ gauges) zero size default last = absurd (omega (arith, last))
last_text (gauge ∷ next ∷ gauges) (suc at) size default last =
    reverse-append (gauge ∷ []) (set (next ∷ gauges) at (with_bytes size (get_or (next ∷ gauges) at default)))
    ∙ ap (λ gs. gs ++ gauge ∷ []) (last_text (next ∷ gauges) at size default (omega (arith, last)))
    ∙ ap (λ gs. with_text size gs ++ gauge ∷ []) (reverse-append (next ∷ []) gauges)
    ∙ sym (text_append size next (reverse gauges) (gauge ∷ []))
    ∙ sym (ap (λ gs. with_text size (gs ++ gauge ∷ [])) (reverse-append (next ∷ []) gauges))
    ∙ sym (ap (with_text size) (reverse-append (gauge ∷ []) (next ∷ gauges)))
