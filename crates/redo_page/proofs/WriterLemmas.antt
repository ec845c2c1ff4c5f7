-- Parts that are written one after the other.
use Rattle.std.proofs.Common.{◌≡◌, ℕ, suc, ◌+◌, ◌<◌, Bool, true, false, List, [], ◌∷◌, ◌++◌, Option, Err, length, take, get_or, refl, sym, ◌∙◌, ap, subst, arith}
use Rattle.std.proofs.Math.Seq.{take-suc}
use Rattle.std.proofs.lemmas.List.{append-nil}
use Rattle.std.specs.List.{flat_map}
use Rattle.std.proofs.lemmas.Grind.{flat_map-append}
use Rattle.redo_device.specs.Sink.{Output, Writes}
use Rattle.redo_device.proofs.WritesLemmas.{then, stops}
use Rattle.redo_html.specs.Parts.{Part, part_html}
use Rattle.redo_page.specs.declared.writer.PageWriter.{PageWriter}
use Rattle.redo_page.specs.Private.Writing.{WroteParts, WroteUnless, done_if}

-- Parts, and then others.
unless_then : (failed middle_failed last_failed : Bool) (before middle after : Option Output) (parts others : List Part)
    → WroteUnless failed before middle parts middle_failed → WroteUnless middle_failed middle after others last_failed
    → WroteUnless failed before after (parts ++ others) last_failed
unless_then true middle_failed last_failed before middle after parts others wrote more =
    by middle_failed wrote.1 more
  where
    by : (failed : Bool) → failed ≡ true → WroteUnless failed middle after others last_failed
        → WroteUnless true before after (parts ++ others) last_failed
    by true is more = (more.0 ∙ wrote.0, more.1)
    by false is more = absurd (cc)
unless_then false true last_failed before middle after parts others wrote more =
    rw (more.0, more.1) (subst (λ t. Writes before middle t (Err (record {}))) (sym (flat_map-append part_html parts others))
    (stops before middle (flat_map part_html parts) (flat_map part_html others) (record {}) (Err (record {})) refl wrote))
unless_then false false last_failed before middle after parts others wrote more =
    subst (λ t. Writes before after t (done_if last_failed)) (sym (flat_map-append part_html parts others))
    (then before middle after (flat_map part_html parts) (flat_map part_html others) (done_if last_failed) wrote more)

pub wrote_then : {W : Type 0} {written : W → Option Output} {before middle after : PageWriter W} {parts others : List Part}
    → WroteParts written before middle parts → WroteParts written middle after others → WroteParts written before after (parts ++ others)
wrote_then {W} {written} {before} {middle} {after} {parts} {others} wrote more = record {
  out = more.out ∙ wrote.out;
  wrote = unless_then before.failed middle.failed after.failed (written before.out.now) (written middle.out.now)
      (written after.out.now) parts others wrote.wrote more.wrote;
}

-- Parts of one item more.
pub wrote_next : {W X : Type 0} {written : W → Option Output} {before middle after : PageWriter W} (f : X → List Part) (items : List X)
    (i : ℕ) (d : X) → i < length items
    → WroteParts written before middle (flat_map f (take i items)) → WroteParts written middle after (f (get_or items i d))
    → WroteParts written before after (flat_map f (take (i + 1) items))
wrote_next {W} {X} {written} {before} {middle} {after} f items i d below wrote more =
    let front = flat_map f (take i items) in
    let next : suc i ≡ i + 1 = omega arith in
    let split : front ++ f (get_or items i d) ≡ flat_map f (take (i + 1) items) =
    ap (λ (t : List Part). front ++ t) (sym (append-nil (f (get_or items i d))))
    ∙ sym (flat_map-append f (take i items) (get_or items i d ∷ [])) ∙ ap (flat_map f) (sym (take-suc items i d below))
    ∙ ap (λ n. flat_map f (take n items)) next in
    subst (λ parts. WroteParts written before after parts) split (wrote_then wrote more)
