-- Texts that are written in parts.
use Rattle.std.proofs.Common.{◌≡◌, ℕ, List, [], ◌++◌, Option, Result, Ok, Err, refl, sym, ◌∙◌, ap, subst}
use Rattle.std.specs.Result.{IsErr}
use Rattle.std.proofs.lemmas.List.{append_assoc, append-nil}
use Rattle.redo_device.specs.declared.feed.Broken.{Broken}
use Rattle.redo_device.specs.Sink.{Output, append_output, Writes}
use Rattle.redo_device.proofs.WritesLemmas.{then, stops, append_nothing}
use Rattle.redo_page.specs.Private.Texts.{WroteUpTo}

pub wrote_none : (before : Option Output) (text : List ℕ) → WroteUpTo before before text text
wrote_none before text = record { prefix = []; wrote = append_nothing before; splits = refl }

pub wrote_more : (before middle after : Option Output) (text part left : List ℕ) → WroteUpTo before middle text (part ++ left)
    → after ≡ append_output middle part 0 → WroteUpTo before after text left
wrote_more before middle after text part left so_far wrote = record {
  prefix = so_far.prefix ++ part;
  wrote = then before middle after so_far.prefix part (Ok tt) so_far.wrote wrote;
  splits = append_assoc so_far.prefix part left ∙ so_far.splits;
}

pub wrote_all : (before after : Option Output) (text : List ℕ) → WroteUpTo before after text [] → after ≡ append_output before text 0
wrote_all before after text so_far =
    so_far.wrote ∙ ap (λ (t : List ℕ). append_output before t 0) (sym (append-nil so_far.prefix) ∙ so_far.splits)

pub failed_part : (before middle after : Option Output) (text part left : List ℕ) (broken : Broken) (done : Result (Unit {0}) Broken)
    → IsErr done → WroteUpTo before middle text (part ++ left) → Writes middle after part (Err broken) → Writes before after text done
failed_part before middle after text part left broken done failed so_far wrote =
    subst (λ t. Writes before after t done) (append_assoc so_far.prefix part left ∙ so_far.splits)
    (stops before after (so_far.prefix ++ part) left broken done failed
    (then before middle after so_far.prefix part (Err broken) so_far.wrote wrote))
