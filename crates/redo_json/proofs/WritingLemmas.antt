-- Texts that are written in parts.
use Rattle.std.proofs.Common.{◌≡◌, ℕ, List, [], ◌++◌, Option, Result, Err, sym, ap, ◌∙◌, subst}
use Rattle.std.specs.Result.{IsErr}
use Rattle.std.proofs.lemmas.List.{append_assoc, append-nil}
use Rattle.redo_device.specs.declared.feed.Broken.{Broken}
use Rattle.redo_device.specs.Sink.{Output, append_output, Writes}
use Rattle.redo_device.proofs.WritesLemmas.{at_last, in_middle, one_more, append_nothing}
use Rattle.redo_json.specs.Private.Writing.{WroteUpTo}

-- Nothing of a text was written yet.
pub begin : (before : Option Output) (text rest : List ℕ) → rest ≡ text → WroteUpTo before before text rest
begin before text rest is = record { prefix = []; wrote = append_nothing before; splits = is }

-- The remaining text is equal to other bytes.
pub left_is : (before after : Option Output) (text rest left : List ℕ) → rest ≡ left → WroteUpTo before after text rest
    → WroteUpTo before after text left
left_is before after text rest left is so_far = subst (WroteUpTo before after text) is so_far

-- One more part of what is left was written.
pub wrote_more : (before middle after : Option Output) (text part rest : List ℕ) → WroteUpTo before middle text (part ++ rest)
    → after ≡ append_output middle part 0 → WroteUpTo before after text rest
wrote_more before middle after text part rest so_far wrote = record {
  prefix = so_far.prefix ++ part;
  wrote = one_more before middle after so_far.prefix part so_far.wrote wrote;
  splits = append_assoc so_far.prefix part rest ∙ so_far.splits;
}

-- The rest was written, or writing it failed.
pub wrote_rest : (before middle after : Option Output) (text rest : List ℕ) (done : Result (Unit {0}) Broken)
    → WroteUpTo before middle text rest → Writes middle after rest done → Writes before after text done
wrote_rest before middle after text rest done so_far wrote =
    at_last before text middle after so_far.prefix rest done so_far.wrote wrote so_far.splits

-- The next part of a text failed.
pub failed_part : (before middle after : Option Output) (text part rest : List ℕ) (broken : Broken) (done : Result (Unit {0}) Broken)
    → IsErr done → WroteUpTo before middle text (part ++ rest) → Writes middle after part (Err broken) → Writes before after text done
failed_part before middle after text part rest broken done failed so_far wrote =
    in_middle before text middle after so_far.prefix part rest broken done failed so_far.wrote wrote
    (append_assoc so_far.prefix part rest ∙ so_far.splits)

-- Nothing is left.
pub wrote_all : (before after : Option Output) (text : List ℕ) → WroteUpTo before after text [] → after ≡ append_output before text 0
wrote_all before after text so_far =
    so_far.wrote ∙ ap (λ (t : List ℕ). append_output before t 0) (sym (append-nil so_far.prefix) ∙ so_far.splits)

-- The writes of an equal text.
pub writes_as : (before after : Option Output) (text other : List ℕ) (done : Result (Unit {0}) Broken) → text ≡ other
    → Writes before after text done → Writes before after other done
writes_as before after text other done is wrote = subst (λ (t : List ℕ). Writes before after t done) is wrote
