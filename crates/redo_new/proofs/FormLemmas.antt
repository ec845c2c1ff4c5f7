-- Texts that are written in parts, if memory may run out.
use Rattle.std.proofs.Common.{◌≡◌, ℕ, suc, zero, ◌<◌, List, [], ◌∷◌, ◌++◌, Option, Result, Ok, Err, get_or, length, take, drop, refl, sym, ap, ◌∙◌, arith, subst}
use Rattle.std.specs.List.{flat_map}
use Rattle.std.specs.Result.{IsErrAnd}
use Rattle.std.proofs.lemmas.List.{append_assoc, append-nil, take-append-drop}
use Rattle.std.proofs.Math.Seq.{take-append_seam}
use Rattle.redo_device.specs.declared.feed.Broken.{Broken}
use Rattle.redo_device.specs.Sink.{Output, append_output, Writes}
use Rattle.redo_device.proofs.WritesLemmas.{append_nothing, append_output-append_output, at_last, in_middle, one_more}
use Rattle.redo_view.specs.declared.form.FormFault.{FormFault}
use Rattle.redo_view.specs.declared.form.FormFault.TheVariants.{Write, OutOfMemory}
use Rattle.redo_view.specs.Form.{FormWrites}
use Rattle.redo_new.specs.Private.Writing.{WroteUpTo}

-- The items before one, that one, and those after it.
pub one_of : {X : Type 0} (f : X → List ℕ) (xs : List X) (i : ℕ) (d : X) → i < length xs
    → flat_map f (take i xs) ++ (f (get_or xs i d) ++ flat_map f (drop (suc i) xs)) ≡ flat_map f xs
one_of f [] i d below = absurd (omega (arith, below))
one_of f (x ∷ xs) zero d below = refl
one_of f (x ∷ xs) (suc i) d below =
    append_assoc (f x) (flat_map f (take i xs)) (f (get_or xs i d) ++ flat_map f (drop (suc i) xs))
    ∙ ap (λ (t : List ℕ). f x ++ t) (one_of f xs i d (omega (arith, below)))

-- Nothing of a text was written yet.
pub begin : (before : Option Output) (text rest : List ℕ) → rest ≡ text → WroteUpTo before before text rest
begin before text rest is = record { prefix = []; wrote = append_nothing before; splits = is }

-- The remaining text is equal to other bytes.
pub left_is : (before after : Option Output) (text rest left : List ℕ) → rest ≡ left → WroteUpTo before after text rest
    → WroteUpTo before after text left
left_is before after text rest left is so_far = subst (WroteUpTo before after text) is so_far

-- One more part of what is left was written.
pub wrote_more : (before middle after : Option Output) (text part rest : List ℕ) → WroteUpTo before middle text (part ++ rest)
    → after ≡ append_output middle part 0 → WroteUpTo before after text rest
wrote_more before middle after text part rest so_far wrote = record {
  prefix = so_far.prefix ++ part;
  wrote = one_more before middle after so_far.prefix part so_far.wrote wrote;
  splits = append_assoc so_far.prefix part rest ∙ so_far.splits;
}

-- Nothing is left.
pub wrote_all : (before after : Option Output) (text : List ℕ) → WroteUpTo before after text [] → after ≡ append_output before text 0
wrote_all before after text so_far =
    so_far.wrote ∙ ap (λ (t : List ℕ). append_output before t 0) (sym (append-nil so_far.prefix) ∙ so_far.splits)

-- A write of the next part of a text failed.
pub write_failed : (before middle after : Option Output) (text part rest : List ℕ) (broken : Broken)
    → WroteUpTo before middle text (part ++ rest) → Writes middle after part (Err broken) → FormWrites before after text (Err Write)
write_failed before middle after text part rest broken so_far wrote =
    in_middle before text middle after so_far.prefix part rest broken (Err (record {})) refl so_far.wrote wrote
    (append_assoc so_far.prefix part rest ∙ so_far.splits)

-- Memory ran out before the next part.
pub ran_out : (before middle : Option Output) (text rest : List ℕ) → WroteUpTo before middle text rest
    → FormWrites before middle text (Err OutOfMemory)
ran_out before middle text rest so_far = (
  length so_far.prefix,
  so_far.wrote ∙ ap (λ (b : List ℕ). append_output before b 0)
      (sym (take-append_seam so_far.prefix rest) ∙ ap (take (length so_far.prefix)) so_far.splits),
)

pub no_memory : (before middle : Option Output) (text rest : List ℕ) (result : Result (Unit {0}) FormFault)
    → IsErrAnd result (λ fault. fault ≡ OutOfMemory) → WroteUpTo before middle text rest → FormWrites before middle text result
no_memory before middle text rest (Ok done) is so_far = absurd is
no_memory before middle text rest (Err Write) is so_far = absurd (cc)
no_memory before middle text rest (Err OutOfMemory) is so_far = ran_out before middle text rest so_far

-- The next part of a text was not written, or not completely.
pub part_failed : (before middle after : Option Output) (text part rest : List ℕ) (fault : FormFault)
    → WroteUpTo before middle text (part ++ rest) → FormWrites middle after part (Err fault) → FormWrites before after text (Err fault)
part_failed before middle after text part rest Write so_far wrote =
    write_failed before middle after text part rest (record {}) so_far wrote
part_failed before middle after text part rest OutOfMemory so_far wrote =
    let done = so_far.prefix ++ take wrote.0 part in
    let behind = drop wrote.0 part ++ rest in
    let splits : done ++ behind ≡ text =
    append_assoc so_far.prefix (take wrote.0 part) behind
    ∙ ap (λ (l : List ℕ). so_far.prefix ++ l)
    (sym (append_assoc (take wrote.0 part) (drop wrote.0 part) rest) ∙ ap (λ (l : List ℕ). l ++ rest) (take-append-drop wrote.0 part))
    ∙ so_far.splits in (
      length done,
      wrote.1 ∙ ap (λ (t : Option Output). append_output t (take wrote.0 part) 0) so_far.wrote
          ∙ append_output-append_output before so_far.prefix (take wrote.0 part) 0 0
          ∙ ap (λ (b : List ℕ). append_output before b 0) (sym (take-append_seam done behind) ∙ ap (take (length done)) splits),
    )

-- The rest was written, or writing it failed.
pub form_rest : (before middle after : Option Output) (text rest : List ℕ) (done : Result (Unit {0}) FormFault)
    → WroteUpTo before middle text rest → FormWrites middle after rest done → FormWrites before after text done
form_rest before middle after text rest (Ok u) so_far wrote =
    at_last before text middle after so_far.prefix rest (Ok tt) so_far.wrote wrote so_far.splits
form_rest before middle after text rest (Err fault) so_far wrote =
    part_failed before middle after text rest [] fault (left_is before middle text rest (rest ++ []) (sym (append-nil rest)) so_far) wrote
