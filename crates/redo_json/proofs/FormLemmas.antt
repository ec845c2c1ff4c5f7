-- Texts that are written in parts, if memory may run out.
use Rattle.std.proofs.Common.{◌≡◌, ℕ, List, [], ◌++◌, Option, Result, Ok, Err, length, take, drop, refl, sym, ap, ◌∙◌, subst}
use Rattle.std.proofs.lemmas.List.{append_assoc, append-nil, take-append-drop}
use Rattle.std.proofs.Math.Seq.{take-append_seam}
use Rattle.redo_device.specs.declared.feed.Broken.{Broken}
use Rattle.redo_device.specs.Sink.{Output, append_output, Writes}
use Rattle.redo_device.proofs.WritesLemmas.{append_output-append_output}
use Rattle.redo_view.specs.declared.form.FormFault.{FormFault}
use Rattle.redo_view.specs.declared.form.FormFault.TheVariants.{Write, OutOfMemory}
use Rattle.redo_view.specs.Form.{FormWrites}
use Rattle.redo_json.specs.Private.Writing.{WroteUpTo}
use Rattle.redo_json.proofs.WritingLemmas.{failed_part, left_is, wrote_rest}

-- A write of the next part of a text failed.
pub write_failed : (before middle after : Option Output) (text part rest : List ℕ) (broken : Broken)
    → WroteUpTo before middle text (part ++ rest) → Writes middle after part (Err broken) → FormWrites before after text (Err Write)
write_failed before middle after text part rest broken so_far wrote =
    failed_part before middle after text part rest broken (Err (record {})) refl so_far wrote

-- Memory ran out before the next part.
pub ran_out : (before middle : Option Output) (text rest : List ℕ) → WroteUpTo before middle text rest
    → FormWrites before middle text (Err OutOfMemory)
ran_out before middle text rest so_far = (
  length so_far.prefix,
  so_far.wrote ∙ ap (λ (b : List ℕ). append_output before b 0)
      (sym (take-append_seam so_far.prefix rest) ∙ ap (take (length so_far.prefix)) so_far.splits),
)

-- The next part of a text was not written, or not completely.
pub part_failed : (before middle after : Option Output) (text part rest : List ℕ) (fault : FormFault)
    → WroteUpTo before middle text (part ++ rest) → FormWrites middle after part (Err fault) → FormWrites before after text (Err fault)
part_failed before middle after text part rest Write so_far wrote =
    write_failed before middle after text part rest (record {}) so_far wrote
part_failed before middle after text part rest OutOfMemory so_far wrote =
    let done = so_far.prefix ++ take wrote.0 part in
    let behind = drop wrote.0 part ++ rest in
    let splits : done ++ behind ≡ text =
    append_assoc so_far.prefix (take wrote.0 part) behind
    ∙ ap (λ (l : List ℕ). so_far.prefix ++ l)
    (sym (append_assoc (take wrote.0 part) (drop wrote.0 part) rest) ∙ ap (λ (l : List ℕ). l ++ rest) (take-append-drop wrote.0 part))
    ∙ so_far.splits in (
      length done,
      wrote.1 ∙ ap (λ (t : Option Output). append_output t (take wrote.0 part) 0) so_far.wrote
          ∙ append_output-append_output before so_far.prefix (take wrote.0 part) 0 0
          ∙ ap (λ (b : List ℕ). append_output before b 0) (sym (take-append_seam done behind) ∙ ap (take (length done)) splits),
    )

-- The writes of an equal text.
pub forms_as : (before after : Option Output) (text other : List ℕ) (done : Result (Unit {0}) FormFault) → text ≡ other
    → FormWrites before after text done → FormWrites before after other done
forms_as before after text other done is wrote = subst (λ (t : List ℕ). FormWrites before after t done) is wrote

-- The rest was written, or writing it failed.
pub form_rest : (before middle after : Option Output) (text rest : List ℕ) (done : Result (Unit {0}) FormFault)
    → WroteUpTo before middle text rest → FormWrites middle after rest done → FormWrites before after text done
form_rest before middle after text rest (Ok u) so_far wrote = wrote_rest before middle after text rest (Ok tt) so_far wrote
form_rest before middle after text rest (Err fault) so_far wrote =
    part_failed before middle after text rest [] fault (left_is before middle text rest (rest ++ []) (sym (append-nil rest)) so_far) wrote
