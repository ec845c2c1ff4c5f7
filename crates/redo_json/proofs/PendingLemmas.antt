-- What is written through a buffer.
use Rattle.std.proofs.Common.{◌≡◌, ℕ, List, [], ◌++◌, Option, Result, Ok, Err, OnOk, sym, ap, ◌∙◌, append_assoc}
use Rattle.redo_device.specs.Sink.{Output, Writes}
use Rattle.redo_view.specs.declared.form.FormFault.{FormFault}
use Rattle.redo_view.specs.Form.{FormWrites}
use Rattle.redo_json.specs.Private.Diagnosing.{GoesOn}
use Rattle.redo_json.specs.Private.Writing.{IsAppended, WroteUpTo}
use Rattle.redo_json.proofs.WritingLemmas.{left_is, wrote_all, wrote_more}

-- A part was appended to the buffer.
pub joined : (before after : Option Output) (text had part has rest : List ℕ) → IsAppended had has part
    → WroteUpTo before after text (had ++ (part ++ rest)) → WroteUpTo before after text (has ++ rest)
joined before after text had part has rest appended so_far =
    left_is before after text _ _
    (sym (append_assoc had part rest) ∙ ap (λ (l : List ℕ). l ++ rest) (sym appended.is)) so_far

-- The buffer was written.
pub flushed : (before old new : Option Output) (text had has part rest : List ℕ) → has ≡ []
    → WroteUpTo before old text (had ++ (part ++ rest)) → Writes old new had (Ok tt) → WroteUpTo before new text (has ++ (part ++ rest))
flushed before old new text had has part rest none so_far wrote =
    left_is before new text _ _ (ap (λ (l : List ℕ). l ++ (part ++ rest)) (sym none))
    (wrote_more before old new text had (part ++ rest) so_far wrote)

-- Nothing is left after the buffer.
pub ends : (before new : Option Output) (text has : List ℕ) (done : Result (Unit {0}) FormFault)
    → GoesOn before new text (has ++ []) done → OnOk done (has ≡ []) → FormWrites before new text done
ends before new text has (Ok u) all none =
    wrote_all before new text (left_is before new text _ _ (ap (λ (l : List ℕ). l ++ []) none) all)
ends before new text has (Err fault) all none = all
