use Rattle.std.proofs.Common.{ℕ, List, ◌++◌, ap, ◌∙◌}
use Rattle.std.proofs.lemmas.List.{append-nil}
use Rattle.json.specs.Print.{quoted}
use Rattle.redo_json.specs.Text.{text_of}
use Rattle.redo_json.specs.Private.Parts.{item_text}
use Rattle.redo_json.proofs.WritingLemmas.{writes_as}
use Rattle.redo_json.proofs.list.write_item.Goals as goal

pub returns : goal.returns
returns g c =
    let string = quoted (text_of c.args.bytes.now) in
    writes_as _ _ _ (item_text c.args.is_first c.args.bytes.now) _
    (ap (λ (l : List ℕ). c.comma_after.result.now ++ l) (append-nil string) ∙ ap (λ (l : List ℕ). l ++ string) c.comma_after.ensures)
    c.write_parts.ensures
