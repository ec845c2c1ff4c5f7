use Rattle.std.proofs.Common.{List, ℕ, drop, ◌+◌, ◌∙◌, sym}
use Rattle.std.specs.Prelude.{fold}
use Rattle.std.proofs.lemmas.List.{at_drop_more}
use Rattle.redo_html.specs.Style.{setting_after}
use Rattle.redo_html.specs.Symbols.{numbers_from}
use Rattle.redo_html.proofs.style.after_parameters.Goals as goal

pub loop-byte-preserved : goal.loop-byte-preserved
loop-byte-preserved c =
    let parameters = c.args.parameters.now in
    let i = c.loop-byte.byte-index in
    let read = c.after_byte.ensures in
    record {
      bound = read.bound;
      same = read.same (drop (i + 1) parameters)
          ∙ sym (at_drop_more (λ (bytes : List ℕ). fold setting_after c.loop-byte.setting (numbers_from c.loop-byte.value bytes)) parameters
          i 0 c.loop-byte-test.true) ∙ c.loop-byte.invariant.same;
    }
