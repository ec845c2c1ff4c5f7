use Rattle.std.proofs.Common.{◌∙◌, ap, sym}
use Rattle.std.proofs.lemmas.List.{drop_all}
use Rattle.redo_html.specs.Shown.{is_printable}
use Rattle.redo_html.proofs.PrintableLemmas.{printable-nil}
use Rattle.redo_html.proofs.printable.is_printable.Goals as goal

pub returns : goal.returns
returns c = sym (c.symbols.invariant.visible ∙ ap is_printable (drop_all c.symbols.at c.args.name.now c.symbols-test.false) ∙ printable-nil)
