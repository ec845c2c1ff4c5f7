use Rattle.std.proofs.Common.{◌-◌, ap, sym, subst}
use Rattle.std.specs.List.{slice_range}
use Rattle.redo_logs.specs.Private.Store.{AreLinesOf, Within}
use Rattle.redo_logs.proofs.TextLines.{lines_shown}
use Rattle.redo_logs.proofs.store.Store.lines.Goals as goal

pub returns-in-Texts-clause-lines : goal.returns-in-Texts-clause-lines
returns-in-Texts-clause-lines c =
    let self = c.args.self.now in
    let left = c.skip_lines.result.now in
    subst (λ one. AreLinesOf self one c.args.place left (c.in-Texts.lines - c.args.place)) (sym c.in-Texts.is)
    (lines_shown self c.in-Texts.lines c.in-Texts.block c.in-Texts.start c.in-Texts.end c.args.place _ left
    (subst (Within self) c.in-Texts.is c.requires.within)
    (ap (λ bytes. slice_range bytes c.in-Texts.start c.in-Texts.end) c.block.ensures) c.skip_lines.ensures.lines c.skip_lines.ensures.last)
