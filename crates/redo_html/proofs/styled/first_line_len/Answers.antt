use Rattle.std.proofs.Common.{◌≡◌, [], ◌∷◌, sym, ◌∙◌}
use Rattle.redo_line.proofs.CutLemmas.{holds_none}
use Rattle.redo_line.proofs.LineLemmas.{ended-free}
use Rattle.redo_html.proofs.LineWriting.{first_line_at}
use Rattle.redo_html.proofs.styled.first_line_len.Goals as goal

pub returns-in-Some-clause-line : goal.returns-in-Some-clause-line
returns-in-Some-clause-line c = λ line more is. first_line_at c.args.lines.now c.in-Some.at c.in-Some.ensures line more is

pub returns-in-None-clause-line : goal.returns-in-None-clause-line
returns-in-None-clause-line c = λ line more is.
    let same : [] ≡ line ∷ more = sym (ended-free c.args.lines.now (holds_none c.args.lines.now c.in-None.ensures)) ∙ is in absurd (cc)
