use Rattle.std.proofs.Common.{ℕ, List, [], ◌++◌, length, sym, ap, ◌∙◌, arith}
use Rattle.redo_line.proofs.LineLemmas.{ended-free, rest-free}
use Rattle.redo_logs.specs.Logs.{Log}
use Rattle.redo_outline.specs.Facts.{entries_at, texts_of}
use Rattle.redo_outline.specs.Private.TextLines.{texts_from}
use Rattle.redo_outline.proofs.text_lines.TextLines.new.Goals as goal

pub invariant_of-result : goal.invariant_of-result
invariant_of-result c = (rest-free [] tt, sym (ap length (ended-free [] tt)), omega arith, omega arith)

pub returns-clause-left : goal.returns-clause-left
returns-clause-left c =
    ap (λ (lines : List (List ℕ)). lines ++ texts_from c.numbered.result.logs c.args.number 0) (ended-free [] tt)
    ∙ ap (λ (logs : List Log). texts_of (entries_at c.args.number logs)) c.numbered.ensures
