use Rattle.std.proofs.Common.{◌∙◌, List, ℕ, subst, arith}
use Rattle.std.proofs.lemmas.List.{take_rest}
use Rattle.redo_html.specs.Private.Writing.{IsVerbatim}
use Rattle.redo_html.proofs.LineParts.{quote_in_line, verbatim_in_line}
use Rattle.redo_html.proofs.symbol.high_run.Goals as goal

pub returns-then-is_quote-clause-verbatim : goal.returns-then-is_quote-clause-verbatim
returns-then-is_quote-clause-verbatim c = λ line more is.
    let long = c.if-bytes-at.true in
    let room = c.requires.room in
    let least = c.min.ensures in
    let few = c.ascii_run.ensures.plain.0 in
    quote_in_line c.args.bytes.now line more c.args.at c.ascii_run.result c.min.result (omega (arith, long, room, few))
    (c.is_quote.ensures c.if-is_quote.true) is (omega (arith, least)) c.ascii_run.ensures.plain.1 c.ascii_run.ensures.line

pub returns-else-bytes-at-clause-verbatim : goal.returns-else-bytes-at-clause-verbatim
returns-else-bytes-at-clause-verbatim c = λ line more is.
    let few = c.line_run-line.ensures.line line more is in
    let window = c.letters_len.ensures.few in
    verbatim_in_line line more c.letters_len.result (omega (arith, window, few))
    (subst (λ (b : List ℕ). IsVerbatim b c.letters_len.result) (take_rest c.args.bytes.now c.args.at ∙ is) c.letters_len.ensures.verbatim)
