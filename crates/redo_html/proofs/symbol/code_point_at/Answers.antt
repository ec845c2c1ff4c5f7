use Rattle.std.proofs.Common.{◌+◌, ◌∙◌, ap}
use Rattle.redo_html.proofs.SymbolLemmas.{some_code_point, no_code_point}
use Rattle.redo_html.proofs.symbol.code_point_at.Goals as goal

pub returns-in-Some-default-clause-code_point : goal.returns-in-Some-default-clause-code_point
returns-in-Some-default-clause-code_point c =
    c.from.ensures ∙ (some_code_point c.args.bytes.now c.decode.result.0 c.decode.ensures.char c.in-Some-default.character
    c.in-Some-default.is-0).0

pub returns-in-Some-default-clause-len : goal.returns-in-Some-default-clause-len
returns-in-Some-default-clause-len c =
    c.decode.ensures.size ∙ (some_code_point c.args.bytes.now c.decode.result.0 c.decode.ensures.char c.in-Some-default.character
    c.in-Some-default.is-0).1

pub returns-in-None-default-clause-code_point : goal.returns-in-None-default-clause-code_point
returns-in-None-default-clause-code_point c =
    ap (λ n. 0xDC00 + n) c.from-in-None-default.ensures
    ∙ (no_code_point c.args.bytes.now c.decode.result.0 c.decode.ensures.char c.in-None-default.is-0).0

pub returns-in-None-default-clause-len : goal.returns-in-None-default-clause-len
returns-in-None-default-clause-len c = (no_code_point c.args.bytes.now c.decode.result.0 c.decode.ensures.char c.in-None-default.is-0).1
