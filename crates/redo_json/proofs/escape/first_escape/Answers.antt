use Rattle.std.proofs.Common.{ℕ, ◌+◌, ◌<◌, List, length, take, get_or, sym, subst, arith}
use Rattle.std.proofs.lemmas.List.{take_rest}
use Rattle.redo_json.specs.Private.Writing.{HasEscape}
use Rattle.redo_json.proofs.EscapeLemmas.{all_plain, has_escape}
use Rattle.redo_json.proofs.escape.first_escape.Goals as goal

pub returns-then-len-text-clause-none : goal.returns-then-len-text-clause-none
returns-then-len-text-clause-none c =
    all_plain c.args.text.now c.plain_len-len.result c.plain_len-len.ensures c.if-len-text.true

pub returns-clause-some : goal.returns-clause-some
returns-clause-some c =
    let text = c.args.text.now in
    let len = c.plain_len-len.result in
    let below : len < length text = omega (arith, c.plain_len-len.ensures.within, c.if-len-text.false) in
    subst (λ (b : List ℕ). HasEscape text (take len text) (get_or text len 0) b) (sym (take_rest text (len + 1)))
    (has_escape text len c.plain_len-len.ensures below)
