use Rattle.std.proofs.Common.{arith}
use Rattle.redo_json.proofs.JoinLemmas.{appended_as, appended_then, last_digit}
use Rattle.redo_json.proofs.joined.join_two.Goals as goal

pub returns : goal.returns
returns c =
    let low = c.requires.0 in
    let high = c.requires.1 in
    appended_as _ _ _ _ _ (last_digit c.args.value (omega (arith, low)) (omega (arith, high)))
    (appended_then _ _ _ _ _ _ c.in_ok-join_digit.ensures c.join_digit-2.ensures)
