use Rattle.std.proofs.Common.{ℕ, List, ◌++◌, sym, ap, ◌∙◌}
use Rattle.std.proofs.lemmas.Fmt.{decimal_digit}
use Rattle.redo_json.proofs.joined.join_digit.Goals as goal

pub returns : goal.returns
returns c = record {
  is = c.in_ok-push.ensures.items ∙ ap (λ (l : List ℕ). c.args.object.now.items ++ l) (sym (decimal_digit c.args.digit c.requires));
}
