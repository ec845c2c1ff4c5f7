use Rattle.std.proofs.Common.{◌∙◌, sym}
use Rattle.redo_options.specs.Arguments.{argument_bytes}
use Rattle.redo_command.proofs.SuggestionLemmas.{not_pushed, pushed}
use Rattle.redo_command.proofs.suggestions.push_if_ending.Goals as goal

pub returns-then-not-ends_with : goal.returns-then-not-ends_with
returns-then-not-ends_with c =
    not_pushed c.args.name.now (argument_bytes c.args.names.now.items) c.args.target.now
    (sym c.ends_with.ensures.value ∙ c.if-not-ends_with.true)

pub returns : goal.returns
returns c =
    pushed c.args.name.now c.args.names.now.items c.push.new.self.items c.in_ok-copy.copy c.args.target.now c.in_ok-push.ensures.items
    (c.in_ok-copy.ensures.items_if_clones_equal (λ x y is. is)) (sym c.ends_with.ensures.value ∙ c.if-not-ends_with.false)
