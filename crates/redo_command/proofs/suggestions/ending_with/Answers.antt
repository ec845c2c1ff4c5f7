use Rattle.std.proofs.Common.{◌≢◌, ◌∙◌, [], length, sym}
use Rattle.std.proofs.lemmas.Option.{get_or_from_slice_get, slice_get_within}
use Rattle.redo_index.specs.Index.{listed_targets}
use Rattle.redo_options.specs.Arguments.{argument_bytes}
use Rattle.redo_command.proofs.SuggestionLemmas.{count_of, five_found, next_found, still_few}
use Rattle.redo_command.proofs.suggestions.ending_with.Goals as goal

pub returns-then-len-eq-MAX_SUGGESTIONS : goal.returns-then-len-eq-MAX_SUGGESTIONS
returns-then-len-eq-MAX_SUGGESTIONS c =
    five_found c.args.name.now (listed_targets c.args.index.now) c.loop-i.i (argument_bytes c.loop-i.names.items) c.loop-i.invariant.1
    (count_of c.loop-i.names.items ∙ sym c.loop-i.names.ok.0 ∙ sym c.len.ensures ∙ c.if-len-eq-MAX_SUGGESTIONS.true)

pub loop-i-preserved : goal.loop-i-preserved
loop-i-preserved c =
    let name = c.args.name.now in
    let targets = listed_targets c.args.index.now in
    let found = argument_bytes c.loop-i.names.items in
    let target = c.bytes-target.result.now in
    let within = slice_get_within targets c.loop-i.i c.name.result.now c.name.ensures in
    let at = get_or_from_slice_get targets c.loop-i.i c.name.result.now [] c.name.ensures ∙ sym c.bytes-target.ensures.bytes in
    let fewer : length found ≢ 5 = λ is. c.if-len-eq-MAX_SUGGESTIONS.false (c.len.ensures ∙ c.loop-i.names.ok.0
    ∙ sym (count_of c.loop-i.names.items) ∙ is) in (
      still_few name found (argument_bytes c.push_if_ending.new.names.items) target c.in_ok-push_if_ending.ensures
          c.loop-i.invariant.0 fewer,
      next_found name targets c.loop-i.i found (argument_bytes c.push_if_ending.new.names.items) target within at c.loop-i.invariant.1
          c.in_ok-push_if_ending.ensures,
    )
