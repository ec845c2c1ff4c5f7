use Rattle.std.proofs.Common.{◌≡◌, [], ◌∷◌, ◌++◌, List, replicate, length, ap, ◌∙◌, arith}
use Rattle.std.proofs.lemmas.List.{replicate_more}
use Rattle.redo_facts.specs.Facts.{RecipeFacts, nothing}
use Rattle.redo_facts.proofs.TargetLemmas.{none_stated}
use Rattle.redo_facts.proofs.lines.no_facts.Goals as goal

pub loop-preserved : goal.loop-preserved
loop-preserved c =
    c.in_ok-push.ensures.items ∙ ap (λ (one : RecipeFacts). c.loop.facts.items ++ one ∷ []) c.nothing.ensures
    ∙ ap (λ (before : List RecipeFacts). before ++ nothing ∷ []) c.loop.invariant ∙ replicate_more c.loop.counter nothing

pub returns-clause-facts : goal.returns-clause-facts
returns-clause-facts c =
    let all : c.loop.counter ≡ length c.args.index.now =
    omega (arith, c.loop-test.false, c.loop.auto.counter-end, c.len-end.ensures.len) in
    c.loop.invariant ∙ ap (λ n. replicate n nothing) all ∙ none_stated c.args.index.now
