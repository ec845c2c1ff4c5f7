use Rattle.std.proofs.Common.{◌≡◌, [], ◌∷◌, ◌++◌, List, replicate, length, ap, ◌∙◌, arith}
use Rattle.std.proofs.lemmas.List.{length-map, replicate_more}
use Rattle.redo_index.specs.declared.index_entry.IndexEntry.{IndexEntry}
use Rattle.redo_index.specs.Index.{listed_targets}
use Rattle.redo_times.specs.Private.Tally.{TallyValue, tally_of}
use Rattle.redo_times.proofs.TallyLemmas.{all_empty}
use Rattle.redo_times.proofs.times.empty_tallies.Goals as goal

pub loop-preserved : goal.loop-preserved
loop-preserved c =
    c.in_ok-push.ensures.items ∙ ap (λ (one : TallyValue). c.loop.tallies.items ++ one ∷ []) c.empty.ensures
    ∙ ap (λ (before : List TallyValue). before ++ tally_of [] [] ∷ []) c.loop.invariant ∙ replicate_more c.loop.counter (tally_of [] [])

pub returns-clause-tallies : goal.returns-clause-tallies
returns-clause-tallies c =
    let index = c.args.index.now in
    let all : c.loop.counter ≡ length (listed_targets index) =
    omega (
      arith,
      c.loop-test.false,
      c.loop.auto.counter-end,
      c.len-end.ensures.len,
      length-map index (λ (entry : IndexEntry). entry.target),
    ) in
    c.loop.invariant ∙ ap (λ n. replicate n (tally_of [] [])) all ∙ all_empty (listed_targets index)
