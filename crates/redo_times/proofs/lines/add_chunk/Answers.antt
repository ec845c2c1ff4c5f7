use Rattle.std.proofs.Common.{◌≡◌, ◌+◌, ◌-◌, List, ℕ, ◌++◌, length, take, drop, ap, ◌∙◌}
use Rattle.redo_index.specs.Index.{listed_targets}
use Rattle.redo_times.proofs.LineLemmas.{left_is, partial_behind, partial_within, tallies_behind, tallies_within}
use Rattle.redo_times.proofs.lines.add_chunk.Goals as goal

pub returns-in_default-clause-partial : goal.returns-in_default-clause-partial
returns-in_default-clause-partial c taken kept =
    partial_within taken c.args.partial.now.items c.args.chunk.now kept c.in_default.ensures c.extend_from_slice.new.self.items
    c.in_ok-extend_from_slice.ensures.items

pub returns-in_default-clause-tallies : goal.returns-in_default-clause-tallies
returns-in_default-clause-tallies c reports taken kept are =
    tallies_within taken c.args.partial.now.items c.args.chunk.now kept c.in_default.ensures
    (listed_targets c.args.index.now) c.args.log.target.now reports c.args.tallies.now are

pub returns-clause-partial : goal.returns-clause-partial
returns-clause-partial c taken kept =
    let chunk = c.args.chunk.now in
    let partial = c.args.partial.now.items in
    let at = c.in-Some.at in
    let others = take (length chunk - (at + 1)) (drop (at + 1) chunk) in
    let upto = c.in_ok-upto.upto in
    let line_is : c.deref.result.now ≡ partial ++ take at chunk = c.deref.ensures.value ∙ c.in_ok-extend_from_slice-2.ensures.items in
    let after_is =
    c.in_ok-extend_from_slice-3.ensures.items
    ∙ ap (λ (start : List ℕ). start ++ take (length others - upto) (drop upto others)) c.clear.ensures.items ∙ left_is others upto
    ∙ c.in_ok-upto.ensures.rest in
    partial_behind taken partial chunk kept at c.in-Some.ensures c.deref.result.now others line_is
    (left_is chunk (at + 1)) c.extend_from_slice-3.new.self.items after_is

pub returns-clause-tallies : goal.returns-clause-tallies
returns-clause-tallies c reports taken kept are =
    let chunk = c.args.chunk.now in
    let partial = c.args.partial.now.items in
    let at = c.in-Some.at in
    let others = take (length chunk - (at + 1)) (drop (at + 1) chunk) in
    let line_is : c.deref.result.now ≡ partial ++ take at chunk = c.deref.ensures.value ∙ c.in_ok-extend_from_slice-2.ensures.items in
    tallies_behind taken partial chunk kept at c.in-Some.ensures c.deref.result.now others line_is (left_is chunk (at + 1))
    (listed_targets c.args.index.now) c.args.log.target.now reports c.args.tallies.now c.add_line.new.tallies c.add_lines.new.tallies are
    c.in_ok-add_line.ensures c.in_ok-upto.ensures.tallies
