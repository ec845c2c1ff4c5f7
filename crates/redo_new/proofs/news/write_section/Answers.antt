use Rattle.std.proofs.Common.{◌∙◌, ◌++◌, ℕ, List, suc, take, drop, ap}
use Rattle.std.specs.List.{flat_map}
use Rattle.std.proofs.lemmas.Result.{err_from_is_err_and}
use Rattle.redo_line.specs.Lines.{with_line_feed}
use Rattle.redo_new.specs.declared.target.TargetNews.{TargetNews}
use Rattle.redo_new.specs.Private.Sections.{target_lines}
use Rattle.redo_new.proofs.FormLemmas.{one_of, part_failed}
use Rattle.redo_new.proofs.news.write_section.Goals as goal

pub returns-in_err-write_target : goal.returns-in_err-write_target
returns-in_err-write_target g c =
    let targets = c.args.targets.now in
    let i = c.loop-news.news-index in
    let text : TargetNews → List ℕ = λ news. flat_map with_line_feed (target_lines c.args.table.now c.args.section news) in
    let given = err_from_is_err_and c.from_residual.result c.from_residual.ensures.1 in
    rw (given.1, given.2) (part_failed _ _ _ (flat_map text targets) _ (flat_map text (drop (suc i) targets)) _
    (record {
      prefix = flat_map text (take i targets);
      wrote = c.loop-news.invariant;
      splits = ap (λ (news : TargetNews).
          flat_map text (take i targets) ++ (text news ++ flat_map text (drop (suc i) targets))) c.news-item.is
          ∙ one_of text targets i _ c.loop-news-test.true;
    }) c.in_err-write_target.ensures)
