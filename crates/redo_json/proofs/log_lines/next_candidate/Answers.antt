use Rattle.std.proofs.Common.{ap, ◌∙◌}
use Rattle.redo_json.specs.Diagnostics.{placed_from}
use Rattle.redo_json.proofs.CandidateLemmas.{placed_same}
use Rattle.redo_json.proofs.log_lines.next_candidate.Goals as goal

pub returns-in_default-clause-none : goal.returns-in_default-clause-none
returns-in_default-clause-none c =
    placed_same _ _ c.skip_others.ensures ∙ ap (placed_from c.skip_others.new.lines.done) c.in_default.ensures.line

pub returns-clause-some : goal.returns-clause-some
returns-clause-some c = record {
  candidates = c.skip_others.new.lines;
  skipped = c.skip_others.ensures;
  first = c.in-Some.ensures.line;
  position_is = c.position-position.ensures;
  done = c.in-Some.ensures.done;
}
