use Rattle.std.proofs.Common.{[], refl}
use Rattle.redo_line.proofs.LineLemmas.{rest-free}
use Rattle.redo_times.proofs.SkipLemmas.{complete, none_there, within}
use Rattle.redo_times.proofs.lines.skip_lines.Goals as goal

pub returns-in-Some-clause-range : goal.returns-in-Some-clause-range
returns-in-Some-clause-range c =
    within c.args.bytes.now _ c.find_at-end.result c.in-Some.last refl c.in-Some.ensures.0.high

pub returns-in-Some-clause-complete : goal.returns-in-Some-clause-complete
returns-in-Some-clause-complete c =
    complete c.args.bytes.now _ c.find_at-end.result c.in-Some.last refl c.in-Some.ensures.0.high c.in-Some.ensures.1

pub returns-in-Some-clause-none : goal.returns-in-Some-clause-none
returns-in-Some-clause-none c =
    none_there c.args.bytes.now _ c.find_at-end.result c.in-Some.last refl c.in-Some.ensures.0.high c.find_at-end.ensures.none

pub returns-in-None-clause-complete : goal.returns-in-None-clause-complete
returns-in-None-clause-complete c = rest-free [] tt
