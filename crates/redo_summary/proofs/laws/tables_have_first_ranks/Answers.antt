use Rattle.std.proofs.Common.{map}
use Rattle.redo_summary.specs.Laws.{warning_ranks}
use Rattle.redo_summary.specs.Ranks.{alone_ranks, rank_of}
use Rattle.redo_summary.specs.Spans.{recipes_of, targets_of}
use Rattle.redo_summary.specs.Usage.{memory_ranks}
use Rattle.redo_summary.proofs.TableLemmas.{has_first_ten}
use Rattle.redo_summary.proofs.laws.tables_have_first_ranks.Goals as goal

pub returns-clause-longest : goal.returns-clause-longest
returns-clause-longest c = λ nodes times. has_first_ten (map rank_of (recipes_of (targets_of nodes times)))

pub returns-clause-warned : goal.returns-clause-warned
returns-clause-warned c = λ nodes times. has_first_ten (warning_ranks nodes)

pub returns-clause-memory : goal.returns-clause-memory
returns-clause-memory c = λ nodes facts recipes. has_first_ten (memory_ranks nodes facts recipes)

pub returns-clause-alone : goal.returns-clause-alone
returns-clause-alone c = λ nodes times. has_first_ten (alone_ranks (recipes_of (targets_of nodes times)))
