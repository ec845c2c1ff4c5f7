use Rattle.std.proofs.Common.{List, map, sym, ap, ◌∙◌, subst}
use Rattle.redo_index.specs.Index.{listed_targets}
use Rattle.redo_times.specs.declared.times.Times.{Times}
use Rattle.redo_times.specs.Private.Tally.{times_from}
use Rattle.redo_times.specs.Readers.{AreTimesOfReaders}
use Rattle.redo_times.proofs.RangeLaws.{all-in-range}
use Rattle.redo_times.proofs.ReaderLemmas.{times_of_tallies}
use Rattle.redo_times.proofs.times.read_times.Goals as goal

pub returns-clause-times : goal.returns-clause-times
returns-clause-times g c =
    let targets = listed_targets c.args.index.now in
    let known = map g.R.Feed.contents c.args.readers.items in
    subst (λ (times : List Times). AreTimesOfReaders c.args.max_bytes targets known times)
    (sym (c.in_ok-times.ensures ∙ ap (map times_from) c.deref.ensures.value))
    (times_of_tallies c.args.max_bytes targets known _ c.in_ok-tallies.ensures.tallies)

pub returns-clause-in_range : goal.returns-clause-in_range
returns-clause-in_range g c =
    all-in-range c.args.max_bytes (listed_targets c.args.index.now) (map g.R.Feed.contents c.args.readers.items) c.in_ok-times.times.items
    (returns-clause-times g c)
