use Rattle.std.specs.Prelude.{◌++◌}
use Rattle.redo_args.proofs.CommandLemmas.{collected, none, one_more}
use Rattle.redo_args.specs.CommandLine.{flags, values}
use Rattle.redo_args.proofs.words.arguments.Goals as goal

pub returns : goal.returns
returns c =
    let listed =
    one_more c.letter_flag.result c.letter_flag.ensures.rule c.letter_flag.ensures.local
    (one_more c.unchanged.result c.unchanged.ensures.rule c.unchanged.ensures.local
    (one_more c.flag.result c.flag.ensures.rule c.flag.ensures.local
    (one_more c.debug_locks.result c.debug_locks.ensures.rule c.debug_locks.ensures.local
    (one_more c.flag-2.result c.flag-2.ensures.rule c.flag-2.ensures.local
    (one_more c.dir.result c.dir.ensures.rule c.dir.ensures.local
    (one_more c.senders.result c.senders.ensures.rule c.senders.ensures.local
    (one_more c.number.result c.number.ensures.rule c.number.ensures.local
    (one_more c.targets.result c.targets.ensures.rule c.targets.ensures.local none)))))))) in
    collected (flags ++ values) listed c.vec.result _ c.map_err.result c.map_err.ensures.cases c.vec.ensures.items
