use Rattle.redo_args.proofs.CommandLemmas.{collected, none, one_more}
use Rattle.redo_args.specs.HtmlCommandLine.{html_rules}
use Rattle.redo_args.proofs.html.words.arguments.Goals as goal

pub returns : goal.returns
returns c =
    let listed =
    one_more c.dir.result c.dir.ensures.rule c.dir.ensures.local
    (one_more c.baseline.result c.baseline.ensures.rule c.baseline.ensures.local
    (one_more c.text_option.result c.text_option.ensures.rule c.text_option.ensures.local
    (one_more c.text_option-2.result c.text_option-2.ensures.rule c.text_option-2.ensures.local
    (one_more c.unchanged.result c.unchanged.ensures.rule c.unchanged.ensures.local
    (one_more c.debug_locks.result c.debug_locks.ensures.rule c.debug_locks.ensures.local
    (one_more c.unsigned.result c.unsigned.ensures.rule c.unsigned.ensures.local
    (one_more c.senders.result c.senders.ensures.rule c.senders.ensures.local
    (one_more c.optional_targets.result c.optional_targets.ensures.rule c.optional_targets.ensures.local none)))))))) in
    collected html_rules listed c.vec.result _ c.map_err.result c.map_err.ensures.cases c.vec.ensures.items
