use Rattle.redo_args.proofs.CommandLemmas.{collected, none, one_more}
use Rattle.redo_args.specs.JsonCommandLine.{json_rules}
use Rattle.redo_args.proofs.json.words.arguments.Goals as goal

pub returns : goal.returns
returns c =
    let listed =
    one_more c.dir.result c.dir.ensures.rule c.dir.ensures.local
    (one_more c.baseline.result c.baseline.ensures.rule c.baseline.ensures.local
    (one_more c.unchanged.result c.unchanged.ensures.rule c.unchanged.ensures.local
    (one_more c.flag.result c.flag.ensures.rule c.flag.ensures.local
    (one_more c.text_option.result c.text_option.ensures.rule c.text_option.ensures.local
    (one_more c.senders.result c.senders.ensures.rule c.senders.ensures.local
    (one_more c.optional_targets.result c.optional_targets.ensures.rule c.optional_targets.ensures.local none)))))) in
    collected json_rules listed c.vec.result _ c.map_err.result c.map_err.ensures.cases c.vec.ensures.items
