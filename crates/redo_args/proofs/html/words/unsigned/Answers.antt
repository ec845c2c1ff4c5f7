use Rattle.std.proofs.Common.{◌≡◌, ap, rules, Some}
use Rattle.clap.specs.Walk.{Rule}
use Rattle.clap.specs.declared.builder.value_parser.ValueParser.TheVariants.{Unsigned}
use Rattle.redo_args.proofs.html.words.unsigned.Goals as goal

pub returns-clause-rule : goal.returns-clause-rule
returns-clause-rule c =
    let parser = Some (Unsigned 0 18446744073709551615) in
    let given : c.value_parser-2.result.value_parser ≡ parser = search rules in
    rw (c.value_parser-2.ensures.others, given) (ap (λ (rule : Rule). record rule { parser = parser }) c.text_option.ensures.rule)
