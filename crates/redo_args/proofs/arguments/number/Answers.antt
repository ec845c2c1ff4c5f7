use Rattle.std.proofs.Common.{◌≡◌, ◌∙◌, ◌<◌, ◌^◌, ℕ, ap, rules, Some}
use Rattle.std.specs.Prelude.{ℤ, pos}
use Rattle.std.specs.Int.{int_max, int_min}
use Rattle.clap.specs.Values.{signed_between}
use Rattle.clap.specs.Walk.{Rule}
use Rattle.clap.specs.declared.builder.value_parser.ValueParser.{ValueParser}
use Rattle.clap.specs.declared.builder.value_parser.ValueParser.TheVariants.{Signed}
use Rattle.redo_args.proofs.arguments.number.Goals as goal

-- The range of `u32`, narrowed to the range from 1 to `greatest`.
narrowed : (parser : ValueParser) (max : ℕ) (end : ℤ) → max < 2 ^ 32 → end ≡ pos max
    → parser ≡ signed_between (int_max (pos 0) (pos 1)) (int_min (pos 4294967295) end)
    → parser ≡ Signed (pos 1) (pos max)
narrowed parser max end fits is narrow =
    let less : int_min (pos 4294967295) (pos max) ≡ pos max = search rules in
    rw (is, less) at narrow

pub returns-clause-rule : goal.returns-clause-rule
returns-clause-rule c =
    let end : c.new.result.end ≡ pos c.args.max = c.new.ensures.end ∙ search rules in
    let parser : c.range-parser.result ≡ Signed (pos 1) (pos c.args.max) =
    narrowed c.range-parser.result c.args.max c.new.result.end c.ranges.max.fits end
    (rw (c.value_parser.ensures, c.new.ensures.start) at c.range-parser.ensures) in
    let given : c.value_parser-2.result.value_parser ≡ Some c.range-parser.result = search rules in
    rw (c.value_parser-2.ensures.others, given, parser)
    (ap (λ (rule : Rule). record rule { parser = Some (Signed (pos 1) (pos c.args.max)) }) c.text_option.ensures.rule)
