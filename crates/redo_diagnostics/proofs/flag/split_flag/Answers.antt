use Rattle.std.proofs.Common.{length, sym, ◌∙◌, ap}
use Rattle.std.proofs.lemmas.Bool.{eqb-false, eqb-true}
use Rattle.std.proofs.lemmas.List.{nil_from_length}
use Rattle.redo_diagnostics.specs.Diagnostic.{close_bracket}
use Rattle.redo_diagnostics.proofs.FlagLemmas.{byte_found, byte_nowhere, closed_inside, has_flag, no_close, no_flag, no_open, no_space}
use Rattle.redo_diagnostics.proofs.flag.split_flag.Goals as goal

pub returns-in_default-clause-none : goal.returns-in_default-clause-none
returns-in_default-clause-none c = no_close c.args.text.now c.in_default.ensures.none

pub returns-in_default-split_at_last-clause-none : goal.returns-in_default-split_at_last-clause-none
returns-in_default-split_at_last-clause-none c =
    no_open c.args.text.now c.in-Some.front.now c.in-Some.ensures.some c.in_default-split_at_last.ensures.none

pub returns-then-is_empty-clause-none : goal.returns-then-is_empty-clause-none
returns-then-is_empty-clause-none c =
    no_flag c.args.text.now c.in-Some.front.now c.in-Some.ensures.some
    c.in-Some-split_at_last.before.now c.in-Some-split_at_last.flag.now c.in-Some-split_at_last.ensures.some
    c.in-Some-split_at_last.ensures.last
    (nil_from_length c.in-Some-split_at_last.flag.now
    (eqb-true (length c.in-Some-split_at_last.flag.now) 0 (sym c.is_empty.ensures ∙ c.if-is_empty.true)))

pub returns-then-is_some-clause-none : goal.returns-then-is_some-clause-none
returns-then-is_some-clause-none c =
    closed_inside c.args.text.now c.in-Some.front.now c.in-Some.ensures.some
    c.in-Some-split_at_last.before.now c.in-Some-split_at_last.flag.now c.in-Some-split_at_last.ensures.some
    c.in-Some-split_at_last.ensures.last
    (byte_found close_bracket c.in-Some-split_at_last.flag.now c.memchr.result c.memchr.ensures
    (sym c.is_some.ensures ∙ c.if-is_some.true))

pub returns-in-Some-without_last-clause-some : goal.returns-in-Some-without_last-clause-some
returns-in-Some-without_last-clause-some c =
    has_flag c.args.text.now c.in-Some.front.now c.in-Some.ensures.some
    c.in-Some-split_at_last.before.now c.in-Some-split_at_last.flag.now c.in-Some-split_at_last.ensures.some
    c.in-Some-split_at_last.ensures.last c.in-Some-without_last.message.now c.in-Some-without_last.ensures.some
    (λ none. eqb-false (length c.in-Some-split_at_last.flag.now) 0 (sym c.is_empty.ensures ∙ c.if-is_empty.false) (ap length none))
    (byte_nowhere close_bracket c.in-Some-split_at_last.flag.now c.memchr.result c.memchr.ensures
    (sym c.is_some.ensures ∙ c.if-is_some.false))

pub returns-in-None-clause-none : goal.returns-in-None-clause-none
returns-in-None-clause-none c =
    no_space c.args.text.now c.in-Some.front.now c.in-Some.ensures.some
    c.in-Some-split_at_last.before.now c.in-Some-split_at_last.flag.now c.in-Some-split_at_last.ensures.some
    c.in-Some-split_at_last.ensures.last c.in-None.ensures.none
