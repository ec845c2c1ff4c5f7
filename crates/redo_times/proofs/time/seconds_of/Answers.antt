use Rattle.std.proofs.Common.{◌≡◌, ◌+◌, ◌*◌, take, zero-le, ◌∙◌, ◌<◌, arith}
use Rattle.redo_line.specs.Decimal.{number}
use Rattle.redo_times.specs.Time.{max_seconds}
use Rattle.redo_times.proofs.TimeLemmas.{none_read, one_more, too_many}
use Rattle.redo_times.proofs.time.seconds_of.Goals as goal

pub loop-digit-init : goal.loop-digit-init
loop-digit-init c = (none_read c.args.digits.now, zero-le)

pub returns-then-seconds-gt-MAX_SECONDS-clause-value : goal.returns-then-seconds-gt-MAX_SECONDS-clause-value
returns-then-seconds-gt-MAX_SECONDS-clause-value c =
    let digits = c.args.digits.now in
    let at = c.loop-digit.digit-index in
    let value : c.loop-digit.seconds * 10 + c.value_of_digit.result ≡ number (take (at + 1) digits) =
    (λ i. c.loop-digit.invariant.0 i * 10 + c.value_of_digit.ensures.value i) ∙ one_more digits at c.loop-digit-test.true in
    let above : max_seconds < number (take (at + 1) digits) = omega (arith, value, c.if-seconds-gt-MAX_SECONDS.true) in
    too_many digits (at + 1) above

pub loop-digit-preserved : goal.loop-digit-preserved
loop-digit-preserved c =
    let digits = c.args.digits.now in
    let at = c.loop-digit.digit-index in (
      (λ i. c.loop-digit.invariant.0 i * 10 + c.value_of_digit.ensures.value i) ∙ one_more digits at c.loop-digit-test.true,
      omega (arith, c.if-seconds-gt-MAX_SECONDS.false),
    )
