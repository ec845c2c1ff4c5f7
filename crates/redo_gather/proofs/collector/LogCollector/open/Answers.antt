use Rattle.std.proofs.Common.{sym, subst}
use Rattle.std.proofs.lemmas.Result.{IfOk-from_err}
use Rattle.redo_wire.specs.Mailbox.{AreEndsOf, TakeEndState, IsOpened}
use Rattle.redo_gather.proofs.collector.LogCollector.open.Goals as goal

pub returns-in_err-take_end : goal.returns-in_err-take_end
returns-in_err-take_end c =
    let failed = c.from_residual.ensures.0 in
    record { take_end = IfOk-from_err _ _ failed; post_ends = IfOk-from_err _ _ failed; begins = IfOk-from_err _ _ failed }

pub returns-in_err-collector : goal.returns-in_err-collector
returns-in_err-collector c =
    let failed = c.from_residual-in_err-collector.ensures.0 in
    record { take_end = IfOk-from_err _ _ failed; post_ends = IfOk-from_err _ _ failed; begins = IfOk-from_err _ _ failed }

pub returns : goal.returns
returns c =
    let made = c.in_ok-collector.ensures in
    let opened = c.in_ok-take_end.ensures in record {
      take_end = subst (IsOpened c.args.capacity c.args.senders) (sym made.0) opened.take_end;
      post_ends = subst (λ (m : TakeEndState). AreEndsOf m.mailbox c.in_ok-take_end.ends.items) (sym made.0) opened.post_ends;
      begins = (made.1, made.2);
    }
