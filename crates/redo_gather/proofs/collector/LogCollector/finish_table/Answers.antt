use Rattle.std.proofs.Common.{◌<◌, sym, subst}
use Rattle.std.specs.List.{AllByRecursion}
use Rattle.redo_line.specs.Source.{sources}
use Rattle.redo_wire.specs.Mailbox.{Mailbox}
use Rattle.redo_gather.specs.Private.Collecting.{PostedExpected}
use Rattle.redo_gather.proofs.collector.LogCollector.finish_table.Goals as goal

pub drain-requires-after_bounds : goal.drain-requires-after_bounds
drain-requires-after_bounds g c κs within = c.all_met.ensures.0 c.if-not-all_met.false

pub returns-clause-gathered : goal.returns-clause-gathered
returns-clause-gathered g c max_bytes names known expected =
    let stays = c.drain.ensures.unchanged in
    c.final_result.ensures.gathered max_bytes names known
    (record {
      expected = record {
        count = expected.count;
        some = subst (λ (m : Mailbox). 0 < m.senders) (sym stays.0) expected.some;
        expected =
            subst (λ (m : Mailbox). AllByRecursion (PostedExpected max_bytes m.senders (sources names known)) c.drain.new.self.take_end.met)
            (sym stays.0)
            (subst (AllByRecursion (PostedExpected max_bytes c.args.self.now.take_end.mailbox.senders (sources names known)))
            (sym stays.1) expected.expected);
        holds = c.drain.ensures.holds names expected.holds;
      };
      met = c.drain.ensures.met;
      whole = c.drain.ensures.all_taken;
      own = c.drain.ensures.only_senders;
    })
