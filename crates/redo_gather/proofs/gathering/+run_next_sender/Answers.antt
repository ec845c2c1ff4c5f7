use Rattle.std.proofs.Common.{◌≡◌, ℕ, Bool, List, Option, [], ◌∷◌, ◌++◌, map, sym, ap, ◌∙◌, subst}
use Rattle.std.specs.List.{AllByRecursion}
use Rattle.std.proofs.lemmas.List.{map_push}
use Rattle.redo_device.specs.Feed.{Stream}
use Rattle.redo_logs.specs.Logs.{Log}
use Rattle.redo_wire.specs.declared.item.Item.{Item}
use Rattle.redo_wire.specs.Mailbox.{TakeEndState, PostEndState}
use Rattle.redo_gather.specs.declared.collector.LogCollector.{LogCollector}
use Rattle.redo_gather.specs.Private.Collecting.{Collects, StoresAllTaken, PostedExpected}
use Rattle.redo_gather.specs.Private.Distribution.{AreReady}
use Rattle.redo_gather.specs.Sending.{HasSent, numbered_source}
use Rattle.redo_gather.proofs.ReadyLemmas.{all_but_last, last_expected, others_ready}
use Rattle.redo_gather.proofs.gathering.+run_next_sender.Goals as goal

-- The collected items, if items were taken and no end was met.
none_met : {A : Type 0} (contents : A → Option Stream) (max_bytes : ℕ) (ends : List PostEndState)
    (shares : List (List (ℕ × List ℕ × Bool × A))) (before after : LogCollector)
    → (after.take_end.mailbox ≡ before.take_end.mailbox) × (after.take_end.met ≡ before.take_end.met)
    → ((names : List (List ℕ)) → StoresAllTaken names before.take_end.taken before.table before.out_of_memory
    → StoresAllTaken names after.take_end.taken after.table after.out_of_memory)
    → Collects contents max_bytes ends shares before after
none_met contents max_bytes ends shares before after unchanged holds = record {
  mailbox = unchanged.0;
  holds = holds;
  expected = λ given ready expected.
      subst (AllByRecursion (PostedExpected max_bytes before.take_end.mailbox.senders given)) (sym unchanged.1) expected;
}

pub returns : goal.returns
returns g t c =
    let contents = g.R.Feed.contents in
    let senders = c.args.collector.now.take_end.mailbox.senders in
    let end = c.in-Some-Some.end in
    let share = c.in-Some-Some.share in
    let ends = c.pop.new.self.items in
    let shares = map (λ s. s.items) c.pop-2.new.self.items in
    let met = c.meet.ensures.met in
    let stays = c.meet.ensures.unchanged in
    let others = c.run_next_sender.ensures in record {
      mailbox = ap (λ (m : TakeEndState). m.mailbox) met ∙ others.mailbox;
      holds = λ names holds.
          subst (λ (at : List Item × List Log × Bool). StoresAllTaken names at.0 at.1 at.2)
          (λ i. (ap (λ (m : TakeEndState). m.taken) (sym met) i, sym stays.0 i, sym stays.1 i))
          (others.holds names holds);
      expected = λ given ready expected.
          let shares_are = ap (map (λ s. s.items)) c.in-Some-Some.ensures'.items ∙ map_push (λ s. s.items) c.pop-2.new.self.items share in
          let all = subst (AreReady contents senders given (ends ++ end ∷ [])) shares_are
          (subst (λ es. AreReady contents senders given es (map (λ s. s.items) c.args.shares.items)) c.in-Some-Some.ensures.items ready) in
          let sent = subst (λ sender. HasSent sender.max_bytes
          (map (numbered_source contents) sender.share.items) sender.end c.join-end.result) c.in-Ok.ensures c.join-end.ensures in
          subst (AllByRecursion (PostedExpected c.args.context.now.max_bytes senders given)) (sym (ap (λ (m : TakeEndState). m.met) met)) (
            last_expected contents senders given ends end shares share.items all c.args.context.now.max_bytes c.join-end.result sent,
            others.expected given (others_ready contents senders given ends end shares share.items all) expected,
          );
    }

pub returns-in_default : goal.returns-in_default
returns-in_default g t c = none_met g.R.Feed.contents _ _ _ _ _ c.take.ensures.unchanged c.take.ensures.holds

pub returns-in_default-spawn_sender : goal.returns-in_default-spawn_sender
returns-in_default-spawn_sender g t c =
    let took = c.take-in_default-spawn_sender.ensures in
    none_met g.R.Feed.contents _ _ _ _ _ took.unchanged took.holds

pub invariant_of-sender : goal.invariant_of-sender
invariant_of-sender g t c = record { at_least = c.requires.limit.0; at_most = c.requires.limit.1 }

pub run_next_sender-requires-clause-one : goal.run_next_sender-requires-clause-one
run_next_sender-requires-clause-one g t c κs within =
    let mailbox = c.args.collector.now.take_end.mailbox in
    (all_but_last mailbox c.pop.new.self.items c.in-Some-Some.end
    (subst (AllByRecursion (λ (end : PostEndState). end.mailbox ≡ mailbox)) c.in-Some-Some.ensures.items c.requires.one)).0

pub run_next_sender-requires-clause-limit : goal.run_next_sender-requires-clause-limit
run_next_sender-requires-clause-limit g t c κs within = c.requires.limit

pub meet-requires : goal.meet-requires
meet-requires g t c =
    let mailbox = c.args.collector.now.take_end.mailbox in
    let own = (all_but_last mailbox c.pop.new.self.items c.in-Some-Some.end
    (subst (AllByRecursion (λ (end : PostEndState). end.mailbox ≡ mailbox)) c.in-Some-Some.ensures.items c.requires.one)).1 in
    let sent = subst (λ sender. HasSent sender.max_bytes
    (map (numbered_source g.R.Feed.contents) sender.share.items) sender.end c.join-end.result) c.in-Ok.ensures c.join-end.ensures in
    sent.unchanged.0 ∙ own ∙ sym c.run_next_sender.ensures.mailbox
