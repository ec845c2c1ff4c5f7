-- Ends and shares at the same indexes.
use Rattle.std.proofs.Common.{◌≡◌, ℕ, zero, suc, ◌≤◌, Bool, false, List, [], ◌∷◌, ◌++◌, Option, Some, length, map, slice_get, refl, sym, ap, ◌∙◌, subst, arith}
use Rattle.std.specs.List.{AllByRecursion}
use Rattle.std.proofs.lemmas.List.{length-append}
use Rattle.std.proofs.lemmas.Option.{none-some}
use Rattle.redo_line.specs.Source.{sources}
use Rattle.redo_device.specs.Feed.{Stream}
use Rattle.redo_logs.specs.Logs.{new_log}
use Rattle.redo_wire.specs.declared.item.Item.{Item}
use Rattle.redo_wire.specs.Mailbox.{AreEndsOf, IsOpened, Mailbox, PostEndState}
use Rattle.redo_gather.specs.declared.collector.LogCollector.{LogCollector as Collecting}
use Rattle.redo_gather.specs.Expected.{KnownSource}
use Rattle.redo_gather.specs.Private.Collecting.{AllExpected, Collects, NoneOutOfMemory, PostedExpected, stored}
use Rattle.redo_gather.specs.Private.Distribution.{AreDistributed, AreReady, share_of}
use Rattle.redo_gather.specs.Sending.{AreExpected, HasSent, numbered_source, posted_since, singles}
use Rattle.redo_gather.specs.Streams.{KnownInput}

in_prefix : {X : Type 0} (prefix suffix : List X) (k : ℕ) (there : X) → slice_get prefix k ≡ Some there
    → slice_get (prefix ++ suffix) k ≡ Some there
in_prefix [] suffix k there is = absurd (none-some there is)
in_prefix (x ∷ prefix) suffix zero there is = is
in_prefix (x ∷ prefix) suffix (suc k) there is = in_prefix prefix suffix k there is

at_end : {X : Type 0} (prefix : List X) (last : X) → slice_get (prefix ++ last ∷ []) (length prefix) ≡ Some last
at_end [] last = refl
at_end (x ∷ prefix) last = at_end prefix last

pub all_but_last : (mailbox : Mailbox) (ends : List PostEndState) (last : PostEndState)
    → AllByRecursion (λ (end : PostEndState). end.mailbox ≡ mailbox) (ends ++ last ∷ [])
    → AllByRecursion (λ (end : PostEndState). end.mailbox ≡ mailbox) ends × (last.mailbox ≡ mailbox)
all_but_last mailbox [] last all = (tt, all.0)
all_but_last mailbox (end ∷ ends) last all = let others = all_but_last mailbox ends last all.1 in ((all.0, others.0), others.1)

module _ {A : Type 0} (contents : A → Option Stream) (senders : ℕ) (given : List KnownSource) where
  pub all_ready : (mailbox : Mailbox) (ends : List PostEndState) (shares : List (List (ℕ × List ℕ × Bool × A))) → mailbox.senders ≡ senders
      → AreEndsOf mailbox ends → AreDistributed contents senders given shares
      → AreReady contents senders given ends shares
  all_ready mailbox ends shares count are distributed = record {
    count = are.count ∙ count ∙ sym distributed.0;
    fresh = λ index end there. (
      ap (λ (e : PostEndState). e.number) (are.each index end there),
      ap (λ (e : PostEndState). e.posted)
          (are.each index end there),
    );
    distributed = distributed.1;
  }

  module _ (ends : List PostEndState) (end : PostEndState) (shares : List (List (ℕ × List ℕ × Bool × A)))
      (share : List (ℕ × List ℕ × Bool × A)) (ready : AreReady contents senders given (ends ++ end ∷ []) (shares ++ share ∷ [])) where
    same : length ends ≡ length shares
    same = let count = ready.count in omega (arith, count, length-append ends (end ∷ []), length-append shares (share ∷ []))

    pub others_ready : AreReady contents senders given ends shares
    others_ready = record {
      count = same;
      fresh = λ index other there. ready.fresh index other (in_prefix ends (end ∷ []) index other there);
      distributed = λ sender other there. ready.distributed sender other (in_prefix shares (share ∷ []) sender other there);
    }

    -- After the last end sent its share, it posted what is expected of it.
    pub last_expected : (max_bytes : ℕ) (after : PostEndState) → HasSent max_bytes (map (numbered_source contents) share) end after
        → PostedExpected max_bytes senders given (after.number, after.posted)
    last_expected max_bytes after sent =
        subst (AreExpected max_bytes after.number (share_of senders after.number 0 given)) (sym singles_are)
        (subst (λ n. AreExpected max_bytes n (share_of senders n 0 given) lines) (sym sent.unchanged.1)
        (subst (λ s. AreExpected max_bytes end.number s lines)
        (ready.distributed (length shares) share (at_end shares share) ∙ ap (λ n. share_of senders n 0 given) (sym number_is))
        sent.expected))
      where
        lines : List Item
        lines = singles (posted_since end after)

        fresh : (end.number ≡ length ends) × (end.posted ≡ [])
        fresh = ready.fresh (length ends) end (at_end ends end)

        number_is : end.number ≡ length shares
        number_is = fresh.0 ∙ same

        singles_are : singles after.posted ≡ lines
        singles_are = ap singles (sent.posted ∙ ap (λ items. items ++ posted_since end after) fresh.1)

-- The result of collecting, beginning with a new mailbox and an empty table.
pub all_are_expected : {A : Type 0} (contents : A → Option Stream) (max_bytes capacity senders : ℕ) (names : List (List ℕ))
    (known : List KnownInput) (ends : List PostEndState) (shares : List (List (ℕ × List ℕ × Bool × A)))
    (before after : Collecting) → Collects contents max_bytes ends shares before after → IsOpened capacity senders before.take_end
    → before.table ≡ map new_log names → before.out_of_memory ≡ false
    → length names ≡ length known → 1 ≤ senders → AreEndsOf before.take_end.mailbox ends
    → AreDistributed contents senders (sources names known) shares → AllExpected max_bytes names known after
all_are_expected contents max_bytes capacity senders names known ends shares before after collects opened table_is fine count some are
    distributed = record {
      count = count;
      some = omega (arith, some, ap (λ (m : Mailbox). m.senders) collects.mailbox, opened.1);
      expected =
          subst (λ n. AllByRecursion (PostedExpected max_bytes n (sources names known)) after.take_end.met)
          (sym (ap (λ (m : Mailbox). m.senders) collects.mailbox))
          (collects.expected (sources names known)
          (subst (λ n. AreReady contents n (sources names known) ends shares) (sym opened.1)
          (all_ready contents senders (sources names known) before.take_end.mailbox ends shares opened.1 are distributed))
          (subst (AllByRecursion (PostedExpected max_bytes before.take_end.mailbox.senders (sources names known))) (sym opened.3) tt));
      holds =
          collects.holds names
          (λ _. (
            table_is ∙ ap (λ items. stored (singles items) (map new_log names)) (sym opened.2),
            subst
                (λ items. NoneOutOfMemory (singles items)) (sym opened.2) tt,
          ));
    }
