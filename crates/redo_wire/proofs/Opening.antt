-- How a mailbox is opened, one post end after another.
use Rattle.std.proofs.Common.{◌≡◌, ◌⊎◌, inl, inr, ℕ, zero, suc, ◌+◌, ◌<◌, Bool, false, List, [], ◌∷◌, ◌++◌, Some, length, replicate, slice_get, refl, sym, ap, subst, ◌∙◌, arith}
use Rattle.std.proofs.lemmas.List.{length-append, length-replicate}
use Rattle.std.proofs.lemmas.Option.{none-some}
use Rattle.atomic_table.specs.declared.badge.Badge.{Badge}
use Rattle.crossbeam_channel.specs.declared.flavors.array.Doing.{Doing}
use Rattle.crossbeam_channel.specs.declared.flavors.array.Key.{Key}
use Rattle.crossbeam_channel.specs.declared.flavors.array.Rows.{Rows}
use Rattle.crossbeam_channel.specs.declared.flavors.array.ruled.Receiving.{Receiving}
use Rattle.crossbeam_channel.specs.declared.flavors.array.ruled.Sending.{Sending}
use Rattle.crossbeam_channel.specs.Claims.{IsSeatAt, Pass, view}
use Rattle.crossbeam_channel.specs.Ends.{receives_on, ruled_capacity, sends_on}
use Rattle.crossbeam_channel.specs.Fifo.{Forks}
use Rattle.redo_wire.specs.declared.item.Item.{Item}
use Rattle.redo_wire.specs.declared.rule.View.{View}
use Rattle.redo_wire.specs.declared.rule.View.TheVariants.{Idle, Posting, Starting, Taking}
use Rattle.redo_wire.specs.Mailbox.{AreEndsOf, IsOpened, PostEndState}
use Rattle.redo_wire.specs.Private.Ends.{IsCollector, IsPoster, capacity_in, collector_of, items_in, mailbox_of, met_in, poster_of, senders_in}
use Rattle.redo_wire.specs.Private.Rule.{Invariant, next_end, with_one_made}
use Rattle.redo_wire.proofs.Flags.{Tell, none_set}
use Rattle.redo_wire.proofs.Moves.{ends, sizes}

-- ---- steps of a pass whose view is known

pub sizes_at : (capacity senders pass : ℕ) (view : View) → view ≡ Starting
    → Forks Invariant pass view (Taking capacity senders 0 [] []) Idle
sizes_at capacity senders pass view is =
    subst (λ v. Forks Invariant pass v (Taking capacity senders 0 [] []) Idle) (sym is) (sizes capacity senders pass)

pub ends_at : (capacity senders made pass : ℕ) (view : View) → view ≡ Taking capacity senders made [] [] → made < senders
    → Forks Invariant pass view (with_one_made view) (next_end view)
ends_at capacity senders made pass view is below =
    subst (λ v. Forks Invariant pass v (with_one_made v) (next_end v)) (sym is) (ends capacity senders made pass [] [] below)

-- ---- a list with one more element

at_last : {X : Type 0} (xs : List X) (last there : X) (k : ℕ) → slice_get (xs ++ last ∷ []) k ≡ Some there
    → (slice_get xs k ≡ Some there) ⊎ ((k ≡ length xs) × (there ≡ last))
at_last {X} [] last there zero is = inr (refl, same is)
  where
    same : Some last ≡ Some there → there ≡ last
    same is = cc
at_last [] last there (suc k) is = absurd (none-some there is)
at_last (x ∷ xs) last there zero is = inl is
at_last (x ∷ xs) last there (suc k) is = elim (at_last xs last there k is) [
  | inl before ↦ inl before
  | inr now ↦ let place = now.0 in inr (omega (arith, place), now.1)
]

none_true : (flags : List Bool) (count number : ℕ) → flags ≡ replicate count false → number < count → slice_get flags number ≡ Some false
none_true flags count number is below = ap (λ fs. slice_get fs number) is ∙ by count number below
  where
    by : (count number : ℕ) → number < count → slice_get (replicate count false) number ≡ Some false
    by zero number below = absurd (omega (arith, below))
    by (suc count) zero below = refl
    by (suc count) (suc number) below = by count number (omega (arith, below))

-- ---- the ends

module _ {Q M L A B : Type 0} where
  -- The first `made` post ends were made.
  pub record AreMade (sender : Sending (Rows (Badge (Key Item)) (Doing Item View) Q M (Key Item) L A) B)
      (receiver : Receiving (Rows (Badge (Key Item)) (Doing Item View) Q M (Key Item) L A) B) (capacity senders made : ℕ)
      (pass : Pass Item View) (ends : List PostEndState) : Type 0 where
    pub one : receives_on receiver ≡ sends_on sender
    pub room : ruled_capacity (sends_on sender) ≡ capacity
    pub seat : IsSeatAt (sends_on sender) pass
    pub view_is : view pass ≡ Taking capacity senders made [] []
    pub count : length ends ≡ made
    pub each : (number : ℕ) (end : PostEndState) → slice_get ends number ≡ Some end
        → end ≡ record { mailbox = mailbox_of pass; number = number; posted = [] }

  module _ (sender : Sending (Rows (Badge (Key Item)) (Doing Item View) Q M (Key Item) L A) B)
      (receiver : Receiving (Rows (Badge (Key Item)) (Doing Item View) Q M (Key Item) L A) B) (capacity senders made : ℕ) where
    pub none_made : (pass : Pass Item View) → receives_on receiver ≡ sends_on sender → ruled_capacity (sends_on sender) ≡ capacity
        → IsSeatAt (sends_on sender) pass → view pass ≡ Taking capacity senders 0 [] []
        → AreMade sender receiver capacity senders 0 pass []
    none_made pass one room seat is = record {
      one = one;
      room = room;
      seat = seat;
      view_is = is;
      count = refl;
      each = λ number end there. absurd (none-some end there);
    }

    -- Another pass of the channel whose view has the same numbers is of the same mailbox.
    same_mailbox : (pass other : Pass Item View) → IsSeatAt (sends_on sender) pass → IsSeatAt (sends_on sender) other
        → capacity_in (view other) ≡ capacity_in (view pass) → senders_in (view other) ≡ senders_in (view pass)
        → mailbox_of other ≡ mailbox_of pass
    same_mailbox pass other seat seats room sized =
        λ i. record { table = (seats.0 ∙ sym seat.0) i; key = (seats.1 ∙ sym seat.1) i; capacity = room i; senders = sized i }

    module _ (pass now end : Pass Item View) (ends : List PostEndState) (made_are : AreMade sender receiver capacity senders made pass ends)
        (now_seat : IsSeatAt (sends_on sender) now) (end_seat : IsSeatAt (sends_on sender) end)
        (now_is : view now ≡ with_one_made (view pass)) (end_is : view end ≡ next_end (view pass)) where
      now_knows : view now ≡ Taking capacity senders (made + 1) [] []
      now_knows = now_is ∙ ap with_one_made made_are.view_is

      pub end_knows : view end ≡ Posting capacity senders made []
      end_knows = end_is ∙ ap next_end made_are.view_is

      pub one_made : AreMade sender receiver capacity senders (made + 1) now (ends ++ poster_of end made ∷ [])
      one_made = record {
        one = made_are.one;
        room = made_are.room;
        seat = now_seat;
        view_is = now_knows;
        count = let count = made_are.count in omega (arith, count, length-append ends (poster_of end made ∷ []));
        each = λ number other there. elim (at_last ends (poster_of end made) other number there) [
          | inl before ↦ made_are.each number other before ∙ (λ i. record { mailbox = sym mailbox i; number = number; posted = [] })
          | inr last ↦ last.1 ∙ (λ i. record {
            mailbox = end_mailbox i;
            number = (sym (last.0 ∙ made_are.count)) i;
            posted = ap items_in end_knows i;
          })
        ];
      }
        where
          mailbox : mailbox_of now ≡ mailbox_of pass
          mailbox = same_mailbox pass now made_are.seat now_seat (ap capacity_in now_knows ∙ sym (ap capacity_in made_are.view_is))
              (ap senders_in now_knows ∙ sym (ap senders_in made_are.view_is))

          end_mailbox : mailbox_of end ≡ mailbox_of now
          end_mailbox = same_mailbox now end now_seat end_seat (ap capacity_in end_knows ∙ sym (ap capacity_in now_knows))
              (ap senders_in end_knows ∙ sym (ap senders_in now_knows))

      pub end_fits : (copy : Sending (Rows (Badge (Key Item)) (Doing Item View) Q M (Key Item) L A) B) → sends_on copy ≡ sends_on sender
          → made < senders → IsPoster copy end made
      end_fits copy same below = record {
        seat = subst (λ ring. IsSeatAt ring end) (sym same) end_seat;
        view_is = subst (λ v. v ≡ Posting (ruled_capacity (sends_on copy)) (senders_in v) made (items_in v)) (sym end_knows)
            (λ i. Posting (sym (ap ruled_capacity same ∙ made_are.room) i) senders made []);
        below = subst (λ n. made < n) (sym (ap senders_in end_knows)) below;
      }

    -- All post ends were made.
    module _ (pass : Pass Item View) (ends : List PostEndState) (all : made ≡ senders)
        (made_are : AreMade sender receiver capacity senders made pass ends) where
      knows : view pass ≡ Taking capacity senders senders [] []
      knows = made_are.view_is ∙ ap (λ n. Taking capacity senders n [] []) all

      pub all_opened : IsOpened capacity senders (collector_of pass)
      all_opened = (ap capacity_in knows, ap senders_in knows, ap items_in knows, ap met_in knows)

      pub all_are : AreEndsOf (mailbox_of pass) ends
      all_are = record { count = made_are.count ∙ all ∙ sym (ap senders_in knows); each = made_are.each }

      pub all_collect : (flags : List Bool) → flags ≡ replicate senders false → IsCollector receiver pass flags
      all_collect flags none = record {
        seat = subst (λ ring. IsSeatAt ring pass) (sym made_are.one) made_are.seat;
        view_is = subst (λ v. v ≡ Taking (capacity_in v) (senders_in v) (senders_in v) (items_in v) (met_in v)) (sym knows) refl;
        count = ap length none ∙ length-replicate senders false ∙ sym (ap senders_in knows);
        flags_are = subst (λ v. Tell (senders_in v) flags (met_in v)) (sym knows)
            (none_set senders flags (λ number below. none_true flags senders number none below));
      }
