-- Each step of a pass keeps the rule.
use Rattle.std.proofs.Common.{◌≡◌, ◌≢◌, ◌⊎◌, inl, inr, ℕ, zero, suc, ◌+◌, ◌<◌, ◌≤◌, nat_eq, cond, List, [], ◌∷◌, ◌++◌, map, Option, None, Some, length, refl, sym, ap, ◌∙◌, subst, arith, zero-le, le_refl}
use Rattle.std.specs.List.{AllByRecursion}
use Rattle.std.proofs.lemmas.Bool.{eq-eqb}
use Rattle.std.proofs.lemmas.Bool.Decides.{eqb_tells}
use Rattle.std.proofs.lemmas.List.{append_assoc, append-nil}
use Rattle.std.proofs.lemmas.Option.{none-some}
use Rattle.std.proofs.lemmas.Bool.{cases_lt}
use mathlib.Core.Option.{some, some-ne-none}
use lib.ListN.{get_elem?, set}
use Rattle.atomic_table.proofs.Lists.{at_set}
use Rattle.crossbeam_channel.specs.Fifo.{Pushes, Pops, Forks, Merges, Learns}
use Rattle.redo_wire.specs.declared.item.Item.{Item}
use Rattle.redo_wire.specs.declared.rule.View.{View}
use Rattle.redo_wire.specs.declared.rule.View.TheVariants.{Idle, Starting, Posting, Taking}
use Rattle.redo_wire.specs.Machine.{IsPrefix, IsReached, Posts, State, Takes, items_of}
use Rattle.redo_wire.specs.Mailbox.{Met, pending_count}
use Rattle.redo_wire.specs.Private.Rule.{Fits, FitsPosting, FitsStarting, FitsTaking, IsMetEnd, KnowsMet, KnowsOf, KnowsPost, KnowsStep, Invariant, with_got, with_put}
use Rattle.redo_wire.proofs.Counting.{left_within}
use Rattle.redo_wire.proofs.Steps.{lawful_reached, items_of-append, items_of-other, items_of-own, reached_first, reached_next}

-- ---- lists of views

abbrev AllFit : (ℕ → View → Type 0) → List View → Type 0
AllFit F views = (pass : ℕ) (view : View) → get_elem? views pass ≡ some view → F pass view

all_set : (F : ℕ → View → Type 0) (views : List View) (pass : ℕ) (now : View) → F pass now
    → ((other : ℕ) (view : View) → other ≢ pass → get_elem? views other ≡ some view → F other view)
    → AllFit F (set views pass now)
all_set F views pass now mine others other view there = elim (at_set views pass other now view there) [
  | inl here ↦ subst (λ (at : ℕ × View). F at.0 at.1) (λ i. (sym here.0 i, here.1 i)) mine
  | inr elsewhere ↦ others other view elsewhere.0 elsewhere.1
]

all_snoc : (F : ℕ → View → Type 0) (views : List View) (last : View) → AllFit F views → F (length views) last
    → AllFit F (views ++ last ∷ [])
all_snoc F [] last all own zero view there = subst (F zero) (same there) own
  where
    same : some last ≡ some view → last ≡ view
    same is = cc
all_snoc F [] last all own (suc pass) view there = absurd (some-ne-none view (sym there))
all_snoc F (first ∷ views) last all own zero view there = all zero view there
all_snoc F (first ∷ views) last all own (suc pass) view there =
    all_snoc (λ at. F (suc at)) views last (λ at v is. all (suc at) v is) own pass view there

-- If `P` implies `Q` and holds of all, then `Q` holds of all.
all_map : (P Q : Met → Type 0) → ((met : Met) → P met → Q met) → (list : List Met) → AllByRecursion P list → AllByRecursion Q list
all_map P Q f [] all = tt
all_map P Q f (met ∷ list) all = (f met all.0, all_map P Q f list all.1)

-- A property of the number of each met end holds of all numbers.
numbers_all : (P : ℕ → Type 0) (list : List Met) → AllByRecursion (λ (m : Met). P m.0) list → AllByRecursion P (map (λ (m : Met). m.0) list)
numbers_all P [] all = tt
numbers_all P (met ∷ list) all = (all.0, numbers_all P list all.1)

-- ---- seats

-- The seats, with the seat of one number replaced.
abbrev seat_with : (ℕ → Option ℕ) → ℕ → Option ℕ → ℕ → Option ℕ
seat_with seat number own other = cond (nat_eq other number) own (seat other)

seated_here : (seat : ℕ → Option ℕ) (number : ℕ) (own : Option ℕ) → seat_with seat number own number ≡ own
seated_here seat number own = ap (λ b. cond b own (seat number)) (eq-eqb number number refl)

seated_else : (seat : ℕ → Option ℕ) (number : ℕ) (own : Option ℕ) (other : ℕ) → other ≢ number
    → seat_with seat number own other ≡ seat other
seated_else seat number own other differ = elim (eqb_tells other number) [
  | inl same ↦ absurd (differ same.1)
  | inr apart ↦ ap (λ b. cond b own (seat other)) apart.0
]

-- A number with a seat isn't a number without one, and a seat has one pass.
not_free : (seat : ℕ → Option ℕ) (number other pass : ℕ) → seat number ≡ Some pass → seat other ≡ None → other ≢ number
not_free seat number other pass taken free same = none-some pass (sym free ∙ ap seat same ∙ taken)

one_pass : (seat : ℕ → Option ℕ) (number other pass another : ℕ) → seat number ≡ Some pass → seat other ≡ Some another → another ≢ pass
    → other ≢ number
one_pass seat number other pass another mine theirs apart same = let both : Some another ≡ Some pass = sym theirs ∙ ap seat same ∙ mine in
    apart (cc)

-- ---- a new mailbox

abbrev empty : State
empty = record { taken = []; queued = []; posted = λ number. []; made = 0; met = [] }

pub begins : Invariant [] (Starting ∷ [])
begins = record {
  capacity = 0;
  senders = 0;
  reader = 0;
  seat = λ number. None;
  state = empty;
  queued_is = refl;
  reached = reached_first 0 0 empty (refl, refl, λ sender. refl, refl, refl);
  fit =
      all_snoc (Fits 0 0 0 (λ number. None) empty) [] Starting (λ pass view there. absurd (some-ne-none view (sym there)))
      (record { reads = refl; nobody = λ number. refl; none_queued = refl });
}

pub sizes : (capacity senders pass : ℕ) → Forks Invariant pass Starting (Taking capacity senders 0 [] []) Idle
sizes capacity senders pass items views rules at =
    let mine : FitsStarting rules.capacity rules.senders rules.reader rules.seat rules.state pass = rules.fit pass Starting at in
    record {
      capacity = capacity;
      senders = senders;
      reader = pass;
      seat = λ number. None;
      state = empty;
      queued_is = sym mine.none_queued ∙ rules.queued_is;
      reached = reached_first capacity senders empty (refl, refl, λ sender. refl, refl, refl);
      fit =
          all_snoc New (set views pass (Taking capacity senders 0 [] [])) Idle
          (all_set New views pass (Taking capacity senders 0 [] [])
          (record {
            limit_is = refl;
            ends_are = refl;
            reads = refl;
            made_fit = zero-le;
            made_is = refl;
            numbers_are = refl;
            got_is = refl;
            unmade = λ number from. (refl, refl);
            met_are = tt;
            apart = tt;
          })
          (λ other view differ there. stays mine other view differ (rules.fit other view there))) tt;
    }
  where
    New : ℕ → View → Type 0
    New = Fits capacity senders pass (λ number. None) empty

    stays : FitsStarting rules.capacity rules.senders rules.reader rules.seat rules.state pass → (other : ℕ) (view : View) → other ≢ pass
        → Fits rules.capacity rules.senders rules.reader rules.seat rules.state other view → New other view
    stays mine other Idle differ fits = tt
    stays mine other Starting differ fits = absurd (differ (fits.reads ∙ sym mine.reads))
    stays mine other (Posting limit sized number put) differ fits = absurd (none-some other (sym (mine.nobody number) ∙ fits.seated))
    stays mine other (Taking limit sized made got met) differ fits = absurd (differ (fits.reads ∙ sym mine.reads))

-- ---- an end is split off

pub ends : (capacity senders made pass : ℕ) (got : List Item) (met : List Met) → made < senders
    → Forks Invariant pass (Taking capacity senders made got met) (Taking capacity senders (made + 1) got met)
    (Posting capacity senders made [])
ends capacity senders made pass got met below items views rules at =
    let mine : FitsTaking rules.capacity rules.senders rules.reader rules.seat rules.state pass capacity senders made got met =
    rules.fit pass (Taking capacity senders made got met) at in
    record {
      capacity = rules.capacity;
      senders = rules.senders;
      reader = rules.reader;
      seat = seat;
      state = split rules.state;
      queued_is = rules.queued_is;
      reached =
          let unmade : rules.state.made < rules.senders = let made_is = mine.made_is in let ends = mine.ends_are in
          omega (arith, below, made_is, ends) in
          reached_next rules.capacity rules.senders rules.state (split rules.state) rules.reached
          (inl (record {
            unmade = unmade;
            none_posted = subst (λ n. rules.state.posted n ≡ []) mine.made_is (mine.unmade made (le_refl made)).1;
            made = refl;
            met = refl;
            items = (refl, refl, λ sender. refl);
          }));
      fit =
          all_snoc New left (Posting capacity senders made [])
          (all_set New views pass (Taking capacity senders (made + 1) got met) (taking mine)
          (λ other view differ there. stays mine other view differ (rules.fit other view there)))
          (record {
            limit_is = mine.limit_is;
            ends_are = mine.ends_are;
            below = subst (λ n. made < n) mine.ends_are below;
            seated = seated_here rules.seat made (Some (length left));
            there = (
              let made_is = mine.made_is in omega (arith, made_is),
              subst (AllByRecursion (λ (other : ℕ). other ≢ made)) mine.numbers_are
                  (numbers_all (λ other. other ≢ made) met
                  (all_map (IsMetEnd rules.capacity rules.senders rules.reader rules.seat rules.state made) (λ m. m.0 ≢ made)
                  (λ m is same. let lower = is.0 in omega (arith, lower, same)) met mine.met_are)),
            );
            put_is = sym (mine.unmade made (le_refl made)).1;
          });
    }
  where
    split : State → State
    split state = record { taken = state.taken; queued = state.queued; posted = state.posted; made = state.made + 1; met = state.met }

    left : List View
    left = set views pass (Taking capacity senders (made + 1) got met)

    seat : ℕ → Option ℕ
    seat = seat_with rules.seat made (Some (length left))

    New : ℕ → View → Type 0
    New = Fits rules.capacity rules.senders rules.reader seat (split rules.state)

    Old : ℕ → View → Type 0
    Old = Fits rules.capacity rules.senders rules.reader rules.seat rules.state

    Mine : Type 0
    Mine = FitsTaking rules.capacity rules.senders rules.reader rules.seat rules.state pass capacity senders made got met

    taking : Mine → New pass (Taking capacity senders (made + 1) got met)
    taking mine = record {
      limit_is = mine.limit_is;
      ends_are = mine.ends_are;
      reads = mine.reads;
      made_fit = let ends = mine.ends_are in omega (arith, below, ends);
      made_is = let made_is = mine.made_is in omega (arith, made_is);
      numbers_are = mine.numbers_are;
      got_is = mine.got_is;
      unmade = λ number from.
          let free = mine.unmade number (omega (arith, from)) in
          (seated_else rules.seat made (Some (length left)) number (λ same. omega (arith, from, same)) ∙ free.0, free.1);
      met_are =
          all_map (IsMetEnd rules.capacity rules.senders rules.reader rules.seat rules.state made)
          (IsMetEnd rules.capacity rules.senders rules.reader seat (split rules.state) (made + 1))
          (λ m is. (
            omega (arith, is.0),
            (let lower = is.0 in
                seated_else rules.seat made (Some (length left)) m.0 (λ same. omega (arith, lower, same))) ∙ is.1,
            is.2,
          )) met mine.met_are;
      apart = mine.apart;
    }

    stays : Mine → (other : ℕ) (view : View) → other ≢ pass → Old other view → New other view
    stays mine other Idle differ fits = tt
    stays mine other Starting differ fits = absurd (differ (fits.reads ∙ sym mine.reads))
    stays mine other (Posting limit sized number put) differ fits = record {
      limit_is = fits.limit_is;
      ends_are = fits.ends_are;
      below = fits.below;
      seated =
          seated_else rules.seat made (Some (length left)) number
          (λ same. not_free rules.seat number made other fits.seated (mine.unmade made (le_refl made)).0 (sym same)) ∙ fits.seated;
      there = (let there = fits.there.0 in omega (arith, there), fits.there.1);
      put_is = fits.put_is;
    }
    stays mine other (Taking limit sized made' got' met') differ fits = absurd (differ (fits.reads ∙ sym mine.reads))

-- ---- an item is put

pub puts : (room capacity senders number pass : ℕ) (put : List Item) (item : Item) → item.sender ≡ number → room ≡ capacity
    → Pushes Invariant room pass (Posting capacity senders number put) item
    (λ after. (after ≡ with_put item (Posting capacity senders number put)) × KnowsPost (Posting capacity senders number put) item after)
puts room capacity senders number pass put item own fitting items views free rules at =
    (Posting capacity senders number (put ++ item ∷ []), now, (refl, step))
  where
    mine : FitsPosting rules.capacity rules.senders rules.reader rules.seat rules.state pass capacity senders number put
    mine = rules.fit pass (Posting capacity senders number put) at

    after : State
    after = record {
      taken = rules.state.taken;
      queued = rules.state.queued ++ item ∷ [];
      posted = λ other. rules.state.posted other ++ items_of other (item ∷ []);
      made = rules.state.made;
      met = rules.state.met;
    }

    of_mine : after.posted number ≡ rules.state.posted number ++ item ∷ []
    of_mine = ap (λ items. rules.state.posted number ++ items) (items_of-own number item own)

    of_another : (other : ℕ) → other ≢ number → after.posted other ≡ rules.state.posted other
    of_another other differ =
        ap (λ items. rules.state.posted other ++ items) (items_of-other other item (λ is. differ (sym is ∙ own)))
        ∙ append-nil (rules.state.posted other)

    posts : Posts rules.capacity number item rules.state after
    posts = record {
      own = own;
      room = let limit = mine.limit_is in omega (arith, free, fitting, limit, ap length rules.queued_is);
      taken = refl;
      queued = refl;
      posted = of_mine;
      others = λ other differ. of_another other differ;
      ends = (refl, refl);
    }

    put_is : put ++ item ∷ [] ≡ after.posted number
    put_is = ap (λ items. items ++ item ∷ []) mine.put_is ∙ sym of_mine

    step : KnowsPost (Posting capacity senders number put) item (Posting capacity senders number (put ++ item ∷ []))
    step = (
      rules.state,
      after,
      subst (λ n. IsReached n senders rules.state) (sym mine.limit_is)
          (subst (λ n. IsReached rules.capacity n rules.state) (sym mine.ends_are) rules.reached),
      mine.there,
      mine.put_is,
      subst (λ n. Posts n number item rules.state after) (sym mine.limit_is) posts,
      put_is,
    )

    New : ℕ → View → Type 0
    New = Fits rules.capacity rules.senders rules.reader rules.seat after

    stays : (other : ℕ) (view : View) → other ≢ pass → Fits rules.capacity rules.senders rules.reader rules.seat rules.state other view
        → New other view
    stays other Idle differ fits = tt
    stays other Starting differ fits = absurd (none-some pass (sym (fits.nobody number) ∙ mine.seated))
    stays other (Posting limit sized another theirs) differ fits = record {
      limit_is = fits.limit_is;
      ends_are = fits.ends_are;
      below = fits.below;
      seated = fits.seated;
      there = fits.there;
      put_is = fits.put_is ∙ sym (of_another another (one_pass rules.seat number another pass other mine.seated fits.seated differ));
    }
    stays other (Taking limit sized made got met) differ fits = record {
      limit_is = fits.limit_is;
      ends_are = fits.ends_are;
      reads = fits.reads;
      made_fit = fits.made_fit;
      made_is = fits.made_is;
      numbers_are = fits.numbers_are;
      got_is = fits.got_is;
      unmade = λ another from.
          let free = fits.unmade another from in
          (free.0, of_another another (not_free rules.seat number another pass mine.seated free.0) ∙ free.1);
      met_are =
          all_map (IsMetEnd rules.capacity rules.senders rules.reader rules.seat rules.state made)
          (IsMetEnd rules.capacity rules.senders rules.reader rules.seat after made)
          (λ m is. (is.0, is.1, is.2 ∙ sym (of_another m.0 (not_free rules.seat number m.0 pass mine.seated is.1)))) met fits.met_are;
      apart = fits.apart;
    }

    now : Invariant (items ++ item ∷ []) (set views pass (Posting capacity senders number (put ++ item ∷ [])))
    now = record {
      capacity = rules.capacity;
      senders = rules.senders;
      reader = rules.reader;
      seat = rules.seat;
      state = after;
      queued_is = ap (λ queued. queued ++ item ∷ []) rules.queued_is;
      reached =
          reached_next rules.capacity rules.senders rules.state after rules.reached
          (inr (inl (number, item, mine.below, mine.there, posts)));
      fit =
          all_set New views pass (Posting capacity senders number (put ++ item ∷ []))
          (record {
            limit_is = mine.limit_is;
            ends_are = mine.ends_are;
            below = mine.below;
            seated = mine.seated;
            there = mine.there;
            put_is = put_is;
          })
          (λ other view differ there. stays other view differ (rules.fit other view there));
    }

-- ---- the front is taken

-- The items that a met end posted are its items among all that were taken or are queued.
posted_of : (capacity senders made pass : ℕ) (got : List Item) (met : List Met) (items : List Item) (views : List View)
    (rules : Invariant items views)
    → FitsTaking rules.capacity rules.senders rules.reader rules.seat rules.state pass capacity senders made got met
    → AllByRecursion (λ (m : Met). m.1 ≡ items_of m.0 (got ++ items)) met
posted_of capacity senders made pass got met items views rules mine =
    all_map (IsMetEnd rules.capacity rules.senders rules.reader rules.seat rules.state made)
    (λ (m : Met). m.1 ≡ items_of m.0 (got ++ items))
    (λ m is. is.2 ∙ (lawful_reached rules.capacity rules.senders rules.state rules.reached).all_of_each m.0
    ∙ ap (items_of m.0) (λ i. sym mine.got_is i ++ rules.queued_is i)) met mine.met_are

-- The view that the pass that takes has of the state.
module _ (capacity senders made pass : ℕ) (got : List Item) (met : List Met) (items : List Item) (views : List View)
    (rules : Invariant items views)
    (mine : FitsTaking rules.capacity rules.senders rules.reader rules.seat rules.state pass capacity senders made got met) where
  shown_reached : IsReached capacity senders rules.state
  shown_reached = subst (λ n. IsReached n senders rules.state) (sym mine.limit_is)
      (subst (λ n. IsReached rules.capacity n rules.state) (sym mine.ends_are) rules.reached)

  shown_posted : AllByRecursion (λ (m : Met). m.1 ≡ rules.state.posted m.0) met
  shown_posted = all_map (IsMetEnd rules.capacity rules.senders rules.reader rules.seat rules.state made)
      (λ (m : Met). m.1 ≡ rules.state.posted m.0) (λ m is. is.2) met mine.met_are

pub gets : (capacity senders made pass : ℕ) (got : List Item) (met : List Met)
    → Pops Invariant pass (Taking capacity senders made got met)
    (λ item after. (after ≡ with_got item (Taking capacity senders made got met)) × KnowsMet after
    × KnowsStep (Taking capacity senders made got met) item after)
gets capacity senders made pass got met item items views rules at =
    (Taking capacity senders made (got ++ item ∷ []) met, now, (refl, (fronts, bound), step))
  where
    mine : FitsTaking rules.capacity rules.senders rules.reader rules.seat rules.state pass capacity senders made got met
    mine = rules.fit pass (Taking capacity senders made got met) at

    after : State
    after = record {
      taken = rules.state.taken ++ item ∷ [];
      queued = items;
      posted = rules.state.posted;
      made = rules.state.made;
      met = rules.state.met;
    }

    takes : Takes item rules.state after
    takes = record { queued = rules.queued_is; taken = refl; posted = λ sender. refl; ends = (refl, refl) }

    got_is : got ++ item ∷ [] ≡ after.taken
    got_is = ap (λ items. items ++ item ∷ []) mine.got_is

    step : KnowsStep (Taking capacity senders made got met) item (Taking capacity senders made (got ++ item ∷ []) met)
    step =
        let posted = shown_posted capacity senders made pass got met (item ∷ items) views rules mine in (
          rules.state,
          after,
          shown_reached capacity senders made pass got met (item ∷ items) views rules mine,
          (mine.got_is, mine.numbers_are, posted),
          takes,
          (got_is, mine.numbers_are, posted),
        )

    New : ℕ → View → Type 0
    New = Fits rules.capacity rules.senders rules.reader rules.seat after

    stays : (other : ℕ) (view : View) → other ≢ pass → Fits rules.capacity rules.senders rules.reader rules.seat rules.state other view
        → New other view
    stays other Idle differ fits = tt
    stays other Starting differ fits = absurd (differ (fits.reads ∙ sym mine.reads))
    stays other (Posting limit sized number put) differ fits =
        record {
          limit_is = fits.limit_is;
          ends_are = fits.ends_are;
          below = fits.below;
          seated = fits.seated;
          there = fits.there;
          put_is = fits.put_is;
        }
    stays other (Taking limit sized made' got' met') differ fits = absurd (differ (fits.reads ∙ sym mine.reads))

    now : Invariant items (set views pass (Taking capacity senders made (got ++ item ∷ []) met))
    now = record {
      capacity = rules.capacity;
      senders = rules.senders;
      reader = rules.reader;
      seat = rules.seat;
      state = after;
      queued_is = refl;
      reached = reached_next rules.capacity rules.senders rules.state after rules.reached (inr (inr (inl (item, takes))));
      fit =
          all_set New views pass (Taking capacity senders made (got ++ item ∷ []) met)
          (record {
            limit_is = mine.limit_is;
            ends_are = mine.ends_are;
            reads = mine.reads;
            made_fit = mine.made_fit;
            made_is = mine.made_is;
            numbers_are = mine.numbers_are;
            got_is = got_is;
            unmade = mine.unmade;
            met_are =
                all_map (IsMetEnd rules.capacity rules.senders rules.reader rules.seat rules.state made)
                (IsMetEnd rules.capacity rules.senders rules.reader rules.seat after made) (λ m is. is) met mine.met_are;
            apart = mine.apart;
          })
          (λ other view differ there. stays other view differ (rules.fit other view there));
    }

    posted_are : AllByRecursion (λ (m : Met). m.1 ≡ items_of m.0 (got ++ item ∷ items)) met
    posted_are = posted_of capacity senders made pass got met (item ∷ items) views rules mine

    fronts : AllByRecursion (λ (m : Met). IsPrefix (items_of m.0 (got ++ item ∷ [])) m.1) met
    fronts =
        all_map (λ (m : Met). m.1 ≡ items_of m.0 (got ++ item ∷ items)) (λ (m : Met). IsPrefix (items_of m.0 (got ++ item ∷ [])) m.1)
        (λ m is. (
          items_of m.0 items,
          is ∙ ap (items_of m.0) (sym (append_assoc got (item ∷ []) items))
              ∙ items_of-append m.0 (got ++ item ∷ []) items,
        )) met posted_are

    bound : pending_count (got ++ item ∷ []) met < capacity
    bound =
        let fits = (lawful_reached rules.capacity rules.senders rules.state rules.reached).fits in let limit = mine.limit_is in
        let behind =
        all_map (λ (m : Met). m.1 ≡ items_of m.0 (got ++ item ∷ items)) (λ (m : Met). m.1 ≡ items_of m.0 ((got ++ item ∷ []) ++ items))
        (λ m is. is ∙ ap (items_of m.0) (sym (append_assoc got (item ∷ []) items))) met posted_are in
        omega (arith, left_within (got ++ item ∷ []) items met mine.apart behind, fits, limit, ap length rules.queued_is)

-- ---- the lessons of a pass

pub learns : (capacity senders made pass : ℕ) (got : List Item) (met : List Met)
    → Learns Invariant pass (Taking capacity senders made got met) (KnowsOf (Taking capacity senders made got met))
learns capacity senders made pass got met items views rules at =
    let mine : FitsTaking rules.capacity rules.senders rules.reader rules.seat rules.state pass capacity senders made got met =
    rules.fit pass (Taking capacity senders made got met) at in (
      posted_of capacity senders made pass got met items views rules mine,
      subst (λ n. AllByRecursion (λ (item : Item). item.sender < n) (got ++ items)) (sym mine.ends_are)
          (subst (AllByRecursion (λ (item : Item). item.sender < rules.senders)) (λ i. sym mine.got_is i ++ rules.queued_is i)
          (lawful_reached rules.capacity rules.senders rules.state rules.reached).of_senders),
      mine.apart,
      (
        rules.state,
        shown_reached capacity senders made pass got met items views rules mine,
        (mine.got_is, mine.numbers_are, shown_posted capacity senders made pass got met items views rules mine),
        rules.queued_is,
      ),
    )

-- ---- an end is met

pub meets : (capacity senders made pass limit sized number other : ℕ) (got : List Item) (met : List Met) (put : List Item)
    → Merges Invariant pass (Taking capacity senders made got met) other (Posting limit sized number put)
    (Taking capacity senders made got ((number, put) ∷ met)) Idle
meets capacity senders made pass limit sized number other got met put items views rules at two at_end = record {
  capacity = rules.capacity;
  senders = rules.senders;
  reader = rules.reader;
  seat = seat;
  state = after;
  queued_is = rules.queued_is;
  reached =
      reached_next rules.capacity rules.senders rules.state after rules.reached
      (inr (inr (inr (inr (number, record { there = theirs.there; made = refl; met = refl; items = (refl, refl, λ sender. refl) })))));
  fit = all_set New both other Idle tt (λ another view differ there. behind another view differ there);
}
  where
    after : State
    after = record {
      taken = rules.state.taken;
      queued = rules.state.queued;
      posted = rules.state.posted;
      made = rules.state.made;
      met = number ∷ rules.state.met;
    }

    both : List View
    both = set views pass (Taking capacity senders made got ((number, put) ∷ met))

    mine : FitsTaking rules.capacity rules.senders rules.reader rules.seat rules.state pass capacity senders made got met
    mine = rules.fit pass (Taking capacity senders made got met) at

    was : get_elem? views other ≡ some (Posting limit sized number put)
    was = elim (at_set views pass other (Taking capacity senders made got ((number, put) ∷ met)) (Posting limit sized number put) at_end) [
      | inl here ↦ absurd (two here.0)
      | inr elsewhere ↦ elsewhere.1
    ]

    theirs : FitsPosting rules.capacity rules.senders rules.reader rules.seat rules.state other limit sized number put
    theirs = rules.fit other (Posting limit sized number put) was

    seat : ℕ → Option ℕ
    seat = seat_with rules.seat number None

    New : ℕ → View → Type 0
    New = Fits rules.capacity rules.senders rules.reader seat after

    free : (another : ℕ) → rules.seat another ≡ None → seat another ≡ None
    free another is = elim (eqb_tells another number) [
      | inl same ↦ ap (λ b. cond b None (rules.seat another)) same.0
      | inr apart ↦ ap (λ b. cond b None (rules.seat another)) apart.0 ∙ is
    ]

    made_before : number < made
    made_before = by (cases_lt number made)
      where
        by : (number < made) ⊎ (made ≤ number) → number < made
        by (inl below) = below
        by (inr from) = absurd (none-some other (sym (mine.unmade number from).0 ∙ theirs.seated))

    apart_from : (list : List Met) → AllByRecursion (IsMetEnd rules.capacity rules.senders rules.reader rules.seat rules.state made) list
        → AllByRecursion (λ m. m.0 ≢ number) list
    apart_from = all_map (IsMetEnd rules.capacity rules.senders rules.reader rules.seat rules.state made) (λ m. m.0 ≢ number)
        (λ m is. not_free rules.seat number m.0 other theirs.seated is.1)

    taking : New pass (Taking capacity senders made got ((number, put) ∷ met))
    taking = record {
      limit_is = mine.limit_is;
      ends_are = mine.ends_are;
      reads = mine.reads;
      made_fit = mine.made_fit;
      made_is = mine.made_is;
      numbers_are = ap (λ numbers. number ∷ numbers) mine.numbers_are;
      got_is = mine.got_is;
      unmade = λ another from. (free another (mine.unmade another from).0, (mine.unmade another from).1);
      met_are = (
        (made_before, seated_here rules.seat number None, theirs.put_is),
        all_map (IsMetEnd rules.capacity rules.senders rules.reader rules.seat rules.state made)
            (IsMetEnd rules.capacity rules.senders rules.reader seat after made) (λ m is. (is.0, free m.0 is.1, is.2)) met mine.met_are,
      );
      apart = (apart_from met mine.met_are, mine.apart);
    }

    stays : (another : ℕ) (view : View) → another ≢ pass → another ≢ other
        → Fits rules.capacity rules.senders rules.reader rules.seat rules.state another view → New another view
    stays another Idle differ apart fits = tt
    stays another Starting differ apart fits = absurd (differ (fits.reads ∙ sym mine.reads))
    stays another (Posting limit' sized' number' put') differ apart fits = record {
      limit_is = fits.limit_is;
      ends_are = fits.ends_are;
      below = fits.below;
      seated = seated_else rules.seat number None number' (one_pass rules.seat number number' other another theirs.seated fits.seated apart)
          ∙ fits.seated;
      there = (
        fits.there.0,
        (
          λ same. one_pass rules.seat number number' other another theirs.seated fits.seated apart (sym same),
          fits.there.1,
        ),
      );
      put_is = fits.put_is;
    }
    stays another (Taking limit' sized' made' got' met') differ apart fits = absurd (differ (fits.reads ∙ sym mine.reads))

    behind : (another : ℕ) (view : View) → another ≢ other → get_elem? both another ≡ some view → New another view
    behind another view apart there = elim (at_set views pass another (Taking capacity senders made got ((number, put) ∷ met)) view there) [
      | inl here ↦ subst (λ (at : ℕ × View). New at.0 at.1) (λ i. (sym here.0 i, here.1 i)) taking
      | inr elsewhere ↦ stays another view elsewhere.0 apart (rules.fit another view elsewhere.1)
    ]
