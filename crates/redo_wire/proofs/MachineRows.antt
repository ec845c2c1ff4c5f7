-- An example of the mailbox as a machine, computed: two ends, and room for one item. Then steps that are impossible,
-- such as a post by an end that isn't made yet, or was met.
use Rattle.std.proofs.Common.{◌≡◌, ℕ, zero, suc, ◌+◌, ◌<◌, ◌≤◌, List, [], ◌∷◌, ◌++◌, length, refl, ap, ◌∙◌, inl, inr, arith}
use Rattle.std.proofs.lemmas.List.{length-append}
use Rattle.redo_wire.specs.declared.item.Item.{Item}
use Rattle.redo_wire.specs.declared.item.What.TheVariants.{End}
use Rattle.redo_wire.specs.Machine.{IsPrefix, IsValid, IsReached, IsSchedule, IsStep, IsLive, Meets, Opens, Posts, AddsEnd, State, Takes, items_of}
use Rattle.redo_wire.proofs.Leading.{nothing_queued}
use Rattle.redo_wire.proofs.Steps.{lawful_reached}

-- The items that these ends post: two of the first end, for two streams, and one of the second end.
abbrev pub a : Item
a = record { sender = 0; stream = 0; what = End }

abbrev pub b : Item
b = record { sender = 1; stream = 1; what = End }

abbrev pub c : Item
c = record { sender = 0; stream = 2; what = End }

ofs : (items_of 0 (a ∷ b ∷ c ∷ []) ≡ a ∷ c ∷ []) × (items_of 1 (a ∷ b ∷ c ∷ []) ≡ b ∷ []) × (items_of 2 (a ∷ b ∷ c ∷ []) ≡ [])
ofs = (refl, refl, refl)

fronts : IsPrefix [] (a ∷ b ∷ []) × IsPrefix (a ∷ []) (a ∷ b ∷ []) × IsPrefix (a ∷ b ∷ []) (a ∷ b ∷ [])
fronts = ((a ∷ b ∷ [], refl), (b ∷ [], refl), ([], refl))

-- An item that was posted later is no prefix, and neither are more items than were posted.
pub the_first : (x y : Item) (xs ys : List Item) → x ∷ xs ≡ y ∷ ys → x ≡ y
the_first x y xs ys is = cc

not_first : IsPrefix (b ∷ []) (a ∷ b ∷ []) → ⊥
not_first front = omega (arith, ap (λ (item : Item). item.sender) (the_first a b (b ∷ []) front.0 front.1))

not_so_many : IsPrefix (a ∷ b ∷ []) (a ∷ []) → ⊥
not_so_many front = let is = ap length front.1 in omega (arith, is)

-- ---- a schedule

-- The items posted at each number.
abbrev posted : List Item → List Item → ℕ → List Item
posted first second zero = first
posted first second (suc zero) = second
posted first second (suc (suc number)) = []

-- The items posted at each number, if only the first end posted, or none.
abbrev by_first : List Item → ℕ → List Item
by_first items zero = items
by_first items (suc number) = []

abbrev none : ℕ → List Item
none number = []

abbrev pub state : List Item → List Item → (ℕ → List Item) → ℕ → List ℕ → State
state taken queued posted made met = record { taken = taken; queued = queued; posted = posted; made = made; met = met }

abbrev pub opened : State
opened = state [] [] (posted [] []) 0 []

abbrev one_end : State
one_end = state [] [] (posted [] []) 1 []

abbrev pub two_ends : State
two_ends = state [] [] (posted [] []) 2 []

abbrev pub one_posted : State
one_posted = state [] (a ∷ []) (posted (a ∷ []) []) 2 []

abbrev one_taken : State
one_taken = state (a ∷ []) [] (posted (a ∷ []) []) 2 []

abbrev two_posted : State
two_posted = state (a ∷ []) (b ∷ []) (posted (a ∷ []) (b ∷ [])) 2 []

abbrev two_taken : State
two_taken = state (a ∷ b ∷ []) [] (posted (a ∷ []) (b ∷ [])) 2 []

abbrev one_met : State
one_met = state (a ∷ b ∷ []) [] (posted (a ∷ []) (b ∷ [])) 2 (1 ∷ [])

abbrev pub two_met : State
two_met = state (a ∷ b ∷ []) [] (posted (a ∷ []) (b ∷ [])) 2 (0 ∷ 1 ∷ [])

pub none_else : (first second more : List Item) (other : ℕ) → (other ≡ 0 → ⊥) → posted more second other ≡ posted first second other
none_else first second more zero differ = absurd (differ refl)
none_else first second more (suc zero) differ = refl
none_else first second more (suc (suc other)) differ = refl

nor_else : (first second more : List Item) (other : ℕ) → (other ≡ 1 → ⊥) → posted first more other ≡ posted first second other
nor_else first second more zero differ = refl
nor_else first second more (suc zero) differ = absurd (differ refl)
nor_else first second more (suc (suc other)) differ = refl

pub by_others : (first more : List Item) (other : ℕ) → (other ≡ 0 → ⊥) → by_first more other ≡ by_first first other
by_others first more zero differ = absurd (differ refl)
by_others first more (suc other) differ = refl

none_posted : (number : ℕ) → posted [] [] number ≡ []
none_posted zero = refl
none_posted (suc zero) = refl
none_posted (suc (suc number)) = refl

pub opens : Opens opened
opens = (refl, refl, none_posted, refl, refl)

-- Both ends are split off. The first one posts, and its item is taken. The second one posts, and its item is taken. Then nothing
-- is found. In the end both are met, the second one first.
first_split : IsStep 1 2 opened one_end
first_split = inl (record { unmade = omega arith; none_posted = refl; made = refl; met = refl; items = (refl, refl, λ number. refl) })

second_split : IsStep 1 2 one_end two_ends
second_split = inl (record { unmade = omega arith; none_posted = refl; made = refl; met = refl; items = (refl, refl, λ number. refl) })

first_post : IsStep 1 2 two_ends one_posted
first_post = inr (inl (
  0,
  a,
  omega arith,
  (omega arith, tt),
  record {
    own = refl;
    room = omega arith;
    taken = refl;
    queued = refl;
    posted = refl;
    others = none_else [] [] (a ∷ []);
    ends = (refl, refl);
  },
))

first_take : IsStep 1 2 one_posted one_taken
first_take = inr (inr (inl (a, record { queued = refl; taken = refl; posted = λ number. refl; ends = (refl, refl) })))

second_post : IsStep 1 2 one_taken two_posted
second_post = inr (inl (
  1,
  b,
  omega arith,
  (omega arith, tt),
  record {
    own = refl;
    room = omega arith;
    taken = refl;
    queued = refl;
    posted = refl;
    others = nor_else (a ∷ []) [] (b ∷ []);
    ends = (refl, refl);
  },
))

second_take : IsStep 1 2 two_posted two_taken
second_take = inr (inr (inl (b, record { queued = refl; taken = refl; posted = λ number. refl; ends = (refl, refl) })))

second_look : IsStep 1 2 two_taken two_taken
second_look = inr (inr (inr (inl (refl, refl))))

first_meeting : IsStep 1 2 two_taken one_met
first_meeting = inr (inr (inr (inr (
  1,
  record { there = (omega arith, tt); made = refl; met = refl; items = (refl, refl, λ number. refl) },
))))

second_meeting : IsStep 1 2 one_met two_met
second_meeting = inr (inr (inr (inr (
  0,
  record { there = (omega arith, ((λ same. omega (arith, same)), tt)); made = refl; met = refl; items = (refl, refl, λ number. refl) },
))))

abbrev states : List State
states = one_end ∷ two_ends ∷ one_posted ∷ one_taken ∷ two_posted ∷ two_taken ∷ two_taken ∷ one_met ∷ two_met ∷ []

schedule : IsSchedule 1 2 opened states
schedule = (
  first_split,
  (
    second_split,
    (first_post, (first_take, (second_post, (second_take, (second_look, (first_meeting, (second_meeting, tt))))))),
  ),
)

pub reached_opened : IsReached 1 2 opened
reached_opened = record { first = opened; states = []; opens = opens; schedule = tt; last = refl }

-- Both ends are split off.
pub reached_ends : IsReached 1 2 two_ends
reached_ends = record {
  first = opened;
  states = one_end ∷ two_ends ∷ [];
  opens = opens;
  schedule = (first_split, (second_split, tt));
  last = refl;
}

pub reached : IsReached 1 2 two_met
reached = record { first = opened; states = states; opens = opens; schedule = schedule; last = refl }

-- Other schedules: the second end posts first; or the first end posts another item, which is taken.
second_first : IsStep 1 2 two_ends (state [] (b ∷ []) (posted [] (b ∷ [])) 2 [])
second_first = inr (inl (
  1,
  b,
  omega arith,
  (omega arith, tt),
  record {
    own = refl;
    room = omega arith;
    taken = refl;
    queued = refl;
    posted = refl;
    others = nor_else [] [] (b ∷ []);
    ends = (refl, refl);
  },
))

reached_second_first : IsReached 1 2 (state [] (b ∷ []) (posted [] (b ∷ [])) 2 [])
reached_second_first = record {
  first = opened;
  states = one_end ∷ two_ends ∷ state [] (b ∷ []) (posted [] (b ∷ [])) 2 [] ∷ [];
  opens = opens;
  schedule = (first_split, (second_split, (second_first, tt)));
  last = refl;
}

other_post : IsStep 1 2 two_ends (state [] (c ∷ []) (posted (c ∷ []) []) 2 [])
other_post = inr (inl (
  0,
  c,
  omega arith,
  (omega arith, tt),
  record {
    own = refl;
    room = omega arith;
    taken = refl;
    queued = refl;
    posted = refl;
    others = none_else [] [] (c ∷ []);
    ends = (refl, refl);
  },
))

other_take : IsStep 1 2 (state [] (c ∷ []) (posted (c ∷ []) []) 2 []) (state (c ∷ []) [] (posted (c ∷ []) []) 2 [])
other_take = inr (inr (inl (c, record { queued = refl; taken = refl; posted = λ number. refl; ends = (refl, refl) })))

reached_other : IsReached 1 2 (state (c ∷ []) [] (posted (c ∷ []) []) 2 [])
reached_other = record {
  first = opened;
  states = one_end ∷ two_ends ∷ state [] (c ∷ []) (posted (c ∷ []) []) 2 [] ∷ state (c ∷ []) [] (posted (c ∷ []) []) 2 [] ∷ [];
  opens = opens;
  schedule = (first_split, (second_split, (other_post, (other_take, tt))));
  last = refl;
}

reached_two : IsReached 1 2 two_posted
reached_two = record {
  first = opened;
  states = one_end ∷ two_ends ∷ one_posted ∷ one_taken ∷ two_posted ∷ [];
  opens = opens;
  schedule = (first_split, (second_split, (first_post, (first_take, (second_post, tt)))));
  last = refl;
}

-- In a mailbox for two items, an end is met while both of its items are queued.
abbrev pub two_left : State
two_left = state [] (a ∷ c ∷ []) (posted (a ∷ c ∷ []) []) 2 (0 ∷ [])

pub reached_two_left : IsReached 2 2 two_left
reached_two_left = record {
  first = opened;
  states = one_end ∷ two_ends ∷ one_posted ∷ state [] (a ∷ c ∷ []) (posted (a ∷ c ∷ []) []) 2 [] ∷ two_left ∷ [];
  opens = opens;
  schedule = (
    inl (record { unmade = omega arith; none_posted = refl; made = refl; met = refl; items = (refl, refl, λ number. refl) }),
    (
      inl (record { unmade = omega arith; none_posted = refl; made = refl; met = refl; items = (refl, refl, λ number. refl) }),
      (
        inr (inl (
          0,
          a,
          omega arith,
          (omega arith, tt),
          record {
            own = refl;
            room = omega arith;
            taken = refl;
            queued = refl;
            posted = refl;
            others = none_else [] [] (a ∷ []);
            ends = (refl, refl);
          },
        )),
        (
          inr (inl (
            0,
            c,
            omega arith,
            (omega arith, tt),
            record {
              own = refl;
              room = omega arith;
              taken = refl;
              queued = refl;
              posted = refl;
              others = none_else (a ∷ []) [] (a ∷ c ∷ []);
              ends = (refl, refl);
            },
          )),
          (
            inr (inr (inr (inr (
              0,
              record {
                there = (omega arith, tt);
                made = refl;
                met = refl;
                items = (refl, refl, λ number. refl);
              },
            )))),
            tt,
          ),
        ),
      ),
    ),
  );
  last = refl;
}

-- A mailbox of three ends. The third end posts, and its item is taken.
abbrev pub third : Item
third = record { sender = 2; stream = 3; what = End }

abbrev pub posted_by_third : List Item → ℕ → List Item
posted_by_third items zero = []
posted_by_third items (suc zero) = []
posted_by_third items (suc (suc zero)) = items
posted_by_third items (suc (suc (suc number))) = []

third_else : (other : ℕ) → (other ≡ 2 → ⊥) → posted_by_third (third ∷ []) other ≡ posted [] [] other
third_else zero differ = refl
third_else (suc zero) differ = refl
third_else (suc (suc zero)) differ = absurd (differ refl)
third_else (suc (suc (suc other))) differ = refl

abbrev pub three_ends : State
three_ends = state [] [] (posted [] []) 3 []

third_split : IsStep 1 3 two_ends three_ends
third_split = inl (record { unmade = omega arith; none_posted = refl; made = refl; met = refl; items = (refl, refl, λ number. refl) })

pub third_posts : Posts 1 2 third three_ends (state [] (third ∷ []) (posted_by_third (third ∷ [])) 3 [])
third_posts = record {
  own = refl;
  room = omega arith;
  taken = refl;
  queued = refl;
  posted = refl;
  others = third_else;
  ends = (refl, refl);
}

pub third_taken : Takes third (state [] (third ∷ []) (posted_by_third (third ∷ [])) 3 [])
    (state (third ∷ []) [] (posted_by_third (third ∷ [])) 3 [])
third_taken = record { queued = refl; taken = refl; posted = λ number. refl; ends = (refl, refl) }

pub reached_three_ends : IsReached 1 3 three_ends
reached_three_ends = record {
  first = opened;
  states = one_end ∷ two_ends ∷ three_ends ∷ [];
  opens = opens;
  schedule = (
    inl (record { unmade = omega arith; none_posted = refl; made = refl; met = refl; items = (refl, refl, λ number. refl) }),
    (
      inl (record { unmade = omega arith; none_posted = refl; made = refl; met = refl; items = (refl, refl, λ number. refl) }),
      (third_split, tt),
    ),
  );
  last = refl;
}

pub reached_third_posted : IsReached 1 3 (state [] (third ∷ []) (posted_by_third (third ∷ [])) 3 [])
reached_third_posted = record {
  first = opened;
  states = one_end ∷ two_ends ∷ three_ends ∷ state [] (third ∷ []) (posted_by_third (third ∷ [])) 3 [] ∷ [];
  opens = opens;
  schedule = (
    inl (record { unmade = omega arith; none_posted = refl; made = refl; met = refl; items = (refl, refl, λ number. refl) }),
    (
      inl (record { unmade = omega arith; none_posted = refl; made = refl; met = refl; items = (refl, refl, λ number. refl) }),
      (third_split, (inr (inl (2, third, omega arith, (omega arith, tt), third_posts)), tt)),
    ),
  );
  last = refl;
}

pub reached_third_taken : IsReached 1 3 (state (third ∷ []) [] (posted_by_third (third ∷ [])) 3 [])
reached_third_taken = record {
  first = opened;
  states = one_end ∷ two_ends ∷ three_ends ∷ state [] (third ∷ []) (posted_by_third (third ∷ [])) 3 []
      ∷ state (third ∷ []) [] (posted_by_third (third ∷ [])) 3 [] ∷ [];
  opens = opens;
  schedule = (
    inl (record { unmade = omega arith; none_posted = refl; made = refl; met = refl; items = (refl, refl, λ number. refl) }),
    (
      inl (record { unmade = omega arith; none_posted = refl; made = refl; met = refl; items = (refl, refl, λ number. refl) }),
      (third_split, (inr (inl (2, third, omega arith, (omega arith, tt), third_posts)), (inr (inr (inl (third, third_taken))), tt))),
    ),
  );
  last = refl;
}

-- ---- states that are invalid or can't be reached

-- An item that nobody posted; items in another order; an item of a nonexistent sender; more items than fit.
not_posted : IsValid 2 2 (state [] (a ∷ []) (posted [] []) 2 []) → ⊥
not_posted lawful = let is = ap length (lawful.all_of_each 0) in omega (arith, is)

not_in_order : IsValid 2 2 (state (c ∷ []) (a ∷ []) (λ sender. items_of sender (a ∷ c ∷ [])) 2 []) → ⊥
not_in_order lawful = let is = lawful.all_of_each 0 in differ (cc)
  where
    differ : a ≡ c → ⊥
    differ same = omega (arith, ap (λ (item : Item). item.stream) same)

not_of_a_sender : IsValid 2 1 (state [] (b ∷ []) (λ sender. items_of sender (b ∷ [])) 1 []) → ⊥
not_of_a_sender lawful = let one = lawful.of_senders.0 in omega (arith, one)

not_taken_of_a_sender : IsValid 2 1 (state (b ∷ []) [] (λ sender. items_of sender (b ∷ [])) 1 []) → ⊥
not_taken_of_a_sender lawful = let one = lawful.of_senders.0 in omega (arith, one)

-- The sender of the second item is wrong.
not_second_of_a_sender : IsValid 2 1 (state [] (a ∷ b ∷ []) (λ sender. items_of sender (a ∷ b ∷ [])) 1 []) → ⊥
not_second_of_a_sender lawful = let one = lawful.of_senders.1.0 in omega (arith, one)

abbrev too_many : State
too_many = state [] (a ∷ c ∷ []) (λ sender. items_of sender (a ∷ c ∷ [])) 2 []

not_fitting : IsValid 1 2 too_many → ⊥
not_fitting lawful = let fits = lawful.fits in omega (arith, fits)

not_reached : IsReached 1 2 too_many → ⊥
not_reached reached = not_fitting (lawful_reached 1 2 too_many reached)

not_opened : Opens one_end → ⊥
not_opened opens = let made = opens.3 in omega (arith, made)

not_opened_so : Opens (state [] [] (posted [] []) 0 (0 ∷ [])) → ⊥
not_opened_so opens = let is = ap length opens.4 in omega (arith, is)

-- ---- impossible steps

-- Only a post makes the queue longer, and only a take makes it shorter.
grows : (capacity senders : ℕ) (before after : State) → IsStep capacity senders before after
    → length after.queued ≡ length before.queued + 1
    → (sender : ℕ) × (item : Item) × (sender < senders) × IsLive sender before × Posts capacity sender item before after
grows capacity senders before after (inl splits) more = absurd (omega (arith, more, ap length splits.items.1))
grows capacity senders before after (inr (inl posts)) more = posts
grows capacity senders before after (inr (inr (inl takes))) more = absurd (omega (arith, more, ap length takes.1.queued))
grows capacity senders before after (inr (inr (inr (inl nothing)))) more =
    absurd (omega (arith, more, ap (λ (state : State). length state.queued) nothing.1))
grows capacity senders before after (inr (inr (inr (inr meets)))) more = absurd (omega (arith, more, ap length meets.1.items.1))

shrinks : (capacity senders : ℕ) (before after : State) → IsStep capacity senders before after
    → length before.queued ≡ length after.queued + 1 → (item : Item) × Takes item before after
shrinks capacity senders before after (inl splits) less = absurd (omega (arith, less, ap length splits.items.1))
shrinks capacity senders before after (inr (inl posts)) less =
    absurd (omega (arith, less, ap length posts.4.queued, length-append before.queued (posts.1 ∷ [])))
shrinks capacity senders before after (inr (inr (inl takes))) less = takes
shrinks capacity senders before after (inr (inr (inr (inl nothing)))) less =
    absurd (omega (arith, less, ap (λ (state : State). length state.queued) nothing.1))
shrinks capacity senders before after (inr (inr (inr (inr meets)))) less = absurd (omega (arith, less, ap length meets.1.items.1))

-- Only splitting off makes an end, and only meeting one adds a met end.
splits_off : (capacity senders : ℕ) (before after : State) → IsStep capacity senders before after → (after.made ≡ before.made → ⊥)
    → AddsEnd senders before after
splits_off capacity senders before after (inl splits) more = splits
splits_off capacity senders before after (inr (inl posts)) more = absurd (more posts.4.ends.0)
splits_off capacity senders before after (inr (inr (inl takes))) more = absurd (more takes.1.ends.0)
splits_off capacity senders before after (inr (inr (inr (inl nothing)))) more = absurd (more (ap (λ (state : State). state.made) nothing.1))
splits_off capacity senders before after (inr (inr (inr (inr meets)))) more = absurd (more meets.1.made)

is_met : (capacity senders : ℕ) (before after : State) → IsStep capacity senders before after → length after.met ≡ length before.met + 1
    → (sender : ℕ) × Meets sender before after
is_met capacity senders before after (inl splits) more = absurd (omega (arith, more, ap length splits.met))
is_met capacity senders before after (inr (inl posts)) more = absurd (omega (arith, more, ap length posts.4.ends.1))
is_met capacity senders before after (inr (inr (inl takes))) more = absurd (omega (arith, more, ap length takes.1.ends.1))
is_met capacity senders before after (inr (inr (inr (inl nothing)))) more =
    absurd (omega (arith, more, ap (λ (state : State). length state.met) nothing.1))
is_met capacity senders before after (inr (inr (inr (inr meets)))) more = meets

the_last : (x y : Item) → x ∷ [] ≡ y ∷ [] → x ≡ y
the_last x y is = cc

-- The second end can't post before it is made, nor after it was met.
no_post_before : IsStep 1 2 one_end (state [] (b ∷ []) (posted [] (b ∷ [])) 1 []) → ⊥
no_post_before step =
    let posts = grows 1 2 one_end _ step refl in
    let below = posts.3.0 in let own = posts.4.own in
    omega (arith, below, own, ap (λ (item : Item). item.sender) (the_last b posts.1 posts.4.queued))

no_post_after : IsStep 1 2 one_met (state (a ∷ b ∷ []) (b ∷ []) (posted (a ∷ []) (b ∷ b ∷ [])) 2 (1 ∷ [])) → ⊥
no_post_after step =
    let posts = grows 1 2 one_met _ step refl in
    posts.3.1.0 (ap (λ (item : Item). item.sender) (the_last b posts.1 posts.4.queued) ∙ posts.4.own)

-- An end that isn't of this mailbox can't post.
no_stranger : IsStep 1 1 two_ends (state [] (b ∷ []) (posted [] (b ∷ [])) 2 []) → ⊥
no_stranger step =
    let posts = grows 1 1 two_ends _ step refl in let below = posts.2 in let own = posts.4.own in
    omega (arith, below, own, ap (λ (item : Item). item.sender) (the_last b posts.1 posts.4.queued))

-- An end can't post an item of the other end, nor post if there is no room.
no_post_for_another : IsStep 1 2 two_ends (state [] (b ∷ []) (posted (b ∷ []) []) 2 []) → ⊥
no_post_for_another step =
    let posts = grows 1 2 two_ends _ step refl in
    by posts.0 posts.1 (ap (λ (item : Item). item.sender) (the_last b posts.1 posts.4.queued) ∙ posts.4.own) posts.4.posted
  where
    by : (number : ℕ) (item : Item) → 1 ≡ number → posted (b ∷ []) [] number ≡ posted [] [] number ++ item ∷ [] → ⊥
    by zero item same is = omega (arith, same)
    by (suc zero) item same is = omega (arith, ap length is)
    by (suc (suc number)) item same is = omega (arith, same)

no_post_where_full : IsStep 1 2 one_posted (state [] (a ∷ c ∷ []) (posted (a ∷ c ∷ []) []) 2 []) → ⊥
no_post_where_full step = let posts = grows 1 2 one_posted _ step refl in let room = posts.4.room in omega (arith, room)

-- The newest item can't be taken before the front, and the front can't be taken and lost.
no_newest : IsStep 2 2 (state [] (a ∷ b ∷ []) (posted (a ∷ []) (b ∷ [])) 2 [])
    (state (b ∷ []) (a ∷ []) (posted (a ∷ []) (b ∷ [])) 2 []) → ⊥
no_newest step =
    let takes = shrinks 2 2 _ _ step refl in
    let is = takes.1.queued in differ (cc)
  where
    differ : b ≡ a → ⊥
    differ same = omega (arith, ap (λ (item : Item). item.sender) same)

no_loss : IsStep 1 2 one_posted (state [] [] (posted (a ∷ []) []) 2 []) → ⊥
no_loss step = let takes = shrinks 1 2 one_posted _ step refl in let is = ap length takes.1.taken in omega (arith, is)

-- A take can't find nothing while an item is queued.
no_empty_look : IsStep 1 2 one_posted one_posted → ⊥
no_empty_look step = let is = ap length (nothing_queued 1 2 one_posted step) in omega (arith, is)

-- There can't be a third end, nor a new end that posted before it was made.
no_third_end : IsStep 1 2 two_ends (state [] [] (posted [] []) 3 []) → ⊥
no_third_end step =
    let splits = splits_off 1 2 two_ends _ step (λ same. omega (arith, same)) in let unmade = splits.unmade in omega (arith, unmade)

no_used_end : IsStep 1 2 (state (b ∷ []) [] (posted [] (b ∷ [])) 1 [])
    (state (b ∷ []) [] (posted [] (b ∷ [])) 2 []) → ⊥
no_used_end step =
    let splits = splits_off 1 2 _ _ step (λ same. omega (arith, same)) in let is = ap length splits.none_posted in omega (arith, is)

-- An end can't be met before it is made, nor twice, nor with less than it posted.
the_number : (m n : ℕ) (ms : List ℕ) → m ∷ ms ≡ n ∷ ms → m ≡ n
the_number m n ms is = cc

not_met_before : IsStep 1 2 one_end (state [] [] (posted [] []) 1 (1 ∷ [])) → ⊥
not_met_before step =
    let meets = is_met 1 2 one_end _ step refl in let below = meets.1.there.0 in omega (arith, below, the_number 1 meets.0 [] meets.1.met)

not_met_twice : IsStep 1 2 one_met (state (a ∷ b ∷ []) [] (posted (a ∷ []) (b ∷ [])) 2 (1 ∷ 1 ∷ [])) → ⊥
not_met_twice step = let meets = is_met 1 2 one_met _ step refl in meets.1.there.1.0 (the_number 1 meets.0 (1 ∷ []) meets.1.met)

not_met_with_less : IsStep 1 2 two_taken (state (a ∷ b ∷ []) [] (posted (a ∷ []) []) 2 (1 ∷ [])) → ⊥
not_met_with_less step = let meets = is_met 1 2 two_taken _ step refl in let is = ap length (meets.1.items.2 1) in omega (arith, is)

-- Nor can the end be met again that was met before the last one.
not_met_again : IsStep 1 2 two_met (state (a ∷ b ∷ []) [] (posted (a ∷ []) (b ∷ [])) 2 (1 ∷ 0 ∷ 1 ∷ [])) → ⊥
not_met_again step = let meets = is_met 1 2 two_met _ step refl in meets.1.there.1.1.0 (the_number 1 meets.0 (0 ∷ 1 ∷ []) meets.1.met)

-- A step posts, takes and meets one at most, and no end that was met comes back.
by_one : (capacity senders : ℕ) (before after : State) → IsStep capacity senders before after
    → (length after.queued ≤ length before.queued + 1) × (length before.queued ≤ length after.queued + 1)
    × (length after.met ≤ length before.met + 1) × (length before.met ≤ length after.met)
by_one capacity senders before after (inl splits) =
    let queued = ap length splits.items.1 in let met = ap length splits.met in
    (omega (arith, queued), omega (arith, queued), omega (arith, met), omega (arith, met))
by_one capacity senders before after (inr (inl posts)) =
    let queued = ap length posts.4.queued in let more = length-append before.queued (posts.1 ∷ []) in let met = ap length posts.4.ends.1 in
    (omega (arith, queued, more), omega (arith, queued, more), omega (arith, met), omega (arith, met))
by_one capacity senders before after (inr (inr (inl takes))) =
    let queued = ap length takes.1.queued in let met = ap length takes.1.ends.1 in
    (omega (arith, queued), omega (arith, queued), omega (arith, met), omega (arith, met))
by_one capacity senders before after (inr (inr (inr (inl nothing)))) =
    let queued = ap (λ (state : State). length state.queued) nothing.1 in let met = ap (λ (state : State). length state.met) nothing.1 in
    (omega (arith, queued), omega (arith, queued), omega (arith, met), omega (arith, met))
by_one capacity senders before after (inr (inr (inr (inr meets)))) =
    let queued = ap length meets.1.items.1 in let met = ap length meets.1.met in
    (omega (arith, queued), omega (arith, queued), omega (arith, met), omega (arith, met))

-- No step is two at once.
no_two_splits : IsStep 1 2 opened two_ends → ⊥
no_two_splits step = let splits = splits_off 1 2 opened two_ends step (λ same. omega (arith, same)) in let made = splits.made in
    omega (arith, made)

no_two_posts : IsStep 2 2 two_ends (state [] (a ∷ c ∷ []) (posted (a ∷ c ∷ []) []) 2 []) → ⊥
no_two_posts step = let few = (by_one 2 2 _ _ step).0 in omega (arith, few)

no_two_takes : IsStep 2 2 (state [] (a ∷ b ∷ []) (posted (a ∷ []) (b ∷ [])) 2 [])
    (state (a ∷ b ∷ []) [] (posted (a ∷ []) (b ∷ [])) 2 []) → ⊥
no_two_takes step = let few = (by_one 2 2 _ _ step).1 in omega (arith, few)

no_two_meetings : IsStep 1 2 two_taken two_met → ⊥
no_two_meetings step = let few = (by_one 1 2 two_taken two_met step).2 in omega (arith, few)

no_take_and_post : IsStep 1 2 one_posted two_posted → ⊥
no_take_and_post (inl splits) = omega (arith, ap length splits.items.0)
no_take_and_post (inr (inl posts)) = omega (arith, ap length posts.4.taken)
no_take_and_post (inr (inr (inl takes))) = omega (arith, ap length takes.1.queued)
no_take_and_post (inr (inr (inr (inl nothing)))) = omega (arith, ap length nothing.0)
no_take_and_post (inr (inr (inr (inr meets)))) = omega (arith, ap length meets.1.items.0)

-- No end goes away that was made or met.
no_end_unmade : IsStep 1 2 two_ends one_end → ⊥
no_end_unmade step = let splits = splits_off 1 2 two_ends one_end step (λ same. omega (arith, same)) in let made = splits.made in
    omega (arith, made)

no_end_unmet : IsStep 1 2 one_met two_taken → ⊥
no_end_unmet step = let still = (by_one 1 2 one_met two_taken step).3 in omega (arith, still)

-- An impossible step is in no schedule.
no_schedule : IsSchedule 1 2 opened (one_posted ∷ []) → ⊥
no_schedule schedule = let posts = grows 1 2 opened one_posted schedule.0 refl in let below = posts.3.0 in omega (arith, below)

-- A schedule has no state twice in a row, unless nothing is found.
no_stuttering : IsSchedule 1 2 one_posted (one_posted ∷ []) → ⊥
no_stuttering schedule = no_empty_look schedule.0
