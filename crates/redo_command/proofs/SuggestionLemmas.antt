-- The targets that are suggested for an unknown one.
use Rattle.std.proofs.Common.{◌≡◌, ◌≢◌, ◌<◌, ◌≤◌, ◌-◌, ◌+◌, ◌∙◌, ℕ, Bool, true, false, List, [], ◌∷◌, ◌++◌, Result, Ok, Err, length, take, drop, get_or, nat_eq, cond, codes, ap, refl, sym, arith}
use Rattle.std.specs.Global.{Vec}
use Rattle.std.specs.Prelude.{OnOk}
use Rattle.std.specs.List.{All, Contains, ends_with, filter, flat_map}
use Rattle.std.proofs.lemmas.Bool.Decides.{Decides-eqb}
use Rattle.std.proofs.lemmas.List.{append-nil, append_assoc, length-append, length-map, length-take, map-append, take-append-drop, take_all}
use Rattle.std.proofs.lemmas.List.Elements.{All-contains_itself, All-filter, All-take, All-weaker, filter-append, filter_more, filter_passes}
use Rattle.std.proofs.lemmas.Slice.Eq.{ends_is}
use Rattle.std.proofs.Math.Seq.{take-append_seam}
use Rattle.redo_options.specs.Arguments.{argument_bytes}
use Rattle.redo_command.specs.Explanation.{EndsWith, ending_with, listed, or_if_none, suggestions}
use Rattle.redo_command.specs.Private.Suggested.{after_comma}

abbrev ends : List ℕ → List ℕ → Bool
ends name target = ends_with nat_eq target name

ends_with_name : (name target : List ℕ) → ends name target ≡ true → EndsWith name target
ends_with_name name target is =
    (take (length target - length name) target, (ends_is Decides-eqb target name (ends name target) refl).0 is)

-- A longer end has each shorter one.
ends_later : (first name target : List ℕ) → EndsWith (first ++ name) target → EndsWith name target
ends_later first name target (front, is) = (front ++ first, is ∙ sym (append_assoc front first name))

-- A property of both lists is a property of the one that is taken.
either : (P : List ℕ → Type 0) (names others : List (List ℕ)) → All P names → All P others → All P (or_if_none names others)
either P [] others first second = second
either P (name ∷ names) others first second = first

short : (names others : List (List ℕ)) → length names ≤ 5 → length others ≤ 5 → length (or_if_none names others) ≤ 5
short [] others first second = second
short (name ∷ names) others first second = first

five : (names : List (List ℕ)) → length (take 5 names) ≤ 5
five names = omega (arith, length-take 5 names)

listed_ones : (name : List ℕ) (targets : List (List ℕ)) → All (Contains targets) (take 5 (ending_with name targets))
listed_ones name targets =
    All-take (Contains targets) 5 _ (All-filter (ends name) (Contains targets) targets (All-contains_itself targets))

ending_ones : (name : List ℕ) (targets : List (List ℕ)) → All (EndsWith name) (take 5 (ending_with name targets))
ending_ones name targets = All-take (EndsWith name) 5 _
    (All-weaker (λ target. ends name target ≡ true) (EndsWith name) (ends_with_name name) _ (filter_passes (ends name) targets))

pub all_listed : (name : List ℕ) (targets : List (List ℕ)) → All (Contains targets) (suggestions name targets)
all_listed name targets = either (Contains targets) _ _ (listed_ones (codes "/" ++ name) targets) (listed_ones name targets)

pub all_ending : (name : List ℕ) (targets : List (List ℕ)) → All (EndsWith name) (suggestions name targets)
all_ending name targets = either (EndsWith name) _ _
    (All-weaker (EndsWith (codes "/" ++ name)) (EndsWith name) (ends_later (codes "/") name) _ (ending_ones (codes "/" ++ name) targets)) (ending_ones name targets)

pub at_most_five : (name : List ℕ) (targets : List (List ℕ)) → length (suggestions name targets) ≤ 5
at_most_five name targets = short _ _ (five (ending_with (codes "/" ++ name) targets)) (five (ending_with name targets))

-- ---- the targets that were found so far

module _ (name : List ℕ) where
  -- A target that ends with the name was pushed, and another one was not.
  pub pushed : (names new : List (Vec ℕ)) (copy : Vec ℕ) (target : List ℕ) → new ≡ names ++ copy ∷ [] → copy.items ≡ target
      → ends name target ≡ true → argument_bytes new ≡ argument_bytes names ++ ending_with name (target ∷ [])
  pushed names new copy target is same passes =
      ap argument_bytes is ∙ map-append (λ (name : Vec ℕ). name.items) names (copy ∷ [])
      ∙ ap (λ (t : List ℕ). argument_bytes names ++ t ∷ []) same
      ∙ sym (ap (λ (b : Bool). argument_bytes names ++ cond b (target ∷ []) []) passes)

  pub not_pushed : (names : List (List ℕ)) (target : List ℕ) → ends name target ≡ false → names ≡ names ++ ending_with name (target ∷ [])
  not_pushed names target fails = sym (ap (λ (b : Bool). names ++ cond b (target ∷ []) []) fails ∙ append-nil names)

  one : (b : Bool) (target : List ℕ) → length (cond b (target ∷ []) []) ≤ 1
  one true target = omega arith
  one false target = omega arith

  -- One more target is at most one more.
  pub still_few : (found new : List (List ℕ)) (target : List ℕ) → new ≡ found ++ ending_with name (target ∷ []) → length found ≤ 5
      → length found ≢ 5 → length new ≤ 5
  still_few found new target is few fewer =
      omega (arith, ap length is, length-append found (ending_with name (target ∷ [])), one (ends name target) target, few, fewer)

  module _ (targets : List (List ℕ)) where
    abbrev pub found_in : ℕ → List (List ℕ)
    found_in i = ending_with name (take i targets)

    -- The targets found up to the next one.
    pub next_found : (i : ℕ) (found new : List (List ℕ)) (target : List ℕ) → i < length targets → get_or targets i [] ≡ target
        → found ≡ found_in i → new ≡ found ++ ending_with name (target ∷ []) → new ≡ found_in (i + 1)
    next_found i found new target within at is pushed =
        pushed ∙ ap (λ (xs : List (List ℕ)). xs ++ ending_with name (target ∷ [])) is
        ∙ sym (filter_more (ends name) targets i [] within
        ∙ ap (λ (t : List ℕ). found_in i ++ cond (ends name t) (t ∷ []) []) at)

    -- Five are enough, and all of them are too if there are fewer.
    pub five_found : (n : ℕ) (found : List (List ℕ)) → found ≡ found_in n → length found ≡ 5 → found ≡ take 5 (ending_with name targets)
    five_found n found is count =
        let rest = ending_with name (drop n targets) in
        let all : ending_with name targets ≡ found ++ rest =
        ap (filter (ends name)) (sym (take-append-drop n targets)) ∙ filter-append (ends name) (take n targets) (drop n targets)
        ∙ ap (λ (xs : List (List ℕ)). xs ++ rest) (sym is) in
        sym (ap (take 5) all ∙ ap (λ (k : ℕ). take k (found ++ rest)) (sym count) ∙ take-append_seam found rest)

    pub all_found : (n : ℕ) (found : List (List ℕ)) → found ≡ found_in n → length targets ≤ n → length found ≤ 5
        → found ≡ take 5 (ending_with name targets)
    all_found n found is end few =
        let all : found ≡ ending_with name targets = is ∙ ap (filter (ends name)) (take_all n targets end) in
        sym (ap (take 5) (sym all) ∙ take_all 5 found few)

pub count_of : (names : List (Vec ℕ)) → length (argument_bytes names) ≡ length names
count_of names = length-map names (λ (name : Vec ℕ). name.items)

-- The first list is empty, or not.
pub second_taken : (names : List (Vec ℕ)) (first second : List (List ℕ)) → argument_bytes names ≡ first → length names ≡ 0
    → or_if_none first second ≡ second
second_taken [] first second is none = ap (λ (names : List (List ℕ)). or_if_none names second) (sym is)
second_taken (name ∷ names) first second is none = absurd (omega (arith, none))

pub first_taken : (names : List (Vec ℕ)) (first second : List (List ℕ)) → argument_bytes names ≡ first → length names ≢ 0
    → argument_bytes names ≡ or_if_none first second
first_taken [] first second is some = absurd (some refl)
first_taken (name ∷ names) first second is some = ap (λ (names : List (List ℕ)). or_if_none names second) is

-- The names after the first one follow commas.
after_commas : (names : List (Vec ℕ)) → flat_map after_comma names ≡ flat_map (λ next. codes ", " ++ next) (argument_bytes names)
after_commas [] = refl
after_commas (name ∷ names) = ap (λ (rest : List ℕ). after_comma name ++ rest) (after_commas names)

pub listed_is : (text : List ℕ) (first : Vec ℕ) (others : List (Vec ℕ))
    → text ++ first.items ++ flat_map after_comma others ≡ text ++ listed (argument_bytes (first ∷ others))
listed_is text first others =
    append_assoc text first.items (flat_map after_comma others)
    ∙ ap (λ (rest : List ℕ). text ++ (first.items ++ rest)) (after_commas others)

-- The first of these names, and the ones after it.
pub listed_from : (text : List ℕ) (names : List (Vec ℕ)) (first : Vec ℕ) → 0 < length names → get_or names 0 first ≡ first
    → text ++ first.items ++ flat_map after_comma (drop 1 names) ≡ text ++ listed (argument_bytes names)
listed_from text [] first some at = absurd (omega (arith, some))
listed_from text (name ∷ names) first some at =
    ap (λ (v : Vec ℕ). text ++ v.items ++ flat_map after_comma names) (sym at) ∙ listed_is text name names

pub on_ok : {T E : Type 0} (result : Result T E) (P Q : Type 0) → (P → Q) → OnOk result P → OnOk result Q
on_ok (Ok x) P Q then holds = then holds
on_ok (Err e) P Q then holds = tt
