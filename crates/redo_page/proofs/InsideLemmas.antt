-- What an element contains is determined by its tags.
use Rattle.std.proofs.Common.{◌≡◌, ℕ, ◌⊎◌, inl, inr, Bool, true, false, List, [], ◌∷◌, ◌++◌, refl, sym, ◌∙◌, ap, subst}
use Rattle.std.specs.Prelude.{◌&&◌, ◌==◌, bytes_eq, nat_eq, if◌then◌else◌}
use Rattle.std.specs.List.{AllByRecursion, IsDistinct, flat_map}
use Rattle.std.proofs.lemmas.Bool.{eq-eqb}
use Rattle.std.proofs.lemmas.Grind.{flat_map-append}
use Rattle.std.proofs.lemmas.List.{append_assoc, append-nil}
use Rattle.redo_html.specs.declared.markup.Markup.{Markup}
use Rattle.redo_html.specs.Html.{after_end_tag, is_void, nests_in, start_name}
use Rattle.redo_html.specs.Laws.{markup_tag}
use Rattle.redo_html.specs.Parts.{Part}
use Rattle.redo_html.specs.Parts.Part.{MarkupPart}
use Rattle.redo_page.specs.Laws.{IsInside}
use Rattle.redo_page.proofs.Nesting.{Nest}

-- ---- where an element ends

-- Each element that begins in these parts ends in them, and no other one does.
abbrev pub Closed : List Part → Type 0
Closed parts = nests_in [] (flat_map markup_tag parts) ≡ true

pub nest_closed : {parts : List Part} → Nest parts → Closed parts
nest_closed {parts} nest = ap (nests_in []) (sym (append-nil (flat_map markup_tag parts))) ∙ nest.leads [] []

-- If the elements that are open before some tags end in them, none is open after them.
all_closed : (names tags more : List (List ℕ)) → nests_in names tags ≡ true → nests_in names (tags ++ more) ≡ nests_in [] more
all_closed [] [] more nests = refl
all_closed (name ∷ names) [] more nests = absurd (cc)
all_closed names ([] ∷ tags) more nests = absurd (cc)
all_closed names ((byte ∷ bytes) ∷ tags) more nests =
    by (byte == 47) (is_void (start_name (byte ∷ bytes))) names nests (λ others closed. all_closed others tags more closed)
  where
    ended : (names : List (List ℕ)) → after_end_tag bytes names (λ outer. nests_in outer tags) ≡ true
        → ((others : List (List ℕ)) → nests_in others tags ≡ true → nests_in others (tags ++ more) ≡ nests_in [] more)
        → after_end_tag bytes names (λ outer. nests_in outer (tags ++ more)) ≡ nests_in [] more
    ended [] nest behind = absurd (cc)
    ended (inner ∷ outer) nest behind = same (bytes_eq bytes inner) nest
      where
        same : (is : Bool) → (is && nests_in outer tags) ≡ true → (is && nests_in outer (tags ++ more)) ≡ nests_in [] more
        same true closed = behind outer closed
        same false closed = absurd (cc)

    by : (ends void : Bool) (names : List (List ℕ))
        → (if ends then after_end_tag bytes names (λ outer. nests_in outer tags)
        else if void then nests_in names tags else nests_in (start_name (byte ∷ bytes) ∷ names) tags) ≡ true
        → ((others : List (List ℕ)) → nests_in others tags ≡ true → nests_in others (tags ++ more) ≡ nests_in [] more)
        → (if ends then after_end_tag bytes names (λ outer. nests_in outer (tags ++ more))
        else if void then nests_in names (tags ++ more) else nests_in (start_name (byte ∷ bytes) ∷ names) (tags ++ more))
        ≡ nests_in [] more
    by true void names nest behind = ended names nest behind
    by false true names nest behind = behind names nest
    by false false names nest behind = behind (start_name (byte ∷ bytes) ∷ names) nest

-- A part that ends an element.
abbrev pub IsEnd : Part → Type 0
IsEnd end = (rest : List Part) → nests_in [] (flat_map markup_tag (end ∷ rest)) ≡ false

module _ (end : Part) (ends : IsEnd end) where
  -- Two beginnings of the same parts, each before an end tag.
  abbrev Longer : List Part → List Part → Type 0
  Longer parts others = (more : List Part) × (others ≡ parts ++ (end ∷ more))

  compared : (parts others after rest : List Part) → parts ++ (end ∷ after) ≡ others ++ (end ∷ rest)
      → (parts ≡ others) ⊎ (Longer parts others ⊎ Longer others parts)
  compared [] [] after rest same = inl refl
  compared [] (other ∷ others) after rest same =
      let head : end ≡ other = cc in inr (inl (others, ap (λ (p : Part). p ∷ others) (sym head)))
  compared (part ∷ parts) [] after rest same =
      let head : part ≡ end = cc in inr (inr (parts, ap (λ (p : Part). p ∷ parts) head))
  compared (part ∷ parts) (other ∷ others) after rest same =
      let head : part ≡ other = cc in
      let tail : parts ++ (end ∷ after) ≡ others ++ (end ∷ rest) = cc in
      by head (compared parts others after rest tail)
    where
      by : part ≡ other → (parts ≡ others) ⊎ (Longer parts others ⊎ Longer others parts)
          → (part ∷ parts ≡ other ∷ others) ⊎ (Longer (part ∷ parts) (other ∷ others) ⊎ Longer (other ∷ others) (part ∷ parts))
      by head (inl equal) = inl (ap (λ (p : Part). p ∷ parts) head ∙ ap (λ (t : List Part). other ∷ t) equal)
      by head (inr (inl longer)) =
          inr (inl (longer.0, ap (λ (t : List Part). other ∷ t) longer.1 ∙ ap (λ (p : Part). p ∷ (parts ++ (end ∷ longer.0))) (sym head)))
      by head (inr (inr longer)) =
          inr (inr (longer.0, ap (λ (t : List Part). part ∷ t) longer.1 ∙ ap (λ (p : Part). p ∷ (others ++ (end ∷ longer.0))) head))

  not_longer : (parts others : List Part) → Closed parts → Closed others → Longer parts others → ⊥
  not_longer parts others first last longer =
      let tags = flat_map markup_tag (end ∷ longer.0) in
      let is : false ≡ true = sym (ap (nests_in []) (flat_map-append markup_tag parts (end ∷ longer.0))
      ∙ all_closed [] (flat_map markup_tag parts) tags first ∙ ends longer.0)
      ∙ (sym (ap (λ (p : List Part). nests_in [] (flat_map markup_tag p)) longer.1) ∙ last) in
      absurd (cc)

  -- There is only one end.
  pub one_end : (parts others after rest : List Part) → Closed parts → Closed others → parts ++ (end ∷ after) ≡ others ++ (end ∷ rest)
      → parts ≡ others
  one_end parts others after rest first last same = by (compared parts others after rest same)
    where
      by : (parts ≡ others) ⊎ (Longer parts others ⊎ Longer others parts) → parts ≡ others
      by (inl equal) = equal
      by (inr (inl longer)) = absurd (not_longer parts others first last longer)
      by (inr (inr longer)) = absurd (not_longer others parts last first longer)

-- ---- where an element begins

all_right : (P : ℕ → Type 0) (numbers others : List ℕ) → AllByRecursion P (numbers ++ others) → AllByRecursion P others
all_right P [] others all = all
all_right P (number ∷ numbers) others all = all_right P numbers others all.1

distinct_right : (numbers others : List ℕ) → IsDistinct nat_eq (numbers ++ others) → IsDistinct nat_eq others
unfolding IsDistinct
distinct_right [] others distinct = distinct
distinct_right (number ∷ numbers) others distinct = distinct_right numbers others distinct.1

-- A tag that has a number by `number_of`, and a number that is once in all parts.
module _ (number_of : Part → List ℕ) (number : ℕ) (tag : Part) (is : number_of tag ≡ number ∷ []) where
  -- The number is among the numbers of parts with the tag.
  not_apart : (before rest : List Part)
      → AllByRecursion (λ other. nat_eq number other ≡ false) (flat_map number_of (before ++ (tag ∷ rest))) → ⊥
  not_apart [] rest all =
      let own : nat_eq number number ≡ false =
      (subst (λ (numbers : List ℕ). AllByRecursion (λ other. nat_eq number other ≡ false) (numbers ++ flat_map number_of rest)) is all).0 in
      let same : (number == number) ≡ true = eq-eqb number number refl in
      absurd (cc)
  not_apart (part ∷ before) rest all =
      not_apart before rest
      (all_right (λ other. nat_eq number other ≡ false) (number_of part) (flat_map number_of (before ++ (tag ∷ rest))) all)

  not_twice : (before rest : List Part) → IsDistinct nat_eq (flat_map number_of (tag ∷ (before ++ (tag ∷ rest)))) → ⊥
  unfolding IsDistinct
  not_twice before rest once =
      not_apart before rest
      (subst (λ (numbers : List ℕ). IsDistinct nat_eq (numbers ++ flat_map number_of (before ++ (tag ∷ rest)))) is once).0

  after_once : (before others rest more : List Part) → IsDistinct nat_eq (flat_map number_of (before ++ (tag ∷ rest)))
      → before ++ (tag ∷ rest) ≡ others ++ (tag ∷ more) → rest ≡ more
  after_once [] [] rest more once same = cc
  after_once [] (other ∷ others) rest more once same =
      let tail : rest ≡ others ++ (tag ∷ more) = cc in
      absurd (not_twice others more (subst (λ (parts : List Part). IsDistinct nat_eq (flat_map number_of (tag ∷ parts))) tail once))
  after_once (part ∷ before) [] rest more once same =
      let head : part ≡ tag = cc in
      absurd (not_twice before rest
      (subst (λ (first : Part). IsDistinct nat_eq (flat_map number_of (first ∷ (before ++ (tag ∷ rest))))) head once))
  after_once (part ∷ before) (other ∷ others) rest more once same =
      let tail : before ++ (tag ∷ rest) ≡ others ++ (tag ∷ more) = cc in
      after_once before others rest more (distinct_right (number_of part) (flat_map number_of (before ++ (tag ∷ rest))) once) tail

-- The parts after a start tag.
pub after_start : (before inside after : List Part) (start end : Part)
    → before ++ ((start ∷ (inside ++ end ∷ [])) ++ after) ≡ before ++ (start ∷ (inside ++ (end ∷ after)))
after_start before inside after start end =
    ap (λ (t : List Part). before ++ (start ∷ t)) (append_assoc inside (end ∷ []) after)

-- If a start tag is once in parts, only one list of parts is what its element contains.
pub same_inside : (number_of : Part → List ℕ) (number : ℕ) (start end : Markup) → number_of (MarkupPart start) ≡ number ∷ []
    → IsEnd (MarkupPart end) → {inside own whole : List Part} → IsDistinct nat_eq (flat_map number_of whole)
    → IsInside start end inside whole → IsInside start end own whole → inside ≡ own
same_inside number_of number start end numbered ends {inside} {own} {whole} once is other =
    let before = is.0.before in
    let first = sym (after_start before inside is.0.after (MarkupPart start) (MarkupPart end)) ∙ is.0.splits in
    let last = sym (after_start other.0.before own other.0.after (MarkupPart start) (MarkupPart end)) ∙ other.0.splits in
    one_end (MarkupPart end) ends inside own is.0.after other.0.after is.1 other.1
    (after_once number_of number (MarkupPart start) numbered before other.0.before (inside ++ (MarkupPart end ∷ is.0.after))
    (own ++ (MarkupPart end ∷ other.0.after))
    (subst (λ (parts : List Part). IsDistinct nat_eq (flat_map number_of parts)) (sym first) once) (first ∙ sym last))
