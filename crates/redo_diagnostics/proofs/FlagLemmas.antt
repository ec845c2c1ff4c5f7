-- The flag at the end of a text.
use Rattle.std.proofs.Common.{◌≡◌, ◌≢◌, ℕ, zero, suc, ◌+◌, ◌<◌, ◌==◌, Bool, true, false, cond, List, [], ◌∷◌, ◌++◌, Option, None, Some, length, take, drop, get_or, refl, sym, ◌∙◌, ap, subst, arith, zero-le}
use Rattle.std.specs.Prelude.{is_some, option_and_then, option_map}
use Rattle.std.proofs.lemmas.Bool.{eq-eqb, eqb-true, eqb-false, ne_eqb}
use Rattle.std.proofs.lemmas.List.{append_assoc, at_drop_more, get_or-drop, length-drop, same_from_push, take-append-drop}
use Rattle.std.proofs.lemmas.Option.{none-some, same_Some}
use Rattle.memchr.specs.Find.{IsFirstByte, NoneAfter, Nowhere, Passes, is_byte}
use Rattle.redo_line.specs.Parts.{after_prefix}
use Rattle.redo_line.specs.Record.{space}
use Rattle.redo_line.proofs.PartLemmas.{HasNo, free_parts, front_whole}
use Rattle.redo_diagnostics.specs.Diagnostic.{before_bracket, close_bracket, flag_here, flag_or, if_some_bytes, nothing_if_empty, open_bracket, split_flag}

-- ---- the last byte with a value

pub nowhere_free : (byte : ℕ) (bytes : List ℕ) → Nowhere (Passes (is_byte byte) bytes) 0 (length bytes) → HasNo byte bytes
nowhere_free byte [] none = tt
nowhere_free byte (first ∷ bytes) none = (
  (λ same. none 0 zero-le (omega arith) (eq-eqb first byte same)),
  nowhere_free byte bytes (λ k low below. none (suc k) zero-le (omega (arith, below))),
)

pub passes_inside : (byte : ℕ) (bytes : List ℕ) (k : ℕ) → k < length bytes → Passes (is_byte byte) bytes k → HasNo byte bytes → ⊥
passes_inside byte [] k below passes free = omega (arith, below)
passes_inside byte (first ∷ bytes) zero below passes free = free.0 (eqb-true first byte passes)
passes_inside byte (first ∷ bytes) (suc k) below passes free = passes_inside byte bytes k (omega (arith, below)) passes free.1

-- The result of a search for a byte.
pub byte_found : (byte : ℕ) (bytes : List ℕ) (found : Option ℕ) → IsFirstByte (is_byte byte) bytes found → is_some found ≡ true
    → HasNo byte bytes → ⊥
byte_found byte bytes None first is free = cc
byte_found byte bytes (Some k) first is free = passes_inside byte bytes k first.0.high first.1 free

pub byte_nowhere : (byte : ℕ) (bytes : List ℕ) (found : Option ℕ) → IsFirstByte (is_byte byte) bytes found → is_some found ≡ false
    → HasNo byte bytes
byte_nowhere byte bytes None first is = nowhere_free byte bytes first
byte_nowhere byte bytes (Some k) first is = absurd (cc)

module _ (byte : ℕ) (bytes : List ℕ) (at : ℕ)
    (found : NoneAfter (Passes (is_byte byte) bytes) 0 (length bytes) at × Passes (is_byte byte) bytes at) where
  pub last_whole : bytes ≡ take at bytes ++ byte ∷ drop (at + 1) bytes
  last_whole = sym (take-append-drop at bytes)
      ∙ at_drop_more (λ (others : List ℕ). take at bytes ++ others) bytes at 0 found.0.high
      ∙ ap (λ (one : ℕ). take at bytes ++ one ∷ drop (at + 1) bytes) (eqb-true (get_or bytes at 0) byte found.1)

  pub last_free : HasNo byte (drop (at + 1) bytes)
  last_free = nowhere_free byte (drop (at + 1) bytes) (λ k low below passes.
      let size = length-drop (at + 1) bytes in
      found.0.after (at + 1 + k) (omega arith) (omega (arith, size, below))
      (subst (λ (one : ℕ). one == byte ≡ true) (get_or-drop (at + 1) bytes k 0) passes))

pub last_apart : (byte : ℕ) (a b c d : List ℕ) → HasNo byte b → HasNo byte d → a ++ byte ∷ b ≡ c ++ byte ∷ d → (a ≡ c) × (b ≡ d)
last_apart byte [] b [] d first other same = (refl, cc)
last_apart byte [] b (x ∷ c) d first other same =
    let is : b ≡ c ++ byte ∷ d = cc in absurd ((free_parts byte c (byte ∷ d) (subst (HasNo byte) is first)).1.0 refl)
last_apart byte (x ∷ a) b [] d first other same =
    let is : d ≡ a ++ byte ∷ b = cc in absurd ((free_parts byte a (byte ∷ b) (subst (HasNo byte) is other)).1.0 refl)
last_apart byte (x ∷ a) b (y ∷ c) d first other same =
    let both = last_apart byte a b c d first other cc in
    let here : x ≡ y = cc in ((let rest = both.0 in cc), both.1)

-- ---- brackets

abbrev bracket_step : Bool → Bool → ℕ → List ℕ → Option (List ℕ) → Option (List ℕ)
bracket_step closes opens byte bytes found =
    cond closes (nothing_if_empty bytes) (cond opens None (option_map (λ (others : List ℕ). byte ∷ others) found))

bracket_found : (flag : List ℕ) → HasNo open_bracket flag → HasNo close_bracket flag
    → before_bracket (flag ++ close_bracket ∷ []) ≡ Some flag
unfolding before_bracket
bracket_found [] opens closes = refl
bracket_found (byte ∷ flag) opens closes =
    rw (ne_eqb byte close_bracket closes.0) (rw (ne_eqb byte open_bracket opens.0)
    (ap (option_map (λ (others : List ℕ). byte ∷ others)) (bracket_found flag opens.1 closes.1)))

something : (xs ys : List ℕ) (byte : ℕ) → nothing_if_empty (xs ++ byte ∷ ys) ≡ None
something [] ys byte = refl
something (x ∷ xs) ys byte = refl

-- Bytes with an opening bracket aren't a flag.
bracket_open : (xs ys : List ℕ) → before_bracket (xs ++ open_bracket ∷ ys) ≡ None
unfolding before_bracket
bracket_open [] ys = refl
bracket_open (x ∷ xs) ys = by (x == close_bracket) (x == open_bracket) (before_bracket (xs ++ open_bracket ∷ ys)) (bracket_open xs ys)
  where
    by : (closes opens : Bool) (found : Option (List ℕ)) → found ≡ None
        → bracket_step closes opens x (xs ++ open_bracket ∷ ys) found ≡ None
    by true opens found none = something xs ys open_bracket
    by false true found none = refl
    by false false found none = ap (option_map (λ (others : List ℕ). x ∷ others)) none

-- A flag in brackets.
record IsFlag (bytes flag : List ℕ) : Type 0 where
  whole : bytes ≡ flag ++ close_bracket ∷ []
  opens : HasNo open_bracket flag
  closes : HasNo close_bracket flag

bracket_is : (bytes flag : List ℕ) → before_bracket bytes ≡ Some flag → IsFlag bytes flag
unfolding before_bracket
bracket_is [] flag is = absurd (none-some flag is)
bracket_is (byte ∷ bytes) flag is =
    by (byte == close_bracket) refl (byte == open_bracket) refl (before_bracket bytes) is (λ others found. bracket_is bytes others found)
  where
    alone : (bytes flag : List ℕ) → byte ≡ close_bracket → nothing_if_empty bytes ≡ Some flag → IsFlag (byte ∷ bytes) flag
    alone [] flag closes is = subst (IsFlag (byte ∷ [])) (same_Some [] flag is)
        (record { whole = ap (λ (one : ℕ). one ∷ []) closes; opens = tt; closes = tt })
    alone (x ∷ bytes) flag closes is = absurd (none-some flag is)

    by : (closes : Bool) → byte == close_bracket ≡ closes → (opens : Bool) → byte == open_bracket ≡ opens → (found : Option (List ℕ))
        → bracket_step closes opens byte bytes found ≡ Some flag → ((others : List ℕ) → found ≡ Some others → IsFlag bytes others)
        → IsFlag (byte ∷ bytes) flag
    by true closes opens opening found is sound = alone bytes flag (eqb-true byte close_bracket closes) is
    by false closes true opening found is sound = absurd (none-some flag is)
    by false closes false opening None is sound = absurd (none-some flag is)
    by false closes false opening (Some others) is sound =
        let rest = sound others refl in
        subst (IsFlag (byte ∷ bytes)) (same_Some (byte ∷ others) flag is) (record {
          whole = ap (λ (more : List ℕ). byte ∷ more) rest.whole;
          opens = (eqb-false byte open_bracket opening, rest.opens);
          closes = (eqb-false byte close_bracket closes, rest.closes);
        })

-- ---- a flag at the beginning

here_not : (x : ℕ) (m rest : List ℕ) → flag_here (x ∷ m ++ space ∷ open_bracket ∷ rest) ≡ None
unfolding after_prefix
here_not x [] rest = by (space == x)
  where
    by : (is : Bool) → if_some_bytes (option_and_then (λ (others : List ℕ). before_bracket others) (cond is None None)) ≡ None
    by true = refl
    by false = refl
here_not x (y ∷ m) rest = by (space == x) (open_bracket == y)
  where
    none : before_bracket (m ++ space ∷ open_bracket ∷ rest) ≡ None
    none = ap before_bracket (sym (append_assoc m (space ∷ []) (open_bracket ∷ rest))) ∙ bracket_open (m ++ space ∷ []) rest

    by : (is opens : Bool) → if_some_bytes (option_and_then (λ (others : List ℕ). before_bracket others)
        (cond is (cond opens (Some (m ++ space ∷ open_bracket ∷ rest)) None) None)) ≡ None
    by true true = ap if_some_bytes none
    by true false = refl
    by false opens = refl

some_bytes : (bytes : Option (List ℕ)) (flag : List ℕ) → if_some_bytes bytes ≡ Some flag → (bytes ≡ Some flag) × (flag ≢ [])
some_bytes None flag is = absurd (none-some flag is)
some_bytes (Some []) flag is = absurd (none-some flag is)
some_bytes (Some (byte ∷ bytes)) flag is =
    (is, (λ none. let same = same_Some (byte ∷ bytes) flag is ∙ none in cc))

here_is : (bytes flag : List ℕ) → flag_here bytes ≡ Some flag
    → (bytes ≡ space ∷ open_bracket ∷ (flag ++ close_bracket ∷ [])) × (flag ≢ []) × HasNo open_bracket flag × HasNo close_bracket flag
here_is bytes flag is =
    let found = option_and_then (λ (others : List ℕ). before_bracket others) (after_prefix (space ∷ open_bracket ∷ []) bytes) in
    let some = some_bytes found flag is in
    by (after_prefix (space ∷ open_bracket ∷ []) bytes) refl some.0 some.1
  where
    by : (rest : Option (List ℕ)) → after_prefix (space ∷ open_bracket ∷ []) bytes ≡ rest
        → option_and_then (λ (others : List ℕ). before_bracket others) rest ≡ Some flag → flag ≢ []
        → (bytes ≡ space ∷ open_bracket ∷ (flag ++ close_bracket ∷ [])) × (flag ≢ []) × HasNo open_bracket flag × HasNo close_bracket flag
    by None begins is some = absurd (none-some flag is)
    by (Some rest) begins is some =
        let flag_is = bracket_is rest flag is in (
          front_whole (space ∷ open_bracket ∷ []) bytes rest begins ∙ ap (λ (others : List ℕ). space ∷ open_bracket ∷ others) flag_is.whole,
          some,
          flag_is.opens,
          flag_is.closes,
        )

-- ---- a flag at the end

pub record Ends (text message flag : List ℕ) : Type 0 where
  pub whole : text ≡ message ++ space ∷ open_bracket ∷ (flag ++ close_bracket ∷ [])
  pub some : flag ≢ []
  pub opens : HasNo open_bracket flag
  pub closes : HasNo close_bracket flag

pub flag_is : (text : List ℕ) (parts : List ℕ × List ℕ) → split_flag text ≡ Some parts → Ends text parts.0 parts.1
unfolding split_flag
flag_is [] parts is = absurd (none-some parts is)
flag_is (byte ∷ bytes) parts is =
    by (flag_here (byte ∷ bytes)) refl (split_flag bytes) is (λ others found. flag_is bytes others found)
  where
    by : (here : Option (List ℕ)) → flag_here (byte ∷ bytes) ≡ here → (later : Option (List ℕ × List ℕ))
        → flag_or here byte later ≡ Some parts → ((others : List ℕ × List ℕ) → later ≡ Some others → Ends bytes others.0 others.1)
        → Ends (byte ∷ bytes) parts.0 parts.1
    by (Some flag) here later is sound =
        let found = here_is (byte ∷ bytes) flag here in
        subst (λ (parts : List ℕ × List ℕ). Ends (byte ∷ bytes) parts.0 parts.1) (same_Some ([], flag) parts is)
        (record { whole = found.0; some = found.1; opens = found.2; closes = found.3 })
    by None here None is sound = absurd (none-some parts is)
    by None here (Some others) is sound =
        let rest = sound others refl in
        subst (λ (parts : List ℕ × List ℕ). Ends (byte ∷ bytes) parts.0 parts.1) (same_Some (byte ∷ others.0, others.1) parts is)
        (record { whole = ap (λ (more : List ℕ). byte ∷ more) rest.whole; some = rest.some; opens = rest.opens; closes = rest.closes })

flag_found : (message flag : List ℕ) → flag ≢ [] → HasNo open_bracket flag → HasNo close_bracket flag
    → split_flag (message ++ space ∷ open_bracket ∷ (flag ++ close_bracket ∷ [])) ≡ Some (message, flag)
unfolding split_flag after_prefix
flag_found [] [] some opens closes = absurd (some refl)
flag_found [] (byte ∷ flag) some opens closes =
    ap (λ here. flag_or here space (split_flag (open_bracket ∷ byte ∷ (flag ++ close_bracket ∷ [])))) here
  where
    here : flag_here (space ∷ open_bracket ∷ byte ∷ (flag ++ close_bracket ∷ [])) ≡ Some (byte ∷ flag)
    here = ap if_some_bytes (bracket_found (byte ∷ flag) opens closes)
flag_found (x ∷ message) flag some opens closes =
    ap (λ here. flag_or here x (split_flag (message ++ space ∷ open_bracket ∷ (flag ++ close_bracket ∷ []))))
    (here_not x message (flag ++ close_bracket ∷ []))
    ∙ ap (option_map (λ (parts : List ℕ × List ℕ). (x ∷ parts.0, parts.1))) (flag_found message flag some opens closes)

none_from : (text : List ℕ) → ((parts : List ℕ × List ℕ) → Ends text parts.0 parts.1 → ⊥) → split_flag text ≡ None
none_from text never = by (split_flag text) refl
  where
    by : (found : Option (List ℕ × List ℕ)) → split_flag text ≡ found → found ≡ None
    by None is = refl
    by (Some parts) is = absurd (never parts (flag_is text parts is))

-- ---- what the last bytes of a text say

pub no_close : (text : List ℕ) → ((front : List ℕ) → text ≢ front ++ close_bracket ∷ []) → split_flag text ≡ None
no_close text none = none_from text (λ parts ends. none (parts.0 ++ space ∷ open_bracket ∷ parts.1)
    (ends.whole ∙ sym (append_assoc parts.0 (space ∷ open_bracket ∷ parts.1) (close_bracket ∷ []))))

module _ (text front : List ℕ) (closed : text ≡ front ++ close_bracket ∷ []) where
  front_is : (message flag : List ℕ) → Ends text message flag → front ≡ message ++ space ∷ open_bracket ∷ flag
  front_is message flag ends = (same_from_push front (message ++ space ∷ open_bracket ∷ flag) close_bracket close_bracket
      (sym closed ∙ ends.whole ∙ sym (append_assoc message (space ∷ open_bracket ∷ flag) (close_bracket ∷ [])))).0

  pub no_open : HasNo open_bracket front → split_flag text ≡ None
  no_open free = none_from text (λ parts ends.
      (free_parts open_bracket parts.0 (space ∷ open_bracket ∷ parts.1)
      (subst (HasNo open_bracket) (front_is parts.0 parts.1 ends) free)).1.1.0 refl)

  module _ (before flag : List ℕ) (opened : front ≡ before ++ open_bracket ∷ flag) (last : HasNo open_bracket flag) where
    same_parts : (message other : List ℕ) → Ends text message other → (before ≡ message ++ space ∷ []) × (flag ≡ other)
    same_parts message other ends = last_apart open_bracket before flag (message ++ space ∷ []) other last ends.opens
        (sym opened ∙ front_is message other ends ∙ sym (append_assoc message (space ∷ []) (open_bracket ∷ other)))

    pub no_flag : flag ≡ [] → split_flag text ≡ None
    no_flag none = none_from text (λ parts ends. ends.some (sym (same_parts parts.0 parts.1 ends).1 ∙ none))

    pub closed_inside : (HasNo close_bracket flag → ⊥) → split_flag text ≡ None
    closed_inside closes = none_from text (λ parts ends.
        closes (subst (HasNo close_bracket) (sym (same_parts parts.0 parts.1 ends).1) ends.closes))

    pub no_space : ((message : List ℕ) → before ≢ message ++ space ∷ []) → split_flag text ≡ None
    no_space none = none_from text (λ parts ends. none parts.0 (same_parts parts.0 parts.1 ends).0)

    pub has_flag : (message : List ℕ) → before ≡ message ++ space ∷ [] → flag ≢ [] → HasNo close_bracket flag
        → split_flag text ≡ Some (message, flag)
    has_flag message spaced some closes =
        ap split_flag (closed ∙ ap (λ (bytes : List ℕ). bytes ++ close_bracket ∷ []) (opened
        ∙ ap (λ (bytes : List ℕ). bytes ++ open_bracket ∷ flag) spaced ∙ append_assoc message (space ∷ []) (open_bracket ∷ flag))
        ∙ append_assoc message (space ∷ open_bracket ∷ flag) (close_bracket ∷ []))
        ∙ flag_found message flag some last closes
