-- The states between the bytes of letters, and which bytes lead from one to the next.
use Rattle.std.proofs.Common.{◌≡◌, ℕ, ◌+◌, ◌<◌, ◌/◌, ◌%◌, ◌^◌, Bool, true, false, List, length, drop, slice_index, refl, ◌∙◌, ap, subst, arith}
use Rattle.std.specs.Prelude.{⊤, ◌==◌, ◌&&◌, not, nat_lt, nat_le, slice_index_or, if◌then◌else◌}
use Rattle.std.proofs.lemmas.Bool.{agree_below_at, and_parts, and_from, or_left, or_right, eqb-true, leb-true, lt-ltb}
use Rattle.std.proofs.lemmas.List.{get_or-drop, length-drop}
use Rattle.bstr.specs.Utf8.{continues}
use Rattle.redo_html.specs.declared.symbol.TheConstants.{STEPS}
use Rattle.redo_html.specs.Laws.{is_plain}
use Rattle.redo_html.specs.Private.Writing.{IsVerbatim}
use Rattle.redo_html.proofs.LetterLemmas.{is_lead_of_2, is_triple, pair_verbatim, triple_verbatim}
use Rattle.redo_html.proofs.VerbatimLemmas.{more_code_points, plain_code_point}

-- Before a letter, before its last byte, before its last two, after `E0`, `E2`, `E2 80` and `E3`, and after bytes of no letter.
pub data State : Type 0 where
  Start : State
  One : State
  Two : State
  AfterE0 : State
  AfterE2 : State
  AfterE280 : State
  AfterE3 : State
  Failed : State

abbrev pub number : State → ℕ
number Start = 0
number One = 6
number Two = 12
number AfterE0 = 18
number AfterE2 = 24
number AfterE280 = 30
number AfterE3 = 36
number Failed = 42

abbrev pub is_lead_of_3 : ℕ → Bool
is_lead_of_3 first = nat_le 0xE4 first && nat_le first 0xEC

abbrev pub first_state : Bool → Bool → Bool → Bool → Bool → Bool → State
first_state plain two three e0 e2 e3 =
    if plain then Start
    else if two then One
    else if three then Two
    else if e0 then AfterE0
    else if e2 then AfterE2
    else if e3 then AfterE3
    else Failed

abbrev pub next : State → ℕ → State
next Start byte = first_state (is_plain byte) (is_lead_of_2 byte) (is_lead_of_3 byte) (byte == 0xE0) (byte == 0xE2) (byte == 0xE3)
next One byte = if continues byte then Start else Failed
next Two byte = if continues byte then One else Failed
next AfterE0 byte = if continues byte && nat_le 0xA0 byte then One else Failed
next AfterE2 byte = if byte == 0x80 then AfterE280 else if continues byte && nat_le 0x82 byte then One else Failed
next AfterE280 byte = if nat_le 0x90 byte && nat_le byte 0xA7 then Start else Failed
next AfterE3 byte = if continues byte && not (byte == 0x85) then One else Failed
next Failed byte = Failed

-- ---- the table

abbrev entry : State → ℕ → Bool
entry state byte = (slice_index_or STEPS byte 0 / 2 ^ number state) % 64 == number (next state byte)

pub entry_is : (state : State) (byte : ℕ) → byte < 256 → (slice_index_or STEPS byte 0 / 2 ^ number state) % 64 ≡ number (next state byte)
entry_is state byte below = eqb-true _ _ (all state)
  where
    all : (state : State) → entry state byte ≡ true
    all Start = agree_below_at (entry Start) (λ b. true) 256 byte refl below
    all One = agree_below_at (entry One) (λ b. true) 256 byte refl below
    all Two = agree_below_at (entry Two) (λ b. true) 256 byte refl below
    all AfterE0 = agree_below_at (entry AfterE0) (λ b. true) 256 byte refl below
    all AfterE2 = agree_below_at (entry AfterE2) (λ b. true) 256 byte refl below
    all AfterE280 = agree_below_at (entry AfterE280) (λ b. true) 256 byte refl below
    all AfterE3 = agree_below_at (entry AfterE3) (λ b. true) 256 byte refl below
    all Failed = agree_below_at (entry Failed) (λ b. true) 256 byte refl below

-- ---- what a state means

-- If the next two bytes and this one are a letter, it can be written as it is, as all before it.
abbrev pub Promise : List ℕ → ℕ → ℕ → Type 0
Promise bytes at first = is_triple first (slice_index bytes at) (slice_index bytes (at + 1)) ≡ true → at + 1 < length bytes
    → IsVerbatim bytes (at + 2)

-- What is known of the bytes before an index.
abbrev pub Pending : List ℕ → ℕ → State → Type 0
Pending bytes at Start = IsVerbatim bytes at
Pending bytes at One = continues (slice_index bytes at) ≡ true → at < length bytes → IsVerbatim bytes (at + 1)
Pending bytes at Two = (first : ℕ) × (is_lead_of_3 first ≡ true) × Promise bytes at first
Pending bytes at AfterE0 = Promise bytes at 0xE0
Pending bytes at AfterE2 = Promise bytes at 0xE2
Pending bytes at AfterE280 = (nat_le 0x90 (slice_index bytes at) && nat_le (slice_index bytes at) 0xA7) ≡ true → at < length bytes
    → IsVerbatim bytes (at + 1)
Pending bytes at AfterE3 = Promise bytes at 0xE3
Pending bytes at Failed = ⊤

module _ (bytes : List ℕ) (at : ℕ) (inside : at < length bytes) where
  abbrev byte : ℕ
  byte = slice_index bytes at

  at_drop : (k : ℕ) → slice_index (drop at bytes) k ≡ slice_index bytes (at + k)
  at_drop k = get_or-drop at bytes k 0

  first_is : slice_index (drop at bytes) 0 ≡ byte
  first_is = at_drop 0 ∙ ap (slice_index bytes) (omega arith)

  plain_next : IsVerbatim bytes at → is_plain byte ≡ true → IsVerbatim bytes (at + 1)
  plain_next so_far plain =
      more_code_points bytes at 1 so_far (plain_code_point (drop at bytes) (let size = length-drop at bytes in omega (arith, size, inside))
      (ap is_plain first_is ∙ plain))

  two_next : IsVerbatim bytes at → is_lead_of_2 byte ≡ true → Pending bytes (at + 1) One
  two_next so_far lead = λ next more.
      let second : slice_index (drop at bytes) 1 ≡ slice_index bytes (at + 1) = at_drop 1 in
      let same : at + 2 ≡ at + 1 + 1 = omega arith in
      subst (IsVerbatim bytes) same (more_code_points bytes at 2 so_far (pair_verbatim (drop at bytes)
      (let size = length-drop at bytes in omega (arith, size, more))
      (and_from (continues (slice_index (drop at bytes) 1)) (is_lead_of_2 (slice_index (drop at bytes) 0))
      (ap continues second ∙ next) (ap is_lead_of_2 first_is ∙ lead))))

  three_next : (first : ℕ) → byte ≡ first → IsVerbatim bytes at → Promise bytes (at + 1) first
  three_next first is so_far = λ letter more.
      let third : slice_index (drop at bytes) 2 ≡ slice_index bytes (at + 1 + 1) = at_drop 2 ∙ ap (slice_index bytes) (omega arith) in
      let same : at + 3 ≡ at + 1 + 2 = omega arith in
      subst (IsVerbatim bytes) same (more_code_points bytes at 3 so_far (triple_verbatim (drop at bytes)
      (let size = length-drop at bytes in omega (arith, size, more))
      (ap (λ (a : ℕ). is_triple a (slice_index (drop at bytes) 1) (slice_index (drop at bytes) 2)) (first_is ∙ is)
      ∙ ap (λ (b : ℕ). is_triple first b (slice_index (drop at bytes) 2)) (at_drop 1)
      ∙ ap (λ (c : ℕ). is_triple first (slice_index bytes (at + 1)) c) third ∙ letter)))

  start_next : IsVerbatim bytes at → (plain two three e0 e2 e3 : Bool) → is_plain byte ≡ plain → is_lead_of_2 byte ≡ two
      → is_lead_of_3 byte ≡ three → (byte == 0xE0) ≡ e0 → (byte == 0xE2) ≡ e2 → (byte == 0xE3) ≡ e3
      → Pending bytes (at + 1) (first_state plain two three e0 e2 e3)
  start_next so_far true two three e0 e2 e3 p t h a b c = plain_next so_far p
  start_next so_far false true three e0 e2 e3 p t h a b c = two_next so_far t
  start_next so_far false false true e0 e2 e3 p t h a b c = (byte, h, three_next byte refl so_far)
  start_next so_far false false false true e2 e3 p t h a b c = three_next 0xE0 (eqb-true byte 0xE0 a) so_far
  start_next so_far false false false false true e3 p t h a b c = three_next 0xE2 (eqb-true byte 0xE2 b) so_far
  start_next so_far false false false false false true p t h a b c = three_next 0xE3 (eqb-true byte 0xE3 c) so_far
  start_next so_far false false false false false false p t h a b c = tt

  -- The last byte of three, after a promise.
  last_next : (first : ℕ) → Promise bytes at first
      → ((last : ℕ) → continues last ≡ true → is_triple first byte last ≡ true) → Pending bytes (at + 1) One
  last_next first promise letter = λ next more.
      let same : at + 2 ≡ at + 1 + 1 = omega arith in
      subst (IsVerbatim bytes) same (promise (letter (slice_index bytes (at + 1)) next) more)

  one_next : Pending bytes at One → (c : Bool) → continues byte ≡ c → Pending bytes (at + 1) (if c then Start else Failed)
  one_next before true is = before is inside
  one_next before false is = tt

  two_bytes_next : Pending bytes at Two → (c : Bool) → continues byte ≡ c → Pending bytes (at + 1) (if c then One else Failed)
  two_bytes_next before false is = tt
  two_bytes_next before true is = last_next before.0 before.2 (λ last fits.
      and_from (continues byte) _ is (and_from (continues last) _ fits (or_left (is_lead_of_3 before.0) _ before.1)))

  e0_next : Promise bytes at 0xE0 → (c : Bool) → (continues byte && nat_le 0xA0 byte) ≡ c
      → Pending bytes (at + 1) (if c then One else Failed)
  e0_next before false is = tt
  e0_next before true is =
      let parts = and_parts (continues byte) (nat_le 0xA0 byte) is in
      last_next 0xE0 before (λ last fits. and_from (continues byte) _ parts.0 (and_from (continues last) _ fits parts.1))

  e3_next : Promise bytes at 0xE3 → (c : Bool) → (continues byte && not (byte == 0x85)) ≡ c
      → Pending bytes (at + 1) (if c then One else Failed)
  e3_next before false is = tt
  e3_next before true is =
      let parts = and_parts (continues byte) (not (byte == 0x85)) is in
      last_next 0xE3 before (λ last fits. and_from (continues byte) _ parts.0 (and_from (continues last) _ fits
      (or_left (not (byte == 0x85)) false parts.1)))

  e280_next : Pending bytes at AfterE280 → (c : Bool) → (nat_le 0x90 byte && nat_le byte 0xA7) ≡ c
      → Pending bytes (at + 1) (if c then Start else Failed)
  e280_next before true is = before is inside
  e280_next before false is = tt

  e2_next : Promise bytes at 0xE2 → (q c : Bool) → (byte == 0x80) ≡ q → (continues byte && nat_le 0x82 byte) ≡ c
      → Pending bytes (at + 1) (if q then AfterE280 else if c then One else Failed)
  e2_next before true c quote is = λ ends more.
      let b = eqb-true byte 0x80 quote in
      let last = slice_index bytes (at + 1) in
      let bounds = and_parts (nat_le 0x90 last) (nat_le last 0xA7) ends in
      let low = leb-true 0x90 last bounds.0 in
      let high = leb-true last 0xA7 bounds.1 in
      let fits : continues last ≡ true = and_from (nat_lt 0x7F last) (nat_lt last 0xC0) (lt-ltb 0x7F last (omega (arith, low)))
      (lt-ltb last 0xC0 (omega (arith, high))) in
      let same : at + 2 ≡ at + 1 + 1 = omega arith in
      subst (IsVerbatim bytes) same (before (and_from (continues byte) _ (ap continues b) (and_from (continues last) _ fits
      (or_left (byte == 0x80 && (nat_le 0x90 last && nat_le last 0xA7)) _ (and_from (byte == 0x80) _ quote ends)))) more)
  e2_next before false true quote is =
      let parts = and_parts (continues byte) (nat_le 0x82 byte) is in
      last_next 0xE2 before (λ last fits. and_from (continues byte) _ parts.0 (and_from (continues last) _ fits
      (or_right (byte == 0x80 && (nat_le 0x90 last && nat_le last 0xA7)) _ (or_left (nat_le 0x82 byte) false parts.1))))
  e2_next before false false quote is = tt

  pub step : (state : State) → Pending bytes at state → Pending bytes (at + 1) (next state byte)
  step Start before = start_next before _ _ _ _ _ _ refl refl refl refl refl refl
  step One before = one_next before _ refl
  step Two before = two_bytes_next before _ refl
  step AfterE0 before = e0_next before _ refl
  step AfterE2 before = e2_next before _ _ refl refl
  step AfterE280 before = e280_next before _ refl
  step AfterE3 before = e3_next before _ refl
  step Failed before = tt

-- ---- states as numbers

pub starts : (state : State) (bytes : List ℕ) (at : ℕ) → number state ≡ 0 → Pending bytes at state → IsVerbatim bytes at
starts Start bytes at is before = before
starts One bytes at is before = absurd (omega (arith, is))
starts Two bytes at is before = absurd (omega (arith, is))
starts AfterE0 bytes at is before = absurd (omega (arith, is))
starts AfterE2 bytes at is before = absurd (omega (arith, is))
starts AfterE280 bytes at is before = absurd (omega (arith, is))
starts AfterE3 bytes at is before = absurd (omega (arith, is))
starts Failed bytes at is before = absurd (omega (arith, is))

pub below_64 : (state : State) → number state < 64
below_64 Start = omega arith
below_64 One = omega arith
below_64 Two = omega arith
below_64 AfterE0 = omega arith
below_64 AfterE2 = omega arith
below_64 AfterE280 = omega arith
below_64 AfterE3 = omega arith
below_64 Failed = omega arith
