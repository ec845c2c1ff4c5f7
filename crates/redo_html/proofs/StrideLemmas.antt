-- Strides of plain bytes and of letters in blocks whose code points are all visible.
use Rattle.std.proofs.Common.{◌≡◌, ℕ, zero, suc, ◌+◌, ◌-◌, ◌<◌, ◌≤◌, Bool, true, false, List, length, slice_index, refl, sym, ◌∙◌, ap, subst, arith, ⊎_elim, inl, inr, ◌⊎◌}
use Rattle.std.specs.Prelude.{◌==◌, ◌||◌, ◌&&◌, not, nat_le, nat_lt, if◌then◌else◌}
use Rattle.std.proofs.lemmas.Bool.{agree_below_at, and_from, and_parts, both_ways, cases_lt, cond-false, cond-true, eqb-true, le-leb, leb-false, leb-true, lt-leb, ltb-true, ne_eqb, not-true, or_cases, or_parts}
use Rattle.bstr.specs.Utf8.{continues}
use Rattle.redo_html.specs.Laws.{is_plain}
use Rattle.redo_html.specs.Private.Letters.{AreLetters, follows, is_lead, is_open, open_len}
use Rattle.redo_html.specs.Private.Writing.{IsVerbatim}
use Rattle.redo_html.proofs.LetterSteps.{State, number, next, Pending, step}
use Rattle.redo_html.proofs.LetterSteps.State.{Start, One, Two, AfterE0, AfterE2, AfterE280, AfterE3, Failed}

-- ---- states by their numbers

abbrev of_number : ℕ → State
of_number n =
    if n == 0 then Start
    else if n == 6 then One
    else if n == 12 then Two
    else if n == 18 then AfterE0
    else if n == 24 then AfterE2
    else if n == 30 then AfterE280
    else if n == 36 then AfterE3
    else Failed

number_is : (state : State) → of_number (number state) ≡ state
number_is Start = refl
number_is One = refl
number_is Two = refl
number_is AfterE0 = refl
number_is AfterE2 = refl
number_is AfterE280 = refl
number_is AfterE3 = refl
number_is Failed = refl

same_state : (one other : State) → number one ≡ number other → one ≡ other
same_state one other same = sym (number_is one) ∙ ap of_number same ∙ number_is other

-- ---- the state after two bytes

abbrev state_after : ℕ → ℕ → State
state_after before last =
    if nat_le 0xE4 last then Two
    else if last == 0xE3 then AfterE3
    else if nat_le 0xC0 last then One
    else if nat_le 0xE0 before then One
    else Start

low_state : (before last : ℕ) → last < 0xC0 → state_after before last ≡ (if nat_le 0xE0 before then One else Start)
low_state before last low =
    rw (lt-leb 0xE4 last (omega (arith, low)), ne_eqb last 0xE3 (λ is. omega (arith, low, is)), lt-leb 0xC0 last low) refl

closed_state : (before last : ℕ) → is_open before last ≡ false → state_after before last ≡ Start
closed_state before last closed =
    let parts = or_parts (nat_le 0xE0 before) (nat_le 0xC0 last) closed in
    low_state before last (leb-false 0xC0 last parts.1) ∙ cond-false (nat_le 0xE0 before) One Start parts.0

-- A byte after which a letter goes on is its first one.
abbrev IsKnown : ℕ → Type 0
IsKnown last = (last < 0xC0) ⊎ (is_lead last ≡ true)

implied : (a b : Bool) → a ≡ true → (not a || b) ≡ true → b ≡ true
implied a b is either = ⊎_elim (λ no. absurd (both_ways a (not-true a no) is)) (λ yes. yes) (or_cases (not a) b either)

continues_low : (byte : ℕ) → continues byte ≡ true → byte < 0xC0
continues_low byte is = ltb-true byte 0xC0 (and_parts (nat_lt 0x7F byte) (nat_lt byte 0xC0) is).1

plain_low : (byte : ℕ) → byte < 256 → is_plain byte ≡ true → byte < 0xC0
plain_low byte below plain =
    ltb-true byte 0xC0 (implied (is_plain byte) (nat_lt byte 0xC0) plain
    (agree_below_at (λ b. not (is_plain b) || nat_lt b 0xC0) (λ b. true) 256 byte refl below))

easy_known : (byte : ℕ) → byte < 256 → (is_plain byte || is_lead byte) ≡ true → IsKnown byte
easy_known byte below easy =
    ⊎_elim (λ plain. inl (plain_low byte below plain)) (λ lead. inr lead) (or_cases (is_plain byte) (is_lead byte) easy)

-- Before a letter, the next byte alone determines the state.
start_state : (byte : ℕ) → byte < 256 → (is_plain byte || is_lead byte) ≡ true → next Start byte ≡ state_after 0 byte
start_state byte below easy =
    same_state (next Start byte) (state_after 0 byte) (eqb-true _ _
    (implied (is_plain byte || is_lead byte) (number (next Start byte) == number (state_after 0 byte)) easy
    (agree_below_at (λ b. not (is_plain b || is_lead b) || number (next Start b) == number (state_after 0 b)) (λ b. true) 256 byte refl
    below)))

-- The three kinds of first bytes.
lead_kinds : (last : ℕ) → last < 256 → is_lead last ≡ true
    → (nat_le 0xE4 last || (last == 0xE3 || (nat_le 0xC0 last && nat_lt last 0xE0))) ≡ true
lead_kinds last below lead =
    implied (is_lead last) (nat_le 0xE4 last || (last == 0xE3 || (nat_le 0xC0 last && nat_lt last 0xE0))) lead
    (agree_below_at (λ b. not (is_lead b) || (nat_le 0xE4 b || (b == 0xE3 || (nat_le 0xC0 b && nat_lt b 0xE0)))) (λ b. true) 256 last
    refl below)

module _ (before last byte : ℕ) (last_fits : last < 256) (byte_fits : byte < 256) where
  -- A byte that continues a letter.
  module _ (goes_on : is_open before last ≡ true) (more : continues byte ≡ true) (visible : not (last == 0xE3 && byte == 0x85) ≡ true) where
    low : byte < 0xC0
    low = continues_low byte more

    after_low : last < 0xC0 → next (state_after before last) byte ≡ state_after last byte
    after_low is =
        let high : nat_le 0xE0 before ≡ true =
        ⊎_elim (λ first. first) (λ second. absurd (let at_least = leb-true 0xC0 last second in omega (arith, at_least, is)))
        (or_cases (nat_le 0xE0 before) (nat_le 0xC0 last) goes_on) in
        ap (λ (s : State). next s byte) (low_state before last is ∙ cond-true (nat_le 0xE0 before) One Start high)
        ∙ cond-true (continues byte) Start Failed more
        ∙ sym (low_state last byte low ∙ cond-false (nat_le 0xE0 last) One Start (lt-leb 0xE0 last (omega (arith, is))))

    -- The first byte of a letter of three.
    after_three : 0xE0 ≤ last → next (state_after before last) byte ≡ One → next (state_after before last) byte ≡ state_after last byte
    after_three high is = is ∙ sym (low_state last byte low ∙ cond-true (nat_le 0xE0 last) One Start (le-leb 0xE0 last high))

    after_lead : is_lead last ≡ true → next (state_after before last) byte ≡ state_after last byte
    after_lead lead = ⊎_elim after_cjk (λ others. ⊎_elim after_kana after_two
        (or_cases (last == 0xE3) (nat_le 0xC0 last && nat_lt last 0xE0) others))
        (or_cases (nat_le 0xE4 last) (last == 0xE3 || (nat_le 0xC0 last && nat_lt last 0xE0)) (lead_kinds last last_fits lead))
      where
        after_cjk : nat_le 0xE4 last ≡ true → next (state_after before last) byte ≡ state_after last byte
        after_cjk is =
            let high = leb-true 0xE4 last is in
            after_three (omega (arith, high)) (ap (λ (s : State). next s byte) (cond-true (nat_le 0xE4 last) Two _ is)
            ∙ cond-true (continues byte) One Failed more)

        after_kana : (last == 0xE3) ≡ true → next (state_after before last) byte ≡ state_after last byte
        after_kana is =
            let same = eqb-true last 0xE3 is in
            let other : not (byte == 0x85) ≡ true =
            ap (λ (b : Bool). not (b && byte == 0x85)) (sym is) ∙ visible in
            after_three (omega (arith, same)) (ap (λ (s : State). next s byte)
            (cond-false (nat_le 0xE4 last) Two _ (lt-leb 0xE4 last (omega (arith, same))) ∙ cond-true (last == 0xE3) AfterE3 _ is)
            ∙ cond-true (continues byte && not (byte == 0x85)) One Failed (and_from (continues byte) (not (byte == 0x85)) more other))

        after_two : (nat_le 0xC0 last && nat_lt last 0xE0) ≡ true → next (state_after before last) byte ≡ state_after last byte
        after_two is =
            let ends = and_parts (nat_le 0xC0 last) (nat_lt last 0xE0) is in
            let below = ltb-true last 0xE0 ends.1 in
            ap (λ (s : State). next s byte)
            (cond-false (nat_le 0xE4 last) Two _ (lt-leb 0xE4 last (omega (arith, below)))
            ∙ cond-false (last == 0xE3) AfterE3 _ (ne_eqb last 0xE3 (λ same. omega (arith, below, same)))
            ∙ cond-true (nat_le 0xC0 last) One _ ends.0)
            ∙ cond-true (continues byte) Start Failed more
            ∙ sym (low_state last byte low ∙ cond-false (nat_le 0xE0 last) One Start (lt-leb 0xE0 last below))

    after_open : IsKnown last → next (state_after before last) byte ≡ state_after last byte
    after_open known = ⊎_elim after_low after_lead known

  after_closed : is_open before last ≡ false → (is_plain byte || is_lead byte) ≡ true
      → next (state_after before last) byte ≡ state_after last byte
  after_closed closed easy =
      let parts = or_parts (nat_le 0xE0 before) (nat_le 0xC0 last) closed in
      let below = leb-false 0xC0 last parts.1 in
      ap (λ (s : State). next s byte) (closed_state before last closed) ∙ start_state byte byte_fits easy
      ∙ ap (λ (b : Bool). if nat_le 0xE4 byte then Two else if byte == 0xE3 then AfterE3 else if nat_le 0xC0 byte then One
      else if b then One else Start) (sym (lt-leb 0xE0 last (omega (arith, below))))

  pub next_state : IsKnown last → follows before last byte ≡ true
      → (next (state_after before last) byte ≡ state_after last byte) × IsKnown byte
  next_state known is = ⊎_elim
      (λ within.
      let one = and_parts (is_open before last) (continues byte && not (last == 0xE3 && byte == 0x85)) within in
      let two = and_parts (continues byte) (not (last == 0xE3 && byte == 0x85)) one.1 in
      (after_open one.0 two.0 two.1 known, inl (continues_low byte two.0)))
      (λ beyond.
      let parts = and_parts (not (is_open before last)) (is_plain byte || is_lead byte) beyond in
      (after_closed (not-true (is_open before last) parts.0) parts.1, easy_known byte byte_fits parts.1))
      (or_cases (is_open before last && (continues byte && not (last == 0xE3 && byte == 0x85)))
      (not (is_open before last) && (is_plain byte || is_lead byte)) is)

  -- Before the first byte of a letter.
  pub lead_state : follows before last byte ≡ true → 0xC0 ≤ byte → state_after before last ≡ Start
  lead_state is high = ⊎_elim
      (λ within.
      let one = and_parts (is_open before last) (continues byte && not (last == 0xE3 && byte == 0x85)) within in
      let two = and_parts (continues byte) (not (last == 0xE3 && byte == 0x85)) one.1 in
      absurd (let low = continues_low byte two.0 in omega (arith, low, high)))
      (λ beyond.
      closed_state before last (not-true (is_open before last)
      (and_parts (not (is_open before last)) (is_plain byte || is_lead byte) beyond).0))
      (or_cases (is_open before last && (continues byte && not (last == 0xE3 && byte == 0x85)))
      (not (is_open before last) && (is_plain byte || is_lead byte)) is)

-- ---- a stride

module _ (bytes : List ℕ) (at : ℕ) (two : 2 ≤ at) (room : at + 32 ≤ length bytes) (fits : (i : ℕ) → slice_index bytes i < 256)
    (so_far : IsVerbatim bytes at) (letters : AreLetters bytes at 32) where
  abbrev byte : ℕ → ℕ
  byte i = slice_index bytes i

  abbrev Known : ℕ → Type 0
  Known i = Pending bytes i (state_after (byte (i - 2)) (byte (i - 1))) × IsKnown (byte (i - 1))

  first : Known at
  first = (
    subst (Pending bytes at) (sym (closed_state (byte (at - 2)) (byte (at - 1)) letters.closed)) so_far,
    inl (leb-false 0xC0 (byte (at - 1)) (or_parts (nat_le 0xE0 (byte (at - 2))) (nat_le 0xC0 (byte (at - 1))) letters.closed).1),
  )

  more : (k : ℕ) → k < 32 → Known (at + k) → Known (at + k + 1)
  more k few known =
      let i = at + k in
      let next_is = next_state (byte (i - 2)) (byte (i - 1)) (byte i) (fits (i - 1)) (fits i) known.1 (letters.follow k few) in
      let before : i - 1 ≡ i + 1 - 2 = omega (arith, two) in
      let last : i ≡ i + 1 - 1 = omega arith in (
        subst (Pending bytes (i + 1))
            (next_is.0 ∙ ap (λ (n : ℕ). state_after (byte n) (byte i)) before
            ∙ ap (λ (n : ℕ). state_after (byte (i + 1 - 2)) (byte n)) last)
            (step bytes i (omega (arith, room, few)) (state_after (byte (i - 2)) (byte (i - 1))) known.0),
        subst (λ (n : ℕ). IsKnown (byte n)) last next_is.1,
      )

  walk : (k : ℕ) → k ≤ 32 → Known (at + k)
  walk zero few = let same : at ≡ at + 0 = omega arith in subst Known same first
  walk (suc k) few =
      let same : at + k + 1 ≡ at + suc k = omega arith in
      subst Known same (more k (omega (arith, few)) (walk k (omega (arith, few))))

  ended : (k : ℕ) → k ≤ 32 → state_after (byte (at + k - 2)) (byte (at + k - 1)) ≡ Start → IsVerbatim bytes (at + k)
  ended k few is = subst (Pending bytes (at + k)) is (walk k few).0

  pub stride_verbatim : IsVerbatim bytes (at + (32 - open_len (byte (at + 32 - 2)) (byte (at + 32 - 1))))
  stride_verbatim = by (nat_le 0xC0 (byte (at + 32 - 1))) refl (nat_le 0xE0 (byte (at + 32 - 2))) refl
    where
      by : (l : Bool) → nat_le 0xC0 (byte (at + 32 - 1)) ≡ l → (b : Bool) → nat_le 0xE0 (byte (at + 32 - 2)) ≡ b
          → IsVerbatim bytes (at + (32 - (if l then 1 else if b then 2 else 0)))
      by true last b before =
          let same : at + 32 - 1 ≡ at + 31 = omega arith in
          ended 31 (omega arith) (lead_state (byte (at + 31 - 2)) (byte (at + 31 - 1)) (byte (at + 31)) (fits (at + 31 - 1))
          (fits (at + 31)) (letters.follow 31 (omega arith))
          (subst (λ (n : ℕ). 0xC0 ≤ byte n) same (leb-true 0xC0 (byte (at + 32 - 1)) last)))
      by false last true before =
          let same : at + 32 - 2 ≡ at + 30 = omega arith in
          let high = subst (λ (n : ℕ). 0xE0 ≤ byte n) same (leb-true 0xE0 (byte (at + 32 - 2)) before) in
          ended 30 (omega arith) (lead_state (byte (at + 30 - 2)) (byte (at + 30 - 1)) (byte (at + 30)) (fits (at + 30 - 1))
          (fits (at + 30)) (letters.follow 30 (omega arith)) (omega (arith, high)))
      by false last false before =
          ended 32 (omega arith) (low_state (byte (at + 32 - 2)) (byte (at + 32 - 1)) (leb-false 0xC0 (byte (at + 32 - 1)) last)
          ∙ cond-false (nat_le 0xE0 (byte (at + 32 - 2))) One Start before)

-- ---- the test of a stride

pub none_follow : (bytes : List ℕ) (at : ℕ) → is_open (slice_index bytes (at - 2)) (slice_index bytes (at - 1)) ≡ false
    → AreLetters bytes at 0
none_follow bytes at closed = record { closed = closed; follow = λ k few. absurd (omega (arith, few)) }

pub one_more_follows : (bytes : List ℕ) (at count : ℕ) → AreLetters bytes at count
    → follows (slice_index bytes (at + count - 2)) (slice_index bytes (at + count - 1)) (slice_index bytes (at + count)) ≡ true
    → AreLetters bytes at (count + 1)
one_more_follows bytes at count before is = record {
  closed = before.closed;
  follow = λ k few. ⊎_elim (λ inside. before.follow k inside)
      (λ last. let same : count ≡ k = omega (arith, few, last) in
      subst (λ (n : ℕ). follows (slice_index bytes (at + n - 2)) (slice_index bytes (at + n - 1)) (slice_index bytes (at + n)) ≡ true)
      same is)
      (cases_lt k count);
}
