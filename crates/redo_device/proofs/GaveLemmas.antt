-- The stream of a reader, as a loop over the reader knows it.
use Rattle.std.proofs.Common.{◌≡◌, ℕ, ◌<◌, ◌≤◌, Bool, true, false, List, [], ◌∷◌, ◌++◌, Option, None, Some, Ok, Err, length, take, drop, refl, sym, ◌∙◌, ap, subst, arith, le_refl}
use Rattle.std.proofs.lemmas.List.{append_assoc, append-nil, length-append, take-append-drop}
use Rattle.redo_device.specs.declared.feed.Broken.{Broken}
use Rattle.redo_device.specs.Feed.{Stream, Pulls, SomeStream}

-- `first` and `now` are the known stream of a reader at two times. Between them it gave `bytes`.
abbrev pub Gave : Option Stream → List ℕ → Option Stream → Type 0
Gave None bytes now = now ≡ None
Gave (Some stream) bytes now = (coming : Stream) × (now ≡ Some coming) × (stream.bytes ≡ bytes ++ coming.bytes)
    × (stream.fails ≡ coming.fails)

pub Gave-none : (told : Option Stream) → Gave told [] told
Gave-none None = refl
Gave-none (Some stream) = (stream, refl, refl, refl)

-- One read of a reader that isn't opaque.
reads_on : (stream : Stream) (bytes coming : List ℕ) (fails : Bool) (after : Option Stream) (n : ℕ) (buffer : List ℕ) → 0 < n
    → stream.bytes ≡ bytes ++ coming → stream.fails ≡ fails
    → Pulls (Some (record { bytes = coming; fails = fails })) after (Ok n) buffer → Gave (Some stream) (bytes ++ take n buffer) after
reads_on stream bytes [] false after n buffer some is fails_is pulled = let none : n ≡ 0 = let e = pulled.0 in cc in absurd (omega arith)
reads_on stream bytes [] true after n buffer some is fails_is pulled = let e = pulled.0 in absurd (cc)
reads_on stream bytes (byte ∷ coming) fails after n buffer some is fails_is pulled = (
  record { bytes = drop n (byte ∷ coming); fails = fails },
  pulled.1,
  is ∙ ap (λ b. bytes ++ b) (sym (take-append-drop n (byte ∷ coming)) ∙ ap (λ b. b ++ drop n (byte ∷ coming)) (sym pulled.0.front))
      ∙ sym (append_assoc bytes (take n buffer) (drop n (byte ∷ coming))),
  fails_is,
)

pub Gave-more : (first now after : Option Stream) (bytes : List ℕ) (n : ℕ) (buffer : List ℕ) → 0 < n → Gave first bytes now
    → Pulls now after (Ok n) buffer → Gave first (bytes ++ take n buffer) after
Gave-more None now after bytes n buffer some gave pulls = subst (λ t. Pulls t after (Ok n) buffer) gave pulls
Gave-more (Some stream) now after bytes n buffer some gave pulls =
    reads_on stream bytes gave.0.bytes gave.0.fails after n buffer some gave.2 gave.3
    (subst (λ t. Pulls t after (Ok n) buffer) gave.1 pulls)

-- The last read: at the end of input, or a failed one.
ends_so : (stream : Stream) (bytes coming : List ℕ) (fails : Bool) (after : Option Stream) (buffer : List ℕ)
    → stream.bytes ≡ bytes ++ coming → stream.fails ≡ fails
    → Pulls (Some (record { bytes = coming; fails = fails })) after (Ok 0) buffer → (stream.bytes ≡ bytes) × (stream.fails ≡ false)
ends_so stream bytes [] false after buffer is fails_is pulled = (is ∙ append-nil bytes, fails_is)
ends_so stream bytes [] true after buffer is fails_is pulled = let e = pulled.0 in absurd (cc)
ends_so stream bytes (byte ∷ coming) fails after buffer is fails_is pulled = let some = pulled.0.some in absurd (omega arith)

fails_so : (stream : Stream) (bytes coming : List ℕ) (fails : Bool) (after : Option Stream) (broken : Broken) (buffer : List ℕ)
    → stream.bytes ≡ bytes ++ coming → stream.fails ≡ fails
    → Pulls (Some (record { bytes = coming; fails = fails })) after (Err broken) buffer → (stream.bytes ≡ bytes) × (stream.fails ≡ true)
fails_so stream bytes [] false after broken buffer is fails_is pulled = let e = pulled.0 in absurd (cc)
fails_so stream bytes [] true after broken buffer is fails_is pulled = (is ∙ append-nil bytes, fails_is)
fails_so stream bytes (byte ∷ coming) fails after broken buffer is fails_is pulled = absurd pulled

-- If a reader ends after `bytes`, its stream has exactly these bytes.
pub Gave-end : (first now after : Option Stream) (bytes buffer : List ℕ) → Gave first bytes now → Pulls now after (Ok 0) buffer
    → SomeStream first (λ stream. (stream.bytes ≡ bytes) × (stream.fails ≡ false))
Gave-end None now after bytes buffer gave pulls = (record { bytes = bytes; fails = false }, (refl, refl))
Gave-end (Some stream) now after bytes buffer gave pulls =
    ends_so stream bytes gave.0.bytes gave.0.fails after buffer gave.2 gave.3 (subst (λ t. Pulls t after (Ok 0) buffer) gave.1 pulls)

pub Gave-failed : (first now after : Option Stream) (bytes : List ℕ) (broken : Broken) (buffer : List ℕ) → Gave first bytes now
    → Pulls now after (Err broken) buffer → SomeStream first (λ stream. (stream.bytes ≡ bytes) × (stream.fails ≡ true))
Gave-failed None now after bytes broken buffer gave pulls = (record { bytes = bytes; fails = true }, (refl, refl))
Gave-failed (Some stream) now after bytes broken buffer gave pulls =
    fails_so stream bytes gave.0.bytes gave.0.fails after broken buffer gave.2 gave.3
    (subst (λ t. Pulls t after (Err broken) buffer) gave.1 pulls)

pub Gave-longer : (first now : Option Stream) (bytes : List ℕ) → Gave first bytes now
    → SomeStream first (λ stream. length bytes ≤ length stream.bytes)
Gave-longer None now bytes gave = (record { bytes = bytes; fails = false }, le_refl (length bytes))
Gave-longer (Some stream) now bytes gave = omega (arith, ap length gave.2, length-append bytes gave.0.bytes)

pub weaker : (told : Option Stream) (P Q : Stream → Type 0) → ((stream : Stream) → P stream → Q stream) → SomeStream told P
    → SomeStream told Q
weaker None P Q f (stream, p) = (stream, f stream p)
weaker (Some stream) P Q f p = f stream p
