-- The part of a file with at most `max_bytes` bytes that a loop over a reader has read.
use Rattle.std.proofs.Common.{◌≡◌, ℕ, ◌-◌, ◌<◌, ◌≤◌, Bool, true, false, cond, not, ◌&&◌, List, [], ◌++◌, Option, Ok, Err, length, take, refl, sym, ap, ◌∙◌, arith}
use Rattle.std.specs.Prelude.{nat_le}
use Rattle.std.proofs.lemmas.Bool.{le-leb, lt-leb}
use Rattle.std.proofs.lemmas.List.{length-append, length-take}
use Rattle.redo_device.specs.declared.feed.Broken.{Broken}
use Rattle.redo_device.specs.Feed.{Stream, Pulls, SomeStream}
use Rattle.redo_device.proofs.GaveLemmas.{Gave, Gave-more, Gave-end, Gave-failed, Gave-longer, weaker}
use Rattle.redo_facts.specs.Reading.{bytes_that_count}

module _ (max_bytes : ℕ) where
  all_count : (stream : Stream) → stream.fails ≡ false → length stream.bytes ≤ max_bytes → stream.bytes ≡ bytes_that_count max_bytes stream
  all_count stream ends within = sym (rw (ends, le-leb (length stream.bytes) max_bytes within) refl)

  none_count : (stream : Stream) → stream.fails ≡ true → [] ≡ bytes_that_count max_bytes stream
  none_count stream fails = rw fails refl

  too_long : (stream : Stream) → max_bytes < length stream.bytes → [] ≡ bytes_that_count max_bytes stream
  too_long stream over = by stream.fails (lt-leb (length stream.bytes) max_bytes over)
    where
      by : (fails : Bool) → nat_le (length stream.bytes) max_bytes ≡ false
          → [] ≡ cond (not fails && nat_le (length stream.bytes) max_bytes) stream.bytes []
      by true long = refl
      by false long = rw long refl

  module _ (first now after : Option Stream) (bytes buffer : List ℕ) (gave : Gave first bytes now) where
    -- The read returns the end of input.
    pub file_ends : length bytes ≤ max_bytes → Pulls now after (Ok 0) buffer
        → SomeStream first (λ stream. bytes ≡ bytes_that_count max_bytes stream)
    file_ends within pulls =
        weaker first (λ stream. (stream.bytes ≡ bytes) × (stream.fails ≡ false)) (λ stream. bytes ≡ bytes_that_count max_bytes stream)
        (λ stream is. sym is.0 ∙ all_count stream is.1 (omega (arith, within, ap length is.0)))
        (Gave-end first now after bytes buffer gave pulls)

    pub file_fails : (broken : Broken) → Pulls now after (Err broken) buffer
        → SomeStream first (λ stream. [] ≡ bytes_that_count max_bytes stream)
    file_fails broken pulls =
        weaker first (λ stream. (stream.bytes ≡ bytes) × (stream.fails ≡ true)) (λ stream. [] ≡ bytes_that_count max_bytes stream)
        (λ stream is. none_count stream is.1)
        (Gave-failed first now after bytes broken buffer gave pulls)

    -- The read exceeds the maximum.
    pub file_is_long : (n : ℕ) → max_bytes - length bytes < n → n ≤ length buffer → Pulls now after (Ok n) buffer
        → SomeStream first (λ stream. [] ≡ bytes_that_count max_bytes stream)
    file_is_long n over fits pulls =
        let more = Gave-more first now after bytes n buffer (omega (arith, over)) gave pulls in
        weaker first (λ stream. length (bytes ++ take n buffer) ≤ length stream.bytes) (λ stream. [] ≡ bytes_that_count max_bytes stream)
        (λ stream longer. too_long stream
        (omega (arith, over, fits, longer, length-append bytes (take n buffer), length-take n buffer)))
        (Gave-longer first after (bytes ++ take n buffer) more)
