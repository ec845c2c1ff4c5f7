-- The part of a file with at most `max_bytes` bytes that a loop over a reader has read.
use Rattle.std.proofs.Common.{◌≡◌, ℕ, ◌-◌, ◌<◌, ◌≤◌, true, false, List, ◌++◌, Option, None, Some, IsSome, is_some, Ok, Err, length, take, sym, ap, arith}
use Rattle.std.proofs.lemmas.Bool.{le-ltb, lt-ltb}
use Rattle.std.proofs.lemmas.List.{length-append, length-take}
use Rattle.redo_device.specs.declared.feed.Broken.{Broken}
use Rattle.redo_line.specs.declared.stream_fault.StreamFault.TheVariants.{TooLong, Read}
use Rattle.redo_device.specs.Feed.{Stream, Pulls, SomeStream}
use Rattle.redo_line.specs.Fault.{end_fault}
use Rattle.redo_device.proofs.GaveLemmas.{Gave, Gave-more, Gave-end, Gave-failed, Gave-longer, weaker}

module _ (max_bytes : ℕ) where
  long_fault : (stream : Stream) → max_bytes < length stream.bytes → end_fault max_bytes stream ≡ Some TooLong
  long_fault stream over = rw (lt-ltb max_bytes (length stream.bytes) over)

  read_fault : (stream : Stream) → length stream.bytes ≤ max_bytes → stream.fails ≡ true → end_fault max_bytes stream ≡ Some Read
  read_fault stream within fails = rw (le-ltb max_bytes (length stream.bytes) within, fails)

  no_fault : (stream : Stream) → length stream.bytes ≤ max_bytes → stream.fails ≡ false → end_fault max_bytes stream ≡ None
  no_fault stream within fails = rw (le-ltb max_bytes (length stream.bytes) within, fails)

  module _ (first now after : Option Stream) (bytes buffer : List ℕ) (gave : Gave first bytes now) (within : length bytes ≤ max_bytes) where
    -- The read returns the end of input.
    pub file_ends : Pulls now after (Ok 0) buffer
        → SomeStream first (λ stream. (end_fault max_bytes stream ≡ None) × (bytes ≡ stream.bytes))
    file_ends pulls =
        weaker first (λ stream. (stream.bytes ≡ bytes) × (stream.fails ≡ false))
        (λ stream. (end_fault max_bytes stream ≡ None) × (bytes ≡ stream.bytes))
        (λ stream is. (no_fault stream (omega (arith, within, ap length is.0)) is.1, sym is.0))
        (Gave-end first now after bytes buffer gave pulls)

    -- The read fails.
    pub file_fails : (broken : Broken) → Pulls now after (Err broken) buffer
        → SomeStream first (λ stream. IsSome (end_fault max_bytes stream))
    file_fails broken pulls =
        weaker first (λ stream. (stream.bytes ≡ bytes) × (stream.fails ≡ true)) (λ stream. IsSome (end_fault max_bytes stream))
        (λ stream is. ap is_some (read_fault stream (omega (arith, within, ap length is.0)) is.1))
        (Gave-failed first now after bytes broken buffer gave pulls)

    -- The read exceeds the maximum.
    pub file_is_long : (n : ℕ) → max_bytes - length bytes < n → n ≤ length buffer → Pulls now after (Ok n) buffer
        → SomeStream first (λ stream. IsSome (end_fault max_bytes stream))
    file_is_long n over fits pulls =
        let more = Gave-more first now after bytes n buffer (omega (arith, over)) gave pulls in
        weaker first (λ stream. length (bytes ++ take n buffer) ≤ length stream.bytes) (λ stream. IsSome (end_fault max_bytes stream))
        (λ stream longer. ap is_some (long_fault stream
        (omega (arith, over, fits, longer, length-append bytes (take n buffer), length-take n buffer))))
        (Gave-longer first after (bytes ++ take n buffer) more)
