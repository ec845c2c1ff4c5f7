-- Lemmas about the position of a reader in memory within its reads.
use Rattle.std.proofs.Common.{◌≡◌, ℕ, ◌+◌, ◌-◌, ◌<◌, ◌≤◌, min, Bool, List, [], ◌∷◌, ◌++◌, Some, Result, Ok, length, get_or, take, drop, refl, sym, ◌∙◌, ap, subst, arith}
use Rattle.std.specs.List.{flat_map}
use Rattle.std.proofs.lemmas.List.{length-append, length-take, length-drop, drop_more, drop_all, drop-drop, take_at, take-append-le, drop-append-le}
use Rattle.redo_device.specs.declared.feed.Broken.{Broken}
use Rattle.redo_device.specs.Feed.{MidStream, PullsFrom}
use Rattle.redo_device.specs.Pieces.{Reads, stream_of, from_first_byte, ReadsNext}
use Rattle.redo_device.specs.Private.Pieces.{without_front, unread}

without_front-none : (reads : List (List ℕ)) → without_front 0 reads ≡ reads
without_front-none [] = refl
without_front-none (read ∷ reads) = refl

first_is : (read : List ℕ) (reads : List (List ℕ)) → 0 < length read → from_first_byte (read ∷ reads) ≡ read ∷ reads
first_is [] reads some = absurd (omega arith)
first_is (byte ∷ read) reads some = refl

-- If the read at index `at` has a byte left, it is the first one that has a byte.
pub here : (reads : List (List ℕ)) (at from : ℕ) (d : List ℕ) → at < length reads → from < length (get_or reads at d)
    → from_first_byte (unread reads at from) ≡ unread reads at from
here reads at from d in_reads left =
    let split = ap (without_front from) (drop_more reads at d in_reads) in
    let some : 0 < length (drop from (get_or reads at d)) = omega (arith, length-drop from (get_or reads at d)) in
    ap from_first_byte split ∙ first_is (drop from (get_or reads at d)) (drop (at + 1) reads) some ∙ sym split

-- If the read at index `at` has no byte left, skipping it changes nothing.
pub next : (reads : List (List ℕ)) (at from : ℕ) (d : List ℕ) → at < length reads → length (get_or reads at d) ≤ from
    → from_first_byte (unread reads (at + 1) 0) ≡ from_first_byte (unread reads at from)
next reads at from d in_reads over =
    let split = ap (without_front from) (drop_more reads at d in_reads) in
    ap from_first_byte (without_front-none (drop (at + 1) reads))
    ∙ sym (ap from_first_byte split ∙ ap (λ (r : List ℕ). from_first_byte (r ∷ drop (at + 1) reads))
    (drop_all from (get_or reads at d) over))

-- A call that gives bytes of the first of these reads is a read of the stream of all of them.
pub gives_first : (reads : List (List ℕ)) (fails : Bool) (after : Reads) (answer : Result ℕ Broken) (buffer : List ℕ) → 0 < length buffer
    → ReadsNext (from_first_byte reads) fails after answer buffer
    → PullsFrom (flat_map (λ read. read) reads) fails (Some (stream_of after)) answer buffer
gives_first [] fails after answer buffer room given = (given.0, ap (λ to_come. Some (stream_of to_come)) given.1)
gives_first ([] ∷ reads) fails after answer buffer room given = gives_first reads fails after answer buffer room given
gives_first ((byte ∷ bytes) ∷ reads) fails after answer buffer room given =
    let read : List ℕ = byte ∷ bytes in
    let more = flat_map (λ (r : List ℕ). r) reads in
    let n = min (length read) (length buffer) in
    let within : n ≤ length read = omega arith in
    let midst : MidStream (record { bytes = read ++ more; fails = fails }) (Some (stream_of after)) (Ok n) buffer = (
      record {
        some = omega arith;
        fits = omega arith;
        available = omega (arith, length-append read more);
        front = given.1 ∙ sym (take-append-le n read more within);
      },
      ap (λ to_come. Some (stream_of to_come)) given.2
          ∙ ap (λ (b : List ℕ). Some (record { bytes = b; fails = fails })) (sym (drop-append-le n read more within)),
    ) in
    subst (λ a. MidStream (record { bytes = read ++ more; fails = fails }) (Some (stream_of after)) a buffer) (sym given.0) midst

-- After the last read nothing is left.
pub none_left : (reads : List (List ℕ)) (at from : ℕ) → at ≡ length reads → unread reads at from ≡ []
none_left reads at from over = ap (without_front from) (drop_all at reads (omega arith))

-- Copying n bytes of the read at index `at` to the start of a buffer gives them as `ReadsNext` states.
pub copies_front : (to_come reads : List (List ℕ)) (fails : Bool) (at from n : ℕ) (read buffer copied : List ℕ)
    → unread reads at from ≡ from_first_byte to_come
    → at < length reads → read ≡ get_or reads at [] → n ≡ min (length buffer) (length read - from) → copied ≡ take n (drop from read)
    → ReadsNext (from_first_byte to_come) fails (record { reads = unread reads at (from + n); fails = fails }) (Ok n)
    (copied ++ drop n buffer)
copies_front to_come reads fails at from n read buffer copied is in_reads read_is n_is copied_is =
    let split = drop_more reads at [] in_reads ∙ ap (λ (r : List ℕ). r ∷ drop (at + 1) reads) (sym read_is) in
    let now : from_first_byte to_come ≡ drop from read ∷ drop (at + 1) reads = sym is ∙ ap (without_front from) split in
    let left = length-drop from read in
    let size : length copied ≡ n = ap length copied_is ∙ length-take n (drop from read)
    ∙ (let e : min n (length (drop from read)) ≡ n = omega arith in e) in
    let whole : length (copied ++ drop n buffer) ≡ length buffer =
    omega (arith, length-append copied (drop n buffer), length-drop n buffer) in
    let count : n ≡ min (length (drop from read)) (length (copied ++ drop n buffer)) = omega arith in
    rw now (
      ap Ok count,
      ap (λ (k : ℕ). take k (copied ++ drop n buffer)) (sym count) ∙ take_at copied (drop n buffer) n size ∙ copied_is
          ∙ ap (λ (k : ℕ). take k (drop from read)) count,
      ap (λ (rs : List (List ℕ)). record { reads = rs; fails = fails })
          (ap (without_front (from + n)) split
          ∙ ap (λ (r : List ℕ). r ∷ drop (at + 1) reads) (sym (drop-drop n from read) ∙ ap (λ (k : ℕ). drop k (drop from read)) count)),
    )
