-- Examples of reads and writes, computed: the known stream or output of a device before and after one call, and its result.
use Rattle.std.proofs.Common.{◌≡◌, ℕ, Bool, true, false, List, [], ◌∷◌, Option, None, Some, Ok, Err, arith, ap, refl}
use Rattle.redo_device.specs.Feed.{Stream, Pulls, SomeStream}
use Rattle.redo_device.specs.Pieces.{Reads, ReadsNext, from_first_byte, stream_of}
use Rattle.redo_device.specs.Sink.{Output, Writes, after_push}
use Rattle.redo_device.specs.Taker.{TakerState, answer_of, output_of}

-- Three bytes, ended by the end of input or by a failed read.
abbrev three : Stream
three = record { bytes = 1 ∷ 2 ∷ 3 ∷ []; fails = false }

abbrev then_fails : Stream
then_fails = record { bytes = 1 ∷ 2 ∷ 3 ∷ []; fails = true }

abbrev at_end : Stream
at_end = record { bytes = []; fails = false }

abbrev failed : Stream
failed = record { bytes = []; fails = true }

abbrev last_byte : Stream
last_byte = record { bytes = 3 ∷ []; fails = true }

-- The parts of the known stream or output of a device; empty, false or 0 if it is opaque.
abbrev bytes_left : Option Stream → List ℕ
bytes_left None = []
bytes_left (Some stream) = stream.bytes

abbrev will_fail : Option Stream → Bool
will_fail None = false
will_fail (Some stream) = stream.fails

abbrev bytes_taken : Option Output → List ℕ
bytes_taken None = []
bytes_taken (Some taken) = taken.bytes

abbrev failures_so_far : Option Output → ℕ
failures_so_far None = 0
failures_so_far (Some taken) = taken.failures

-- A buffer of four bytes receives two of three bytes, or all three.
reads :
    Pulls (Some then_fails) (Some last_byte) (Ok 2) (1 ∷ 2 ∷ 9 ∷ 9 ∷ [])
    × Pulls (Some three) (Some at_end) (Ok 3) (1 ∷ 2 ∷ 3 ∷ 9 ∷ [])
reads = (
  (record { some = omega arith; fits = omega arith; available = omega arith; front = refl }, refl),
  (record { some = omega arith; fits = omega arith; available = omega arith; front = refl }, refl),
)

-- When no byte is left, every read returns 0, or every read fails.
ends : Pulls (Some at_end) (Some at_end) (Ok 0) [] × Pulls (Some failed) (Some failed) (Err (record {})) (9 ∷ [])
ends = ((refl, refl), (refl, refl))

-- An opaque reader may return anything, and stays opaque.
untold : Pulls None None (Ok 2) (9 ∷ 8 ∷ []) × Pulls None None (Err (record {})) [] × (Pulls None (Some three) (Ok 0) [] → ⊥)
untold = (refl, refl, (λ is. cc))

-- While bytes are left, a read can't give none, fail, give other bytes, give more than there are or than there is room for,
-- or leave a wrong remainder.
no_reads :
    (Pulls (Some three) (Some three) (Ok 0) [] → ⊥) × (Pulls (Some then_fails) (Some failed) (Err (record {})) [] → ⊥)
    × (Pulls (Some then_fails) (Some last_byte) (Ok 2) (1 ∷ 9 ∷ []) → ⊥) × (Pulls (Some last_byte) (Some failed) (Ok 2) (3 ∷ 9 ∷ []) → ⊥)
    × (Pulls (Some three) (Some at_end) (Ok 3) (1 ∷ 2 ∷ []) → ⊥) × (Pulls (Some then_fails) (Some failed) (Ok 2) (1 ∷ 2 ∷ []) → ⊥)
no_reads = (
  (λ is. omega (arith, is.0.some)),
  (λ is. is),
  (λ is. let same = is.0.front in cc),
  (λ is. omega (arith, is.0.available)),
  (λ is. omega (arith, is.0.fits)),
  (λ is. let same = ap bytes_left is.1 in cc),
)

no_ends : (Pulls (Some at_end) (Some at_end) (Err (record {})) [] → ⊥) × (Pulls (Some failed) (Some failed) (Ok 0) [] → ⊥)
    × (Pulls (Some failed) (Some at_end) (Err (record {})) [] → ⊥)
no_ends = ((λ is. let same = is.0 in cc), (λ is. let same = is.0 in cc), (λ is. let same = ap will_fail is.1 in cc))

-- A fact holds of the reader's stream; for an opaque reader, of some stream.
some_stream : SomeStream (Some three) (λ stream. stream.bytes ≡ 1 ∷ 2 ∷ 3 ∷ []) × SomeStream None (λ stream. stream.fails ≡ true)
some_stream = (refl, (failed, refl))

no_stream : (SomeStream (Some three) (λ stream. stream.fails ≡ true) → ⊥) × (SomeStream None (λ stream. ⊥) → ⊥)
no_stream = ((λ is. cc), (λ is. is.1))

-- ---- a reader in memory

abbrev to_come : Reads
to_come = record { reads = (1 ∷ 2 ∷ []) ∷ [] ∷ (3 ∷ []) ∷ []; fails = true }

streams : (stream_of to_come ≡ then_fails) × (from_first_byte ([] ∷ [] ∷ to_come.reads) ≡ to_come.reads) × (from_first_byte ([] ∷ []) ≡ [])
streams = (refl, refl, refl)

-- A read that is longer than the buffer takes two calls, a shorter one takes one. After the last read comes the end.
gives :
    ReadsNext ((1 ∷ 2 ∷ []) ∷ (3 ∷ []) ∷ []) true (record { reads = (2 ∷ []) ∷ (3 ∷ []) ∷ []; fails = true }) (Ok 1) (1 ∷ [])
    × ReadsNext ((2 ∷ []) ∷ (3 ∷ []) ∷ []) true (record { reads = [] ∷ (3 ∷ []) ∷ []; fails = true }) (Ok 1) (2 ∷ 9 ∷ [])
    × ReadsNext [] true (record { reads = []; fails = true }) (Err (record {})) []
    × ReadsNext [] false (record { reads = []; fails = false }) (Ok 0) []
gives = ((refl, refl, refl), (refl, refl, refl), (refl, refl), (refl, refl))

gives_no_other : ReadsNext ((1 ∷ 2 ∷ []) ∷ []) true (record { reads = (2 ∷ []) ∷ []; fails = true }) (Ok 1) (9 ∷ []) → ⊥
gives_no_other is = let same = is.1 in cc

-- ---- a writer

abbrev before : Option Output
before = Some (record { bytes = 1 ∷ []; failures = 3 })

-- One write takes two of three bytes, takes none, or fails.
pushes :
    (after_push before (7 ∷ 8 ∷ 9 ∷ []) (Ok 2) ≡ Some (record { bytes = 1 ∷ 7 ∷ 8 ∷ []; failures = 3 }))
    × (after_push before (7 ∷ []) (Ok 0) ≡ Some (record { bytes = 1 ∷ []; failures = 4 }))
    × (after_push before (7 ∷ []) (Err (record {})) ≡ Some (record { bytes = 1 ∷ []; failures = 4 }))
    × (after_push None (7 ∷ []) (Ok 1) ≡ None)
pushes = (refl, refl, refl, refl)

-- The complete text is written, or a prefix of it and then one write fails.
writes :
    Writes before (Some (record { bytes = 1 ∷ 7 ∷ 8 ∷ []; failures = 3 })) (7 ∷ 8 ∷ []) (Ok tt)
    × Writes before (Some (record { bytes = 1 ∷ 7 ∷ []; failures = 4 })) (7 ∷ 8 ∷ []) (Err (record {}))
    × Writes before (Some (record { bytes = 1 ∷ []; failures = 4 })) (7 ∷ 8 ∷ []) (Err (record {}))
writes = (refl, (1, omega arith, refl), (0, omega arith, refl))

-- A success requires that all bytes were taken. A failure requires that a byte is left, and it is counted.
no_writes :
    (Writes before (Some (record { bytes = 1 ∷ 7 ∷ []; failures = 3 })) (7 ∷ 8 ∷ []) (Ok tt) → ⊥)
    × (Writes before (Some (record { bytes = 1 ∷ []; failures = 4 })) [] (Err (record {})) → ⊥)
    × (Writes before (Some (record { bytes = 1 ∷ []; failures = 3 })) (7 ∷ []) (Err (record {})) → ⊥)
no_writes = ((λ is. let same = ap bytes_taken is in cc), (λ is. omega (arith, is.1)), (λ is. let same = ap failures_so_far is.2 in cc))

-- ---- a writer in memory

abbrev held : ℕ → TakerState
held per_call = record { bytes = 1 ∷ 2 ∷ []; failures = 3; room = 5; per_call = per_call }

-- With room for three more bytes, a write takes as many as there are, as one call takes, or as there is room for. It fails
-- if there is no room.
takes :
    (answer_of (held 9) 2 ≡ Ok 2) × (answer_of (held 1) 2 ≡ Ok 1) × (answer_of (held 9) 4 ≡ Ok 3)
    × (answer_of (record { bytes = 1 ∷ 2 ∷ []; failures = 0; room = 2; per_call = 9 }) 1 ≡ Err (record {}))
    × (output_of (held 1) ≡ record { bytes = 1 ∷ 2 ∷ []; failures = 3 })
takes = (refl, refl, refl, refl, refl)
