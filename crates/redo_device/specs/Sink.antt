-- Writers: the bytes that a writer took, and the result of writing a text.
use Rattle.std.specs.Prelude.{◌≡◌, ◌<◌, length, ℕ, zero, suc, ◌+◌, List, [], ◌++◌, take, Option, None, Some, Result, Ok, Err}
use Rattle.redo_device.specs.declared.feed.Broken.{Broken}

-- The bytes that a writer took so far, and how often it failed or took none.
pub record Output : Type 0 where
  pub bytes : List ℕ
  pub failures : ℕ

-- Adds bytes and failures to the known output of a writer. An opaque writer stays opaque.
abbrev pub append_output : Option Output → List ℕ → ℕ → Option Output
append_output None bytes failures = None
append_output (Some taken) bytes failures = Some (record { bytes = taken.bytes ++ bytes; failures = taken.failures + failures })

-- The bytes that one write took.
abbrev pub taken_prefix : List ℕ → Result ℕ Broken → List ℕ
taken_prefix bytes (Ok n) = take n bytes
taken_prefix bytes (Err broken) = []

-- 1 if one write failed or took no byte, 0 otherwise.
abbrev pub failures_of : Result ℕ Broken → ℕ
failures_of (Ok zero) = 1
failures_of (Ok (suc n)) = 0
failures_of (Err broken) = 1

-- The known output of a writer after one write of `bytes`.
abbrev pub after_push : Option Output → List ℕ → Result ℕ Broken → Option Output
after_push before bytes answer = append_output before (taken_prefix bytes answer) (failures_of answer)

-- The result of writing `text`: either all of it was taken and no write failed, or a prefix of it was taken and then one
-- write failed.
abbrev pub Writes : Option Output → Option Output → List ℕ → Result (Unit {0}) Broken → Type 0
Writes before after text (Ok done) = after ≡ append_output before text 0
Writes before after text (Err broken) = (n : ℕ) × (n < length text) × (after ≡ append_output before (take n text) 1)
