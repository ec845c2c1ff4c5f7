-- A text that is written in parts.
use Rattle.std.proofs.Common.{◌≡◌, ◌+◌, ◌<◌, List, [], ℕ, ◌++◌, Option, None, Some, Result, Ok, Err, length, take, refl, sym, ◌∙◌, ap, add_assoc, subst, arith}
use Rattle.std.specs.Result.{IsErr}
use Rattle.std.proofs.lemmas.List.{append_assoc, append-nil, length-append, take-append-le}
use Rattle.std.proofs.Math.Seq.{take-append-add}
use Rattle.redo_device.specs.declared.feed.Broken.{Broken}
use Rattle.redo_device.specs.Sink.{Output, append_output, Writes}

-- Adding two parts one after the other is adding them at once.
pub append_output-append_output : (taken : Option Output) (bytes more : List ℕ) (m n : ℕ)
    → append_output (append_output taken bytes m) more n ≡ append_output taken (bytes ++ more) (m + n)
append_output-append_output None bytes more m n = refl
append_output-append_output (Some taken) bytes more m n =
    ap (λ (b : List ℕ). Some (record { bytes = b; failures = (taken.failures + m) + n })) (append_assoc taken.bytes bytes more)
    ∙ ap (λ (k : ℕ). Some (record { bytes = taken.bytes ++ (bytes ++ more); failures = k })) (add_assoc taken.failures m n)

-- After `front` was written, the result of writing `part` is the result of writing both.
pub then : (before middle after : Option Output) (front part : List ℕ) (done : Result (Unit {0}) Broken)
    → middle ≡ append_output before front 0 → Writes middle after part done → Writes before after (front ++ part) done
then before middle after front part (Ok u) is wrote =
    wrote ∙ ap (λ t. append_output t part 0) is ∙ append_output-append_output before front part 0 0
then before middle after front part (Err broken) is wrote =
    let size : length front + wrote.0 < length (front ++ part) = let l = wrote.1 in omega (arith, length-append front part) in (
      length front + wrote.0,
      size,
      wrote.2 ∙ ap (λ t. append_output t (take wrote.0 part) 1) is
          ∙ append_output-append_output before front (take wrote.0 part) 0 1
          ∙ ap (λ b. append_output before b 1) (sym (take-append-add front part wrote.0)),
    )

-- If writing `front` failed, this is a failed write of `front ++ behind` too.
pub stops : (before after : Option Output) (front behind : List ℕ) (broken : Broken) (done : Result (Unit {0}) Broken) → IsErr done
    → Writes before after front (Err broken) → Writes before after (front ++ behind) done
stops before after front behind broken (Ok u) failed wrote = absurd (cc)
stops before after front behind broken (Err other) failed wrote =
    let within = wrote.1 in
    let in_front : wrote.0 < length (front ++ behind) = omega (arith, length-append front behind) in
    (wrote.0, in_front, wrote.2 ∙ ap (λ b. append_output before b 1) (sym (take-append-le wrote.0 front behind (omega arith))))

module _ (before : Option Output) (text : List ℕ) where
  -- The first part of a text failed.
  pub at_first : (after : Option Output) (part suffix : List ℕ) (broken : Broken) (done : Result (Unit {0}) Broken) → IsErr done
      → Writes before after part (Err broken) → part ++ suffix ≡ text → Writes before after text done
  at_first after part suffix broken done failed wrote is =
      subst (λ t. Writes before after t done) is (stops before after part suffix broken done failed wrote)

  -- A part failed after others were written.
  pub in_middle : (middle after : Option Output) (prefix part suffix : List ℕ) (broken : Broken) (done : Result (Unit {0}) Broken)
      → IsErr done → middle ≡ append_output before prefix 0 → Writes middle after part (Err broken) → (prefix ++ part) ++ suffix ≡ text
      → Writes before after text done
  in_middle middle after prefix part suffix broken done failed written wrote is =
      at_first after (prefix ++ part) suffix broken done failed (then before middle after prefix part (Err broken) written wrote) is

  pub at_last : (middle after : Option Output) (prefix part : List ℕ) (done : Result (Unit {0}) Broken)
      → middle ≡ append_output before prefix 0 → Writes middle after part done → prefix ++ part ≡ text → Writes before after text done
  at_last middle after prefix part done written wrote is =
      subst (λ t. Writes before after t done) is (then before middle after prefix part done written wrote)

-- One more part was written.
pub one_more : (before middle after : Option Output) (prefix part : List ℕ) → middle ≡ append_output before prefix 0
    → after ≡ append_output middle part 0 → after ≡ append_output before (prefix ++ part) 0
one_more before middle after prefix part written wrote = then before middle after prefix part (Ok tt) written wrote

-- Nothing was written.
pub append_nothing : (taken : Option Output) → taken ≡ append_output taken [] 0
append_nothing None = refl
append_nothing (Some taken) =
    ap (λ (b : List ℕ). Some (record { bytes = b; failures = taken.failures })) (sym (append-nil taken.bytes))
    ∙ ap (λ (n : ℕ). Some (record { bytes = taken.bytes ++ []; failures = n })) (omega arith)
