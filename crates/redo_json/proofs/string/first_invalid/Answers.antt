use Rattle.std.proofs.Common.{◌≡◌, ℕ, ◌+◌, ◌<◌, List, ◌++◌, length, take, drop, sym, ap, ◌∙◌, subst, arith, length-drop}
use Rattle.std.specs.Prelude.{unwrap_or}
use Rattle.std.specs.Str.Lossy.{replacement_bytes, utf8_error_len, utf8_invalid_len, utf8_lossy, utf8_valid_len}
use Rattle.std.proofs.lemmas.List.{take_rest}
use Rattle.std.proofs.lemmas.Str.{utf8_lossy-IsUtf8, utf8_lossy_step}
use Rattle.std.specs.Str.{IsValidUpTo}
use Rattle.redo_json.specs.Private.Writing.{HasInvalid}
use Rattle.redo_json.proofs.TextLemmas.{after_less}
use Rattle.redo_json.proofs.string.first_invalid.Goals as goal

pub returns-in_default-clause-none : goal.returns-in_default-clause-none
returns-in_default-clause-none c = utf8_lossy-IsUtf8 _ c.in_default.ensures.cases.1

pub returns-clause-some : goal.returns-clause-some
returns-clause-some c =
    let bytes = c.args.bytes.now in
    let valid = c.valid_up_to-valid.result in
    let invalid = c.unwrap_or-invalid.result in
    let cases = rw (← c.valid_up_to-valid.ensures) at c.in-Err.ensures.cases in
    let front : utf8_valid_len bytes ≡ valid = sym (c.valid_up_to-valid.ensures ∙ c.in-Err.ensures.valid_len) in
    let fault : c.error_len.result ≡ utf8_error_len (drop valid bytes) =
    rw (← c.valid_up_to-valid.ensures, ← c.error_len.ensures) at c.in-Err.ensures.fault in
    let is_invalid : invalid ≡ utf8_invalid_len (drop valid bytes) =
    (rw fault at c.unwrap_or-invalid.ensures) ∙ ap (unwrap_or (utf8_error_len (drop valid bytes))) (sym (length-drop valid bytes)) in
    let faulty : ¬ (utf8_valid_len bytes ≡ length bytes) = λ all. omega (arith, front, all, cases.1.short) in
    let step : utf8_lossy bytes ≡ take valid bytes ++ (replacement_bytes ++ utf8_lossy (drop (valid + invalid) bytes)) =
    rw (front, ← is_invalid) at (utf8_lossy_step bytes faulty) in
    let less : length (drop (valid + invalid) bytes) < length bytes =
    rw (front, ← is_invalid) at (after_less bytes (subst (IsValidUpTo bytes) (sym front) cases.1)) in
    subst (λ (b : List ℕ). HasInvalid bytes (take valid bytes) b) (sym (take_rest bytes (valid + invalid)))
    (record { less = less; text = step })
