-- The bytes that a writer took in several writes.
use Rattle.std.proofs.Common.{◌≡◌, ℕ, zero, suc, ◌+◌, List, ◌++◌, Option, Ok, take, drop, refl, sym, ◌∙◌, ap}
use Rattle.std.proofs.Math.Seq.{take-add}
use Rattle.redo_device.proofs.WritesLemmas.{append_output-append_output}
use Rattle.redo_device.specs.Sink.{Output, append_output, after_push}

after_push-some : (before : Option Output) (bytes : List ℕ) (n : ℕ) → (n ≡ 0 → ⊥)
    → after_push before bytes (Ok n) ≡ append_output before (take n bytes) 0
after_push-some before bytes zero some = absurd (some refl)
after_push-some before bytes (suc n) some = refl

-- After a write of the bytes that are left, a longer prefix was taken.
pub pushed_more : (first before after : Option Output) (bytes left : List ℕ) (done n : ℕ) → left ≡ drop done bytes → (n ≡ 0 → ⊥)
    → before ≡ append_output first (take done bytes) 0 → after ≡ after_push before left (Ok n)
    → after ≡ append_output first (take (done + n) bytes) 0
pushed_more first before after bytes left done n is some so_far pushed =
    pushed ∙ after_push-some before left n some ∙ ap (λ t. append_output t (take n left) 0) so_far
    ∙ append_output-append_output first (take done bytes) (take n left) 0 0
    ∙ ap (λ (b : List ℕ). append_output first (take done bytes ++ take n b) 0) is
    ∙ ap (λ (b : List ℕ). append_output first b 0) (sym (take-add done n bytes))
