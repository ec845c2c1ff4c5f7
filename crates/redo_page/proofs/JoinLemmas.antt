-- Texts that are joined.
use Rattle.std.proofs.Common.{◌≡◌, ℕ, ◌<◌, ◌^◌, List, ◌++◌, Result, IfOk, decimal, sym, ◌∙◌, ap, subst}
use Rattle.std.proofs.lemmas.List.{append_assoc}
use Rattle.std.proofs.lemmas.Bool.{cond-true, lt-ltb}
use Rattle.std.specs.Global.{Vec}
use Rattle.redo_html.specs.Shown.{number_text}

pub number_is : (number : ℕ) → number < 2 ^ 64 → decimal number ≡ number_text number
unfolding number_text
number_is number below = sym (cond-true _ _ _ (lt-ltb number 0x10000000000000000 below))

-- A text that is equal to the result.
pub text_as : {E : Type 0} (result : Result (Vec ℕ) E) (one other : List ℕ) → one ≡ other → IfOk result (λ text. text.items ≡ one)
    → IfOk result (λ text. text.items ≡ other)
text_as result one other same is = subst (λ t. IfOk result (λ text. text.items ≡ t)) same is

-- A text is appended, and then another one.
pub appended_then : (text one more : List ℕ) (first second : List ℕ) → one ≡ text ++ first → more ≡ one ++ second
    → more ≡ text ++ (first ++ second)
appended_then text one more first second is then_is = then_is ∙ ap (λ t. t ++ second) is ∙ append_assoc text first second
