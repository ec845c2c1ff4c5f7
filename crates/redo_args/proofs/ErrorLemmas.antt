-- A result whose error is converted to another error.
use Rattle.std.proofs.Common.{◌≡◌, Result, Ok, Err, IfOk, IsErrAnd, subst, sym}
use Rattle.std.specs.Prelude.{MatchResult}

-- The value's properties still hold.
pub map_err_if_ok : {T E F : Type 0} (answer : Result T E) (Maps : E → F → Type 0) (result : Result T F)
    → MatchResult answer (λ x. result ≡ Ok x) (λ e. IsErrAnd result (Maps e))
    → (P : T → Type 0) → IfOk answer P → IfOk result P
map_err_if_ok (Ok x) Maps result is P holds = subst (λ r. IfOk r P) (sym is) holds
map_err_if_ok (Err e) Maps (Ok x) is P holds = absurd is
map_err_if_ok (Err e) Maps (Err f) is P holds = tt
