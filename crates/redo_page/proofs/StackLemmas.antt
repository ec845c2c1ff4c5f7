-- Lists that grow at their end, from the end.
use Rattle.std.proofs.Common.{◌≡◌, List, [], ◌∷◌, ◌++◌, reverse, ◌∙◌, ap}
use Rattle.std.proofs.lemmas.List.{reverse-append}

pub reverse_last : {A : Type 0} (all others : List A) (last : A) → all ≡ others ++ last ∷ [] → reverse all ≡ last ∷ reverse others
reverse_last all others last is = ap reverse is ∙ reverse-append others (last ∷ [])
