-- Examples of splitting bytes into two parts, computed.
use Rattle.std.proofs.Common.{◌≡◌, [], None, Some, refl}
use Rattle.std.specs.Prelude.{codes}
use Rattle.redo_line.specs.Parts.{split_once, after_prefix}

-- At the first colon.
first_bytes : (split_once 58 (codes "a:b:c") ≡ Some (codes "a", codes "b:c")) × (split_once 58 (codes ":") ≡ Some ([], []))
    × (split_once 58 (codes "ab") ≡ None) × (split_once 58 [] ≡ None)
unfolding split_once
first_bytes = (refl, refl, refl, refl)

-- After a prefix.
fronts : (after_prefix (codes "ab") (codes "abc") ≡ Some (codes "c")) × (after_prefix (codes "ab") (codes "a") ≡ None)
    × (after_prefix (codes "ab") (codes "acb") ≡ None) × (after_prefix [] (codes "a") ≡ Some (codes "a"))
unfolding after_prefix
fronts = (refl, refl, refl, refl)
