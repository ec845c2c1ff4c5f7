-- Examples of a cutter's results, computed: for which results a fact is stated.
use Rattle.std.proofs.Common.{◌≡◌, true, false, refl}
use Rattle.std.specs.Prelude.{codes}
use Rattle.redo_line.specs.declared.cutter.Cut.{Cut}
use Rattle.redo_line.specs.declared.cutter.Cut.TheVariants.{Line, More}
use Rattle.redo_line.specs.Cut.{IfLine, IfMore, is_line}

abbrev cut : Cut
cut = Line (codes "x") 2

lines : (is_line cut ≡ true) × (is_line More ≡ false)
lines = (refl, refl)

of_a_line : IfLine cut (λ line upto. (line ≡ codes "x") × (upto ≡ 2)) × IfLine More (λ line upto. ⊥)
of_a_line = ((refl, refl), tt)

not_of_a_line : IfLine cut (λ line upto. ⊥) → ⊥
not_of_a_line is = is

of_no_line : IfMore More (true ≡ true) × IfMore cut ⊥
of_no_line = (refl, tt)

not_of_no_line : IfMore More ⊥ → ⊥
not_of_no_line is = is
