use Rattle.std.proofs.Common.{ℕ, leb, cond, refl, arith}
use Rattle.std.specs.Prelude.{◌==◌, not}
use Rattle.std.proofs.lemmas.Simd.{zip2_splat, length-chunk}
use lib.Lanes.{chunk}
use Rattle.redo_html.specs.Laws.{is_plain}
use Rattle.redo_html.proofs.LaneLemmas.{joined, splat_is, passing_run}
use Rattle.redo_html.proofs.symbol.unbroken_run.Goals as goal

pub returns-clause-plain : goal.returns-clause-plain
returns-clause-plain c =
    let v = chunk c.args.at 16 c.args.bytes.now in
    let long = length-chunk c.args.at 16 c.args.bytes.now c.requires in
    passing_run is_plain c.args.bytes.now c.args.at 16 _ _ c.requires (omega arith) c.type_inv.bytes c.first_set.ensures _
    (joined _ _ _ v (joined _ _ _ v (joined _ _ _ v (joined _ _ _ v
    (joined (λ a b. cond (leb a b) 255 0) _ _ v (splat_is v 16 95 long) (zip2_splat {Y = ℕ} _ v 16 32 long))
    (zip2_splat {Y = ℕ} _ v 16 9 long)) (zip2_splat {Y = ℕ} _ v 16 38 long))
    (zip2_splat {Y = ℕ} _ v 16 60 long)) (zip2_splat {Y = ℕ} _ v 16 62 long)) refl

pub returns-clause-line : goal.returns-clause-line
returns-clause-line c =
    let v = chunk c.args.at 16 c.args.bytes.now in
    let long = length-chunk c.args.at 16 c.args.bytes.now c.requires in
    passing_run (λ byte. not (byte == 10)) c.args.bytes.now c.args.at 16 _ _ c.requires (omega arith) c.type_inv.bytes c.first_set.ensures _
    (joined _ _ _ v (joined _ _ _ v (joined _ _ _ v (joined _ _ _ v
    (joined (λ a b. cond (leb a b) 255 0) _ _ v (splat_is v 16 95 long) (zip2_splat {Y = ℕ} _ v 16 32 long))
    (zip2_splat {Y = ℕ} _ v 16 9 long)) (zip2_splat {Y = ℕ} _ v 16 38 long))
    (zip2_splat {Y = ℕ} _ v 16 60 long)) (zip2_splat {Y = ℕ} _ v 16 62 long)) refl
