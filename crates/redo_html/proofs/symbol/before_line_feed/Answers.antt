use Rattle.std.proofs.Common.{ℕ, refl, arith}
use Rattle.std.specs.Prelude.{◌==◌, not}
use Rattle.std.proofs.lemmas.Simd.{zip2_splat, length-chunk}
use lib.Lanes.{chunk}
use Rattle.redo_html.proofs.LaneLemmas.{passing_run}
use Rattle.redo_html.proofs.symbol.before_line_feed.Goals as goal

pub returns : goal.returns
returns c =
    let v = chunk c.args.at 16 c.args.bytes.now in
    let long = length-chunk c.args.at 16 c.args.bytes.now c.requires in
    passing_run (λ byte. not (byte == 10)) c.args.bytes.now c.args.at 16 _ _ c.requires (omega arith) c.type_inv.bytes c.first_set.ensures _
    (zip2_splat {Y = ℕ} _ v 16 10 long) refl
