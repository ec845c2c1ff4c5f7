use Rattle.std.proofs.Common.{◌≡◌, ◌+◌, ◌-◌, ℕ, true, take, drop, length-drop, subst, sym, ◌∙◌, arith}
use Rattle.std.specs.List.{list_all}
use Rattle.json.specs.Run.{is_plain}
use Rattle.redo_json.proofs.EscapeLemmas.{plain_more}
use Rattle.redo_json.proofs.plain.plain_strides_len.Goals as goal

pub loop-len-preserved : goal.loop-len-preserved
loop-len-preserved c =
    let bytes = c.args.bytes.now in
    let len = c.loop-len.len in
    let size : len + 32 - len ≡ 32 = omega arith in
    let stride : list_all is_plain (take 32 (drop len bytes)) ≡ true =
    subst (λ (n : ℕ). list_all is_plain (take n (drop len bytes)) ≡ true) size (sym c.are_plain.ensures ∙ c.if-not-are_plain.false) in
    let left = length-drop len bytes in
    plain_more bytes len 32 c.loop-len.invariant (record { within = omega (arith, c.loop-len-test.true, left); plain = stride })
