use Rattle.std.proofs.Common.{◌≡◌, ◌+◌, ◌-◌, ◌≤◌, ℕ, true, length, take, drop, subst, sym, ◌∙◌, arith}
use Rattle.std.specs.List.{list_all}
use Rattle.redo_json.specs.Private.Writing.{is_verbatim_byte}
use Rattle.redo_json.proofs.EscapeLemmas.{pass_more, pass_to_end}
use Rattle.redo_json.proofs.plain.is_verbatim.Goals as goal

pub loop-len-preserved : goal.loop-len-preserved
loop-len-preserved c =
    let bytes = c.args.bytes.now in
    let len = c.loop-len.len in
    let size : len + 16 - len ≡ 16 = omega arith in
    let stride : list_all is_verbatim_byte (take 16 (drop len bytes)) ≡ true =
    subst (λ (n : ℕ). list_all is_verbatim_byte (take n (drop len bytes)) ≡ true) size
    (sym c.are_verbatim.ensures ∙ c.if-not-are_verbatim.false) in
    let room = c.loop-len-test.true in
    let within = c.loop-len.invariant.0 in
    (omega (arith, room, within), pass_more is_verbatim_byte bytes len 16 c.loop-len.invariant.1 stride)

pub returns : goal.returns
returns c = λ is.
    let bytes = c.args.bytes.now in
    let within = c.loop-len.invariant.0 in
    let left = c.loop-len-test.false in
    let low : length bytes - 16 ≤ c.loop-len.len = omega (arith, within, left) in
    pass_to_end is_verbatim_byte bytes (length bytes - 16) c.loop-len.len low within c.loop-len.invariant.1
    (sym c.are_verbatim-2.ensures ∙ is)
