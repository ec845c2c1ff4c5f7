use Rattle.std.proofs.Common.{◌≡◌, ◌+◌, ◌-◌, ℕ, true, take, drop, subst, sym, ◌∙◌, arith}
use Rattle.std.specs.List.{list_all}
use Rattle.redo_json.specs.Private.Writing.{is_verbatim_or_feed}
use Rattle.redo_json.proofs.EscapeLemmas.{pass_more, pass_to_end}
use Rattle.redo_json.proofs.plain.are_verbatim_lines.Goals as goal

pub loop-len-preserved : goal.loop-len-preserved
loop-len-preserved c =
    let bytes = c.args.bytes.now in
    let len = c.loop-len.len in
    let size : len + 64 - len ≡ 64 = omega arith in
    let stride : list_all is_verbatim_or_feed (take 64 (drop len bytes)) ≡ true =
    subst (λ (n : ℕ). list_all is_verbatim_or_feed (take n (drop len bytes)) ≡ true) size
    (sym c.are_verbatim_or_feeds.ensures ∙ c.if-not-are_verbatim_or_feeds.false) in
    let room = c.loop-len-test.true in
    let within = c.loop-len.invariant.0 in
    (omega (arith, room, within), pass_more is_verbatim_or_feed bytes len 64 c.loop-len.invariant.1 stride)

pub returns : goal.returns
returns c = λ is.
    let within = c.loop-len.invariant.0 in
    pass_to_end is_verbatim_or_feed c.args.bytes.now c.loop-len.len c.loop-len.len (omega arith) within c.loop-len.invariant.1
    (sym c.are_verbatim_or_feeds-2.ensures ∙ is)
