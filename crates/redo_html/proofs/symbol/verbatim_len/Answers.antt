use Rattle.std.proofs.Common.{◌+◌, ◌≤◌, List, ℕ, length, true, take, drop, subst, ◌≡◌}
use Rattle.std.specs.List.{list_all}
use Rattle.std.proofs.lemmas.List.{take_rest}
use Rattle.redo_html.specs.Laws.{is_plain}
use Rattle.redo_html.specs.Private.Writing.{IsVerbatim}
use Rattle.redo_html.proofs.VerbatimLemmas.{plain_code_points, more_code_points}
use Rattle.redo_html.proofs.symbol.verbatim_len.Goals as goal

pub loop-len-init : goal.loop-len-init
loop-len-init c = plain_code_points c.plain_len-len.result c.args.bytes.now c.plain_len-len.ensures.within c.plain_len-len.ensures.plain

pub strides_len-len-requires : goal.strides_len-len-requires
strides_len-len-requires c =
    let bytes = c.args.bytes.now in
    let len = c.loop-len.len in
    let more = c.high_len-more.result in
    more_code_points bytes len more c.loop-len.invariant
    (subst (λ (b : List ℕ). IsVerbatim b more) (take_rest bytes len) c.high_len-more.ensures)

pub loop-len-preserved : goal.loop-len-preserved
loop-len-preserved c =
    let bytes = c.args.bytes.now in
    let len = c.loop-len.len + c.high_len-more.result + c.strides_len-len.result in
    let plain = c.plain_len-len-in-loop-len.result in
    let within : plain ≤ length (drop len bytes) =
    subst (λ (b : List ℕ). plain ≤ length b) (take_rest bytes len) c.plain_len-len-in-loop-len.ensures.within in
    let all : list_all is_plain (take plain (drop len bytes)) ≡ true =
    subst (λ (b : List ℕ). list_all is_plain (take plain b) ≡ true) (take_rest bytes len) c.plain_len-len-in-loop-len.ensures.plain in
    more_code_points bytes len plain c.strides_len-len.ensures (plain_code_points plain (drop len bytes) within all)
