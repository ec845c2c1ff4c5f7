use Rattle.std.proofs.Common.{◌≡◌, ℕ, ◌-◌, ◌<◌, ◌∙◌, ap, arith, drop, get_or, length}
use Rattle.std.proofs.lemmas.List.{get_or-map, length-map}
use Rattle.redo_timeline.specs.declared.span.Span.{Span}
use Rattle.redo_timeline.specs.Alone.{alone}
use Rattle.redo_summary.specs.Window.{cut}
use Rattle.redo_summary.proofs.RankLemmas.{most_by, most_more, most_same, no_span}
use Rattle.redo_summary.proofs.ranking.first_by_times.Goals as goal

pub bounds-times-i : goal.bounds-times-i
bounds-times-i c =
    let same = ap length c.requires ∙ length-map c.args.recipes.now (alone c.args.recipes.now) in
    let some = c.loop-i-test.true in
    let within = c.loop-i.auto.i in omega (arith, same, some, within)

pub loop-i-preserved-then-value-eq0 : goal.loop-i-preserved-then-value-eq0
loop-i-preserved-then-value-eq0 c =
    let recipes = c.args.recipes.now in
    let i = c.loop-i.i in
    let some = c.loop-i-test.true in
    let within = c.loop-i.auto.i in
    let below : i - 1 < length recipes = omega (arith, some, within) in
    most_same (λ (recipe : Span). cut (alone recipes recipe)) recipes i c.cut-value.result c.loop-i.ranks.items some within
    (c.cut-value.ensures ∙ ap (λ times. cut (get_or times (i - 1) 0)) c.requires
    ∙ ap cut (get_or-map (alone recipes) recipes (i - 1) no_span 0 below))
    (let none = c.if-value-eq0.true in omega (arith, none)) c.loop-i.invariant

pub loop-i-preserved : goal.loop-i-preserved
loop-i-preserved c =
    let recipes = c.args.recipes.now in
    let i = c.loop-i.i in
    let some = c.loop-i-test.true in
    let within = c.loop-i.auto.i in
    let below : i - 1 < length recipes = omega (arith, some, within) in
    most_more (λ (recipe : Span). cut (alone recipes recipe)) recipes i c.cut-value.result c.loop-i.ranks.items
    c.insert_rank.new.ranks.items some within
    (c.cut-value.ensures ∙ ap (λ times. cut (get_or times (i - 1) 0)) c.requires
    ∙ ap cut (get_or-map (alone recipes) recipes (i - 1) no_span 0 below))
    (let any = c.if-value-eq0.false in omega (arith, any)) c.loop-i.invariant c.in_ok-insert_rank.ensures

pub returns : goal.returns
returns c =
    let recipes = c.args.recipes.now in
    let done : c.loop-i.i ≡ 0 = (let last = c.loop-i-test.false in omega (arith, last)) in
    c.loop-i.invariant ∙ ap (λ (k : ℕ). most_by (λ (recipe : Span). cut (alone recipes recipe)) (drop k recipes)) done
