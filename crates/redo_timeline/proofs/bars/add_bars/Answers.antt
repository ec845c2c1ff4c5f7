use Rattle.std.proofs.Common.{◌+◌, ◌∷◌, [], ◌++◌, drop, get_or, sym, ap, ◌∙◌}
use Rattle.redo_timeline.specs.Private.Drafting.{draft_of, drawn_draft, joined_draft}
use Rattle.redo_timeline.proofs.BarLemmas.{drafted_first, drafted_is, drafted_joined, drafted_next}
use Rattle.redo_timeline.proofs.bars.add_bars.Goals.{then-joins, else-joins+in_ok-push}
use Rattle.redo_timeline.proofs.LaneLemmas.{no_span}
use Rattle.redo_timeline.proofs.bars.add_bars.Goals as goal

pub loop-span-init : goal.loop-span-init
loop-span-init c = drafted_first c.args.window c.args.lane c.args.bars.now.items c.args.spans.now c.in-Some.first.now c.in-Some.rest.now
    c.new-draft.result c.in-Some.ensures.cases.0 c.new-draft.ensures

pub loop-span-preserved : goal.loop-span-preserved
loop-span-preserved c =
    let window = c.args.window in
    let all = c.args.spans.now in
    let old = c.args.bars.now.items in
    let rest = c.in-Some.rest.now in
    let i = c.loop-span.span-index in
    let bars = c.loop-span.bars.items in
    let draft = c.loop-span.draft in
    let span = get_or rest i no_span in
    elim c.if-joins.branch [
      | then-joins w ↦
          drafted_is window c.args.lane old all (drop (i + 1) rest) bars c.if-joins.bars.items (joined_draft span draft) c.if-joins.draft
          (ap (λ bars. bars.items) w.bars-is) (w.draft-is ∙ w.join.ensures)
          (drafted_joined window c.args.lane old all rest i no_span bars draft c.loop-span-test.true
          (sym c.joins.ensures ∙ w.if-joins.true) c.loop-span.invariant)
      | else-joins+in_ok-push w ↦
          drafted_is window c.args.lane old all (drop (i + 1) rest)
          (bars ++ drawn_draft window c.args.lane draft ∷ []) c.if-joins.bars.items (draft_of window (span ∷ [])) c.if-joins.draft
          (ap (λ bars. bars.items) w.bars-is ∙ w.in_ok-push.ensures.items ∙ ap (λ bar. bars ++ bar ∷ []) w.bar.ensures)
          (w.draft-is ∙ w.new-draft-else-joins.ensures)
          (drafted_next window c.args.lane old all rest i no_span bars draft c.loop-span-test.true
          (sym c.joins.ensures ∙ w.if-joins.false) c.loop-span.invariant)
    ]
