use Rattle.std.proofs.Common.{◌≡◌, ◌++◌, length, rules, sym, ap, ◌∙◌}
use Rattle.std.proofs.lemmas.List.{append-nil, get_or_default, take_all}
use Rattle.redo_logs.specs.Private.PackedLog.{count_of}
use Rattle.redo_logs.proofs.Checkpoints.{cut_back, one_appended, still_before}
use Rattle.redo_logs.proofs.packed_log.PackedLog.append.Goals as goal

pub cut-requires-clause-before : goal.cut-requires-clause-before
cut-requires-clause-before c =
    let kept = c.loop-one.invariant in
    still_before c.args.self.now _ c.push.new.self _ _ (c.in-Err.ensures.unchanged_on_err ∙ kept.0) kept.1 kept.2

pub loop-one-init : goal.loop-one-init
loop-one-init c = (
  sym (append-nil c.args.self.now),
  (let size : c.len-count.result ≡ length c.self.inside.items.items = search rules in size ∙ ap length c.self.view_is),
  c.self.invariant.entries_are ∙ ap count_of c.self.view_is,
  c.self.invariant.few,
)

pub returns-in-Err-clause-unchanged_on_err : goal.returns-in-Err-clause-unchanged_on_err
returns-in-Err-clause-unchanged_on_err c =
    let kept = c.loop-one.invariant in
    c.cut.ensures ∙ cut_back c.args.self.now _ c.push.new.self _ (c.in-Err.ensures.unchanged_on_err ∙ kept.0) kept.1

pub loop-one-preserved : goal.loop-one-preserved
loop-one-preserved c =
    let kept = c.loop-one.invariant in
    let records = c.args.records.now in (
      one_appended _ _ _ records c.loop-one.one-index _ kept.0 c.in-Ok.ensures.pushed c.loop-one-test.true
          (get_or_default records c.loop-one.one-index _ _ c.loop-one-test.true),
      kept.1,
      kept.2,
      kept.3,
    )

pub returns-clause-appended : goal.returns-clause-appended
returns-clause-appended c = c.loop-one.invariant.0
    ∙ ap (λ more. c.args.self.now ++ more) (take_all c.loop-one.one-index c.args.records.now c.loop-one-test.false)
