use Rattle.std.proofs.Common.{◌≡◌, ◌⊎◌, inl, inr, sym, ◌∙◌, subst}
use Rattle.redo_line.specs.Lines.{all_lines}
use Rattle.redo_index.specs.declared.index_fault.IndexFault.TheVariants.{OutOfMemory}
use Rattle.redo_index.specs.Index.{IsIndex, IsRejected}
use Rattle.redo_index.proofs.IndexLines.{propagated, rejected_here, one_more, all_parsed}
use Rattle.redo_index.proofs.index.read_index_with_keys.Goals as goal

pub returns-in_err-add-clause-fault : goal.returns-in_err-add-clause-fault
returns-in_err-add-clause-fault c =
    let so_far = c.lines.invariant in
    propagated c.from_residual.result c.in_err-add.field-0.0
    (λ fault. (fault ≡ OutOfMemory) ⊎ IsRejected (all_lines c.args.bytes.now) fault) c.from_residual.ensures.1
    (elim (c.in_err-add.ensures.fault _ so_far.holds) [
      | inl memory ↦ inl memory
      | inr fault_is ↦ inr (rejected_here _ _ _ _ so_far c.first_line.result.0.now c.first_line.result.1.now c.first_line.ensures.line
          c.in_err-add.field-0.0 fault_is)
    ])

pub lines-preserved : goal.lines-preserved
lines-preserved c =
    let so_far = c.lines.invariant in
    one_more _ _ _ _ so_far c.first_line.result.0.now c.first_line.result.1.now c.first_line.ensures.line c.add.new.numbers.keys
    c.add.new.targets.entries (c.in_ok-add.ensures.holds _ so_far.holds)

pub invariant_of-result : goal.invariant_of-result
invariant_of-result c =
    let all = all_parsed _ _ _ _ c.lines.invariant (sym c.is_empty.ensures ∙ c.lines-test.false) in
    subst IsIndex (sym all.1.entries_are) all.1.fits

pub returns-clause-index : goal.returns-clause-index
returns-clause-index c =
    let all = all_parsed _ _ _ _ c.lines.invariant (sym c.is_empty.ensures ∙ c.lines-test.false) in
    record { fault_free = all.0; lists = all.1.entries_are }
