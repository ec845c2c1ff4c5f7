use Rattle.std.proofs.Common.{rules, ◌∙◌, ap, refl}
use Rattle.redo_line.specs.Scan.{entries_so_far, fault_so_far}
use Rattle.redo_line.proofs.ScanEnds.{none_found}
use Rattle.redo_line.proofs.scan.Scan.new.Goals as goal

pub returns-clause-none_found : goal.returns-clause-none_found
returns-clause-none_found c = ap (entries_so_far c.new.result.target c.new.result.max_bytes) c.empty.ensures
    ∙ none_found c.new.result c.new.ensures.after

pub returns-clause-fault_free : goal.returns-clause-fault_free
returns-clause-fault_free c = record {
  not_failed = refl;
  no_fault = ap (fault_so_far c.new.result.target c.new.result.max_bytes) c.empty.ensures ∙ c.new.ensures.after.no_fault;
}

pub returns-clause-scan : goal.returns-clause-scan
returns-clause-scan c = search rules
