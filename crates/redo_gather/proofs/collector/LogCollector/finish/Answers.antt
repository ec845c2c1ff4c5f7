use Rattle.std.proofs.Common.{◌≢◌, List, sym, subst}
use Rattle.redo_line.specs.declared.stream_fault.StreamFault.TheVariants.{OutOfMemory}
use Rattle.redo_logs.specs.Logs.{Log}
use Rattle.redo_gather.specs.GatherFault.{IfStreamFault}
use Rattle.redo_gather.specs.Gathered.{IsGathered}
use Rattle.redo_gather.proofs.GatheredLemmas.{fault_of_and}
use Rattle.redo_gather.proofs.collector.LogCollector.finish.Goals as goal

pub returns : goal.returns
returns g c = record {
  gathered = λ max_bytes names known taken.
      subst (IsGathered max_bytes names known) (sym c.and.ensures) (c.finish_table.ensures.gathered max_bytes names known taken);
  never_out_of_memory =
      subst (λ result. IfStreamFault {A = List Log} result (λ number fault. fault ≢ OutOfMemory)) (sym c.and.ensures)
      (fault_of_and (Unit {0}) (List Log)
      (λ number fault. fault ≢ OutOfMemory) c.finish_table.result c.finish_table.new.self.table c.finish_table.ensures.never_out_of_memory);
}
