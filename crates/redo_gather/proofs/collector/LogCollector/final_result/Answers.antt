use Rattle.std.proofs.Common.{◌<◌, List, length, arith, ap, sym, ◌∙◌}
use Rattle.std.proofs.lemmas.List.{length-map}
use Rattle.redo_logs.specs.Logs.{Log}
use Rattle.redo_gather.specs.Streams.{IsLowestFault}
use Rattle.redo_gather.proofs.CollectedLemmas.{settled_table}
use Rattle.redo_gather.proofs.GatheredLemmas.{of_stream}
use Rattle.redo_gather.proofs.SettledLemmas.{failed-within, settled-ended, settled-fault, settled-logs, settled-targets}
use Rattle.redo_gather.proofs.collector.LogCollector.final_result.Goals as goal

pub returns-in-None-clause-gathered : goal.returns-in-None-clause-gathered
returns-in-None-clause-gathered c max_bytes names known taken =
    let settled = settled_table max_bytes names known c.args.self.now taken c.if-self.false in
    let none = sym c.first_fault.ensures ∙ c.in-None.is in record {
      logs = settled-logs max_bytes names known c.args.self.now.table taken.expected.count settled none;
      targets = settled-targets max_bytes names known c.args.self.now.table taken.expected.count settled;
      ended = settled-ended max_bytes names known c.args.self.now.table taken.expected.count settled none;
      fault = tt;
      number = tt;
    }

pub returns-in-Some-clause-gathered : goal.returns-in-Some-clause-gathered
returns-in-Some-clause-gathered c max_bytes names known taken =
    let number = c.in-Some.number in
    let fault = c.in-Some.fault in
    let table = c.args.self.now.table in
    let settled = settled_table max_bytes names known c.args.self.now taken c.if-self.false in
    let found = sym c.first_fault.ensures ∙ c.in-Some.is in
    let count = ap length (settled-targets max_bytes names known table taken.expected.count settled) in
    let within : number < length names =
    omega (arith, failed-within table number fault found, count, length-map table (λ (log : Log). log.target)) in record {
      logs = tt;
      targets = tt;
      ended = tt;
      fault = of_stream (List Log) number fault (IsLowestFault max_bytes names known)
          (λ other. settled-fault max_bytes names known table taken.expected.count settled number fault found) c.of.result c.of.ensures;
      number = of_stream (List Log) number fault (λ number fault. number < length names) (λ other. within) c.of.result c.of.ensures;
    }
