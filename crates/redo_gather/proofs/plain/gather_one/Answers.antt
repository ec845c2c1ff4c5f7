use Rattle.std.proofs.Common.{◌≡◌, ℕ, ◌<◌, Some, List, refl, ap, ◌∙◌, subst}
use Rattle.std.proofs.lemmas.List.{length-map}
use Rattle.std.proofs.lemmas.Option.{slice_get_within}
use Rattle.redo_device.specs.Feed.{SomeStream}
use Rattle.redo_line.specs.Source.{source_log, source}
use Rattle.redo_logs.specs.declared.log_state.LogState.TheVariants.{Running}
use Rattle.redo_logs.specs.Logs.{Log, update_log, states_of}
use Rattle.redo_gather.specs.Private.Storing.{HasFault, completed}
use Rattle.redo_gather.proofs.GatheredLemmas.{of_stream}
use Rattle.redo_gather.proofs.ExpectedLemmas.{is_fault, is_log, no_fault_left}
use Rattle.redo_gather.proofs.plain.gather_one.Goals as goal

pub name-requires : goal.name-requires
name-requires g c =
    let within = slice_get_within (states_of c.args.table.now) c.args.number Running c.requires.runs in
    subst (λ (n : ℕ). c.args.number < n) (length-map c.args.table.now (λ (log : Log). log.state)) within

pub returns-in-Some-clause-fault : goal.returns-in-Some-clause-fault
returns-in-Some-clause-fault g c target here =
    let known = g.R.Feed.contents c.args.reader.now in
    let max_bytes = c.args.max_bytes in
    let log = c.read_stream-log.result in
    let fault = c.in-Some.fault in
    let copied = c.in_ok-target.ensures in
    let named = c.name.ensures in
    let same : c.in_ok-target.target ≡ target = cc (copied, named, here) in
    of_stream (Unit {0}) c.args.number fault _
    (λ other. (
      refl,
      subst (λ (of : List ℕ). HasFault max_bytes (source of c.args.must_close known) fault) same
          (is_fault max_bytes (source c.in_ok-target.target c.args.must_close known) log.entries log.fault c.read_stream-log.ensures fault
          c.in-Some.is other),
    ))
    c.of.result c.of.ensures

pub returns-in-Some-clause-never_out_of_memory : goal.returns-in-Some-clause-never_out_of_memory
returns-in-Some-clause-never_out_of_memory g c =
    of_stream (Unit {0}) c.args.number c.in-Some.fault _ (λ other. other) c.of.result c.of.ensures

pub store-requires : goal.store-requires
store-requires g c = c.requires.runs

pub returns-clause-completed : goal.returns-clause-completed
returns-clause-completed g c target here =
    let known = g.R.Feed.contents c.args.reader.now in
    let max_bytes = c.args.max_bytes in
    let log = c.read_stream-log.result in
    let none = no_fault_left log.fault c.in_default.not-Some in
    let copied = c.in_ok-target.ensures in
    let named = c.name.ensures in
    let same : c.in_ok-target.target ≡ target = cc (copied, named, here) in record {
      entries = log.entries;
      entries_are =
          subst (λ (of : List ℕ). SomeStream known
          (λ stream. source_log max_bytes (source of c.args.must_close stream) ≡ Some log.entries)) same
          (is_log max_bytes (source c.in_ok-target.target c.args.must_close known) log.entries log.fault c.read_stream-log.ensures none);
      after_is = c.in_ok-store.ensures.stored ∙ ap (λ fault. update_log c.args.number (completed log.entries fault) c.args.table.now) none;
    }
