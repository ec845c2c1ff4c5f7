use Rattle.std.proofs.Common.{None, Some, slice_get, sym, ap, ◌∙◌}
use Rattle.redo_logs.specs.Logs.{update_log, states_of}
use Rattle.redo_logs.proofs.ChangedLemmas.{states-with_entries}
use Rattle.redo_gather.specs.Private.Storing.{completed}
use Rattle.redo_gather.proofs.GrowthLemmas.{with_last}
use Rattle.redo_gather.proofs.storing.store.Goals as goal

pub end-requires : goal.end-requires
end-requires c = record {
  running = ap (λ states. slice_get states c.args.number)
      (ap states_of c.in_ok-add_all.ensures.added ∙ states-with_entries c.args.number c.args.log.entries c.args.table.now) ∙ c.requires;
}

pub fail-requires : goal.fail-requires
fail-requires c = record {
  running = ap (λ states. slice_get states c.args.number)
      (ap states_of c.in_ok-add_all.ensures.added ∙ states-with_entries c.args.number c.args.log.entries c.args.table.now) ∙ c.requires;
}

pub returns-in-None-clause-stored : goal.returns-in-None-clause-stored
returns-in-None-clause-stored c =
    with_last c.args.number c.args.log.entries None c.args.table.now c.add_all.new.self c.end.new.self c.in_ok-add_all.ensures.added
    c.end.ensures
    ∙ ap (λ fault. update_log c.args.number (completed c.args.log.entries fault) c.args.table.now) (sym c.in-None.is)

pub returns-in-Some-clause-stored : goal.returns-in-Some-clause-stored
returns-in-Some-clause-stored c =
    with_last c.args.number c.args.log.entries
    (Some c.in-Some.fault) c.args.table.now c.add_all.new.self c.fail.new.self c.in_ok-add_all.ensures.added c.fail.ensures
    ∙ ap (λ fault. update_log c.args.number (completed c.args.log.entries fault) c.args.table.now) (sym c.in-Some.is)
