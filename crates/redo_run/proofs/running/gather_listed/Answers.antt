use Rattle.std.proofs.Common.{length, ap, sym, ◌∙◌}
use Rattle.std.proofs.lemmas.List.{length-map}
use Rattle.redo_index.specs.declared.index_entry.IndexEntry.{IndexEntry}
use Rattle.redo_run.proofs.running.gather_listed.Goals as goal

pub gather-requires-clause-flags : goal.gather-requires-clause-flags
gather-requires-clause-flags g c κs within =
    ap length c.in_ok-flags.ensures ∙ length-map c.args.index.now (λ (entry : IndexEntry). entry.must_close)
    ∙ sym (length-map c.args.index.now (λ (entry : IndexEntry). entry.target))
    ∙ sym (ap length c.in_ok-names.ensures.names)

pub returns-clause-gathered : goal.returns-clause-gathered
returns-clause-gathered g c = rw (c.in_ok-names.ensures.names, c.in_ok-flags.ensures) at c.gather.ensures.gathered
