use Rattle.std.proofs.Common.{[], ◌∷◌, ◌++◌, None, Some, refl, sym, ap, ◌∙◌}
use Rattle.std.proofs.lemmas.List.{append-nil}
use Rattle.std.proofs.lemmas.Result.{err_from_is_err_and}
use Rattle.redo_gather.proofs.ReadingLemmas.{at_end, cut_at_end, open_at_end}
use Rattle.redo_gather.proofs.reading.read_entries.Goals as goal

pub returns-in_err-read_chunks : goal.returns-in_err-read_chunks
returns-in_err-read_chunks g c =
    let given = err_from_is_err_and c.from_residual.result c.from_residual.ensures.1 in
    let chunks = c.in_err-read_chunks.ensures in
    rw (given.1, given.2) (record { entries = chunks.entries; taken = chunks.taken; expected = chunks.expected })

pub returns-in_err-last : goal.returns-in_err-last
returns-in_err-last g c =
    let chunks = c.in_ok-read_chunks.ensures in
    let fault = c.in_err-last.ensures.not_closed chunks.ended.read.fault_free.not_failed in
    let given = err_from_is_err_and c.from_residual-in_err-last.result c.from_residual-in_err-last.ensures.1 in
    rw (given.1, given.2)
    (record {
      entries = chunks.entries;
      taken = chunks.taken;
      expected = open_at_end _ c.args.scan _ _ chunks.ended c.in_err-last.field-0.0 (fault.1 ∙ ap Some (sym fault.0));
    })

pub returns-in_err-take_last : goal.returns-in_err-take_last
returns-in_err-take_last g c =
    let chunks = c.in_ok-read_chunks.ensures in
    let given = err_from_is_err_and c.from_residual-in_err-take_last.result c.from_residual-in_err-take_last.ensures.1 in
    rw (given.1, given.2, c.in_err-take_last.ensures.only_out_of_memory)
    (record {
      entries = chunks.entries;
      taken = c.in_err-take_last.ensures.unchanged_on_err c.args.sink.now chunks.entries chunks.taken;
      expected = cut_at_end _ c.args.scan _ _ chunks.ended;
    })

pub returns-in_ok-take_last : goal.returns-in_ok-take_last
returns-in_ok-take_last g c =
    let chunks = c.in_ok-read_chunks.ensures in
    record {
      entries = chunks.entries ++ c.in-Some.last ∷ [];
      taken = c.in_ok-take_last.ensures.taken c.args.sink.now chunks.entries chunks.taken;
      expected = at_end _ c.args.scan _ _ chunks.ended (Some c.in-Some.last) _
          (rw c.in-Some.is at c.in_ok-last.ensures.log chunks.ended.read.fault_free.not_failed) refl;
    }

pub returns-in_default : goal.returns-in_default
returns-in_default g c =
    let chunks = c.in_ok-read_chunks.ensures in
    record {
      entries = chunks.entries;
      taken = chunks.taken;
      expected =
          at_end _ c.args.scan _ _ chunks.ended None chunks.entries
          (rw c.in_default.is at c.in_ok-last.ensures.log chunks.ended.read.fault_free.not_failed)
          (sym (append-nil chunks.entries));
    }
