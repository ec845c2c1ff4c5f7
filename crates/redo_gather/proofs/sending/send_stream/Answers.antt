use Rattle.std.proofs.Common.{subst}
use Rattle.redo_gather.specs.Private.Reading.{fault_in}
use Rattle.redo_gather.specs.Private.Posting.{HasPosted}
use Rattle.redo_gather.specs.Sending.{final_what, singles_in}
use Rattle.redo_gather.proofs.PostedLemmas.{last_posted}
use Rattle.redo_gather.proofs.sending.send_stream.Goals as goal

pub returns : goal.returns
returns g c =
    let sent = c.read_entries-outcome.ensures in
    let fault = fault_in c.read_entries-outcome.result in
    let between = c.read_entries-outcome.new.sink.end in record {
      entries = sent.entries;
      fault = fault;
      posted =
          last_posted c.args.poster.stream c.args.poster.end between c.post.new.end sent.entries fault sent.taken.1
          (subst (λ stream. HasPosted between c.post.new.end (singles_in between.number stream (final_what fault))) sent.taken.0
          (subst (λ what. HasPosted between c.post.new.end (singles_in between.number c.read_entries-outcome.new.sink.stream what))
          c.last_item.ensures c.post.ensures));
      expected = sent.expected;
    }
