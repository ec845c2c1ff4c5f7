use Rattle.std.proofs.Common.{◌≡◌, List, ℕ, [], ap, ◌∙◌}
use Rattle.std.proofs.lemmas.Result.{IfOk-weaker}
use Rattle.redo_device.specs.Feed.{Stream}
use Rattle.redo_device.proofs.GaveLemmas.{weaker}
use Rattle.redo_line.specs.Lines.{ended}
use Rattle.redo_facts.specs.Reading.{bytes_that_count, facts_of_all, facts_of_stream}
use Rattle.redo_facts.proofs.file.read_facts.Goals as goal

pub returns-in-Some : goal.returns-in-Some
returns-in-Some g c =
    let max = c.args.max_bytes in
    let index = c.args.index.now in
    IfOk-weaker c.facts_of_bytes.result _ _ (λ facts facts_are. weaker (g.R.Feed.contents c.args.reader.now)
    (λ (stream : Stream). c.in-Some.bytes.items ≡ bytes_that_count max stream)
    (λ (stream : Stream). facts.items ≡ facts_of_stream max index stream)
    (λ stream is. facts_are ∙ ap (λ (bytes : List ℕ). facts_of_all index (ended bytes)) (c.deref.ensures.value ∙ is))
    (rw c.in-Some.is at c.in_ok-read.ensures.some)) c.facts_of_bytes.ensures

pub returns-in-None : goal.returns-in-None
returns-in-None g c =
    let max = c.args.max_bytes in
    let index = c.args.index.now in
    IfOk-weaker c.facts_of_bytes-in-None.result _ _ (λ facts facts_are. weaker (g.R.Feed.contents c.args.reader.now)
    (λ (stream : Stream). [] ≡ bytes_that_count max stream)
    (λ (stream : Stream). facts.items ≡ facts_of_stream max index stream)
    (λ stream is. facts_are ∙ ap (λ (bytes : List ℕ). facts_of_all index (ended bytes)) is)
    (rw c.in-None.is at c.in_ok-read.ensures.none)) c.facts_of_bytes-in-None.ensures
