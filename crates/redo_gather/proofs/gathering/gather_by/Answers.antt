use Rattle.std.proofs.Common.{rules, ◌≡◌, length, map, sym, ◌∙◌, subst}
use Rattle.std.proofs.lemmas.List.{length-map}
use Rattle.redo_logs.specs.Logs.{Log, targets_of}
use Rattle.redo_wire.proofs.EndLemmas.{ends_of_one}
use Rattle.redo_gather.specs.Gathered.{IsGathered}
use Rattle.redo_gather.specs.Streams.{known_input}
use Rattle.redo_gather.proofs.ReadyLemmas.{all_are_expected}
use Rattle.redo_gather.proofs.gathering.gather_by.Goals as goal

pub run_senders-requires-clause-one : goal.run_senders-requires-clause-one
run_senders-requires-clause-one g c =
    let one = ends_of_one c.in_ok-collector.collector.take_end.mailbox c.in_ok-collector.ends.items c.in_ok-collector.ensures.post_ends in
    search (rules, one)

pub returns-clause-gathered : goal.returns-clause-gathered
returns-clause-gathered g c =
    let contents = g.R.Feed.contents in
    let targets = targets_of c.args.table in
    let known = map (known_input contents) c.args.readers.items in
    let same : length targets ≡ length known =
    length-map c.args.table (λ (log : Log). log.target) ∙ sym c.requires.readers
    ∙ sym (length-map c.args.readers.items (known_input contents)) in
    let limit = c.max_bytes-max_bytes.ensures.value in
    let opened = c.in_ok-collector.ensures in
    subst (λ max_bytes. IsGathered max_bytes targets known c.finish.result) limit
    (c.finish.ensures.gathered c.max_bytes-max_bytes.result targets known
    (all_are_expected contents c.max_bytes-max_bytes.result c.capacity.result c.args.senders targets known c.in_ok-collector.ends.items
    (map (λ share. share.items) c.in_ok-shares.shares.items) c.in_ok-collector.collector
    c.run_senders.result c.run_senders.ensures opened.take_end (opened.begins.0 ∙ c.requires.begins) opened.begins.1 same
    c.requires.senders.0 opened.post_ends c.in_ok-shares.ensures))
