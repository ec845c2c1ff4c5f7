use Rattle.std.proofs.Common.{◌≡◌, [], ◌∷◌, ◌++◌, length, refl, sym, ap, ◌∙◌, arith}
use Rattle.std.proofs.lemmas.List.{append_assoc, length-append, length-map}
use Rattle.redo_index.specs.declared.index_entry.IndexEntry.{IndexEntry}
use Rattle.redo_index.specs.Index.{listed_targets}
use Rattle.redo_times.specs.Private.Tally.{tally_of}
use Rattle.redo_times.proofs.ReaderLemmas.{all_read, none_read, one_more_read}
use Rattle.redo_times.proofs.times.add_streams.Goals as goal

pub loop-reader-init : goal.loop-reader-init
loop-reader-init g c =
    let index = c.args.index.now in record {
      room = c.requires.room;
      count = ap length c.requires.begins ∙ length-map (listed_targets index) (tally_of [])
          ∙ length-map index (λ (entry : IndexEntry). entry.target);
      readers = c.into_iter-reader-iterator.ensures.into_iter_gives.0;
      number = refl;
      read = ap length c.in_ok-read.ensures.items;
      tallies = none_read c.args.max_bytes (listed_targets index) c.args.tallies.now c.requires.begins;
    }

pub loop-reader-preserved : goal.loop-reader-preserved
loop-reader-preserved g c =
    let kept = c.loop-reader.invariant in
    let yielded = c.loop-reader.yielded in
    let reader = c.in-Some.reader in record {
      room = omega (arith, kept.room, c.add_stream.auto.chunk);
      count = c.add_stream.auto.tallies ∙ kept.count;
      readers = append_assoc yielded (reader ∷ []) c.next.new.self.rest.items ∙ ap (λ rest. yielded ++ rest) (sym c.in-Some.ensures.steps.0)
          ∙ kept.readers;
      number = omega (arith, kept.number, length-append yielded (reader ∷ []));
      read = ap length c.in_ok-push.ensures.items ∙ search (arith, kept.read, length-append);
      tallies =
          one_more_read g.R.Feed.contents c.args.max_bytes
          (listed_targets c.args.index.now) yielded reader c.loop-reader.i c.name.result.now c.loop-reader.tallies
          c.add_stream.new.tallies kept.number c.name.ensures
          kept.tallies c.in_ok-add_stream.ensures.tallies;
    }

pub returns-clause-tallies : goal.returns-clause-tallies
returns-clause-tallies g c =
    let kept = c.loop-reader.invariant in
    let none : length c.loop-reader.reader-iterator.rest.items ≡ 0 =
    omega (arith, c.in-None.ensures.steps.0, c.loop-reader.reader-iterator.rest.ok) in
    all_read g.R.Feed.contents c.args.max_bytes
    (listed_targets c.args.index.now) c.loop-reader.yielded c.args.readers.items c.loop-reader.reader-iterator.rest.items
    c.loop-reader.tallies kept.readers none kept.tallies
