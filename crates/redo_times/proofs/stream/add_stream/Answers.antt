use Rattle.std.proofs.Common.{◌≡◌, refl, sym, subst, arith, List, ℕ}
use Rattle.redo_index.specs.Index.{listed_targets}
use Rattle.redo_times.proofs.StreamLemmas.{Reading, at_end, at_failure, at_limit, none_read}
use Rattle.redo_times.proofs.stream.add_stream.Goals as goal

pub reads-init : goal.reads-init
reads-init g c =
    let known = g.R.Feed.contents c.args.reader.now in
    let targets = listed_targets c.args.index.now in record {
      chunk = refl;
      tallies = refl;
      reading =
          subst (λ (partial : List ℕ). Reading targets c.args.log.target.now c.args.max_bytes c.args.max_bytes known known partial
          c.args.tallies.now c.args.tallies.now) (sym {A = List ℕ} c.clear.ensures.items)
          (none_read targets c.args.log.target.now c.args.max_bytes known c.args.tallies.now);
    }

pub returns-in-Err-clause-tallies : goal.returns-in-Err-clause-tallies
returns-in-Err-clause-tallies g c =
    at_failure (listed_targets c.args.index.now) c.args.log.target.now c.args.max_bytes
    (g.R.Feed.contents c.args.reader.now) c.args.tallies.now _ _ _ c.reads.tallies c.reads.invariant.reading _ _ _ c.in-Err.ensures.gives

pub returns-in-Ok-eq0-clause-tallies : goal.returns-in-Ok-eq0-clause-tallies
returns-in-Ok-eq0-clause-tallies g c =
    at_end (listed_targets c.args.index.now) c.args.log.target.now c.args.max_bytes
    (g.R.Feed.contents c.args.reader.now) c.args.tallies.now _ _ _ c.reads.tallies c.reads.invariant.reading _ c.pull.new.buf
    (rw c.in-Ok-eq0.field-0-test at c.in-Ok-eq0.ensures.gives)

pub returns-clause-tallies : goal.returns-clause-tallies
returns-clause-tallies g c =
    let none : c.reads.left ≡ 0 = let test = c.reads-test.false in omega (arith, test) in
    at_limit (listed_targets c.args.index.now) c.args.log.target.now c.args.max_bytes
    (g.R.Feed.contents c.args.reader.now) c.args.tallies.now _ _ _ c.reads.tallies c.reads.invariant.reading none
