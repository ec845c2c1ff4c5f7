use Rattle.std.proofs.Common.{rules, ◌≡◌, ℕ, ◌+◌, ◌<◌, ◌≤◌, List, length, map, [], refl, sym, ◌∙◌, subst, arith}
use Rattle.std.proofs.lemmas.List.{length-map}
use Rattle.std.proofs.lemmas.Result.{err_from_is_err_and}
use Rattle.redo_logs.specs.Logs.{Log, targets_of}
use Rattle.redo_gather.specs.Streams.{IsLowestFault, known_input}
use Rattle.redo_gather.proofs.GatheredLemmas.{Gathered, none_gathered, weaker_fault}
use Rattle.redo_gather.proofs.ReaderLoopLemmas.{below_names, log_runs, one_more_read, fault_read, target_below, all_logs, all_of_names, all_whole}
use Rattle.redo_gather.proofs.plain.gather_into.Goals as goal

pub loop-must_close-init : goal.loop-must_close-init
loop-must_close-init g c =
    let names = targets_of c.args.table.now in record {
      readers_are = sym c.into_iter-must_close-iterator.ensures.into_iter_gives.0;
      number_is = refl;
      gathered = subst (Gathered c.args.max_bytes names []) (sym c.requires.begins) (none_gathered c.args.max_bytes names);
    }

pub gather_one-requires-clause-runs : goal.gather_one-requires-clause-runs
gather_one-requires-clause-runs g c =
    let same = c.requires.readers ∙ sym (length-map c.args.table.now (λ (log : Log). log.target)) in
    let so_far = c.loop-must_close.invariant in
    let here = target_below (known_input g.R.Feed.contents) _ _ _ _ _ _ _ so_far same _ _ c.in-Some.ensures.steps.0 in
    log_runs (known_input g.R.Feed.contents) _ _ _ _ _ _ _ so_far same _ _ c.in-Some.ensures.steps.0 here.0 here.1

pub overflow_add-number : goal.overflow_add-number
overflow_add-number g c =
    let count = length-map c.args.table.now (λ (log : Log). log.target) in
    let below = below_names (known_input g.R.Feed.contents) _ _ _ _ _ _ _ c.loop-must_close.invariant
    (c.requires.readers ∙ sym count) _ _ c.in-Some.ensures.steps.0 in
    let within : c.loop-must_close.number + 1 ≤ 1048575 = omega (arith, below, count, c.requires.size) in
    search (rules, within)

pub loop-must_close-preserved : goal.loop-must_close-preserved
loop-must_close-preserved g c =
    let same = c.requires.readers ∙ sym (length-map c.args.table.now (λ (log : Log). log.target)) in
    let so_far = c.loop-must_close.invariant in
    let here = target_below (known_input g.R.Feed.contents) _ _ _ _ _ _ _ so_far same _ _ c.in-Some.ensures.steps.0 in
    one_more_read (known_input g.R.Feed.contents) _ _ _ _ _ _ _ so_far same _ _ c.in-Some.ensures.steps.0 here.0 here.1
    c.gather_one.new.table (c.in_ok-gather_one.ensures.completed here.0 here.1)

pub returns-in_err-gather_one : goal.returns-in_err-gather_one
returns-in_err-gather_one g c =
    let names = targets_of c.args.table.now in
    let known = map (known_input g.R.Feed.contents) c.args.readers.items in
    let same = c.requires.readers ∙ sym (length-map c.args.table.now (λ (log : Log). log.target)) in
    let so_far = c.loop-must_close.invariant in
    let steps = c.in-Some.ensures.steps.0 in
    let here = target_below (known_input g.R.Feed.contents) _ _ _ _ _ _ _ so_far same _ _ steps in
    let failed = c.in_err-gather_one.ensures in
    let given = err_from_is_err_and c.from_residual.result c.from_residual.ensures.1 in
    rw (given.1, given.2)
    (record {
      gathered = record {
        logs = tt;
        targets = tt;
        ended = tt;
        fault =
            weaker_fault (Unit {0}) (List Log) _ (IsLowestFault c.args.max_bytes names known)
            (λ number fault is. subst (λ (n : ℕ). IsLowestFault c.args.max_bytes names known n fault) (sym is.0)
            (fault_read (known_input g.R.Feed.contents) _ _ _ _ _ _ _ so_far same _ _ steps here.0 here.1 fault is.1)) _
            (failed.fault here.0 here.1);
        number =
            weaker_fault (Unit {0}) (List Log) _ (λ number fault. number < length names)
            (λ number fault is. subst (λ (n : ℕ). n < length names) (sym is.0)
            (below_names (known_input g.R.Feed.contents) _ _ _ _ _ _ _ so_far same _ _ steps)) _ (failed.fault here.0 here.1);
      };
      never_out_of_memory = failed.never_out_of_memory;
    })

pub returns : goal.returns
returns g c =
    let same = c.requires.readers ∙ sym (length-map c.args.table.now (λ (log : Log). log.target)) in
    let so_far = c.loop-must_close.invariant in
    let none : length c.loop-must_close.must_close-iterator.rest.items ≡ 0 =
    omega (arith, c.in-None.ensures.steps.0, c.loop-must_close.must_close-iterator.rest.ok) in record {
      gathered = record {
        logs = all_logs (known_input g.R.Feed.contents) _ _ _ _ _ _ _ so_far same none;
        targets = all_of_names (known_input g.R.Feed.contents) _ _ _ _ _ _ _ so_far same none;
        ended = all_whole (known_input g.R.Feed.contents) _ _ _ _ _ _ _ so_far same none;
        fault = tt;
        number = tt;
      };
      never_out_of_memory = tt;
    }
