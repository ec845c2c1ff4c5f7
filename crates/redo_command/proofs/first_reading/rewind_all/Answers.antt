use Rattle.std.proofs.Common.{◌≡◌, ◌+◌, [], ◌∷◌, ◌++◌, length, map, take, refl, sym, ap, ◌∙◌, arith, subst}
use Rattle.std.proofs.lemmas.List.{append_assoc, length-append, take_all}
use Rattle.redo_command.specs.Logs.{AllGive, known_logs}
use Rattle.redo_command.proofs.LogLemmas.{give_next, known_logs-length}
use Rattle.redo_command.proofs.first_reading.rewind_all.Given as given
use Rattle.redo_command.proofs.first_reading.rewind_all.Goals as goal

pub loop-reading-init : goal.loop-reading-init
loop-reading-init g c = record {
  readings = c.into_iter-reading-iterator.ensures.into_iter_gives.0;
  number = refl;
  count = ap length c.in_ok-logs.ensures.items;
  give = subst (λ items. AllGive [] (map g.L.Log.Feed.contents items)) (sym c.in_ok-logs.ensures.items) tt;
}

pub loop-reading-preserved : goal.loop-reading-preserved
loop-reading-preserved g c =
    let kept = c.loop-reading.invariant in
    let yielded = c.loop-reading.yielded in
    let reading = c.in-Some.reading in
    let known = g.L.OpenLog.known c.args.files.now in
    let more = give_next g.L.Log.Feed.contents known c.args.index.now c.loop-reading.i c.fid.result c.loop-reading.logs.items
    c.rewind.new.log c.fid.ensures kept.give c.rewind.ensures in record {
      readings = append_assoc yielded (reading ∷ []) c.next.new.self.rest.items
          ∙ ap (λ rest. yielded ++ rest) (sym c.in-Some.ensures.steps.0) ∙ kept.readings;
      number = omega (arith, kept.number, length-append yielded (reading ∷ []));
      count = ap length c.in_ok-push.ensures.items ∙ search (arith, kept.count, length-append);
      give = subst (λ items. AllGive (take (c.loop-reading.i + 1) (known_logs known c.args.index.now)) (map g.L.Log.Feed.contents items))
          (sym c.in_ok-push.ensures.items) more;
    }

pub overflow_add-i : goal.overflow_add-i
overflow_add-i g c =
    let kept = c.loop-reading.invariant in
    let rest = c.loop-reading.reading-iterator.rest.items in
    let total : length (c.loop-reading.yielded ++ rest) ≡ length c.args.readings.items = ap length kept.readings in
    let one : length rest ≡ length (c.in-Some.reading ∷ c.next.new.self.rest.items) = ap length c.in-Some.ensures.steps.0 in
    omega (arith, total, one, length-append c.loop-reading.yielded rest, kept.number, c.requires, c.len.ensures.len, c.len.type_inv)

-- All logs were read.
all_read : (g : given.Over) (c : goal.After-drop-reading-iterator-2 g) → c.loop-reading.i ≡ length c.args.index.now
all_read g c =
    let kept = c.loop-reading.invariant in
    let rest = c.loop-reading.reading-iterator.rest.items in
    let total : length (c.loop-reading.yielded ++ rest) ≡ length c.args.readings.items = ap length kept.readings in
    let none : length rest ≡ 0 = omega (arith, c.in-None.ensures.steps.0, c.loop-reading.reading-iterator.rest.ok) in
    omega (arith, total, none, length-append c.loop-reading.yielded rest, kept.number, c.requires)

pub returns-clause-given : goal.returns-clause-given
returns-clause-given g c =
    let known = g.L.OpenLog.known c.args.files.now in
    subst (λ logs. AllGive logs (map g.L.Log.Feed.contents c.loop-reading.logs.items))
    (take_all c.loop-reading.i (known_logs known c.args.index.now)
    (omega (arith, known_logs-length known c.args.index.now, all_read g c))) c.loop-reading.invariant.give

pub returns-clause-count : goal.returns-clause-count
returns-clause-count g c = c.loop-reading.invariant.count ∙ all_read g c
