use Rattle.std.proofs.Common.{rules, ◌≡◌, ◌<◌, ◌≤◌, ◌+◌, ◌%◌, ℕ, Bool, List, ◌∷◌, [], ◌++◌, Some, length, map, slice_get, slice_set, refl, sym, ap, ◌∙◌, subst, arith}
use Rattle.std.specs.Option.{option_map}
use Rattle.std.proofs.lemmas.List.{append_assoc, length-append, length-map, map_push, map-set}
use Rattle.std.proofs.lemmas.Option.{slice_get-map}
use Rattle.std.proofs.lemmas.Result.{IfOk-from_err}
use Rattle.redo_line.specs.Source.{source, sources}
use Rattle.redo_logs.specs.Logs.{targets_of}
use Rattle.redo_gather.specs.Private.Distribution.{AreDistributed}
use Rattle.redo_gather.specs.Streams.{known_input}
use Rattle.redo_gather.proofs.DistributionLemmas.{all_distributed, at_index, none_distributed, one_distributed, sources-none, sources-push}
use Rattle.redo_gather.proofs.gathering.distribute.Goals as goal

pub loop-must_close-init : goal.loop-must_close-init
loop-must_close-init g c = (
  refl,
  sym c.into_iter-must_close-iterator.ensures.into_iter_gives.0,
  subst (λ given. AreDistributed g.R.Feed.contents c.args.senders given (map (λ share. share.items) c.in_ok-shares.shares.items))
      (sym (sources-none (targets_of c.args.table.now) [] refl))
      (none_distributed g.R.Feed.contents c.args.senders (map (λ share. share.items) c.in_ok-shares.shares.items) c.in_ok-shares.ensures),
)

pub overflow_add-number : goal.overflow_add-number
overflow_add-number g c =
    let kept = c.loop-must_close.invariant in
    let below : c.loop-must_close.number + 1 ≤ 1048575 =
    omega (
      arith,
      kept.0,
      ap length kept.1,
      ap length c.in-Some.ensures.steps.0,
      length-append c.loop-must_close.yielded c.loop-must_close.must_close-iterator.rest.items,
      c.requires.size,
    ) in
    search (rules, below)

pub loop-must_close-preserved : goal.loop-must_close-preserved
loop-must_close-preserved g c =
    let kept = c.loop-must_close.invariant in
    let contents = known_input g.R.Feed.contents in
    let yielded = c.loop-must_close.yielded in
    let reader : Bool × g.row.R.Denot = (c.in-Some.must_close, c.in-Some.reader) in
    let number = c.loop-must_close.number in
    let shares = c.loop-must_close.shares.items in
    let targets = targets_of c.args.table.now in
    let item : ℕ × List ℕ × Bool × g.row.R.Denot = (number, c.in_ok-target.target, c.in-Some.must_close, c.in-Some.reader) in
    let here : slice_get targets (length (map contents yielded)) ≡ Some c.in_ok-target.target =
    ap (slice_get targets) (length-map yielded contents ∙ sym kept.0) ∙ c.name.ensures ∙ ap Some (sym c.in_ok-target.ensures) in
    let pushed = sources-push targets (map contents yielded) c.in_ok-target.target (contents reader) here in
    let number_is : length (sources targets (map contents yielded)) ≡ number = pushed.1 ∙ length-map yielded contents ∙ sym kept.0 in
    let within : number % c.args.senders < length shares =
    omega (
      arith,
      ap length kept.1,
      ap length c.in-Some.ensures.steps.0,
      length-append yielded c.loop-must_close.must_close-iterator.rest.items,
      c.requires.senders,
      kept.2.0,
      length-map shares (λ share. share.items),
    ) in
    let there = slice_get-map (λ share. share.items) shares (number % c.args.senders)
    ∙ ap (option_map (λ share. share.items))
    (at_index shares (number % c.args.senders) c.index_mut.result.now within c.index_mut.ensures.value) in
    let distributed =
    one_distributed g.R.Feed.contents c.args.senders (sources targets (map contents yielded)) (map (λ share. share.items) shares)
    (source c.in_ok-target.target c.in-Some.must_close (g.R.Feed.contents c.in-Some.reader)) item c.index_mut.result.now.items
    c.push.new.self.items
    (λ i. (sym number_is i, (source c.in_ok-target.target c.in-Some.must_close (g.R.Feed.contents c.in-Some.reader))))
    (ap (λ n. slice_get (map (λ share. share.items) shares) (n % c.args.senders)) number_is ∙ there) c.in_ok-push.ensures.items kept.2 in (
      omega (arith, kept.0, length-append yielded (reader ∷ [])),
      kept.1 ∙ ap (λ left. yielded ++ left) c.in-Some.ensures.steps.0 ∙ sym (append_assoc yielded (reader ∷ []) c.next.new.self.rest.items),
      subst (AreDistributed g.R.Feed.contents c.args.senders (sources targets (map contents (yielded ++ reader ∷ []))))
          (ap (λ n. slice_set (map (λ share. share.items) shares) (n % c.args.senders) c.push.new.self.items) number_is
          ∙ sym (map-set (λ share. share.items) shares (number % c.args.senders) c.push.new.self))
          (subst (λ given. AreDistributed g.R.Feed.contents c.args.senders given
          (slice_set (map (λ share. share.items) shares)
          (length (sources targets (map contents yielded)) % c.args.senders) c.push.new.self.items))
          (sym (ap (sources targets) (map_push contents yielded reader) ∙ pushed.0)) distributed),
    )

pub returns-in_err-shares : goal.returns-in_err-shares
returns-in_err-shares g c = IfOk-from_err _ _ c.from_residual.ensures.0

pub returns-in_err-target : goal.returns-in_err-target
returns-in_err-target g c = IfOk-from_err _ _ c.from_residual-in_err-target.ensures.0

pub returns-in_err-push : goal.returns-in_err-push
returns-in_err-push g c = IfOk-from_err _ _ c.from_residual-in_err-push.ensures.0

pub name-requires : goal.name-requires
name-requires g c =
    let kept = c.loop-must_close.invariant in
    omega (
      arith,
      kept.0,
      ap length kept.1,
      ap length c.in-Some.ensures.steps.0,
      length-append c.loop-must_close.yielded c.loop-must_close.must_close-iterator.rest.items,
      c.requires.readers,
    )

pub nonzero_rem-sender : goal.nonzero_rem-sender
nonzero_rem-sender g c =
    let kept = c.loop-must_close.invariant in
    let some : 0 < length c.args.readers.items =
    omega (
      arith,
      ap length kept.1,
      ap length c.in-Some.ensures.steps.0,
      length-append c.loop-must_close.yielded c.loop-must_close.must_close-iterator.rest.items,
    ) in
    c.requires.senders some

pub index_mut-requires : goal.index_mut-requires
index_mut-requires g c =
    let kept = c.loop-must_close.invariant in
    let shares = c.loop-must_close.shares.items in
    let within : c.loop-must_close.number % c.args.senders < length shares =
    omega (
      arith,
      ap length kept.1,
      ap length c.in-Some.ensures.steps.0,
      length-append c.loop-must_close.yielded c.loop-must_close.must_close-iterator.rest.items,
      c.requires.senders,
      kept.2.0,
      length-map shares (λ share. share.items),
    ) in
    omega (arith, within, c.loop-must_close.shares.ok)

pub returns : goal.returns
returns g c =
    let kept = c.loop-must_close.invariant in
    let left = c.loop-must_close.must_close-iterator.rest in
    let none : length left.items ≡ 0 = omega (arith, c.in-None.ensures.steps.0, left.ok) in
    subst (λ read. AreDistributed g.R.Feed.contents c.args.senders
    (sources (targets_of c.args.table.now) (map (known_input g.R.Feed.contents) read))
    (map (λ share. share.items) c.loop-must_close.shares.items))
    (all_distributed c.args.readers.items c.loop-must_close.yielded left.items kept.1 none) kept.2
