use Rattle.std.proofs.lemmas.Grind.{common_steps}
use Rattle.std.proofs.Common.{inr, sym, ap, ◌≡◌, ◌∙◌, ◌+◌, ◌<◌, ◌≤◌, ◌++◌, ◌∷◌, [], false, Option, None, Some, is_some, if◌then◌else◌, length, nat_eq, arith, refl}
use Rattle.std.specs.Cmp.Lexicographic.{pointwise}
use Rattle.std.specs.List.{list_any}
use Rattle.std.proofs.lemmas.Bool.{not-true}
use Rattle.indexmap.proofs.CallerLemmas.{insert_entry-new}
use Rattle.redo_index.specs.Index.{max_targets}
use Rattle.redo_index.proofs.Adding.{name_twice, one_more, too_many}
use Rattle.redo_index.proofs.index.add.Goals as goal

pub returns-then-is_some-clause-fault : goal.returns-then-is_some-clause-fault
returns-then-is_some-clause-fault c index holds =
    let form = sym c.in_ok-number.ensures ∙ c.in-Some.is in
    let new_number = not-true (list_any (nat_eq c.in-Some.field-0.number) c.args.numbers.now.keys)
    (sym c.in_ok-differs.ensures.added ∙ c.if-not-differs.false) in
    let old_name = ap is_some (sym c.in_ok-insert.ensures.old) ∙ sym c.is_some.ensures ∙ c.if-is_some.true in
    inr (rw (c.len.ensures.len) (name_twice c.args.numbers.now.keys c.args.targets.now.entries index holds c.args.line.now
    c.in-Some.field-0.number c.in-Some.field-0.target c.in-Some.field-0.must_close form new_number old_name))

pub returns-then-len-gt-MAX_TARGETS-clause-fault : goal.returns-then-len-gt-MAX_TARGETS-clause-fault
returns-then-len-gt-MAX_TARGETS-clause-fault c index holds =
    let form = sym c.in_ok-number.ensures ∙ c.in-Some.is in
    let new_number = not-true (list_any (nat_eq c.in-Some.field-0.number) c.args.numbers.now.keys)
    (sym c.in_ok-differs.ensures.added ∙ c.if-not-differs.false) in
    let none = sym c.is_some.ensures ∙ c.if-is_some.false in
    let new_name = ap is_some (sym c.in_ok-insert.ensures.old) ∙ none in
    let grown = rw none at c.in_ok-insert.ensures.len in
    let many : max_targets < length c.args.targets.now.entries + 1 =
    omega (arith, c.if-len-gt-MAX_TARGETS.true, c.len-2.ensures.len, grown) in
    inr (too_many c.args.numbers.now.keys c.args.targets.now.entries index holds c.args.line.now c.in-Some.field-0.number
    c.in-Some.field-0.target c.in-Some.field-0.must_close form new_number new_name many)

is_none : {A : Type 0} (found : Option A) → is_some found ≡ false → found ≡ None
is_none None none = refl
is_none (Some x) none = absurd (cc)

pub returns-clause-holds : goal.returns-clause-holds
returns-clause-holds c index holds =
    let form = sym c.in_ok-number.ensures ∙ c.in-Some.is in
    let numbers = c.args.numbers.now.keys in
    let number = c.in-Some.field-0.number in
    let new_number = not-true (list_any (nat_eq number) numbers) (sym c.in_ok-differs.ensures.added ∙ c.if-not-differs.false) in
    let none = sym c.is_some.ensures ∙ c.if-is_some.false in
    let new_name = ap is_some (sym c.in_ok-insert.ensures.old) ∙ none in
    let grown = rw none at c.in_ok-insert.ensures.len in
    let few : length c.args.targets.now.entries + 1 ≤ max_targets =
    omega (arith, c.if-len-gt-MAX_TARGETS.false, c.len-2.ensures.len, grown) in
    one_more numbers c.args.targets.now.entries index holds c.args.line.now number c.in-Some.field-0.target c.in-Some.field-0.must_close
    form new_number new_name few c.insert_full.new.self.keys c.insert.new.self.entries
    (c.in_ok-differs.ensures.keys ∙ ap (λ b. if b then numbers else numbers ++ number ∷ []) new_number)
    (c.in_ok-insert.ensures.entries ∙ insert_entry-new (pointwise nat_eq) c.args.targets.now c.in-Some.field-0.target
    (record { number = number; must_close = c.in-Some.field-0.must_close }) (is_none _ new_name))
    c.in_ok-differs.ensures.unique c.in_ok-insert.ensures.unique

pub returns-in_default-clause-fault : goal.returns-in_default-clause-fault
returns-in_default-clause-fault c = grind (arith, common_steps)

pub returns-in_default-clause-holds : goal.returns-in_default-clause-holds
returns-in_default-clause-holds c = grind (arith, common_steps)
