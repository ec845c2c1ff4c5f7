use Rattle.std.proofs.Common.{◌≡◌, List, ℕ, [], None, Some, nat_eq, sym, subst}
use Rattle.std.specs.Prelude.{position}
use Rattle.std.proofs.lemmas.Option.{get_or_from_slice_get}
use Rattle.redo_index.specs.Index.{listed_targets, numbers_of}
use Rattle.redo_facts.proofs.TargetLemmas.{found, missing}
use Rattle.redo_facts.proofs.lines.add_line.Goals as goal

pub returns-in_default-get_index_of : goal.returns-in_default-get_index_of
returns-in_default-get_index_of c statements are =
    let stated = c.in-Some.stated in
    let none : position (nat_eq stated.number) (numbers_of c.args.index.now) ≡ None =
    subst (λ (ns : List ℕ). position (nat_eq stated.number) ns ≡ None) c.requires.numbers (sym c.in_default-get_index_of.ensures.index) in
    rw c.in-Some.ensures.some
    (missing (record { number = stated.number; form = stated.form; text = stated.text.now }) statements c.args.index.now c.args.facts.now
    are none)

pub returns : goal.returns
returns c statements are =
    let stated = c.in-Some.stated in
    let i = c.in-Some-get_index_of.i in
    let target = c.name-target.result.now in
    let is : position (nat_eq stated.number) (numbers_of c.args.index.now) ≡ Some i =
    subst (λ (ns : List ℕ). position (nat_eq stated.number) ns ≡ Some i) c.requires.numbers
    (sym c.in-Some-get_index_of.ensures.index) in
    rw c.in-Some.ensures.some (rw c.in_ok-add.ensures
    (found (record { number = stated.number; form = stated.form; text = stated.text.now }) statements c.args.index.now c.args.facts.now
    are i target _ is (get_or_from_slice_get (listed_targets c.args.index.now) i target [] c.name-target.ensures)
    c.requires.index.numbers_differ))
