use Rattle.std.proofs.Common.{[], ◌∷◌, arith, sym, ap, ◌∙◌, subst}
use Rattle.redo_line.specs.Entries.{entries_at_place}
use Rattle.redo_line.specs.Lines.{HasNoLineFeed}
use Rattle.redo_line.specs.declared.entry.Entry.TheVariants.{Text}
use Rattle.redo_line.proofs.EntriesLemmas.{if_ok, only_line, only_one}
use Rattle.redo_line.proofs.entries.Entries.into_entry.Goals as goal

pub overflow_sub-end : goal.overflow_sub-end
overflow_sub-end c =
    let first = sym c.in-Texts.is ∙ c.index.ensures in
    let line = only_line c.self.inside.bytes.items c.self.inside.names.items _ c.args.self _ _ _ _ c.self.invariant.within c.self.view_is
    c.requires first in
    omega (arith, line.0.some)

pub keep_range-line-requires-clause-order : goal.keep_range-line-requires-clause-order
keep_range-line-requires-clause-order c =
    let first = sym c.in-Texts.is ∙ c.index.ensures in
    let line = only_line c.self.inside.bytes.items c.self.inside.names.items _ c.args.self _ _ _ _ c.self.invariant.within c.self.view_is
    c.requires first in
    omega (arith, line.0.some)

pub keep_range-line-requires-clause-end : goal.keep_range-line-requires-clause-end
keep_range-line-requires-clause-end c =
    let first = sym c.in-Texts.is ∙ c.index.ensures in
    let line = only_line c.self.inside.bytes.items c.self.inside.names.items _ c.args.self _ _ _ _ c.self.invariant.within c.self.view_is
    c.requires first in
    omega (arith, line.1)

pub from_vec-requires : goal.from_vec-requires
from_vec-requires c =
    let first = sym c.in-Texts.is ∙ c.index.ensures in
    let line = only_line c.self.inside.bytes.items c.self.inside.names.items _ c.args.self _ _ _ _ c.self.invariant.within c.self.view_is
    c.requires first in
    subst HasNoLineFeed (sym c.keep_range-line.ensures) line.0.no_feed

pub returns-in-Texts : goal.returns-in-Texts
returns-in-Texts c =
    let first = sym c.in-Texts.is ∙ c.index.ensures in
    let line = only_line c.self.inside.bytes.items c.self.inside.names.items _ c.args.self _ _ _ _ c.self.invariant.within c.self.view_is
    c.requires first in
    line.2 ∙ ap (λ l. Text l ∷ []) (sym (c.from_vec.ensures ∙ c.keep_range-line.ensures))

pub returns-in_default : goal.returns-in_default
returns-in_default c =
    let only = only_one c.self.inside.bytes.items c.self.inside.names.items c.self.inside.places.items c.args.self c.index.result.now _
    c.self.invariant.within c.self.view_is c.requires c.index.ensures in
    if_ok c.copy_at.result _ _ (λ entry is. only.1
    ∙ (λ i. entries_at_place (sym c.deref.ensures.value i) (sym c.deref-in_default.ensures.value i) c.index.result.now) ∙ is)
    c.copy_at.ensures
