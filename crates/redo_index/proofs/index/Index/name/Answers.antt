use Rattle.std.proofs.Common.{◌≡◌, ◌<◌, ℕ, List, is_some, true, false, length, slice_get, ap, sym, ◌∙◌, arith}
use Rattle.std.specs.Option.{option_map}
use Rattle.std.proofs.lemmas.Option.{slice_get-map}
use Rattle.redo_index.specs.declared.index.TargetLog.{TargetLog}
use Rattle.redo_index.proofs.IndexEntries.{index_facts}
use Rattle.redo_index.proofs.index.Index.name.Goals as goal

pub unreachable-requires : goal.unreachable-requires
unreachable-requires c =
    let count = (index_facts _ _ c.self.view_is c.self.invariant).count in
    let within : c.args.i < length c.self.inside.targets.entries = omega (arith, c.requires, count) in
    let no : true ≡ false = sym (c.get_index.ensures.found.1 within) ∙ ap is_some c.in-None.is in
    absurd (cc)

pub returns : goal.returns
returns c =
    let entries = c.self.inside.targets.entries in
    ap (λ names. slice_get names c.args.i) (index_facts _ _ c.self.view_is c.self.invariant).names_are
    ∙ slice_get-map (λ entry. entry.0) entries c.args.i
    ∙ ap (option_map (λ (entry : List ℕ × TargetLog). entry.0)) (sym (rw c.in-Some.is at c.get_index.ensures.entry))
