use Rattle.std.proofs.Common.{◌≡◌, ℕ, Bool, List, Option, count_by, option_map, ap, ◌∙◌}
use Rattle.redo_compare.specs.Changes.{all_or_none}
use Rattle.redo_compare.specs.LogChanges.{diagnostics_in, earlier_diagnostics}
use Rattle.redo_compare.proofs.LogChangeLemmas.{gone-count, new-flags}
use Rattle.redo_compare.proofs.log_changes.compare_log.Goals as goal

pub returns-clause-new : goal.returns-clause-new
returns-clause-new c =
    let earlier = c.args.earlier.now in
    let before : c.occurrences.result.now ≡ all_or_none (earlier_diagnostics earlier c.args.table.now c.args.number) =
    c.occurrences.ensures ∙ c.in_ok-before.ensures
    ∙ ap (λ (other : Option ℕ). all_or_none (option_map (diagnostics_in earlier) other)) c.find_earlier-other.ensures in
    let now : c.occurrences-2.result.now ≡ diagnostics_in c.args.table.now c.args.number =
    c.occurrences-2.ensures ∙ c.in_ok-now.ensures.occurrences in
    new-flags earlier c.args.table.now c.args.number c.occurrences.result.now c.occurrences-2.result.now c.in_ok-changes.changes.new.items
    before now c.in_ok-changes.ensures.new_count c.in_ok-changes.ensures.new

pub returns-clause-gone : goal.returns-clause-gone
returns-clause-gone c =
    let earlier = c.args.earlier.now in
    let before : c.occurrences.result.now ≡ all_or_none (earlier_diagnostics earlier c.args.table.now c.args.number) =
    c.occurrences.ensures ∙ c.in_ok-before.ensures
    ∙ ap (λ (other : Option ℕ). all_or_none (option_map (diagnostics_in earlier) other)) c.find_earlier-other.ensures in
    let now : c.occurrences-2.result.now ≡ diagnostics_in c.args.table.now c.args.number =
    c.occurrences-2.ensures ∙ c.in_ok-now.ensures.occurrences in
    c.count_set.ensures ∙ ap (λ (flags : List Bool). count_by (λ is. is) flags) c.deref.ensures.value
    ∙ gone-count earlier c.args.table.now c.args.number c.occurrences.result.now c.occurrences-2.result.now
    c.in_ok-changes.changes.gone.items before now c.in_ok-changes.ensures.gone_count c.in_ok-changes.ensures.gone
