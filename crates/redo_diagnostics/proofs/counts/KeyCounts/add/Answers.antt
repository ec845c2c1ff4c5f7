use Rattle.std.proofs.Common.{◌≡◌, ℕ, List, Some, cond, ◌∙◌, ap, rules}
use Rattle.std.specs.Map.{lookup}
use Rattle.std.specs.Option.{unwrap_or}
use Rattle.std.specs.Str.{bytes_eq}
use Rattle.indexmap.specs.Entry.{map_with_value}
use Rattle.redo_diagnostics.specs.Counts.{count_in}
use Rattle.redo_diagnostics.proofs.CountLemmas.{counted}
use Rattle.redo_diagnostics.proofs.counts.KeyCounts.add.Goals as goal

pub returns-clause-before : goal.returns-clause-before
returns-clause-before c = λ keys are.
    let view : c.self.inside.counts.entries ≡ c.args.self.now = cc (c.self.view_is) in
    c.or_insert-count.ensures.value ∙ ap (λ found. unwrap_or found 0) c.in_ok-entry.ensures.value
    ∙ ap (λ (entries : List (List ℕ × ℕ)). count_in c.args.key entries) view ∙ are c.args.key

pub returns-clause-counted : goal.returns-clause-counted
returns-clause-counted c = λ keys are.
    let view : c.self.inside.counts.entries ≡ c.args.self.now = cc (c.self.view_is) in
    counted c.args.self.now _ keys c.args.key c.or_insert-count.result.now c.saturating_add.result are
    (c.or_insert-count.ensures.value ∙ ap (λ found. unwrap_or found 0) c.in_ok-entry.ensures.value
    ∙ ap (λ (entries : List (List ℕ × ℕ)). count_in c.args.key entries) view)
    c.saturating_add.ensures
    (λ other.
    let updated : lookup (bytes_eq other) (map_with_value c.in_ok-entry.entry c.saturating_add.result).entries
    ≡ cond (bytes_eq c.args.key other) (Some c.saturating_add.result) (lookup (bytes_eq other) c.args.self.now) =
    (c.in_ok-entry.ensures.update.0 c.saturating_add.result).0 other
    ∙ ap (λ (entries : List (List ℕ × ℕ)). cond (bytes_eq c.args.key other) (Some c.saturating_add.result)
    (lookup (bytes_eq other) entries)) view in
    search (rules, updated, c.in_ok-entry.ensures))
