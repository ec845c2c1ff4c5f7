-- The text in sections, one for each kind of fact.
use Rattle.std.specs.Prelude.{ℕ, Bool, false, List, [], ◌∷◌, drop, filter, get_or, is_some, map, if◌then◌else◌}
use Rattle.std.specs.List.{flat_map}
use Rattle.redo_diagnostics.specs.Diagnostic.{diagnostic_of}
use Rattle.redo_line.specs.Lines.{with_line_feed}
use Rattle.redo_logs.specs.Logs.{Log}
use Rattle.redo_outline.specs.Facts.{target_at}
use Rattle.redo_outline.specs.declared.node.Node.{Node}
use Rattle.redo_compare.specs.Baseline.{BaselineValue, target_changes}
use Rattle.redo_compare.specs.Rounds.{picked}
use Rattle.redo_new.specs.declared.section.Section.{Section}
use Rattle.redo_new.specs.declared.section.Section.TheVariants.{NewlyFailing, New, Fixed}
use Rattle.redo_new.specs.declared.target.TargetNews.{TargetNews}
use Rattle.redo_new.specs.News.{diagnostic_lines, failing_line, fixed_line, new_line}

abbrev pub line_if : Bool → List ℕ → List (List ℕ)
line_if is line = if is then line ∷ [] else []

-- What is new of the target of a node.
abbrev pub news_at : BaselineValue → List Log → Node → TargetNews
news_at baseline logs node = record { number = node.number; status = node.status; changes = target_changes baseline logs node }

-- The lines of a section about one target.
abbrev pub target_lines : List Log → Section → TargetNews → List (List ℕ)
target_lines logs NewlyFailing news = line_if news.changes.newly_fails (failing_line (target_at logs news.number) news.status)
target_lines logs New news =
    map (new_line (target_at logs news.number)) (picked news.changes.new (diagnostic_lines logs news.number))
target_lines logs Fixed news = line_if news.changes.is_fixed (fixed_line (target_at logs news.number))

abbrev pub section_text : List Log → Section → List TargetNews → List ℕ
section_text logs section targets =
    flat_map (λ (news : TargetNews). flat_map with_line_feed (target_lines logs section news)) targets

abbrev pub new_text : List ℕ → List (List ℕ) → List ℕ
new_text target lines = flat_map with_line_feed (map (new_line target) lines)

-- The line of diagnostic `next`, if its flag is set.
abbrev pub flagged : List Bool → ℕ → List ℕ → List (List ℕ)
flagged flags next line = line_if (get_or flags next false) line

-- The new ones among the diagnostics of these lines, if the flags of the diagnostics from number `next` on are theirs.
abbrev pub new_among : List Bool → ℕ → List (List ℕ) → List (List ℕ)
new_among flags next lines = picked (drop next flags) (filter (λ (line : List ℕ). is_some (diagnostic_of line)) lines)
