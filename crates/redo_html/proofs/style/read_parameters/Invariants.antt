use Rattle.std.proofs.Common.{◌≡◌, ◌+◌, ◌≤◌, ℕ, List, ◌++◌, take, drop}
use Rattle.std.specs.Prelude.{fold}
use Rattle.std.specs.List.{prefix_len}
use Rattle.redo_html.specs.Style.{setting_after}
use Rattle.redo_html.specs.Symbols.{is_parameter, numbers_from}
use Rattle.redo_html.proofs.style.read_parameters.Given as goal

-- The bytes so far are parameters. Any bytes after them lead from here to the same state as after them.
abbrev pub invariant-loop-at : goal.invariant-loop-at
invariant-loop-at l = record {
  bound : l.value ≤ 999;
  count : prefix_len is_parameter l.parameters ≡ l.at + prefix_len is_parameter (drop l.at l.parameters);
  same : (rest : List ℕ) → fold setting_after l.setting (numbers_from l.value rest)
      ≡ fold setting_after l.initial.setting (numbers_from 0 (take l.at l.parameters ++ rest));
}
