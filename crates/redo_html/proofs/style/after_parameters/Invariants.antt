use Rattle.std.proofs.Common.{◌≡◌, ◌≤◌, drop}
use Rattle.std.specs.Prelude.{fold}
use Rattle.redo_html.specs.Style.{setting_after}
use Rattle.redo_html.specs.Symbols.{numbers_from}
use Rattle.redo_html.proofs.style.after_parameters.Given as goal

-- The rest of the parameters leads from here to where all parameters lead.
abbrev pub invariant-loop-byte : goal.invariant-loop-byte
invariant-loop-byte l = record {
  bound : l.value ≤ 999;
  same : fold setting_after l.setting (numbers_from l.value (drop l.byte-index l.parameters))
      ≡ fold setting_after l.initial.setting (numbers_from 0 l.parameters);
}
