use Rattle.std.proofs.Common.{refl}
use Rattle.redo_html.specs.StyleSheet.{style_sheet}
use Rattle.redo_html.proofs.laws.style_sheet_is_harmless.Goals as goal

pub returns-clause-loads : goal.returns-clause-loads
unfolding style_sheet
returns-clause-loads c = record { functions = refl; rules = refl; bytes = refl }

pub returns-clause-hides : goal.returns-clause-hides
unfolding style_sheet
returns-clause-hides c = record { words = refl; rules = refl }
