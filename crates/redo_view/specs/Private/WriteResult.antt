-- How much of a text was written, depending on the result.
use Rattle.std.specs.Prelude.{ℕ, List, Option, Result, Ok, Err}
use Rattle.redo_device.specs.Sink.{Output}
use Rattle.redo_view.specs.declared.viewer.ViewFault.{ViewFault}
use Rattle.redo_view.specs.declared.viewer.ViewFault.TheVariants.{Unknown, Write, OutOfMemory}
use Rattle.redo_view.specs.Written.{WroteAll, WroteUntilFailed, WrotePrefix}

abbrev pub WroteUntilFault : Option Output → Option Output → List ℕ → ViewFault → Type 0
WroteUntilFault before after text (Unknown place) = ⊥
WroteUntilFault before after text Write = WroteUntilFailed before after text
WroteUntilFault before after text OutOfMemory = WrotePrefix before after text

abbrev pub WroteOrFailed : {A : Type 0} → Option Output → Option Output → List ℕ → Result A ViewFault → Type 0
WroteOrFailed before after text (Ok done) = WroteAll before after text
WroteOrFailed before after text (Err fault) = WroteUntilFault before after text fault
