use Rattle.std.proofs.Common.{sym, subst}
use Rattle.redo_line.proofs.PartLemmas.{HasNo}
use Rattle.redo_line.specs.Record.{colon}
use Rattle.redo_diagnostics.proofs.ApartLemmas.{origin_free}
use Rattle.redo_diagnostics.proofs.diagnostic.Diagnostic.key.Goals as goal

pub key_of-requires : goal.key_of-requires
key_of-requires c = subst (HasNo colon) (sym c.origin_of.ensures) (origin_free c.self.inside.head.now)
