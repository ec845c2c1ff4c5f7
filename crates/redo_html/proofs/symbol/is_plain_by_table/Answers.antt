use Rattle.std.proofs.Common.{false, refl}
use Rattle.std.specs.Prelude.{slice_index_or}
use Rattle.std.proofs.lemmas.Bool.{agree_below_at}
use Rattle.redo_html.specs.declared.symbol.TheConstants.{PLAIN}
use Rattle.redo_html.specs.Laws.{is_plain}
use Rattle.redo_html.proofs.symbol.is_plain_by_table.Goals as goal

-- Each byte is tried.
pub returns : goal.returns
returns c = agree_below_at (λ b. slice_index_or PLAIN b false) is_plain 256 c.args.byte refl c.ranges.byte.fits
