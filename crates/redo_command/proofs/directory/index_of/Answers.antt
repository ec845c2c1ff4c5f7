use Rattle.std.proofs.Common.{rules}
use Rattle.redo_command.proofs.Results.{not_read}
use Rattle.redo_command.proofs.directory.index_of.Goals as goal

pub returns-in_err-bytes-clause-read : goal.returns-in_err-bytes-clause-read
returns-in_err-bytes-clause-read g c =
    rw c.in-Ok.is
    (not_read _ (g.F.Feed.contents c.in-Ok.reader) c.from_residual.result c.in_err-bytes.field-0.0 c.from_residual.ensures.1
    c.in_err-bytes.ensures.either c.in_err-bytes.ensures.unreadable)

pub returns-clause-read : goal.returns-clause-read
returns-clause-read g c = search rules
