use Rattle.std.proofs.Common.{None, Some, sym, subst}
use Rattle.redo_line.specs.Scan.{Scanned}
use Rattle.redo_line.specs.Source.{source}
use Rattle.redo_gather.specs.Expected.{IsExpectedFor}
use Rattle.redo_gather.proofs.one_stream.read_stream.Goals as goal

pub returns-in-Ok : goal.returns-in-Ok
returns-in-Ok g c =
    let read = c.in-Ok.ensures in
    let contents = g.R.Feed.contents c.args.reader.now in
    subst (λ es. IsExpectedFor c.args.max_bytes (source c.args.target c.args.must_close contents) es None) (sym read.taken)
    (subst (λ (scan : Scanned). IsExpectedFor scan.max_bytes (source scan.target scan.must_close contents) read.entries None)
    c.new-scan.ensures.scan read.expected)

pub returns-in-Err : goal.returns-in-Err
returns-in-Err g c =
    let read = c.in-Err.ensures in
    let contents = g.R.Feed.contents c.args.reader.now in
    subst (λ es. IsExpectedFor c.args.max_bytes (source c.args.target c.args.must_close contents) es (Some c.in-Err.fault)) (sym read.taken)
    (subst (λ (scan : Scanned). IsExpectedFor scan.max_bytes (source scan.target scan.must_close contents) read.entries
    (Some c.in-Err.fault)) c.new-scan.ensures.scan read.expected)
