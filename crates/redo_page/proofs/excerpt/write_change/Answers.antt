use Rattle.std.proofs.Common.{sym, subst, Bool, true}
use Rattle.redo_page.specs.declared.excerpt.OpenStretch.{OpenStretch}
use Rattle.redo_page.specs.Private.Excerpting.{change_parts}
use Rattle.redo_page.specs.Private.Writing.{WroteParts}
use Rattle.redo_page.proofs.WriterLemmas.{wrote_then}
use Rattle.redo_page.proofs.excerpt.write_change.Goals as goal

pub returns-in-LeftOut-true : goal.returns-in-LeftOut-true
returns-in-LeftOut-true g c =
    let wrote = wrote_then c.write_left_out.ensures c.put-in-LeftOut-true.ensures in
    subst (λ (shown : Bool). WroteParts g.W.Sink.written c.args.page.now c.put-in-LeftOut-true.new.self
    (change_parts c.args.position c.args.current shown)) (sym c.in-LeftOut-true.is-1)
    (subst (λ (current : OpenStretch). WroteParts g.W.Sink.written c.args.page.now c.put-in-LeftOut-true.new.self
    (change_parts c.args.position current true)) (sym c.in-LeftOut-true.is-0) wrote)
