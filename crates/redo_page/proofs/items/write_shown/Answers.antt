use Rattle.redo_page.proofs.ShownLemmas.{alone_parts}
use Rattle.redo_page.specs.Private.Referring.{build_value}
use Rattle.redo_page.proofs.items.write_shown.Goals as goal

pub returns : goal.returns
returns g c = rw (alone_parts (build_value c.args.build.now) c.args.level c.args.pending c.args.event c.requires) c.write_item.ensures
