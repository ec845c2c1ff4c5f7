use Rattle.redo_outline.specs.Contents.{contents_of}
use Rattle.redo_outline.specs.Facts.{target_status}
use Rattle.redo_outline.proofs.CountLemmas.{all_count_children}
use Rattle.redo_outline.proofs.laws.nodes_count_children.Goals as goal

pub returns : goal.returns
returns c = λ logs events. all_count_children logs (target_status logs events) (contents_of events)
