use Rattle.std.proofs.Common.{None}
use Rattle.redo_outline.specs.Contents.{contents_of}
use Rattle.redo_outline.specs.Facts.{target_status}
use Rattle.redo_outline.proofs.LawLemmas.{all_sum_up}
use Rattle.redo_outline.proofs.laws.nodes_sum_up_logs_below.Goals as goal

pub returns : goal.returns
returns c = λ logs events. all_sum_up logs (target_status logs events) None 0 (contents_of events)
