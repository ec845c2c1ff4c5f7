use Rattle.std.proofs.Common.{None}
use Rattle.redo_outline.specs.Contents.{contents_of}
use Rattle.redo_outline.specs.Facts.{target_status}
use Rattle.redo_outline.proofs.CountLemmas.{all_count_logs}
use Rattle.redo_outline.proofs.laws.nodes_count_logs.Goals as goal

pub returns : goal.returns
returns c = λ logs events. all_count_logs logs (target_status logs events) None 0 (contents_of events)
