use Rattle.redo_view.specs.Expansion.{shown_events}
use Rattle.redo_outline.proofs.OnlyTree.{only_tree, opens_logs}
use Rattle.redo_outline.proofs.laws.tree_is_unique.Goals as goal

pub returns : goal.returns
returns c = record {
  exists = λ logs options requested known. record {
    has_events = c.events_are_in_contents.ensures logs options requested known;
    opens_logs = opens_logs (shown_events logs options requested);
  };
  only = only_tree;
}
