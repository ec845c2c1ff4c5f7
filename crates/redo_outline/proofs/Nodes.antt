-- A node without known facts: positions past the end have it, and rows update it.
use Rattle.std.specs.Prelude.{false, None}
use Rattle.redo_outline.specs.declared.node.Node.{Node}

abbrev pub no_node : Node
no_node = record {
  number = 0;
  parent = None;
  status = None;
  lines = 0;
  bytes = 0;
  warnings = 0;
  below = 0;
  children = 0;
  others = false;
  warnings_below = 0;
  fails_below = false;
  silent = 0;
  took = None;
  ended = None;
}
