use Rattle.redo_args.proofs.OneKind.{one_kind_of}
use Rattle.redo_args.specs.JsonCommandLine.{redo_log_json}
use Rattle.redo_args.proofs.JsonSound.{leaf}
use Rattle.redo_args.proofs.json.words.RedoLogJsonCommandLine.is_exact.Goals as goal

pub returns-clause-exact : goal.returns-clause-exact
returns-clause-exact c = leaf.exact

pub returns-clause-one_kind : goal.returns-clause-one_kind
returns-clause-one_kind c = one_kind_of redo_log_json leaf.no_subcommands leaf.leaf
