use Rattle.redo_args.proofs.OneKind.{one_kind_of}
use Rattle.redo_args.specs.NewCommandLine.{redo_log_new}
use Rattle.redo_args.proofs.NewSound.{leaf}
use Rattle.redo_args.proofs.new.words.RedoLogNewCommandLine.is_exact.Goals as goal

pub returns-clause-exact : goal.returns-clause-exact
returns-clause-exact c = leaf.exact

pub returns-clause-one_kind : goal.returns-clause-one_kind
returns-clause-one_kind c = one_kind_of redo_log_new leaf.no_subcommands leaf.leaf
