-- Arguments, and a command to which they are added.
use Rattle.std.proofs.Common.{◌≡◌, ◌∙◌, List, [], ◌∷◌, Result, Ok, IfOk, IsErrAnd, ap, false, map, refl, subst, sym}
use Rattle.std.specs.Prelude.{MatchResult}
use Rattle.std.specs.Global.{Vec}
use Rattle.std.proofs.lemmas.Result.{IfOk-weaker}
use Rattle.std.specs.List.{AllByRecursion}
use Rattle.clap.specs.Built.{AddsArg, AddsInTurn}
use Rattle.clap.specs.Simple.{app_of}
use Rattle.clap.specs.Walk.{Rule, rule_of}
use Rattle.clap.specs.declared.builder.arg.Arg.{Arg}
use Rattle.clap.specs.declared.builder.command.Command.{Command}
use Rattle.redo_args.specs.CommandLine.{with_rules}
use Rattle.redo_args.specs.Private.Arguments.{AreArguments}
use Rattle.redo_args.proofs.ErrorLemmas.{map_err_if_ok}

-- A command to which arguments were added one after another has their rules.
each_added : (old new : Command) (arguments : List Arg) → AllByRecursion (λ argument. argument.global ≡ false) arguments
    → AddsInTurn AddsArg old arguments new
    → app_of new ≡ with_rules (map rule_of arguments) (app_of old)
each_added old new [] local is = ap app_of (sym is)
each_added old new (argument ∷ rest) local (middle, added, more) =
    each_added middle new rest local.1 more ∙ ap (with_rules (map rule_of rest)) (added.shape local.0)

pub added : (rules : List Rule) (old new : Command) (arguments : List Arg) → AreArguments rules arguments
    → AddsInTurn AddsArg old arguments new → app_of new ≡ with_rules rules (app_of old)
added rules old new arguments are adds =
    each_added old new arguments are.1 adds ∙ ap (λ (all : List Rule). with_rules all (app_of old)) are.0

-- ---- a vector of arguments

-- Arguments with these rules.
pub record Listed (rules : List Rule) : Type 0 where
  pub arguments : List Arg
  pub are : AreArguments rules arguments

abbrev pub none : Listed []
none = record { arguments = []; are = (refl, tt) }

abbrev pub one_more : {rule : Rule} {rules : List Rule} (argument : Arg) → rule_of argument ≡ rule → argument.global ≡ false → Listed rules
    → Listed (rule ∷ rules)
one_more argument is local more =
    record { arguments = argument ∷ more.arguments; are = (rw (is, more.are.0) refl, (local, more.are.1)) }

-- Arguments that `vec!` stores, once its error is converted.
pub collected : {E F : Type 0} (rules : List Rule) (listed : Listed rules) (vec : Result (Vec Arg) E) (Maps : E → F → Type 0)
    (result : Result (Vec Arg) F) → MatchResult vec (λ x. result ≡ Ok x) (λ e. IsErrAnd result (Maps e))
    → IfOk vec (λ v. v.items ≡ listed.arguments) → IfOk result (λ v. AreArguments rules v.items)
collected rules listed vec Maps result mapped stored =
    map_err_if_ok vec Maps result mapped _ (IfOk-weaker vec _ _ (λ v is. subst (AreArguments rules) (sym is) listed.are) stored)
