use Rattle.std.proofs.Common.{subst}
use Rattle.redo_json.specs.declared.kind.Kind.{Kind}
use Rattle.redo_json.specs.Private.LogLines.{IsOfKind}
use Rattle.redo_json.proofs.diagnostics.is_simple.Goals as goal

pub returns-then-has_no_escape : goal.returns-then-has_no_escape
returns-then-has_no_escape c = λ is. record {
  utf8 = subst (λ (kind : Kind). IsOfKind kind c.args.line.now) c.in-Text.is c.requires;
  plain = c.has_no_escape.ensures c.if-has_no_escape.true;
  no_temporary = c.has_no_temporary.ensures is;
}
