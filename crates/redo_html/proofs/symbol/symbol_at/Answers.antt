use Rattle.std.proofs.Common.{◌<◌, ℕ, Some, sym, ◌∙◌, ap, subst, inl, inr, arith}
use Rattle.redo_html.proofs.SymbolLemmas.{sequence_symbol, code_point_symbol}
use Rattle.redo_html.proofs.symbol.symbol_at.Goals as goal

pub returns-then-not-is_log-clause-code_point : goal.returns-then-not-is_log-clause-code_point
returns-then-not-is_log-clause-code_point c =
    ap (λ (n : ℕ). Some n) c.code_point_at-code_point.ensures.code_point
    ∙ (code_point_symbol c.args.kind c.args.bytes.now (inl (sym c.is_log.ensures ∙ c.if-not-is_log.true))).0

pub returns-then-not-is_log-clause-len : goal.returns-then-not-is_log-clause-len
returns-then-not-is_log-clause-len c =
    c.code_point_at-code_point.ensures.len
    ∙ (code_point_symbol c.args.kind c.args.bytes.now (inl (sym c.is_log.ensures ∙ c.if-not-is_log.true))).1

pub returns-then-len-gt0-clause-code_point : goal.returns-then-len-gt0-clause-code_point
returns-then-len-gt0-clause-code_point c =
    (sequence_symbol c.args.kind c.args.bytes.now (sym c.is_log.ensures ∙ c.if-not-is_log.false)
    (subst (λ (n : ℕ). 0 < n) c.sequence_size-len.ensures c.if-len-gt0.true)).0

pub returns-then-len-gt0-clause-len : goal.returns-then-len-gt0-clause-len
returns-then-len-gt0-clause-len c =
    c.sequence_size-len.ensures ∙ (sequence_symbol c.args.kind c.args.bytes.now (sym c.is_log.ensures ∙ c.if-not-is_log.false)
    (subst (λ (n : ℕ). 0 < n) c.sequence_size-len.ensures c.if-len-gt0.true)).1

pub returns-clause-code_point : goal.returns-clause-code_point
returns-clause-code_point c = let none = c.if-len-gt0.false in
    ap (λ (n : ℕ). Some n) c.code_point_at-code_point-2.ensures.code_point
    ∙ (code_point_symbol c.args.kind c.args.bytes.now (inr (omega (arith, sym c.sequence_size-len.ensures)))).0

pub returns-clause-len : goal.returns-clause-len
returns-clause-len c = let none = c.if-len-gt0.false in
    c.code_point_at-code_point-2.ensures.len
    ∙ (code_point_symbol c.args.kind c.args.bytes.now (inr (omega (arith, sym c.sequence_size-len.ensures)))).1
