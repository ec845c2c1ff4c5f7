use Rattle.std.proofs.Common.{◌<◌, ◌≤◌, ℕ, length, drop, sym, ◌∙◌, ap, subst}
use Rattle.redo_html.specs.declared.style.Style.{Style}
use Rattle.redo_html.specs.Private.Highlighting.{with_wanted, html_from}
use Rattle.redo_html.specs.Style.{restyled}
use Rattle.redo_html.specs.Symbols.{sequence_numbers}
use Rattle.redo_html.specs.Private.Writing.{IsSequence, style_in}
use Rattle.redo_html.proofs.PassageLemmas.{sequence_step}
use Rattle.redo_html.proofs.StyleLemmas.{sequence_style}
use Rattle.redo_html.proofs.SymbolLemmas.{sequence_found, symbol_bounds}
use Rattle.redo_html.proofs.WritingLemmas.{begin_parts}
use Rattle.redo_html.proofs.passage.write_symbol.Goals as goal

pub after_sequence-style-requires : goal.after_sequence-style-requires
after_sequence-style-requires g c =
    subst (IsSequence c.args.bytes.now) (sym c.symbol_at-symbol.ensures.len)
    (sequence_found c.args.kind c.args.bytes.now (sym c.in-None.is ∙ c.symbol_at-symbol.ensures.code_point)).1

pub returns-in-None : goal.returns-in-None
returns-in-None g c =
    let bytes = c.args.bytes.now in
    let kind = c.args.kind in
    let look = c.args.look.now in
    let found = sequence_found kind bytes (sym c.in-None.is ∙ c.symbol_at-symbol.ensures.code_point) in
    let len_is = sym c.symbol_at-symbol.ensures.len in
    let bounds = symbol_bounds kind bytes c.requires in
    record {
      some = subst (λ (n : ℕ). 0 < n) len_is bounds.0;
      within = subst (λ (n : ℕ). n ≤ length bytes) len_is bounds.1;
      wrote = begin_parts _ (html_from kind look bytes) (html_from kind (with_wanted look c.after_sequence-style.result)
          (drop c.symbol_at-symbol.result.1 bytes))
          (ap (λ (s : Style). html_from kind (with_wanted look s) (drop c.symbol_at-symbol.result.1 bytes)) c.after_sequence-style.ensures
          ∙ ap (λ (n : ℕ). html_from kind (with_wanted look (restyled look.wanted (sequence_numbers bytes))) (drop n bytes))
          c.symbol_at-symbol.ensures.len
          ∙ sequence_step kind look bytes (sequence_numbers bytes) c.requires found.0);
      style = ap (λ (s : Style). style_in kind s (drop c.symbol_at-symbol.result.1 bytes)) c.after_sequence-style.ensures
          ∙ ap (λ (n : ℕ). style_in kind (restyled look.wanted (sequence_numbers bytes)) (drop n bytes)) c.symbol_at-symbol.ensures.len
          ∙ sequence_style kind look.wanted bytes c.requires (sequence_numbers bytes) found.0;
    }
