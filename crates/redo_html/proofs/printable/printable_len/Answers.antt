use Rattle.std.proofs.Common.{◌∙◌, ap, subst, sym, ℕ, List}
use Rattle.std.proofs.lemmas.List.{take_rest}
use Rattle.redo_html.specs.declared.text_kind.TextKind.TheVariants.{Monochrome}
use Rattle.redo_html.specs.Symbols.{first_symbol, symbol_len}
use Rattle.redo_html.specs.Private.Writing.{symbol_code_point}
use Rattle.redo_html.proofs.PrintableLemmas.{Found, found_at}
use Rattle.redo_html.proofs.printable.printable_len.Goals as goal

pub returns : goal.returns
returns c =
    let name = c.args.name.now in
    let code_point = c.symbol_at-code_point.ensures.code_point
    ∙ ap (λ (b : List ℕ). symbol_code_point (first_symbol Monochrome b)) (take_rest name c.args.at) in
    let len = c.symbol_at-code_point.ensures.len ∙ ap (symbol_len Monochrome) (take_rest name c.args.at) in
    let found = found_at name c.args.at c.symbol_at-code_point.result.1 c.symbol_at-code_point.result.0 c.is_visible.result c.requires
    code_point len c.is_visible.ensures.some c.is_visible.ensures.none in
    let is = subst (Found name c.args.at) (sym c.len_if.ensures) found in record { within = is.within; printable = is.printable }
