use Rattle.std.proofs.Common.{◌≡◌, ◌+◌, ◌-◌, Bool, ℕ, List, length, take, drop, sym, ◌∙◌, ap, arith}
use Rattle.std.specs.Prelude.{◌==◌, ◌||◌, slice_index}
use Rattle.std.specs.List.{prefix_len}
use Rattle.std.proofs.lemmas.List.{take_rest}
use Rattle.redo_html.specs.Symbols.{is_parameter, parameter_count, final_byte}
use Rattle.redo_html.proofs.SymbolLemmas.{no_escape, no_bracket, no_final, all_parts}
use Rattle.redo_html.proofs.symbol.sequence_size.Goals as goal

-- The number of parameters, as the function finds it.
count_is : (bytes : List ℕ) (count : ℕ) → count ≡ prefix_len is_parameter (take (length bytes - 2) (drop 2 bytes))
    → count ≡ parameter_count bytes
count_is bytes count is = is ∙ ap (prefix_len is_parameter) (take_rest bytes 2)

final_is : (bytes : List ℕ) (count byte : ℕ) (test : Bool) → count ≡ prefix_len is_parameter (take (length bytes - 2) (drop 2 bytes))
    → byte ≡ slice_index bytes (2 + count) → test ≡ (byte == 109 || byte == 75) → (final_byte bytes == 109 || final_byte bytes == 75) ≡ test
final_is bytes count byte test count_found byte_found tested =
    ap (λ (b : ℕ). b == 109 || b == 75) (sym (byte_found ∙ ap (λ (n : ℕ). slice_index bytes (2 + n)) (count_is bytes count count_found)))
    ∙ sym tested

pub returns-then-byte_at-ne27 : goal.returns-then-byte_at-ne27
returns-then-byte_at-ne27 c = no_escape c.args.bytes.now (λ is. c.if-byte_at-ne27.true (c.byte_at.ensures ∙ is))

pub returns-then-byte_at-ne91 : goal.returns-then-byte_at-ne91
returns-then-byte_at-ne91 c = c.link_size.ensures ∙ no_bracket c.args.bytes.now (λ is. c.if-byte_at-ne91.true (c.byte_at-2.ensures ∙ is))

pub returns-then-is_final : goal.returns-then-is_final
returns-then-is_final c =
    let bytes = c.args.bytes.now in
    let count = c.parameters_len-end.result in
    let is : count ≡ parameter_count bytes = count_is bytes count c.parameters_len-end.ensures.value in
    let same : 2 + count + 1 ≡ 3 + parameter_count bytes = omega (arith, is) in
    same ∙ all_parts bytes (sym c.byte_at.ensures ∙ c.if-byte_at-ne27.false) (sym c.byte_at-2.ensures ∙ c.if-byte_at-ne91.false)
    (final_is bytes count c.byte_at-3.result c.is_final.result c.parameters_len-end.ensures.value c.byte_at-3.ensures c.is_final.ensures
    ∙ c.if-is_final.true)

pub returns-else-is_final : goal.returns-else-is_final
returns-else-is_final c =
    no_final c.args.bytes.now (sym c.byte_at-2.ensures ∙ c.if-byte_at-ne91.false)
    (final_is c.args.bytes.now c.parameters_len-end.result c.byte_at-3.result c.is_final.result
    c.parameters_len-end.ensures.value c.byte_at-3.ensures c.is_final.ensures ∙ c.if-is_final.false)
