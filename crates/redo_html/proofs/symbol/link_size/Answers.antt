use Rattle.std.proofs.Common.{◌≡◌, ◌+◌, ◌-◌, ◌<◌, ℕ, true, List, length, take, drop, sym, ◌∙◌, ap, arith}
use Rattle.std.specs.Prelude.{◌==◌, slice_index}
use Rattle.std.specs.List.{list_any, prefix_len}
use Rattle.std.proofs.lemmas.List.{take_rest}
use Rattle.redo_html.specs.Symbols.{is_link_byte, link_text_len, link_text, end_len, link_end_len}
use Rattle.redo_html.proofs.SymbolLemmas.{no_link_end, link_parts}
use Rattle.redo_html.proofs.symbol.link_size.Goals as goal

-- The number of bytes of the text, and of the end, as the function finds them.
count_is : (bytes : List ℕ) (count : ℕ) → count ≡ prefix_len is_link_byte (take (length bytes - 4) (drop 4 bytes))
    → count ≡ link_text_len bytes
count_is bytes count is = is ∙ ap (prefix_len is_link_byte) (take_rest bytes 4)

end_is : (bytes : List ℕ) (count byte next size : ℕ) → count ≡ link_text_len bytes → byte ≡ slice_index bytes (4 + count)
    → next ≡ slice_index bytes (4 + count + 1) → size ≡ end_len byte next → size ≡ link_end_len bytes
end_is bytes count byte next size counted byte_found next_found found =
    let last : 4 + count + 1 ≡ 5 + link_text_len bytes = omega (arith, counted) in
    found ∙ ap (λ (b : ℕ). end_len b next) (byte_found ∙ ap (λ (n : ℕ). slice_index bytes (4 + n)) counted)
    ∙ ap (end_len (slice_index bytes (4 + link_text_len bytes))) (next_found ∙ ap (slice_index bytes) last)

text_is : (bytes : List ℕ) (count : ℕ) → count ≡ link_text_len bytes → take (4 + count - 4) (drop 4 bytes) ≡ link_text bytes
text_is bytes count counted =
    let size : 4 + count - 4 ≡ link_text_len bytes = omega (arith, counted) in ap (λ (n : ℕ). take n (drop 4 bytes)) size

pub returns-then-end_size-eq0 : goal.returns-then-end_size-eq0
returns-then-end_size-eq0 c =
    let bytes = c.args.bytes.now in
    let counted = count_is bytes c.link_bytes_len-end.result c.link_bytes_len-end.ensures.value in
    no_link_end bytes (sym (end_is bytes c.link_bytes_len-end.result c.byte_at.result c.byte_at-2.result c.link_end_size-end_size.result
    counted c.byte_at.ensures c.byte_at-2.ensures c.link_end_size-end_size.ensures) ∙ c.if-end_size-eq0.true)

pub returns-else-end_size-eq0 : goal.returns-else-end_size-eq0
returns-else-end_size-eq0 c =
    let bytes = c.args.bytes.now in
    let count = c.link_bytes_len-end.result in
    let size = c.link_end_size-end_size.result in
    let counted : count ≡ link_text_len bytes = count_is bytes count c.link_bytes_len-end.ensures.value in
    let end : size ≡ link_end_len bytes = end_is bytes count c.byte_at.result c.byte_at-2.result size counted c.byte_at.ensures
    c.byte_at-2.ensures c.link_end_size-end_size.ensures in
    let other = c.if-end_size-eq0.false in
    let some : 0 < link_end_len bytes = omega (arith, other, end) in
    let same : 4 + count + size ≡ 4 + link_text_len bytes + link_end_len bytes = omega (arith, counted, end) in
    let url : list_any (λ byte. byte == 59) (link_text bytes) ≡ true =
    ap (list_any (λ byte. byte == 59)) (sym (text_is bytes count counted)) ∙ sym c.has_semicolon.ensures ∙ c.if-not-has_semicolon.false in
    same ∙ link_parts bytes (sym c.is_link_start.ensures ∙ c.if-not-is_link_start.false) url some
