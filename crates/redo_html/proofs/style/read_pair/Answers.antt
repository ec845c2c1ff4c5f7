use Rattle.std.proofs.Common.{sym, ◌∙◌, ap, refl, arith}
use Rattle.redo_html.specs.Style.{digit_hue, restyled}
use Rattle.redo_html.proofs.SequenceLemmas.{short_sequence, bold_sequence, bold_hue_sequence, pair_read}
use Rattle.redo_html.proofs.style.read_pair.Goals as goal

pub returns-then-is_before_erase : goal.returns-then-is_before_erase
returns-then-is_before_erase c = λ some.
    let long = c.if-bytes-lt11.false in
    let ends = c.is_before_erase.ensures c.if-is_before_erase.true in
    let short = short_sequence c.args.bytes.now 109 (omega (arith, long)) c.requires c.if-bytes-ne91.false ends.0 refl refl in
    pair_read c.args.style _ c.args.bytes.now 2 (omega (arith, long)) ends (λ three. (short.0, sym (ap (restyled c.args.style) short.1)))

pub returns-then-is_before_erase-2 : goal.returns-then-is_before_erase-2
returns-then-is_before_erase-2 c = λ some.
    let long = c.if-bytes-lt11.false in
    let ends = c.is_before_erase-2.ensures c.if-is_before_erase-2.true in
    pair_read c.args.style _ c.args.bytes.now 4 (omega (arith, long)) ends
    (bold_sequence c.args.style c.args.bytes.now (omega (arith, long)) c.requires c.if-bytes-ne91.false c.if-bytes-ne48.false
    c.if-bytes-ne49.false ends.0)

pub returns-then-is_before_erase-3 : goal.returns-then-is_before_erase-3
returns-then-is_before_erase-3 c = λ some.
    let long = c.if-bytes-lt11.false in
    let ends = c.is_before_erase-then-is_octal.ensures c.if-is_before_erase-3.true in
    pair_read c.args.style _ c.args.bytes.now 7 (omega (arith, long)) ends
    (bold_hue_sequence c.args.style c.args.bytes.now c.hue_of.result (omega (arith, long)) c.requires c.if-bytes-ne91.false
    c.if-bytes-ne48.false c.if-bytes-ne49.false c.if-bytes-eq59.true c.if-bytes-eq51.true
    (sym c.is_octal.ensures ∙ c.if-is_octal.true) ends.0 (c.hue_of.ensures ∙ ap digit_hue c.from.ensures))
