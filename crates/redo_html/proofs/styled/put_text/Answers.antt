use Rattle.std.proofs.Common.{◌≡◌, ◌≤◌, ◌+◌, ℕ, List, [], ◌∷◌, length, take, drop, slice_index, sym, ◌∙◌, ap, arith}
use Rattle.std.proofs.lemmas.List.{get_or-drop, length-append}
use Rattle.redo_line.specs.Lines.{with_line_feed}
use Rattle.redo_html.proofs.LineParts.{has_line, same_first, same_front}
use Rattle.redo_html.proofs.styled.put_text.Goals as goal

pub returns-then-len-gt0 : goal.returns-then-len-gt0
returns-then-len-gt0 g c = λ line lines is.
    let has = has_line (drop c.args.done c.args.lines.now) line lines is in
    let len = c.verbatim_run-len.result in
    let verbatim = c.verbatim_run-len.ensures.verbatim line has.more has.bytes_are in
    let few : len ≤ length line + 1 =
    let within = verbatim.within in let size = length-append line (10 ∷ []) in omega (arith, within, size) in
    c.put_verbatim.ensures (with_line_feed line) verbatim (sym (ap (take len) has.bytes_are ∙ same_front line has.more len few))

pub returns-then-has_reference : goal.returns-then-has_reference
returns-then-has_reference g c = λ line lines is.
    let has = has_line (drop c.args.done c.args.lines.now) line lines is in
    let here : c.args.done ≡ c.args.done + 0 = omega arith in
    c.put_reference.ensures (with_line_feed line) (let size = length-append line (10 ∷ []) in omega (arith, size))
    (ap (slice_index c.args.lines.now) here ∙ sym (get_or-drop c.args.done c.args.lines.now 0 0)
    ∙ ap (λ (b : List ℕ). slice_index b 0) has.bytes_are ∙ same_first line has.more)
