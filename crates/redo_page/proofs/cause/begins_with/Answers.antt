use Rattle.std.proofs.Common.{◌≡◌, ◌-◌, sym, ◌∙◌, ap, arith, length, drop, ℕ}
use Rattle.std.proofs.lemmas.List.{take_all, length-drop}
use Rattle.redo_page.specs.Errors.{is_word_end}
use Rattle.redo_page.proofs.ErrorLemmas.{begins_all}
use Rattle.redo_page.proofs.cause.begins_with.Goals as goal

pub returns : goal.returns
returns c =
    let words = c.args.words.now in
    let bytes = c.args.bytes.now in
    let at = c.loop-at.at in
    let done : at ≡ length words = omega arith in
    c.is_word_end.ensures ∙ ap is_word_end
    (take_all (length bytes - length words) (drop (length words) bytes) (omega (arith, length-drop (length words) bytes)))
    ∙ ap (λ (n : ℕ). is_word_end (drop n bytes)) (sym done) ∙ sym (begins_all words (drop at bytes) at c.loop-at-test.false)
    ∙ sym c.loop-at.invariant.same
