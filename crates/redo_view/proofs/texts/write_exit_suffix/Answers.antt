use Rattle.std.proofs.Common.{◌≡◌, ◌++◌, List, ℕ, Err, ap, ◌∙◌, subst}
use Rattle.std.specs.Fmt.{signed_decimal}
use Rattle.std.specs.Prelude.{codes}
use mir.Syntax.{w32}
use Rattle.std.proofs.lemmas.Int.{to_z-of_z}
use Rattle.redo_line.specs.Lines.{with_line_feed}
use Rattle.redo_device.specs.Sink.{Writes, append_output}
use Rattle.redo_view.specs.Private.EntryParts.{exit_suffix}
use Rattle.redo_device.proofs.WritesLemmas.{at_first, in_middle, at_last, one_more}
use Rattle.redo_view.proofs.WritingLemmas.{exit_parts}
use Rattle.redo_view.proofs.texts.write_exit_suffix.Goals as goal

pub returns-in_err-push_all : goal.returns-in_err-push_all
returns-in_err-push_all g c =
    let number = signed_decimal c.args.status in
    at_first _ (with_line_feed (exit_suffix c.args.status)) _ (codes " (exit ")
    (number ++ codes ")\n") _ _ c.from_residual.ensures.0 c.in_err-push_all.ensures (exit_parts number)

pub returns-in_err-push_all-2 : goal.returns-in_err-push_all-2
returns-in_err-push_all-2 g c =
    let number = signed_decimal c.args.status in
    let middle = g.W.Sink.written c.push_all.new.out in
    let number_is : c.as_bytes.result.now ≡ number =
    c.as_bytes.ensures.value ∙ c.format.ensures.text ∙ ap signed_decimal (to_z-of_z w32 c.args.status c.ranges.status) in
    in_middle _ (with_line_feed (exit_suffix c.args.status)) middle _ (codes " (exit ") number
    (codes ")\n") _ _ c.from_residual-in_err-push_all-2.ensures.0 c.in_ok-push_all.ensures
    (subst (λ (n : List ℕ). Writes middle (g.W.Sink.written c.push_all-2.new.out) n (Err c.in_err-push_all-2.field-0.0)) number_is
    c.in_err-push_all-2.ensures) (exit_parts number)

pub returns : goal.returns
returns g c =
    let number = signed_decimal c.args.status in
    let output = g.W.Sink.written c.args.out.now in
    let middle = g.W.Sink.written c.push_all.new.out in
    let after = g.W.Sink.written c.push_all-2.new.out in
    let number_is : c.as_bytes.result.now ≡ number =
    c.as_bytes.ensures.value ∙ c.format.ensures.text ∙ ap signed_decimal (to_z-of_z w32 c.args.status c.ranges.status) in
    at_last output (with_line_feed (exit_suffix c.args.status)) after _ (codes " (exit " ++ number) (codes ")\n") _
    (one_more output middle after (codes " (exit ") number c.in_ok-push_all.ensures
    (subst (λ (n : List ℕ). after ≡ append_output middle n 0) number_is c.in_ok-push_all-2.ensures)) c.push_all-3.ensures
    (exit_parts number)
