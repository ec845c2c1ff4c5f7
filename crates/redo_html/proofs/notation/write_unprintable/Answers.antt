use Rattle.std.proofs.Common.{[], ◌∷◌}
use Rattle.std.specs.Prelude.{codes}
use Rattle.std.specs.List.{repeat}
use Rattle.redo_html.specs.Shown.{notation, number_text, unprintable_text}
use Rattle.redo_html.proofs.NotationLemmas.{few_notations, counted_notation}
use Rattle.redo_html.proofs.WritingLemmas.{writes_as, first_failed, second_failed, third_failed, fourth_done}
use Rattle.redo_html.proofs.notation.write_unprintable.Goals as goal

pub returns-then-count-lt5 : goal.returns-then-count-lt5
returns-then-count-lt5 g c = writes_as _ _ (repeat c.args.count (notation c.args.code_point))
    (unprintable_text c.args.code_point c.args.count) _
    (few_notations c.args.code_point c.args.count c.if-count-lt5.true) c.write_notations.ensures

pub returns-in_err-write_notation : goal.returns-in_err-write_notation
returns-in_err-write_notation g c =
    first_failed _ (unprintable_text c.args.code_point c.args.count) (notation c.args.code_point) (0xC3 ∷ 0x97 ∷ [])
    (number_text c.args.count) (codes " ")
    (counted_notation c.args.code_point c.args.count c.if-count-lt5.false) _ _ _ c.from_residual.ensures.0 c.in_err-write_notation.ensures

pub returns-in_err-push_all : goal.returns-in_err-push_all
returns-in_err-push_all g c =
    second_failed _ (unprintable_text c.args.code_point c.args.count) (notation c.args.code_point) (0xC3 ∷ 0x97 ∷ [])
    (number_text c.args.count) (codes " ") (counted_notation c.args.code_point c.args.count c.if-count-lt5.false) _ _ _ _
    c.from_residual-in_err-push_all.ensures.0 c.in_ok-write_notation.ensures c.in_err-push_all.ensures

pub returns-in_err-write_number : goal.returns-in_err-write_number
returns-in_err-write_number g c =
    third_failed _ (unprintable_text c.args.code_point c.args.count) (notation c.args.code_point) (0xC3 ∷ 0x97 ∷ [])
    (number_text c.args.count) (codes " ") (counted_notation c.args.code_point c.args.count c.if-count-lt5.false) _ _ _ _ _
    c.from_residual-in_err-write_number.ensures.0 c.in_ok-write_notation.ensures c.in_ok-push_all.ensures c.in_err-write_number.ensures

pub returns : goal.returns
returns g c =
    fourth_done _ (unprintable_text c.args.code_point c.args.count) (notation c.args.code_point) (0xC3 ∷ 0x97 ∷ [])
    (number_text c.args.count) (codes " ") (counted_notation c.args.code_point c.args.count c.if-count-lt5.false) _ _ _ _ _
    c.in_ok-write_notation.ensures c.in_ok-push_all.ensures c.in_ok-write_number.ensures c.push_all-2.ensures
