use Rattle.std.proofs.Common.{◌≡◌, ◌/◌, List, [], ◌∷◌, ℕ, refl}
use Rattle.redo_html.specs.Chart.{last_digit, percent_text}
use Rattle.redo_html.specs.Shown.{number_text}
use Rattle.redo_device.proofs.WritesLemmas.{at_last}
use Rattle.redo_html.proofs.WritingLemmas.{writes_as}
use Rattle.redo_html.proofs.chart.write_percent.Goals as goal

pub returns : goal.returns
returns g c =
    let number = c.args.hundredths in
    let tenths : c.last_digit_of.result ≡ last_digit (number / 10) = c.last_digit_of.ensures in
    let hundredths : c.last_digit_of-2.result ≡ last_digit number = c.last_digit_of-2.ensures in
    let digits : List ℕ = 46 ∷ last_digit (number / 10) ∷ last_digit number ∷ 37 ∷ [] in
    let same : 46 ∷ c.last_digit_of.result ∷ c.last_digit_of-2.result ∷ 37 ∷ [] ≡ digits = cc in
    at_last _ (percent_text number) _ _ (number_text (number / 100)) digits _ c.in_ok-write_number.ensures
    (writes_as _ _ _ digits _ same c.push_all.ensures) refl
