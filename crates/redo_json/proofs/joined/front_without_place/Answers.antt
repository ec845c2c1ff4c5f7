use Rattle.std.proofs.Common.{◌++◌, ℕ, List, ap₂}
use Rattle.redo_json.proofs.DiagnosticLemmas.{error_text, fatal_text, message_start, no_place, warning_text}
use Rattle.redo_json.proofs.joined.front_without_place.Goals as goal

pub returns-in-Warning : goal.returns-in-Warning
returns-in-Warning c =
    ap₂ (λ (a b : List ℕ). a ++ b) (warning_text c.args.severity c.in-Warning.is)
    (ap₂ (λ (a b : List ℕ). a ++ b) no_place message_start)

pub returns-in-Error : goal.returns-in-Error
returns-in-Error c =
    ap₂ (λ (a b : List ℕ). a ++ b) (error_text c.args.severity c.in-Error.is)
    (ap₂ (λ (a b : List ℕ). a ++ b) no_place message_start)

pub returns-in-FatalError : goal.returns-in-FatalError
returns-in-FatalError c =
    ap₂ (λ (a b : List ℕ). a ++ b) (fatal_text c.args.severity c.in-FatalError.is)
    (ap₂ (λ (a b : List ℕ). a ++ b) no_place message_start)
