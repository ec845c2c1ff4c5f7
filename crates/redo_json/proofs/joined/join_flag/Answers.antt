use Rattle.std.proofs.Common.{ℕ, List, Option, Bor, sym, ap, option_copied}
use Rattle.redo_json.specs.Private.Parts.{flag_text}
use Rattle.redo_json.proofs.JoinLemmas.{appended_as}
use Rattle.redo_json.proofs.joined.join_flag.Goals as goal

pub returns-in-None : goal.returns-in-None
returns-in-None c =
    appended_as _ _ _ _ _ (ap (λ (flag : Option (Bor (List ℕ))). flag_text (option_copied flag)) (sym c.in-None.is)) c.join_bytes.ensures

pub returns-in-Some : goal.returns-in-Some
returns-in-Some c =
    appended_as _ _ _ _ _ (ap (λ (flag : Option (Bor (List ℕ))). flag_text (option_copied flag)) (sym c.in-Some.is))
    c.join_known_flag.ensures
