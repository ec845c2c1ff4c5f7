-- Examples of the command-line arguments of the process, computed.
use Rattle.std.proofs.Common.{◌≡◌, Bool, true, false, ℕ, List, [], ◌∷◌, refl}
use Rattle.std.specs.Prelude.{codes}
use Rattle.std.specs.List.{AllByRecursion}
use Rattle.redo_command.specs.Process.{command_arguments, requests_explanations, requests_version}

record Row : Type 0 where
  arguments : List (List ℕ)
  explains : Bool
  command : List (List ℕ)
  version : Bool

abbrev rows : List Row
rows =
    record { arguments = []; explains = false; command = []; version = false } ∷
    record { arguments = codes "--explain" ∷ []; explains = true; command = []; version = false } ∷
    record { arguments = codes "-r" ∷ codes "all" ∷ []; explains = false; command = codes "-r" ∷ codes "all" ∷ []; version = false } ∷
    record { arguments = codes "--explain" ∷ codes "all" ∷ []; explains = true; command = codes "all" ∷ []; version = false } ∷
    record { arguments = codes "all" ∷ codes "--explain" ∷ []; explains = false; command = codes "all" ∷ codes "--explain" ∷ []; version = false } ∷
    record { arguments = codes "--explain" ∷ codes "--explain" ∷ []; explains = true; command = codes "--explain" ∷ []; version = false } ∷
    record { arguments = codes "--explained" ∷ []; explains = false; command = codes "--explained" ∷ []; version = false } ∷
    record { arguments = codes "--version" ∷ []; explains = false; command = codes "--version" ∷ []; version = true } ∷
    record { arguments = codes "--explain" ∷ codes "-V" ∷ []; explains = true; command = codes "-V" ∷ []; version = true } ∷
    record { arguments = codes "-V" ∷ codes "all" ∷ []; explains = false; command = codes "-V" ∷ codes "all" ∷ []; version = false } ∷
    record { arguments = codes "all" ∷ codes "-V" ∷ []; explains = false; command = codes "all" ∷ codes "-V" ∷ []; version = false } ∷
    []

these_explain : AllByRecursion (λ row. requests_explanations row.arguments ≡ row.explains) rows
these_explain = (refl, (refl, (refl, (refl, (refl, (refl, (refl, (refl, (refl, (refl, (refl, tt)))))))))))

these_arguments : AllByRecursion (λ row. command_arguments row.arguments ≡ row.command) rows
these_arguments = (refl, (refl, (refl, (refl, (refl, (refl, (refl, (refl, (refl, (refl, (refl, tt)))))))))))

these_versions : AllByRecursion (λ row. requests_version row.arguments ≡ row.version) rows
these_versions = (refl, (refl, (refl, (refl, (refl, (refl, (refl, (refl, (refl, (refl, (refl, tt)))))))))))
