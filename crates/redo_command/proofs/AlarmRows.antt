-- Rows of texts that a program reports by its exit status.
use Rattle.std.proofs.Common.{◌≡◌, true, false, [], None, Some, inl, inr, refl}
use Rattle.std.specs.Prelude.{codes}
use Rattle.redo_command.specs.Alarm.{IsStatusWith, is_alarm}
use Rattle.redo_command.specs.FirstByte.{IsUnwritten, first_taken}

-- By the byte of the program and the first byte of the text: none, the same, another one.
these_texts : (is_alarm None None ≡ false) × (is_alarm None (Some 110) ≡ false) × (is_alarm (Some 110) None ≡ false)
    × (is_alarm (Some 110) (Some 110) ≡ true) × (is_alarm (Some 110) (Some 102) ≡ false) × (is_alarm (Some 0) (Some 0) ≡ true)
these_texts = (refl, refl, refl, refl, refl, refl)

-- Status 1 is only for programs with such a byte.
these_statuses : IsStatusWith (Some 110) 1 × IsStatusWith (Some 110) 0 × IsStatusWith None 0 × IsStatusWith None 24
these_statuses = (inl refl, inr refl, refl, refl)

not_1 : IsStatusWith None 1 → ⊥
not_1 is = absurd (cc)

not_8 : IsStatusWith (Some 110) 8 → ⊥
not_8 (inl is) = absurd (cc)
not_8 (inr is) = absurd (cc)

-- The first byte that a writer took, if it is known.
these_bytes : (first_taken None (Some 7) ≡ Some 7) × (first_taken (Some (record { bytes = []; failures = 1 })) (Some 7) ≡ None)
    × (first_taken (Some (record { bytes = codes "new"; failures = 0 })) None ≡ Some 110)
these_bytes = (refl, refl, refl)

these_writers : IsUnwritten None × IsUnwritten (Some (record { bytes = []; failures = 1 }))
these_writers = (tt, refl)

not_unwritten : IsUnwritten (Some (record { bytes = codes "n"; failures = 0 })) → ⊥
not_unwritten is = absurd (cc)
