-- Whether a byte has a fault by its position is known from the state of the scan.
use Rattle.std.proofs.Common.{◌≡◌, inl, inr, ℕ, zero, suc, ◌+◌, ◌-◌, Bool, true, false, List, [], ◌∷◌, ◌++◌, Option, None, Some, take, eqb, refl, sym, ◌∙◌, ap, subst}
use Rattle.std.proofs.lemmas.Bool.{eqb-true, eqb-false}
use Rattle.std.proofs.lemmas.List.{append-nil}
use Rattle.std.proofs.lemmas.Option.{same_Some}
use Rattle.std.proofs.Math.Seq.{take-nil}
use Rattle.redo_line.specs.declared.entry.Entry.{Entry}
use Rattle.redo_line.specs.declared.stream_fault.StreamFault.{StreamFault}
use Rattle.redo_line.specs.declared.stream_fault.StreamFault.TheVariants.{BadRecord}
use Rattle.redo_line.specs.Entry.{entry_of}
use Rattle.redo_line.specs.Lines.{line_feed}
use Rattle.redo_line.specs.Scan.{Scanned, fault_so_far, IsAfterCloseOrTooLong, FirstByteIsPastEnd}
use Rattle.redo_line.specs.Private.Progress.{Progress, IsAfter, byte_fault, first_byte_fault}
use Rattle.redo_line.specs.Private.CutLine.{Cuts}
use Rattle.redo_line.proofs.CutLemmas.{cuts_line, cuts_none}
use Rattle.redo_line.proofs.ScanLemmas.{bad_refuses, end_lines, ends_none, one_fine}
use Rattle.redo_line.proofs.ScanSteps.{refuses_first}

no_bad_record : {line : ℕ} → IsAfterCloseOrTooLong (BadRecord line) → ⊥
no_bad_record (inl late) = let same = late.1 in cc
no_bad_record (inr too_long) = cc

module _ (p : Progress) (u : List ℕ) (after : IsAfter p u) (byte : ℕ) where
  abbrev one : List ℕ
  one = byte ∷ []

  -- Within the limit and before a closing record, neither a line feed nor another byte has such a fault.
  module _ (room : ℕ) (room_is : p.max_bytes - p.taken ≡ suc room) (closed : p.closed ≡ false) (fault : StreamFault)
      (late_or_too_long : IsAfterCloseOrTooLong fault)
      (is : fault_so_far p.target p.max_bytes (u ++ one) ≡ Some fault) where
    one_is : one ≡ take (p.max_bytes - p.taken) one
    one_is = sym (ap (λ n. take n one) room_is ∙ ap (λ b. byte ∷ b) (take-nil room))

    no_line : eqb byte line_feed ≡ false → ⊥
    no_line other =
        let fine = (ends_none p u after one one one_is (p.kept ++ one) (cuts_none p.kept one (eqb-false byte line_feed other, tt))
        (inl closed) refl).no_fault in
        let none : None ≡ Some fault = sym fine ∙ is in
        absurd (cc)

    a_line : byte ≡ line_feed → ⊥
    a_line feed = by (entry_of p.target (p.kept ++ []) true) refl
      where
        cut : Cuts p.kept one ((p.kept ++ []) ∷ []) []
        cut = subst (λ (b : ℕ). Cuts p.kept (b ∷ []) ((p.kept ++ []) ∷ []) []) (sym feed) (cuts_line p.kept [] tt)

        by : (entry : Option Entry) → entry_of p.target (p.kept ++ []) true ≡ entry → ⊥
        by None none =
            let told = (bad_refuses p u after one one one_is one [] ((p.kept ++ []) ∷ []) cut refl
            (p.kept ++ []) refl closed none).fault_is in
            no_bad_record (subst IsAfterCloseOrTooLong (same_Some fault (BadRecord (p.lines + 1)) (sym is ∙ told)) late_or_too_long)
        by (Some entry) some =
            let fine = (end_lines p u after one one one_is one [] ((p.kept ++ []) ∷ []) cut refl (entry ∷ []) (ap (λ e. e ∷ []) some)
            (one_fine p.closed (p.lines + 1) entry closed)).no_fault in
            let none : None ≡ Some fault = sym fine ∙ is in
            absurd (cc)

    none_here : ⊥
    none_here = by (eqb byte line_feed) refl
      where
        by : (same : Bool) → eqb byte line_feed ≡ same → ⊥
        by true same = a_line (eqb-true byte line_feed same)
        by false other = no_line other

  -- If a fault is known from the position of the byte, it is the fault of the bytes.
  known_is : (known fault : StreamFault) → first_byte_fault p one ≡ Some known → fault_so_far p.target p.max_bytes (u ++ one) ≡ Some fault
      → first_byte_fault p one ≡ Some fault
  known_is known fault told is = told
      ∙ sym (refuses_first p p refl u after one one (take (p.max_bytes - p.taken) one) 0 refl refl known told).fault_is ∙ is

  one_fault : (fault : StreamFault) → IsAfterCloseOrTooLong fault → fault_so_far p.target p.max_bytes (u ++ one) ≡ Some fault
      → first_byte_fault p one ≡ Some fault
  one_fault fault late_or_too_long is = by (p.max_bytes - p.taken) p.closed refl refl
    where
      by : (room : ℕ) (closed : Bool) → p.max_bytes - p.taken ≡ room → p.closed ≡ closed → first_byte_fault p one ≡ Some fault
      by zero closed room_is closed_is = known_is _ fault (ap (λ n. byte_fault n p.lines p.closed) room_is) is
      by (suc room) true room_is closed_is =
          known_is _ fault (ap (λ n. byte_fault n p.lines p.closed) room_is ∙ ap (byte_fault (suc room) p.lines) closed_is) is
      by (suc room) false room_is closed_is = absurd (none_here room room_is closed_is fault late_or_too_long is)

pub first_fault_known : (p : Progress) (u left : List ℕ) (fault : StreamFault) → IsAfter p u → IsAfterCloseOrTooLong fault
    → fault_so_far p.target p.max_bytes (u ++ take 1 left) ≡ Some fault
    → first_byte_fault p left ≡ Some fault
first_fault_known p u [] fault after late_or_too_long is =
    let none : None ≡ Some fault = sym after.no_fault ∙ ap (fault_so_far p.target p.max_bytes) (sym (append-nil u)) ∙ is in
    absurd (cc)
first_fault_known p u (byte ∷ left) fault after late_or_too_long is = one_fault p u after byte fault late_or_too_long is

-- The first byte's fault, for the model of a scan with this state.
pub known_of : (p : Progress) (u left : List ℕ) (must_close : Bool) (refused : Option StreamFault) (seen : Scanned) (fault : StreamFault)
    → record { target = p.target; max_bytes = p.max_bytes; must_close = must_close; bytes = u; failed_with = refused } ≡ seen → IsAfter p u
    → FirstByteIsPastEnd seen left fault → first_byte_fault p left ≡ Some fault
known_of p u left must_close refused seen fault seen_is after first =
    let here : FirstByteIsPastEnd (record
    { target = p.target; max_bytes = p.max_bytes; must_close = must_close; bytes = u; failed_with = refused }) left fault = subst
    (λ (s : Scanned). FirstByteIsPastEnd s left fault) (sym seen_is) first in
    first_fault_known p u left fault after here.after_close_or_too_long here.fault_is
