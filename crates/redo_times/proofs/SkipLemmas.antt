-- Lines without an `@` have no reports.
use Rattle.std.proofs.Common.{◌≡◌, ◌≢◌, ℕ, ◌+◌, ◌<◌, ◌≤◌, List, [], ◌∷◌, ◌++◌, None, get_or, length, take, drop, refl, sym, ap, ◌∙◌, subst, arith}
use Rattle.std.specs.List.{AllByRecursion, flat_map}
use Rattle.std.proofs.lemmas.Bool.{eq-eqb, ne_eqb}
use Rattle.std.proofs.lemmas.List.{append_assoc, get_or-take, get_or_default, length-take, take-append-drop, take-take}
use Rattle.std.proofs.lemmas.List.Elements.{recursion_from_All}
use Rattle.memchr.specs.Find.{Nowhere, Passes, is_byte}
use Rattle.redo_line.specs.Lines.{ended, line_feed, rest, with_line_feed}
use Rattle.redo_line.specs.Parts.{after_prefix}
use Rattle.redo_line.specs.Record.{at_sign, record_fields}
use Rattle.redo_line.proofs.CutLemmas.{upto_feed}
use Rattle.redo_line.proofs.LineLemmas.{are_lines, rest-append, rest-free, rest-line}
use Rattle.redo_times.specs.declared.report.Report.{Report}
use Rattle.redo_times.specs.Report.{reports_in}
use Rattle.redo_times.proofs.ReportLemmas.{no_line_reports}

-- None of the bytes is this one.
abbrev pub HasNo : ℕ → List ℕ → Type 0
HasNo byte bytes = AllByRecursion (λ other. other ≢ byte) bytes

module _ (byte : ℕ) where
  none_in_parts : (front back : List ℕ) → HasNo byte (front ++ back) → HasNo byte front × HasNo byte back
  none_in_parts [] back none = (tt, none)
  none_in_parts (first ∷ front) back none = let parts = none_in_parts front back none.1 in ((none.0, parts.0), parts.1)

  none_in_front : (bytes : List ℕ) (n : ℕ) → HasNo byte bytes → HasNo byte (take n bytes)
  none_in_front bytes n none = (none_in_parts (take n bytes) (drop n bytes) (subst (HasNo byte) (sym (take-append-drop n bytes)) none)).0

  -- The bytes before the place where the search began to find it.
  pub none_before : (bytes : List ℕ) (n : ℕ) → Nowhere (Passes (is_byte byte) bytes) 0 n → HasNo byte (take n bytes)
  none_before bytes n nowhere =
      recursion_from_All (λ (other : ℕ). other ≢ byte) (take n bytes) (λ k d below is.
      let inside : (k < n) × (k < length bytes) = let size = length-take n bytes in (omega arith, omega arith) in
      let read : get_or (take n bytes) k d ≡ get_or bytes k 0 = let in_front : k < n = inside.0 in let in_bytes : k < length bytes =
      inside.1 in get_or-take n bytes k d in_front ∙ get_or_default bytes k d 0 in_bytes in
      nowhere k (omega arith) inside.0 (eq-eqb (get_or bytes k 0) byte (sym read ∙ is)))

-- ---- reports

no_fields : (line : List ℕ) → HasNo at_sign line → record_fields line ≡ None
unfolding record_fields after_prefix
no_fields [] none = refl
no_fields (byte ∷ line) none = rw (ne_eqb at_sign byte (λ same. none.0 (sym same))) refl

module _ (log : List ℕ) where
  no_reports_in : (lines : List (List ℕ)) (last : List ℕ) → HasNo at_sign (flat_map with_line_feed lines ++ last)
      → reports_in log lines ≡ []
  no_reports_in [] last none = refl
  no_reports_in (line ∷ lines) last none =
      let more = flat_map with_line_feed lines ++ last in
      let whole : flat_map with_line_feed (line ∷ lines) ++ last ≡ line ++ (line_feed ∷ more) =
      append_assoc (with_line_feed line) (flat_map with_line_feed lines) last ∙ append_assoc line (line_feed ∷ []) more in
      let parts = none_in_parts at_sign line (line_feed ∷ more) (subst (HasNo at_sign) whole none) in
      ap (λ (reports : List Report). reports ++ reports_in log lines) (no_line_reports log line (no_fields line parts.0))
      ∙ no_reports_in lines last parts.1.1

  pub no_reports : (bytes : List ℕ) → HasNo at_sign bytes → reports_in log (ended bytes) ≡ []
  no_reports bytes none = no_reports_in (ended bytes) (rest bytes) (subst (HasNo at_sign) (are_lines bytes).whole none)

-- ---- the lines before the first `@`

-- The bytes up to a line feed have no rest.
no_rest_upto : (bytes : List ℕ) (last : ℕ) → last < length bytes → Passes (is_byte line_feed) bytes last → rest (take (last + 1) bytes) ≡ []
no_rest_upto bytes last below passes =
    ap rest (upto_feed bytes last below passes) ∙ rest-append (take last bytes) (line_feed ∷ [])
    ∙ rest-line (rest (take last bytes)) [] (are_lines (take last bytes)).rest_holds_none ∙ rest-free [] tt

module _ (bytes plain : List ℕ) (end last : ℕ) (plain_is : plain ≡ take end bytes) (below : last < length plain) where
  first_bytes : take (last + 1) plain ≡ take (last + 1) bytes
  first_bytes = let size = length-take end bytes in let same = ap length plain_is in
      ap (take (last + 1)) plain_is ∙ take-take (last + 1) end bytes (omega (arith, below, size, same))

  pub within : last + 1 ≤ length bytes
  within = let size = length-take end bytes in let same = ap length plain_is in omega (arith, below, size, same)

  pub complete : Passes (is_byte line_feed) plain last → rest (take (last + 1) bytes) ≡ []
  complete passes = ap rest (sym first_bytes) ∙ no_rest_upto plain last below passes

  pub none_there : HasNo at_sign (take end bytes) → HasNo at_sign (take (last + 1) bytes)
  none_there none = subst (HasNo at_sign) first_bytes (none_in_front at_sign plain (last + 1) (subst (HasNo at_sign) (sym plain_is) none))
