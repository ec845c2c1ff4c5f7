-- Consecutive lines of an index: the lines before an offset, and the targets that they list.
use Rattle.std.proofs.Common.{◌≡◌, ℕ, true, ◌==◌, List, [], ◌∷◌, ◌++◌, None, Some, Result, Ok, Err, IfErr, IsErrAnd, length, refl, sym, ◌∙◌, ap, subst, arith}
use Rattle.std.proofs.lemmas.Bool.{eqb-true}
use Rattle.std.proofs.lemmas.List.{append_assoc, append-nil, length-append, nil_from_length}
use Rattle.std.proofs.lemmas.List.Elements.{filter_map-append}
use Rattle.std.specs.List.{cons_option}
use Rattle.redo_line.specs.Lines.{all_lines}
use Rattle.redo_index.specs.declared.index.TargetLog.{TargetLog}
use Rattle.redo_index.specs.declared.index_fault.IndexFault.{IndexFault}
use Rattle.redo_index.specs.Index.{parse_line, parse_lines, fault_after, fault_at, AreFaultFree, IsRejected}
use Rattle.redo_index.specs.Private.Entries.{Hold, HoldMore}
use Rattle.redo_index.proofs.FirstLine.{no_lines}
use Rattle.redo_index.proofs.IndexEntries.{no_index}

-- Whether none of `lines` is rejected if they follow the lines `before`.
abbrev pub FaultFreeFrom : List (List ℕ) → List (List ℕ) → Type 0
FaultFreeFrom before [] = Unit {0}
FaultFreeFrom before (line ∷ lines) = (fault_at before line ≡ None) × FaultFreeFrom (before ++ line ∷ []) lines

fault_free_at : (before lines prefix : List (List ℕ)) (line : List ℕ) (after : List (List ℕ)) → FaultFreeFrom before lines
    → lines ≡ prefix ++ line ∷ after → fault_at (before ++ prefix) line ≡ None
fault_free_at before [] [] line after fault_free is = absurd (cc)
fault_free_at before [] (first ∷ prefix) line after fault_free is = absurd (cc)
fault_free_at before (next ∷ lines) [] line after fault_free is =
    let same : next ≡ line = cc in
    ap (λ b. fault_at b line) (append-nil before) ∙ ap (fault_at before) (sym same) ∙ fault_free.0
fault_free_at before (next ∷ lines) (first ∷ prefix) line after fault_free is =
    let same : next ≡ first = cc in
    let suffix : lines ≡ prefix ++ line ∷ after = cc in
    ap (λ l. fault_at (before ++ l ∷ prefix) line) (sym same) ∙ ap (λ b. fault_at b line) (sym (append_assoc before (next ∷ []) prefix))
    ∙ fault_free_at (before ++ next ∷ []) lines prefix line after fault_free.1 suffix

pub fault_free_lines : (lines : List (List ℕ)) → FaultFreeFrom [] lines → AreFaultFree lines
fault_free_lines lines fault_free before line after is = fault_free_at [] lines before line after fault_free is

fault_free_more : (before lines : List (List ℕ)) (line : List ℕ) → FaultFreeFrom before lines → fault_at (before ++ lines) line ≡ None
    → FaultFreeFrom before (lines ++ line ∷ [])
fault_free_more before [] line fault_free is = (ap (λ b. fault_at b line) (sym (append-nil before)) ∙ is, tt)
fault_free_more before (next ∷ lines) line fault_free is = (
  fault_free.0,
  fault_free_more (before ++ next ∷ []) lines line fault_free.1
      (ap (λ b. fault_at b line) (append_assoc before (next ∷ []) lines) ∙ is),
)

-- The state of reading an index: no line before `left` is rejected, and `numbers` and `entries` store the targets that these lines
-- list.
pub record SoFar (bytes left : List ℕ) (numbers : List ℕ) (entries : List (List ℕ × TargetLog)) : Type 0 where
  pub before : List (List ℕ)
  pub lines_are : all_lines bytes ≡ before ++ all_lines left
  pub fault_free : FaultFreeFrom [] before
  pub count : length (parse_lines before) ≡ length before
  pub holds : Hold numbers entries (parse_lines before)

pub nothing_yet : (bytes : List ℕ) → SoFar bytes bytes [] []
nothing_yet bytes = record {
  before = [];
  lines_are = refl;
  fault_free = tt;
  count = refl;
  holds = record { numbers_are = refl; entries_are = refl; fits = no_index };
}

module _ (bytes left : List ℕ) (numbers : List ℕ) (entries : List (List ℕ × TargetLog)) (so_far : SoFar bytes left numbers entries) where
  module _ (line suffix : List ℕ) (first : all_lines left ≡ line ∷ all_lines suffix) where
    pub rejected_here : (fault : IndexFault)
        → fault_after (length (parse_lines so_far.before)) (parse_lines so_far.before) (parse_line line) ≡ Some fault
        → IsRejected (all_lines bytes) fault
    rejected_here fault fault_is = record {
      before = so_far.before;
      line = line;
      after = all_lines suffix;
      lines_are = so_far.lines_are ∙ ap (λ ls. so_far.before ++ ls) first;
      fault_free_before = fault_free_lines so_far.before so_far.fault_free;
      fault_is = ap (λ n. fault_after n (parse_lines so_far.before) (parse_line line)) (sym so_far.count) ∙ fault_is;
    }

    pub one_more : (numbers' : List ℕ) (entries' : List (List ℕ × TargetLog)) → HoldMore (parse_lines so_far.before) line numbers' entries'
        → SoFar bytes suffix numbers' entries'
    one_more numbers' entries' lists =
        let own : parse_lines (line ∷ []) ≡ lists.last ∷ [] = ap (λ e. cons_option e []) lists.form in
        let more : parse_lines (so_far.before ++ line ∷ []) ≡ parse_lines so_far.before ++ lists.last ∷ [] =
        filter_map-append parse_line so_far.before (line ∷ []) ∙ ap (λ es. parse_lines so_far.before ++ es) own in
        let no_fault : fault_at so_far.before line ≡ None =
        ap (λ n. fault_after n (parse_lines so_far.before) (parse_line line)) (sym so_far.count)
        ∙ ap (fault_after (length (parse_lines so_far.before)) (parse_lines so_far.before)) lists.form ∙ lists.no_fault in
        record {
          before = so_far.before ++ line ∷ [];
          lines_are = so_far.lines_are ∙ ap (λ ls. so_far.before ++ ls) first
              ∙ sym (append_assoc so_far.before (line ∷ []) (all_lines suffix));
          fault_free = fault_free_more [] so_far.before line so_far.fault_free no_fault;
          count = omega (
            arith,
            ap length more,
            length-append (parse_lines so_far.before) (lists.last ∷ []),
            length-append so_far.before
                (line ∷ []),
            so_far.count,
          );
          holds = subst (λ es. Hold numbers' entries' es) (sym more) lists.hold;
        }

  pub all_parsed : (length left == 0) ≡ true → AreFaultFree (all_lines bytes) × Hold numbers entries (parse_lines (all_lines bytes))
  all_parsed none_left =
      let none : left ≡ [] = nil_from_length left (eqb-true (length left) 0 none_left) in
      let all : all_lines bytes ≡ so_far.before =
      so_far.lines_are ∙ ap (λ b. so_far.before ++ all_lines b) none ∙ ap (λ ls. so_far.before ++ ls) no_lines
      ∙ append-nil so_far.before in (
        subst AreFaultFree (sym all) (fault_free_lines so_far.before so_far.fault_free),
        subst (λ ls. Hold numbers entries (parse_lines ls))
            (sym all) so_far.holds,
      )

-- A fault that `?` forwards.
pub propagated : {X : Type 0} (result : Result X IndexFault) (given : IndexFault) (P : IndexFault → Type 0)
    → IsErrAnd result (λ fault. fault ≡ given) → P given → IfErr result P
propagated (Ok index) given P is p = tt
propagated (Err fault) given P is p = subst P (sym is) p
