-- Examples of a scan, computed: its bytes and results, in the log of the target `a`, which may have nine bytes.
use Rattle.std.proofs.Common.{◌≡◌, ◌≢◌, ℕ, true, false, inl, inr, List, [], ◌∷◌, ◌++◌, Option, None, Some, Ok, Err, refl, ap, arith, length}
use Rattle.std.specs.Prelude.{codes}
use Rattle.redo_line.specs.declared.entry.Entry.TheVariants.{Text}
use Rattle.redo_line.specs.declared.scan.Step.TheVariants.{Found, More}
use Rattle.redo_line.specs.declared.stream_fault.StreamFault.{StreamFault}
use Rattle.redo_line.specs.declared.stream_fault.StreamFault.TheVariants.{BadRecord, AfterClose, TooLong, Read, OutOfMemory, NotClosed}
use Rattle.redo_line.specs.Entry.{record_entry, entry_of}
use Rattle.redo_line.specs.Lines.{line_feed, split_lines, ended, rest}
use Rattle.redo_line.specs.Log.{first_fault}
use Rattle.redo_line.specs.Parts.{split_once, after_prefix}
use Rattle.redo_line.specs.Record.{fields_of}
use Rattle.redo_line.specs.Scan.{Scanned, so_far, fault_so_far, entries_so_far, EndLines, EndsOneLine, EndsNoLine, HaveFault, IsFaultFree, consume, fail_with, FindsEntry, FindsEntries, ConsumesAll, MayFailWith, FailsWith, Steps, IsAfterCloseOrTooLong, FirstByteIsPastEnd, entries_in, source_in, unended_entry}

abbrev a : List ℕ
a = codes "a"

abbrev line : List ℕ → List ℕ
line text = text ++ line_feed ∷ []

-- A scan that consumed these bytes, and returned this fault or none.
abbrev scanned : List ℕ → Option StreamFault → Scanned
scanned bytes refused = record { target = a; max_bytes = 9; must_close = true; bytes = bytes; failed_with = refused }

-- ---- the bytes so far

so_far_told : ((so_far (codes "x")).bytes ≡ codes "x") × ((so_far (codes "x")).fails ≡ false)
so_far_told = (refl, refl)

faults_so_far : (fault_so_far a 9 (line (codes "x") ++ codes "y") ≡ None)
    × (fault_so_far a 2 (line (codes "x") ++ codes "y") ≡ Some TooLong)
unfolding split_lines ended rest first_fault entry_of record_entry split_once after_prefix
faults_so_far = (refl, refl)

entries_told : (entries_so_far a 9 (line (codes "x") ++ codes "y") ≡ Text (codes "x") ∷ [])
    × (entries_in (scanned (line (codes "x") ++ line (codes "y")) None) ≡ Text (codes "x") ∷ Text (codes "y") ∷ [])
unfolding split_lines ended rest first_fault entry_of record_entry split_once after_prefix
entries_told = (refl, refl)

a_line_ends : EndsOneLine a 9 (codes "x") (line (codes "y")) (Text (codes "xy"))
unfolding split_lines ended rest first_fault entry_of record_entry split_once after_prefix
a_line_ends = record { no_fault = refl; line = codes "xy"; lines_are = refl; no_rest = refl; entry_is = refl; entries = refl }

no_line_ends : EndsNoLine a 9 (line (codes "x")) (codes "y")
unfolding split_lines ended rest first_fault entry_of record_entry split_once after_prefix
no_line_ends = record { no_fault = refl; lines = refl; entries = refl }

-- Not `EndsOneLine`: bytes with a fault, with a remainder, with two lines, or with another entry.
ends_no_line :
    (EndsOneLine a 1 [] (line (codes "x")) (Text (codes "x")) → ⊥)
    × (EndsOneLine a 9 [] (line (codes "x") ++ codes "y") (Text (codes "x")) → ⊥)
    × (EndsOneLine a 9 [] (line (codes "x") ++ line (codes "y")) (Text (codes "y")) → ⊥)
    × (EndsOneLine a 9 [] (line (codes "x")) (Text []) → ⊥)
unfolding split_lines ended rest first_fault entry_of record_entry split_once after_prefix
ends_no_line = (
  (λ is. let same : Some TooLong ≡ None = is.no_fault in absurd (cc)),
  (λ is. let same : codes "y" ≡ [] = is.no_rest in absurd (cc)),
  (λ is. let same : codes "x" ∷ codes "y" ∷ [] ≡ is.line ∷ [] = is.lines_are in absurd (cc)),
  (λ is. let same : Text (codes "x") ∷ [] ≡ Text [] ∷ [] = is.entries in absurd (cc)),
)

-- Not `EndsNoLine`: bytes that end a line, or bytes with a fault.
ends_none_of_these : (EndsNoLine a 9 [] (line (codes "x")) → ⊥) × (EndsNoLine a 0 [] (codes "x") → ⊥)
unfolding split_lines ended rest first_fault entry_of record_entry split_once after_prefix
ends_none_of_these = (
  (λ is. let same : codes "x" ∷ [] ≡ [] = is.lines in absurd (cc)),
  (λ is. let same : Some TooLong ≡ None = is.no_fault in absurd (cc)),
)

at_fault : HaveFault a 1 [] (line (codes "x")) TooLong
unfolding split_lines ended rest first_fault entry_of record_entry split_once after_prefix
at_fault = record { fault_is = refl; entries = refl }

-- Not `HaveFault`: another fault, or a fault with a further entry before it.
at_no_fault : (HaveFault a 1 [] (line (codes "x")) (BadRecord 1) → ⊥) × (HaveFault a 2 [] (line (codes "x") ++ codes "y") TooLong → ⊥)
unfolding split_lines ended rest first_fault entry_of record_entry split_once after_prefix
at_no_fault = (
  (λ is. let same : Some TooLong ≡ Some (BadRecord 1) = is.fault_is in absurd (cc)),
  (λ is. let same : Text (codes "x") ∷ [] ≡ [] = is.entries in absurd (cc)),
)

-- ---- the results of a scan

fine : IsFaultFree (scanned (codes "x") None)
unfolding split_lines ended rest first_fault entry_of record_entry split_once after_prefix
fine = record { not_failed = refl; no_fault = refl }

not_fine : (IsFaultFree (scanned (codes "x") (Some TooLong)) → ⊥) × (IsFaultFree (scanned (codes "0123456789") None) → ⊥)
unfolding split_lines ended rest first_fault entry_of record_entry split_once after_prefix
not_fine = (
  (λ is. let same : Some TooLong ≡ None = is.not_failed in absurd (cc)),
  (λ is. let same : Some TooLong ≡ None = is.no_fault in absurd (cc)),
)

took_more : consume (codes "y") (scanned (codes "x") (Some TooLong)) ≡ scanned (codes "xy") None
took_more = refl

refused_more : fail_with OutOfMemory (scanned (codes "x") None) ≡ scanned (codes "x") (Some OutOfMemory)
refused_more = refl

finds : FindsEntry (scanned (codes "x") None) (scanned (line (codes "xy")) None) (line (codes "y")) (Text (codes "xy"))
unfolding split_lines ended rest first_fault entry_of record_entry split_once after_prefix
finds = (refl, record { no_fault = refl; line = codes "xy"; lines_are = refl; no_rest = refl; entry_is = refl; entries = refl })

-- Not `FindsEntry`: fewer bytes consumed than found, bytes that end no line, or another limit afterwards.
finds_nothing_else :
    (FindsEntry (scanned [] None) (scanned [] None) (line (codes "y")) (Text (codes "y")) → ⊥)
    × (FindsEntry (scanned [] None) (scanned (codes "x") None) (codes "x") (Text (codes "x")) → ⊥)
    × (FindsEntry (scanned [] None) (record { target = a; max_bytes = 8; must_close = true; bytes = line (codes "y"); failed_with = None })
    (line (codes "y")) (Text (codes "y")) → ⊥)
unfolding split_lines ended rest first_fault entry_of record_entry split_once after_prefix
finds_nothing_else = (
  (λ is. let bytes : [] ≡ line (codes "y") = ap (λ (scan : Scanned). scan.bytes) is.0 in absurd (cc)),
  (λ is. let same : codes "x" ≡ [] = is.1.no_rest in absurd (cc)),
  (λ is. let limit = ap (λ (scan : Scanned). scan.max_bytes) is.0 in omega (arith, limit)),
)

-- One line after another entry, and two lines.
finds_one : FindsEntries (scanned [] None) (scanned (line (codes "y")) None) (line (codes "y")) 1 (Text (codes "x") ∷ [])
    (Text (codes "x") ∷ Text (codes "y") ∷ [])
unfolding split_lines ended rest first_fault entry_of record_entry split_once after_prefix
finds_one = record {
  more = Text (codes "y") ∷ [];
  taken = refl;
  ends = record { no_fault = refl; lines = codes "y" ∷ []; lines_are = refl; no_rest = refl; entries_are = refl; entries = refl };
  some = omega arith;
  few = omega arith;
  put = refl;
}

finds_two : FindsEntries (scanned (codes "x") None) (scanned (line (codes "xy") ++ line []) None) (line (codes "y") ++ line []) 2 []
    (Text (codes "xy") ∷ Text [] ∷ [])
unfolding split_lines ended rest first_fault entry_of record_entry split_once after_prefix
finds_two = record {
  more = Text (codes "xy") ∷ Text [] ∷ [];
  taken = refl;
  ends = record { no_fault = refl; lines = codes "xy" ∷ [] ∷ []; lines_are = refl; no_rest = refl; entries_are = refl; entries = refl };
  some = omega arith;
  few = omega arith;
  put = refl;
}

-- Not `EndLines`: lines with an unended last one, entries of other lines, too many bytes, or no bytes after too many.
end_no_lines :
    (EndLines a 9 [] (line (codes "x") ++ codes "y") (Text (codes "x") ∷ []) → ⊥)
    × (EndLines a 9 [] (line (codes "x")) [] → ⊥)
    × (EndLines a 1 [] (line (codes "x")) (Text (codes "x") ∷ []) → ⊥)
    × (EndLines a 1 (line (codes "x")) [] [] → ⊥)
unfolding split_lines ended rest first_fault entry_of record_entry split_once after_prefix
end_no_lines = (
  (λ is. let same : codes "y" ≡ [] = is.no_rest in absurd (cc)),
  (λ is. let same : Text (codes "x") ∷ [] ≡ [] = is.entries in absurd (cc)),
  (λ is. let same : Some TooLong ≡ None = is.no_fault in absurd (cc)),
  (λ is. let same : Some TooLong ≡ None = is.no_fault in absurd (cc)),
)

-- Not `FindsEntries`: more lines than the maximum, no line, another entry appended than the one that was found, no bytes consumed, or
-- the entry before it lost.
finds_no_other :
    (FindsEntries (scanned [] None) (scanned (line [] ++ line []) None) (line [] ++ line []) 1 [] (Text [] ∷ Text [] ∷ []) → ⊥)
    × (FindsEntries (scanned [] None) (scanned [] None) [] 1 [] [] → ⊥)
    × (FindsEntries (scanned [] None) (scanned (line (codes "y")) None) (line (codes "y")) 1 [] (Text [] ∷ []) → ⊥)
    × (FindsEntries (scanned [] None) (scanned [] None) (line (codes "y")) 1 [] (Text (codes "y") ∷ []) → ⊥)
    × (FindsEntries (scanned [] None) (scanned (line (codes "y")) None) (line (codes "y")) 1 (Text (codes "x") ∷ [])
    (Text (codes "y") ∷ []) → ⊥)
unfolding split_lines ended rest first_fault entry_of record_entry split_once after_prefix
finds_no_other = (
  (λ is. let count = ap length is.put in omega (arith, count, is.few)),
  (λ is. let count = ap length is.put in omega (arith, count, is.some)),
  (λ is. let found : Text (codes "y") ∷ [] ≡ is.more = is.ends.entries in let put : Text [] ∷ [] ≡ is.more = is.put in absurd (cc)),
  (λ is. let bytes : [] ≡ line (codes "y") = ap (λ (scan : Scanned). scan.bytes) is.taken in absurd (cc)),
  (λ is. let count = ap length is.put in omega (arith, count, is.some)),
)

takes_all : ConsumesAll (scanned (codes "x") None) (scanned (codes "xy") None) (codes "y")
unfolding split_lines ended rest first_fault entry_of record_entry split_once after_prefix
takes_all = (refl, record { no_fault = refl; lines = refl; entries = refl })

-- Not `ConsumesAll`: fewer bytes consumed than all, or bytes that end a line.
takes_no_less : ConsumesAll (scanned [] None) (scanned [] None) (codes "x") → ⊥
unfolding split_lines ended rest first_fault entry_of record_entry split_once after_prefix
takes_no_less is = let bytes : [] ≡ codes "x" = ap (λ (scan : Scanned). scan.bytes) is.0 in absurd (cc)

takes_no_line : ConsumesAll (scanned [] None) (scanned (line (codes "x")) None) (line (codes "x")) → ⊥
unfolding split_lines ended rest first_fault entry_of record_entry split_once after_prefix
takes_no_line is = let lines : codes "x" ∷ [] ≡ [] = is.1.lines in absurd (cc)

no_long_line : MayFailWith (scanned [] None) (codes "x") TooLong → ⊥
unfolding split_lines ended rest first_fault entry_of record_entry split_once after_prefix
no_long_line (inl memory) = cc
no_long_line (inr at_fault) = let same : None ≡ Some TooLong = at_fault.fault_is in absurd (cc)

-- Bytes with a fault after a further entry.
no_fault_after_a_line : MayFailWith (scanned [] None) (line (codes "x") ++ codes "01234567") TooLong → ⊥
unfolding split_lines ended rest first_fault entry_of record_entry split_once after_prefix
no_fault_after_a_line (inl memory) = cc
no_fault_after_a_line (inr at_fault) = let same : Text (codes "x") ∷ [] ≡ [] = at_fault.entries in absurd (cc)

may_refuse : MayFailWith (scanned [] None) (codes "x") OutOfMemory × MayFailWith (scanned [] None) (codes "0123456789") TooLong
unfolding split_lines ended rest first_fault entry_of record_entry split_once after_prefix
may_refuse = (inl refl, inr (record { fault_is = refl; entries = refl }))

refuses : FailsWith (scanned [] None) (scanned [] (Some TooLong)) (codes "0123456789") TooLong
    × FailsWith (scanned [] (Some TooLong)) (scanned [] (Some TooLong)) [] TooLong
unfolding split_lines ended rest first_fault entry_of record_entry split_once after_prefix
refuses = (
  record {
    fault_stored = refl;
    may_fail = λ none. inr (record { fault_is = refl; entries = refl });
    early = ((λ is. absurd (cc)), (λ is. absurd (cc)));
  },
  record { fault_stored = refl; may_fail = λ none. absurd (cc); early = ((λ is. absurd (cc)), (λ is. absurd (cc))) },
)

-- Not `FailsWith`: bytes consumed with a fault, another fault, a fault that is known only at the end, a fault that isn't stored, or
-- another limit afterwards.
refuses_no_other :
    (FailsWith (scanned [] None) (scanned (codes "x") (Some OutOfMemory)) (codes "x") OutOfMemory → ⊥)
    × (FailsWith (scanned [] None) (scanned [] (Some TooLong)) (codes "x") TooLong → ⊥)
    × (FailsWith (scanned [] (Some Read)) (scanned [] (Some Read)) [] Read → ⊥)
    × (FailsWith (scanned [] (Some NotClosed)) (scanned [] (Some NotClosed)) [] NotClosed → ⊥)
    × (FailsWith (scanned [] None) (scanned [] None) [] OutOfMemory → ⊥)
    × (FailsWith (scanned [] None) (record { target = a; max_bytes = 8; must_close = true; bytes = []; failed_with = Some OutOfMemory }) []
    OutOfMemory → ⊥)
unfolding split_lines ended rest first_fault entry_of record_entry split_once after_prefix
refuses_no_other = (
  (λ is. let bytes : codes "x" ≡ [] = ap (λ (scan : Scanned). scan.bytes) is.fault_stored in absurd (cc)),
  (λ is. no_long_line (is.may_fail refl)),
  (λ is. is.early.0 refl),
  (λ is. is.early.1 refl),
  (λ is. let refused : None ≡ Some OutOfMemory = ap (λ (scan : Scanned). scan.failed_with) is.fault_stored in absurd (cc)),
  (λ is. let limit = ap (λ (scan : Scanned). scan.max_bytes) is.fault_stored in omega (arith, limit)),
)

steps :
    Steps (scanned (codes "x") None) (scanned (line (codes "xy")) None) (line (codes "zy")) 1 (Ok (Found (Text (codes "xy")) 3))
    × Steps (scanned (codes "x") None) (scanned (codes "xy") None) (codes "zy") 1 (Ok More)
    × Steps (scanned [] None) (scanned [] (Some TooLong)) (codes "z0123456789") 1 (Err TooLong)
unfolding split_lines ended rest first_fault entry_of record_entry split_once after_prefix
steps = (
  (
    omega arith,
    omega arith,
    (
      refl,
      record {
        no_fault = refl;
        line = codes "xy";
        lines_are = refl;
        no_rest = refl;
        entry_is = refl;
        entries = refl;
      },
    ),
  ),
  (refl, record { no_fault = refl; lines = refl; entries = refl }),
  record {
    fault_stored = refl;
    may_fail = λ none. inr (record { fault_is = refl; entries = refl });
    early = ((λ is. absurd (cc)), (λ is. absurd (cc)));
  },
)

-- Not `Steps`: up to the offset where it began, past the chunk, with fewer bytes consumed than all or than found, or with a fault
-- not stored.
steps_no_less :
    (Steps (scanned (line []) None) (scanned (line []) None) [] 0 (Ok (Found (Text []) 0)) → ⊥)
    × (Steps (scanned [] None) (scanned (line []) None) (line []) 0 (Ok (Found (Text []) 2)) → ⊥)
    × (Steps (scanned [] None) (scanned [] None) (codes "x") 0 (Ok More) → ⊥)
    × (Steps (scanned [] None) (scanned [] None) [] 0 (Err TooLong) → ⊥)
    × (Steps (scanned [] None) (scanned [] None) (line []) 0 (Ok (Found (Text []) 1)) → ⊥)
unfolding split_lines ended rest first_fault entry_of record_entry split_once after_prefix
steps_no_less = (
  (λ is. omega (arith, is.0)),
  (λ is. omega (arith, is.1)),
  (λ is. let bytes : [] ≡ codes "x" = ap (λ (scan : Scanned). scan.bytes) is.0 in absurd (cc)),
  (λ is. let refused : None ≡ Some TooLong = ap (λ (scan : Scanned). scan.failed_with) is.fault_stored in absurd (cc)),
  (λ is. let bytes : [] ≡ line [] = ap (λ (scan : Scanned). scan.bytes) is.2.0 in absurd (cc)),
)

-- The two faults by the position of a byte.
late_or_too_long : IsAfterCloseOrTooLong (AfterClose 2) × IsAfterCloseOrTooLong TooLong
late_or_too_long = (inl (2, refl), inr refl)

not_late : (fault : StreamFault) → IsAfterCloseOrTooLong fault
    → (fault ≢ BadRecord 1) × (fault ≢ Read) × (fault ≢ OutOfMemory) × (fault ≢ NotClosed)
not_late fault (inl late) = let same = late.1 in ((λ is. absurd (cc)), (λ is. absurd (cc)), (λ is. absurd (cc)), (λ is. absurd (cc)))
not_late fault (inr too_long) = ((λ is. absurd (cc)), (λ is. absurd (cc)), (λ is. absurd (cc)), (λ is. absurd (cc)))

-- Not `FirstByteIsPastEnd`: after a fault was returned, with a first byte that has none, or with a fault that isn't by position.
refuses_nothing_first :
    (FirstByteIsPastEnd (scanned (codes "012345678") (Some TooLong)) (codes "x") TooLong → ⊥)
    × (FirstByteIsPastEnd (scanned (codes "01234567") None) (codes "xy") TooLong → ⊥)
    × (FirstByteIsPastEnd (scanned (codes "@@REDO:") None) (line_feed ∷ []) (BadRecord 1) → ⊥)
unfolding split_lines ended rest first_fault entry_of record_entry fields_of split_once after_prefix
refuses_nothing_first = (
  (λ is. let same : Some TooLong ≡ None = is.not_failed in absurd (cc)),
  (λ is. let same : None ≡ Some TooLong = is.fault_is in absurd (cc)),
  (λ is. (not_late (BadRecord 1) is.after_close_or_too_long).0 refl),
)

source_told : ((source_in (scanned (codes "x") None)).target ≡ a) × ((source_in (scanned (codes "x") None)).must_close ≡ true)
    × ((source_in (scanned (codes "x") None)).stream ≡ so_far (codes "x"))
source_told = (refl, refl, refl)

texts : (unended_entry (Some (codes "x")) ≡ Some (Text (codes "x"))) × (unended_entry None ≡ None)
texts = (refl, refl)
