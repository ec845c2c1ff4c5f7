-- The faults that a scan returns, and its log at the end.
use Rattle.std.proofs.Common.{◌≡◌, ◌≢◌, ◌⊎◌, inl, inr, ℕ, List, [], ◌∷◌, ◌++◌, Bool, true, false, cond, ltb, Option, None, Some, length, take, option_to_list, refl, sym, ◌∙◌, ap, zero-le}
use Rattle.std.specs.List.{filter_map, cons_option}
use Rattle.std.proofs.lemmas.List.Elements.{filter_map-append}
use Rattle.redo_line.specs.declared.stream_fault.StreamFault.{StreamFault}
use Rattle.redo_line.specs.declared.stream_fault.StreamFault.TheVariants.{TooLong, Read, OutOfMemory, NotClosed}
use Rattle.redo_line.specs.Entry.{entry_of}
use Rattle.redo_line.specs.Fault.{end_fault}
use Rattle.redo_line.specs.Lines.{split_lines, ended, rest, unended}
use Rattle.redo_line.specs.Log.{line_entries, entries_of, first_fault, line_fault, or_else, fault_of, unless_fault, log_of}
use Rattle.redo_line.specs.Scan.{so_far, entries_so_far, unended_entry}
use Rattle.redo_line.specs.Private.Progress.{Progress, IsAfter, FailsWith}
use Rattle.redo_line.proofs.EntryListLemmas.{IsFaultAt}
use Rattle.redo_line.proofs.FaultLemmas.{rest_entries, fault_line}
use Rattle.redo_line.proofs.ScanLemmas.{found, fine_is, part_u}

-- The fault isn't known only at the end.
abbrev IsEarly : StreamFault → Type 0
IsEarly fault = (fault ≢ Read) × (fault ≢ NotClosed)

line_early : (line place : ℕ) (fault : StreamFault) → IsFaultAt line place fault → IsEarly fault
line_early line place fault (inl late) = ((λ read. absurd (cc)), (λ not_closed. absurd (cc)))
line_early line place fault (inr bad) = ((λ read. absurd (cc)), (λ not_closed. absurd (cc)))

long_early : (over : Bool) (fault : StreamFault) → cond over (Some TooLong) None ≡ Some fault → IsEarly fault
long_early true fault is = ((λ read. absurd (cc)), (λ not_closed. absurd (cc)))
long_early false fault is = absurd (cc)

-- The fault of the bytes so far, after which no read has failed, is early.
so_far_early : (target : List ℕ) (max_bytes : ℕ) (bytes : List ℕ) (fault : StreamFault)
    → fault_of target max_bytes (so_far bytes) ≡ Some fault → IsEarly fault
so_far_early target max_bytes bytes fault is = by (line_fault target (take max_bytes bytes)) refl
  where
    by : (among : Option StreamFault) → line_fault target (take max_bytes bytes) ≡ among → IsEarly fault
    by (Some first) among =
        let same : Some first ≡ Some fault = sym (ap (λ o. or_else o (end_fault max_bytes (so_far bytes))) among) ∙ is in
        let at = fault_line target (take max_bytes bytes) fault (among ∙ same) in
        line_early 1 at.0 fault at.2
    by None among = long_early (ltb max_bytes (length bytes)) fault
        (sym (ap (λ o. or_else o (end_fault max_bytes (so_far bytes))) among) ∙ is)

pub refused_early : (p : Progress) (u left : List ℕ) (fault : StreamFault) → (fault ≡ OutOfMemory) ⊎ FailsWith p u left fault
    → IsEarly fault
refused_early p u left fault (inl memory) = ((λ read. absurd (cc)), (λ not_closed. absurd (cc)))
refused_early p u left fault (inr refuses) = so_far_early p.target p.max_bytes (u ++ left) fault refuses.fault_is

pub each_found : (target : List ℕ) (lines : List (List ℕ)) → filter_map (λ entry. entry) (line_entries target lines) ≡ found target lines
each_found target [] = refl
each_found target (line ∷ lines) = ap (cons_option (entry_of target line true)) (each_found target lines)

rest_found : (target last : List ℕ) → filter_map (λ entry. entry) (rest_entries target last) ≡ option_to_list (unended_entry (unended last))
unfolding entry_of
rest_found target [] = refl
rest_found target (byte ∷ last) = refl

-- The entries found and the unended line are the log.
pub whole_log : (p : Progress) (bytes : List ℕ) → IsAfter p bytes
    → log_of p.target p.max_bytes (so_far bytes)
    ≡ Some (entries_so_far p.target p.max_bytes bytes ++ option_to_list (unended_entry (unended (rest bytes))))
whole_log p bytes after =
    ap (λ o. unless_fault o (filter_map (λ entry. entry) (entries_of p.target bytes))) after.no_fault
    ∙ ap Some (filter_map-append (λ entry. entry) (line_entries p.target (ended bytes)) (rest_entries p.target (rest bytes))
    ∙ ap (λ es. es ++ filter_map (λ entry. entry) (rest_entries p.target (rest bytes)))
    (each_found p.target (ended bytes) ∙ sym (part_u p bytes after))
    ∙ ap (λ es. entries_so_far p.target p.max_bytes bytes ++ es) (rest_found p.target (rest bytes)))

-- The log, with the unended line as the code has it.
pub log_with : (p : Progress) (bytes : List ℕ) (after : IsAfter p bytes) (last : Option (List ℕ)) → last ≡ unended p.kept
    → log_of p.target p.max_bytes (so_far bytes) ≡ Some (entries_so_far p.target p.max_bytes bytes ++ option_to_list (unended_entry last))
log_with p bytes after last is =
    whole_log p bytes after ∙ ap (λ o. Some (entries_so_far p.target p.max_bytes bytes ++ option_to_list (unended_entry o)))
    (sym (is ∙ ap unended after.kept_is))

-- Before the first byte.
pub nothing_yet : (target : List ℕ) (max_bytes : ℕ) (kept : List ℕ) → kept ≡ []
    → IsAfter (record { target = target; max_bytes = max_bytes; kept = kept; taken = 0; lines = 0; closed = false }) []
unfolding split_lines ended rest first_fault
nothing_yet target max_bytes kept none = record {
  no_fault = fine_is target max_bytes [] refl zero-le;
  kept_is = none;
  taken_is = refl;
  lines_are = refl;
  closed_is = refl;
}

pub none_found : (p : Progress) → IsAfter p [] → entries_so_far p.target p.max_bytes [] ≡ []
unfolding split_lines ended
none_found p after = part_u p [] after
