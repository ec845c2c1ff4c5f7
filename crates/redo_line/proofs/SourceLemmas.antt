-- From streams that may end with any line to streams whose log may have to be closed.
use Rattle.std.proofs.Common.{◌≡◌, ℕ, ◌+◌, ◌-◌, Bool, true, false, cond, not, ◌&&◌, List, [], ◌∷◌, ◌++◌, Option, None, Some, IfSome, length, filter_map, slice_get, option_and_then, option_to_list, refl, sym, ap, ◌∙◌, subst, arith}
use Rattle.redo_line.specs.declared.entry.Entry.{Entry}
use Rattle.redo_line.specs.declared.stream_fault.StreamFault.{StreamFault}
use Rattle.redo_line.specs.declared.stream_fault.StreamFault.TheVariants.{NotClosed}
use Rattle.redo_device.specs.Feed.{Stream}
use Rattle.redo_line.specs.Entry.{entry_of}
use Rattle.redo_line.specs.Laws.{IsEarlyFault}
use Rattle.redo_line.specs.Lines.{ended, rest, unended}
use Rattle.redo_line.specs.Log.{closes, entries_of, fault_of, first_fault, line_entries, log_of, or_else, unless_fault}
use Rattle.redo_line.specs.Source.{Source, closing_fault, source_fault, is_closed, last_entry, source_log, source}
use Rattle.redo_line.specs.Scan.{entries_so_far, so_far, unended_entry}
use Rattle.redo_line.specs.Private.Progress.{closed_by, IsAfter, Progress}
use Rattle.redo_line.proofs.EntryListLemmas.{closed_by-append, first_fault-append-none, first_fault-front-none}
use Rattle.redo_line.proofs.FaultLemmas.{no_fault, rest_entries}
use Rattle.redo_line.proofs.ScanEnds.{log_with}

module _ (max_bytes : ℕ) (given : Source Stream) where
  -- A fault that is known before the end.
  pub fault_met : (fault : StreamFault) → fault_of given.target max_bytes given.stream ≡ Some fault
      → source_fault max_bytes given ≡ Some fault
  fault_met fault is = ap (λ first. or_else first (closing_fault given)) is

  -- If there is none, only `NotClosed` may be left.
  pub fault_left : fault_of given.target max_bytes given.stream ≡ None → source_fault max_bytes given ≡ closing_fault given
  fault_left none = ap (λ first. or_else first (closing_fault given)) none

  -- A fault that is known early is known before the end.
  pub met_early : (fault : StreamFault) → IsEarlyFault fault → source_fault max_bytes given ≡ Some fault
      → fault_of given.target max_bytes given.stream ≡ Some fault
  met_early fault early = by (fault_of given.target max_bytes given.stream)
      (given.must_close && not (is_closed given.target given.stream.bytes))
    where
      by : (first : Option StreamFault) (lacks : Bool) → or_else first (cond lacks (Some NotClosed) None) ≡ Some fault → first ≡ Some fault
      by (Some first) lacks is = is
      by None true is = let same : NotClosed ≡ fault = cc in absurd (subst IsEarlyFault (sym same) early)
      by None false is = absurd (cc)

  -- A fact about the log of a stream that may end with any line.
  pub of_log : (P : List Entry → Type 0) → IfSome (log_of given.target max_bytes given.stream) P → IfSome (source_log max_bytes given) P
  of_log P = by (fault_of given.target max_bytes given.stream) (closing_fault given)
    where
      all : List Entry
      all = filter_map (λ entry. entry) (entries_of given.target given.stream.bytes)

      by : (first other : Option StreamFault) → IfSome (unless_fault first all) P → IfSome (unless_fault (or_else first other) all) P
      by (Some fault) other is = tt
      by None (Some fault) is = tt
      by None None is = is

-- A log that need not be closed.
any_end : (fault : Option StreamFault) → or_else fault None ≡ fault
any_end None = refl
any_end (Some fault) = refl

module _ (target : List ℕ) (max_bytes : ℕ) (stream : Stream) where
  pub any_fault : source_fault max_bytes (source target false stream) ≡ fault_of target max_bytes stream
  any_fault = any_end (fault_of target max_bytes stream)

  pub any_log : source_log max_bytes (source target false stream) ≡ log_of target max_bytes stream
  any_log = ap (λ fault. unless_fault fault (filter_map (λ entry. entry) (entries_of target stream.bytes))) any_fault

-- ---- the last line

last_of_more : (closed : Bool) (first : Option Entry) (others : List (Option Entry)) (last : ℕ) → last ≡ length others
    → closes (option_and_then (λ entry. entry) (slice_get (first ∷ others) last)) ≡ closed_by closed (first ∷ others)
last_of_more closed first [] last is = ap (λ n. closes (option_and_then (λ entry. entry) (slice_get (first ∷ []) n))) is
last_of_more closed first (next ∷ others) last is =
    ap (λ n. closes (option_and_then (λ entry. entry) (slice_get (first ∷ next ∷ others) n))) is
    ∙ last_of_more (closes first) next others (length others) refl

-- The last entry decides whether the log is closed.
last_closes : (entries : List (Option Entry)) → closes (last_entry entries) ≡ closed_by false entries
last_closes [] = refl
last_closes (first ∷ others) = last_of_more false first others (length (first ∷ others) - 1) (omega arith)

-- The state after the consumed bytes has it.
pub closed_after : (p : Progress) (bytes : List ℕ) → IsAfter p bytes → is_closed p.target bytes ≡ p.closed
unfolding first_fault entry_of
closed_after p bytes after = last_closes (entries_of p.target bytes) ∙ closed_by-append false before (rest_entries p.target (rest bytes))
    ∙ by (rest bytes) refl ∙ sym after.closed_is
  where
    before : List (Option Entry)
    before = line_entries p.target (ended bytes)

    fine : first_fault false 1 (entries_of p.target bytes) ≡ None
    fine = (no_fault p.target p.max_bytes (so_far bytes) after.no_fault).0

    goes_on : first_fault (closed_by false before) (1 + length before) (rest_entries p.target (rest bytes)) ≡ None
    goes_on = sym (first_fault-append-none false 1 before (rest_entries p.target (rest bytes))
        (first_fault-front-none false 1 before (rest_entries p.target (rest bytes)) fine)) ∙ fine

    by : (last : List ℕ) → rest bytes ≡ last → closed_by (closed_by false before) (rest_entries p.target last) ≡ closed_by false before
    by [] is = refl
    by (byte ∷ last) is = open_before (closed_by false before)
        (ap (λ l. first_fault (closed_by false before) (1 + length before) (rest_entries p.target l)) (sym is) ∙ goes_on)
      where
        open_before : (closed : Bool) → first_fault closed (1 + length before) (rest_entries p.target (byte ∷ last)) ≡ None → false ≡ closed
        open_before true none = absurd (cc)
        open_before false none = refl

-- ---- the end of the input

module _ (p : Progress) (bytes : List ℕ) (after : IsAfter p bytes) (must_close : Bool) where
  pub fault_in_the_end : (must closed : Bool) → must_close ≡ must → p.closed ≡ closed
      → source_fault p.max_bytes (source p.target must_close (so_far bytes)) ≡ cond (must && not closed) (Some NotClosed) None
  fault_in_the_end must closed must_is closed_is =
      fault_left p.max_bytes (source p.target must_close (so_far bytes)) after.no_fault
      ∙ (λ i. cond (must_is i && not ((closed_after p bytes after ∙ closed_is) i)) (Some NotClosed) None)

  -- The entries found and the unended line are the log.
  pub log_in_the_end : (last : Option (List ℕ)) → source_fault p.max_bytes (source p.target must_close (so_far bytes)) ≡ None
      → last ≡ unended p.kept
      → source_log p.max_bytes (source p.target must_close (so_far bytes))
      ≡ Some (entries_so_far p.target p.max_bytes bytes ++ option_to_list (unended_entry last))
  log_in_the_end last none is =
      let all = filter_map (λ entry. entry) (entries_of p.target bytes) in
      ap (λ fault. unless_fault fault all) none ∙ sym (ap (λ fault. unless_fault fault all) after.no_fault) ∙ log_with p bytes after last is
