-- Examples of the results of gatherings, computed: the target `a`, whose stream is known and has no bytes.
use Rattle.std.proofs.Common.{◌≡◌, ℕ, Bool, true, false, List, [], ◌∷◌, Option, None, Some, Ok, Err, length, refl, sym, ap, ◌∙◌, arith}
use Rattle.std.specs.Prelude.{codes}
use Rattle.redo_line.specs.declared.entry.Entry.{Entry}
use Rattle.redo_line.specs.declared.entry.Entry.TheVariants.{Text}
use Rattle.redo_line.specs.declared.stream_fault.StreamFault.{StreamFault}
use Rattle.redo_line.specs.declared.stream_fault.StreamFault.TheVariants.{NotClosed, TooLong}
use Rattle.redo_device.specs.Feed.{Stream}
use Rattle.redo_line.specs.Decimal.{number}
use Rattle.redo_line.specs.Entry.{record_entry, entry_of}
use Rattle.redo_line.specs.Lines.{split_lines, ended, rest}
use Rattle.redo_line.specs.Log.{stream_of, first_fault}
use Rattle.redo_line.specs.Parts.{split_once, after_prefix}
use Rattle.redo_line.specs.Record.{fields_of, status_of}
use Rattle.redo_line.specs.Source.{StreamInput}
use Rattle.redo_name.specs.Names.{reduce_suffix, normal}
use Rattle.redo_logs.specs.declared.log_state.LogState.TheVariants.{Ended}
use Rattle.redo_logs.specs.Logs.{Log}
use Rattle.redo_gather.specs.declared.gather_fault.GatherFault.TheVariants as gather
use Rattle.redo_gather.specs.Gathered.{IsGathered}
use Rattle.redo_gather.specs.Streams.{KnownInput, MatchKnown, fault_among, fully_known, logs_of}

abbrev given : Bool → StreamInput Stream
given must_close = record { must_close = must_close; stream = stream_of [] false }

abbrev inputs : Bool → List KnownInput
inputs must_close = fully_known (given must_close) ∷ []

abbrev log : List Entry → Log
log entries = record { target = codes "a"; entries = entries; state = Ended }

-- The only stream that this reader may give.
only : (must_close : Bool) (streams : List (StreamInput Stream)) → MatchKnown (inputs must_close) streams → streams ≡ given must_close ∷ []
only must_close [] match = absurd match
only must_close (one ∷ []) match = λ i. record { must_close = match.0.0 i; stream = match.0.1 i } ∷ []
only must_close (one ∷ two ∷ streams) match = absurd match.1

these_logs : IsGathered 9 (codes "a" ∷ []) (inputs false) (Ok (log [] ∷ []))
unfolding split_lines ended rest first_fault entry_of record_entry fields_of status_of split_once after_prefix number normal reduce_suffix
these_logs = record { logs = (given false ∷ [], ((refl, refl), tt), refl); targets = refl; ended = refl; fault = tt; number = tt }

this_fault : IsGathered 9 (codes "a" ∷ []) (inputs true) (Err (gather.Stream 0 NotClosed))
unfolding split_lines ended rest first_fault entry_of record_entry fields_of status_of split_once after_prefix number normal reduce_suffix
this_fault = record { logs = tt; targets = tt; ended = tt; fault = (given true ∷ [], ((refl, refl), tt), refl); number = omega arith }

memory_ran_out : IsGathered 9 (codes "a" ∷ []) (inputs true) (Err gather.OutOfMemory)
memory_ran_out = record { logs = tt; targets = tt; ended = tt; fault = tt; number = tt }

-- The number of entries of the first log.
abbrev entry_count : Option (List Log) → ℕ
entry_count None = 0
entry_count (Some []) = 0
entry_count (Some (log ∷ logs)) = length log.entries

not_other_entries : IsGathered 9 (codes "a" ∷ []) (inputs false) (Ok (log (Text [] ∷ []) ∷ [])) → ⊥
unfolding split_lines ended rest first_fault entry_of record_entry fields_of status_of split_once after_prefix number normal reduce_suffix
not_other_entries has =
    let streams_are = only false has.logs.0 has.logs.1 in
    let counts : 0 ≡ 1 = ap (λ streams. entry_count (logs_of 9 (codes "a" ∷ []) streams)) (sym streams_are) ∙ ap entry_count has.logs.2 in
    omega (arith, counts)

abbrev code : StreamFault → ℕ
code NotClosed = 1
code fault = 0

abbrev fault_code : Option (ℕ × StreamFault) → ℕ
fault_code None = 0
fault_code (Some found) = code found.1

not_another_fault : IsGathered 9 (codes "a" ∷ []) (inputs true) (Err (gather.Stream 0 TooLong)) → ⊥
unfolding split_lines ended rest first_fault entry_of record_entry fields_of status_of split_once after_prefix number normal reduce_suffix
not_another_fault has =
    let streams_are = only true has.fault.0 has.fault.1 in
    let same : 1 ≡ 0 = ap (λ streams. fault_code (fault_among 9 (codes "a" ∷ []) streams)) (sym streams_are) ∙ ap fault_code has.fault.2 in
    omega (arith, same)
