-- Examples of sets of streams, computed: the targets, their streams, and the logs or the lowest-numbered fault.
use Rattle.std.proofs.Common.{◌≡◌, ℕ, true, false, List, [], ◌∷◌, ◌++◌, Option, None, Some, refl}
use Rattle.std.specs.Prelude.{codes, filter_map}
use Rattle.std.specs.List.{AllByRecursion, flat_map}
use Rattle.redo_line.specs.declared.stream_fault.StreamFault.{StreamFault}
use Rattle.redo_line.specs.declared.stream_fault.StreamFault.TheVariants.{BadRecord, NotClosed, Read}
use Rattle.redo_line.specs.Decimal.{number}
use Rattle.redo_line.specs.Entry.{record_entry, entry_of}
use Rattle.redo_device.specs.Feed.{Stream}
use Rattle.redo_line.specs.Lines.{line_feed, split_lines, ended, rest}
use Rattle.redo_line.specs.Log.{stream_of, first_fault}
use Rattle.redo_line.specs.Source.{StreamInput}
use Rattle.redo_name.specs.Names.{reduce_suffix, normal}
use Rattle.redo_line.specs.Parts.{split_once, after_prefix}
use Rattle.redo_line.specs.Record.{fields_of, status_of}
use Rattle.redo_logs.specs.declared.log_state.LogState.TheVariants.{Ended}
use Rattle.redo_logs.specs.Logs.{Log}
use Rattle.redo_gather.specs.Streams.{MatchKnown, MatchesContents, known_inputs, logs_of, fault_among}

abbrev line : List ℕ → List ℕ
line text = text ++ line_feed ∷ []

abbrev bad : List ℕ
bad = line (codes "@@REDO:do:7")

abbrev all : List (List ℕ)
all =
    codes "@@REDO:do:7:1.0000@@ a.o" ∷ codes "@@REDO:do:7:1.0000@@ b.o" ∷ codes "@@REDO:done:7:1.0000@@ 0 a.o"
    ∷ codes "@@REDO:done:7:1.0000@@ 1 b.o" ∷ codes "link" ∷
    []

-- The log of a target whose stream has these lines.
abbrev lines_log : List ℕ → List (List ℕ) → Log
lines_log target lines = record { target = target; entries = filter_map (λ line. entry_of target line true) lines; state = Ended }

abbrev logs : List Log
logs = lines_log (codes "all") all ∷ lines_log (codes "d/a.o") (codes "cc a" ∷ codes "@@REDO:do:7:1.0000@@ b" ∷ [])
    ∷ lines_log (codes "b.o") (codes "cc b" ∷ []) ∷ []

-- A stream without the must-close flag, and one with it.
abbrev any : Stream → StreamInput Stream
any stream = record { must_close = false; stream = stream }

abbrev closed : Stream → StreamInput Stream
closed stream = record { must_close = true; stream = stream }

abbrev streams : List (StreamInput Stream)
streams =
    any (stream_of (flat_map line all) false) ∷ any (stream_of (line (codes "cc a") ++ line (codes "@@REDO:do:7:1.0000@@ b")) false) ∷
    any (stream_of (line (codes "cc b")) false) ∷
    []

these_logs : logs_of 1000 (codes "all" ∷ codes "d/a.o" ∷ codes "b.o" ∷ []) streams ≡ Some logs
unfolding split_lines ended rest first_fault entry_of record_entry fields_of status_of split_once after_prefix number normal reduce_suffix
these_logs = refl

no_streams : (logs_of 1000 [] [] ≡ Some []) × (fault_among 1000 [] [] ≡ None)
no_streams = (refl, refl)

record FaultRow : Type 0 where
  streams : List (StreamInput Stream)
  number : ℕ
  fault : StreamFault

abbrev has_fault : StreamInput Stream → StreamInput Stream → ℕ → StreamFault → FaultRow
has_fault a b number fault = record { streams = a ∷ b ∷ []; number = number; fault = fault }

abbrev ok : List ℕ
ok = line (codes "ok")

abbrev done : List ℕ
done = line (codes "@@REDO:done:7:1.0000@@ 0 a")

abbrev x : List ℕ
x = line (codes "x")

-- The streams of `a` and `b`, and their fault.
abbrev faults : List FaultRow
faults =
    has_fault (any (stream_of (ok ++ bad) false)) (any (stream_of [] false)) 0 (BadRecord 2) ∷
    has_fault (any (stream_of (ok ++ ok ++ ok ++ ok ++ ok ++ ok ++ ok ++ ok ++ bad) false)) (any (stream_of bad false)) 0 (BadRecord 9) ∷
    has_fault (any (stream_of x true)) (any (stream_of bad false)) 0 Read ∷
    has_fault (any (stream_of bad true)) (any (stream_of [] false)) 0 (BadRecord 1) ∷
    has_fault (any (stream_of ok false)) (any (stream_of bad false)) 1 (BadRecord 1) ∷
    has_fault (closed (stream_of x false)) (any (stream_of bad false)) 0 NotClosed ∷
    has_fault (any (stream_of x false)) (closed (stream_of [] false)) 1 NotClosed ∷
    has_fault (closed (stream_of done false)) (closed (stream_of done false)) 1 NotClosed ∷
    []

abbrev targets : List (List ℕ)
targets = codes "a" ∷ codes "b" ∷ []

these_faults : AllByRecursion (λ row. (fault_among 1000 targets row.streams ≡ Some (row.number, row.fault))
    × (logs_of 1000 targets row.streams ≡ None)) faults
unfolding split_lines ended rest first_fault entry_of record_entry fields_of status_of split_once after_prefix number normal reduce_suffix
these_faults = (
  (refl, refl),
  (
    (refl, refl),
    ((refl, refl), ((refl, refl), ((refl, refl), ((refl, refl), ((refl, refl), ((refl, refl), tt)))))),
  ),
)

-- The known facts about two readers. The second one is opaque.
these_known : known_inputs (λ (known : Option Stream). known) (true ∷ false ∷ []) (Some (stream_of x false) ∷ None ∷ [])
    ≡ record { must_close = true; stream = Some (stream_of x false) } ∷ record { must_close = false; stream = None } ∷ []
these_known = refl

-- An opaque reader may give any stream, and no readers give no streams.
any_given : MatchesContents None (stream_of x true)
any_given = tt

none_known : MatchKnown [] []
none_known = tt
