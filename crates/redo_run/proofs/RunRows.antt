-- Examples of runs, computed: the targets with their streams, the arguments, and the result.
use Rattle.std.proofs.Common.{◌≡◌, ℕ, Bool, true, false, List, [], ◌∷◌, ◌++◌, Some, Result, Ok, Err, map, refl}
use Rattle.std.specs.Prelude.{codes}
use Rattle.std.specs.Fmt.{digits}
use Rattle.std.specs.List.{AllByRecursion}
use Rattle.redo_line.specs.declared.stream_fault.StreamFault.TheVariants.{BadRecord, AfterClose, TooLong, Read, NotClosed}
use Rattle.redo_line.specs.Decimal.{number}
use Rattle.redo_line.specs.Entry.{record_entry, entry_of}
use Rattle.redo_device.specs.Feed.{Stream}
use Rattle.redo_line.specs.Source.{StreamInput}
use Rattle.redo_line.specs.Lines.{line_feed, split_lines, ended, rest}
use Rattle.redo_line.specs.Log.{stream_of, first_fault}
use Rattle.redo_name.specs.Names.{reduce_suffix, normal}
use Rattle.redo_line.specs.Parts.{split_once, after_prefix}
use Rattle.redo_line.specs.Record.{fields_of, status_of}
use Rattle.redo_view.specs.Expansion.{show_log_within, show_log}
use Rattle.redo_run.specs.declared.run_fault.RunFault.{RunFault}
use Rattle.redo_run.specs.declared.run_fault.RunFault.TheVariants.{Unknown, Stream as OfStream}
use Rattle.redo_run.specs.Run.{Request, result_of, find_targets}

abbrev line : List ℕ → List ℕ
line text = text ++ line_feed ∷ []

abbrev bad : List ℕ
bad = line (codes "@@REDO:do:7")

abbrev closing : List ℕ
closing = line (codes "@@REDO:done:7:1.0000@@ 0 a")

abbrev RunResult : Type 0
RunResult = Result (List ℕ) RunFault

record Row : Type 0 where
  request : Request
  streams : List (StreamInput Stream)
  result : RunResult

abbrev whole : List ℕ → StreamInput Stream
whole bytes = record { must_close = false; stream = stream_of bytes false }

-- A stream with the must-close flag.
abbrev closed : List ℕ → StreamInput Stream
closed bytes = record { must_close = true; stream = stream_of bytes false }

-- A run with these targets, streams that no failed read ends, option `recursive`, maximum number of bytes and arguments.
abbrev asks : List (List ℕ) → List (List ℕ) → Bool → ℕ → List (List ℕ) → RunResult → Row
asks targets streams recursive max_bytes arguments result =
    record {
      request = record {
        targets = targets;
        max_bytes = max_bytes;
        options = record { recursive = recursive; unchanged = false; details = true; debug_locks = false; debug_pids = false };
        arguments = arguments;
      };
      streams = map whole streams;
      result = result;
    }

-- A run whose only target is `all`.
abbrev all_asks : List ℕ → ℕ → List (List ℕ) → RunResult → Row
all_asks stream max_bytes arguments result = asks (codes "all" ∷ []) (stream ∷ []) false max_bytes arguments result

abbrev a_asks : List ℕ → ℕ → RunResult → Row
a_asks stream max_bytes result = asks (codes "a" ∷ []) (stream ∷ []) false max_bytes (codes "a" ∷ []) result

-- A run with the streams of `a` and `b` that requests `a`.
abbrev flagged_asks : StreamInput Stream → StreamInput Stream → RunResult → Row
flagged_asks a b result =
    record {
      request = record {
        targets = codes "a" ∷ codes "b" ∷ [];
        max_bytes = 1000;
        options = record { recursive = false; unchanged = false; details = true; debug_locks = false; debug_pids = false };
        arguments = codes "a" ∷ [];
      };
      streams = a ∷ b ∷ [];
      result = result;
    }

abbrev all : List (List ℕ)
all = codes "all" ∷ []

abbrev rows : List Row
rows =
    all_asks (line (codes "hello")) 1000 all (Ok (line (codes "redo  all") ++ line (codes "hello"))) ∷
    all_asks [] 1000 all (Ok (line (codes "redo  all"))) ∷
    all_asks (codes "x") 1000 all (Ok (line (codes "redo  all") ++ line (codes "x"))) ∷
    all_asks (codes "@@REDO:do:7") 1000 all (Ok (line (codes "redo  all") ++ bad)) ∷
    asks (codes "d/a" ∷ codes "e/x" ∷ []) (line (codes "@@REDO:do:7:1.0000@@ ../e//x") ∷ line (codes "q") ∷ []) true 1000
    (codes "d/./a" ∷ []) (
    Ok (line (codes "redo  d/a") ++ line (codes "redo    e/x") ++ line (codes "q"))
    ) ∷
    -- a stream with a fault
    all_asks (line (codes "ok") ++ bad) 1000 all (Err (OfStream 0 (BadRecord 2))) ∷
    a_asks (closing ++ codes "z") 1000 (Err (OfStream 0 (AfterClose 2))) ∷
    a_asks closing 1000 (Ok (line (codes "redo  a"))) ∷
    asks (codes "a" ∷ codes "b" ∷ []) (line (codes "ok") ∷ bad ∷ []) false 1000 (codes "a" ∷ []) (Err (OfStream 1 (BadRecord 1))) ∷
    -- a stream with the maximum number of bytes, and one with more
    all_asks (line (codes "abc")) 4 all (Ok (line (codes "redo  all") ++ line (codes "abc"))) ∷
    all_asks (line (codes "abc") ++ codes "d") 4 all (Err (OfStream 0 TooLong)) ∷
    -- an unknown argument, with and without a stream that has a fault
    all_asks bad 1000 (codes "all" ∷ codes "nope" ∷ []) (Err (Unknown 1)) ∷
    all_asks bad 1000 ([] ∷ []) (Err (Unknown 0)) ∷
    asks [] [] false 1000 (codes "a" ∷ []) (Err (Unknown 0)) ∷
    -- an empty argument names no target, not even the target `.`
    asks (codes "." ∷ []) ([] ∷ []) false 1000 (codes "./" ∷ []) (Ok (line (codes "redo  ."))) ∷
    asks (codes "." ∷ []) ([] ∷ []) false 1000 ([] ∷ []) (Err (Unknown 0)) ∷
    -- the order of the arguments is the order of the text
    asks (codes "a" ∷ codes "b" ∷ []) (line (codes "x") ∷ line (codes "y") ∷ []) false 1000 (codes "b" ∷ codes "a" ∷ []) (
    Ok (line (codes "redo  b") ++ line (codes "y") ++ line (codes "redo  a") ++ line (codes "x"))
    ) ∷
    -- a stream with the must-close flag
    flagged_asks (closed closing) (whole []) (Ok (line (codes "redo  a"))) ∷
    flagged_asks (closed (line (codes "x"))) (whole bad) (Err (OfStream 0 NotClosed)) ∷
    flagged_asks (whole (line (codes "x"))) (closed []) (Err (OfStream 1 NotClosed)) ∷
    flagged_asks (closed (closing ++ codes "z")) (whole []) (Err (OfStream 0 (AfterClose 2))) ∷
    []

these_results : AllByRecursion (λ row. result_of row.request row.streams ≡ Some row.result) rows
unfolding split_lines ended rest first_fault entry_of record_entry fields_of status_of split_once after_prefix number normal reduce_suffix show_log_within show_log digits
these_results = (
  refl,
  (
    refl,
    (
      refl,
      (
        refl,
        (
          refl,
          (
            refl,
            (
              refl,
              (
                refl,
                (refl, (refl, (refl, (refl, (refl, (refl, (refl, (refl, (refl, (refl, (refl, (refl, (refl, tt))))))))))))),
              ),
            ),
          ),
        ),
      ),
    ),
  ),
)

-- The targets that arguments name are in the order of the arguments, and each is there as often as an argument names it.
names_of_arguments :
    find_targets (codes "a" ∷ codes "b" ∷ codes "c" ∷ []) (codes "./b" ∷ codes "a" ∷ codes "b" ∷ codes "c" ∷ [])
    ≡ codes "b" ∷ codes "a" ∷ codes "b" ∷ codes "c" ∷ []
unfolding reduce_suffix normal
names_of_arguments = refl

-- A failed read is the fault if the bytes before it have none, although a later stream has a fault.
failed_reads :
    (result_of (record {
      targets = codes "a" ∷ codes "b" ∷ [];
      max_bytes = 1000;
      options = record { recursive = false; unchanged = false; details = true; debug_locks = false; debug_pids = false };
      arguments = codes "a" ∷ [];
    }) (
    record { must_close = false; stream = stream_of (line (codes "x")) true } ∷ whole bad ∷ []
    ) ≡ Some (Err (OfStream 0 Read)))
unfolding split_lines ended rest first_fault entry_of record_entry fields_of status_of split_once after_prefix number normal reduce_suffix
failed_reads = refl
