-- Examples of explanations, computed.
use Rattle.std.proofs.Common.{◌≡◌, ℕ, ◌+◌, false, List, [], ◌∷◌, ◌++◌, Option, None, Some, Ok, Err, refl}
use Rattle.std.specs.Prelude.{codes, map}
use Rattle.std.specs.Fmt.{digits}
use Rattle.std.specs.List.{AllByRecursion, range_with_len}
use Rattle.redo_args.specs.declared.words_fault.WordsFault.TheVariants as words
use Rattle.redo_index.specs.declared.index_fault.IndexFault.TheVariants as index_fault
use Rattle.redo_index.specs.declared.index_entry.IndexEntry.{IndexEntry}
use Rattle.redo_line.specs.declared.stream_fault.StreamFault.TheVariants as stream
use Rattle.redo_run.specs.declared.run_fault.RunFault.TheVariants as run
use Rattle.redo_command.specs.declared.error_keeper.WriteError.{WriteError}
use Rattle.redo_command.specs.declared.error_keeper.WriteError.TheVariants as error
use Rattle.redo_command.specs.declared.failure.Failure.{Failure}
use Rattle.redo_command.specs.declared.failure.Failure.TheVariants.{Index, Memory, NamesMissing, NamesRead, Run, Words}
use Rattle.redo_command.specs.Explanation.{explanation_as, outcome_explanation_as, suggestions, arguments_explanation}

these_arguments : arguments_explanation (codes "redo-log") (codes "no target") ≡ codes "redo-log: no target; try --help\n"
these_arguments = refl

-- ---- suggestions

record Suggested : Type 0 where
  name : List ℕ
  targets : List (List ℕ)
  names_are : List (List ℕ)

abbrev suggests : List ℕ → List (List ℕ) → List (List ℕ) → Suggested
suggests name targets names = record { name = name; targets = targets; names_are = names }

abbrev objects : List (List ℕ)
objects = codes "all" ∷ codes "src/object.o" ∷ codes "lib/object.o" ∷ codes "src/subobject.o" ∷ []

abbrev many : List (List ℕ)
many = codes "a/x" ∷ codes "b/x" ∷ codes "c/x" ∷ codes "d/y" ∷ codes "d/x" ∷ codes "e/x" ∷ codes "f/x" ∷ []

abbrev names : List Suggested
names =
    suggests (codes "object.o") objects (codes "src/object.o" ∷ codes "lib/object.o" ∷ []) ∷
    suggests (codes "ject.o") objects (codes "src/object.o" ∷ codes "lib/object.o" ∷ codes "src/subobject.o" ∷ []) ∷
    suggests (codes "src/object") objects [] ∷
    suggests (codes "x") many (codes "a/x" ∷ codes "b/x" ∷ codes "c/x" ∷ codes "d/x" ∷ codes "e/x" ∷ []) ∷
    suggests (codes "a") [] [] ∷
    []

these_names : AllByRecursion (λ row. suggestions row.name row.targets ≡ row.names_are) names
these_names = (refl, (refl, (refl, (refl, (refl, tt)))))

-- ---- explanations

record Row : Type 0 where
  dir : List ℕ
  write_error : Option WriteError
  failure : Failure
  text_is : List ℕ

abbrev explains_by : List ℕ → Option WriteError → Failure → List ℕ → Row
explains_by dir write_error failure text = record { dir = dir; write_error = write_error; failure = failure; text_is = text }

abbrev explains : List ℕ → Failure → List ℕ → Row
explains dir failure text = explains_by dir None failure text

abbrev entry : ℕ → List ℕ → IndexEntry
entry number target = record { number = number; target = target; must_close = false }

abbrev index : List IndexEntry
index = entry 1 (codes "all") ∷ entry 7 (codes "src/object.o") ∷ entry 30 (codes "lib/object.o") ∷ []

abbrev output : List ℕ
output = codes "it's/page.html"

abbrev arguments : List (List ℕ)
arguments = codes "all" ∷ codes "object.o" ∷ codes "other" ∷ []

abbrev rows : List Row
rows =
    explains (codes ".") (Run (run.Unknown 1)) (codes "redo-log: did you mean src/object.o, lib/object.o\n") ∷
    explains (codes ".redo-log") (Run (run.Unknown 2)) (codes "redo-log: targets: 3; list them: cut -d ' ' -f 2- '.redo-log/names'\n") ∷
    explains (codes "-it's") (Run (run.Unknown 2)) (codes "redo-log: targets: 3; list them: cut -d ' ' -f 2- './-it'\\''s/names'\n") ∷
    explains (codes ".") (Run (run.Stream 1 (stream.BadRecord 4))) (codes "redo-log: leave this log out: sed -i '/^!*7 /d' './names'\n") ∷
    explains (codes "d") (Run (run.Stream 2 stream.NotClosed)) (codes "redo-log: leave this log out: sed -i '/^!*30 /d' 'd/names'\n") ∷
    explains (codes ".") NamesMissing
    (codes "redo-log: no file './names'; without --dir DIR, a capture is looked for here, in .redo-log and in capture\n") ∷
    explains (codes "d") NamesRead
    (codes "redo-log: not readable: 'd/names'; it must be a file of at most 1073741824 bytes that you may read\n") ∷
    explains (codes ".") (Words words.Refused) [] ∷
    []

these_rows : AllByRecursion (λ row. explanation_as (codes "redo-log") row.dir output row.write_error index arguments row.failure ≡ row.text_is) rows
unfolding digits
these_rows = (refl, (refl, (refl, (refl, (refl, (refl, (refl, (refl, tt))))))))

-- The entries of an index with 18 targets.
abbrev many_logs : List IndexEntry
many_logs = map (λ n. entry (n + 1) (codes "t")) (range_with_len 0 18)

-- A log that can't be read, and how many logs are before it.
record Unreadable : Type 0 where
  position : ℕ
  text_is : List ℕ

abbrev unreadable : ℕ → List ℕ → Unreadable
unreadable position text = record { position = position; text_is = text }

abbrev logs : List Unreadable
logs =
    unreadable 1 (codes "redo-log: not readable: './-d/log.2'; it must be a file that you may read\n") ∷
    unreadable 15 (codes "redo-log: not readable: './-d/log.16'; it must be a file that you may read\n") ∷
    unreadable 16 (
    codes "redo-log: not readable: './-d/log.17'; it must be a file that you may read; "
    ++ codes "up to 16 others are open, and ulimit -n shows how many files may be\n"
    ) ∷
    []

these_logs : AllByRecursion (
    λ row. explanation_as (codes "redo-log") (codes "-d") output None many_logs arguments (Run (run.Stream row.position stream.Read)) ≡ row.text_is
    ) logs
unfolding digits
these_logs = (refl, (refl, (refl, tt)))

-- A line of the index.
abbrev lines : List Row
lines =
    explains (codes ".") (Index (index_fault.BadLine 12)) (codes "redo-log: leave this line out: sed -i 12d './names'\n") ∷
    explains (codes "it's") (Index (index_fault.FidTwice 2)) (codes "redo-log: leave this line out: sed -i 2d 'it'\\''s/names'\n") ∷
    explains (codes "-") (Index (index_fault.NameTwice 3)) (codes "redo-log: leave this line out: sed -i 3d './-/names'\n") ∷
    explains (codes "d") (Index index_fault.TooMany) (codes "redo-log: at most 1048575 lines can be read: 'd/names'\n") ∷
    []

these_lines : AllByRecursion (λ row. explanation_as (codes "redo-log") row.dir output row.write_error index arguments row.failure ≡ row.text_is) lines
unfolding digits
these_lines = (refl, (refl, (refl, (refl, tt))))

-- The output, by the error of a write.
abbrev outputs : List Row
outputs =
    explains (codes ".") (Run run.Write)
    (codes "redo-log: not writable: 'it'\\''s/page.html'; "
    ++ codes "it must be a file in a directory that exists, and you must be allowed to write there\n") ∷
    explains_by (codes ".") (Some error.NoSpace) (Run run.Write)
    (codes "redo-log: no space is left where the output is written; df -h shows how full each disk is\n") ∷
    explains_by (codes ".") (Some error.QuotaExceeded) (Run run.Write)
    (codes "redo-log: your disk quota is used up where the output is written; quota -s shows it\n") ∷
    explains_by (codes ".") (Some error.ClosedPipe) (Run run.Write)
    (codes "redo-log: what reads the output ended early; sed -n 1,10p, unlike head, reads all of it\n") ∷
    explains_by (codes ".") (Some error.Other) (Run run.Write) [] ∷
    []

these_outputs : AllByRecursion (λ row. explanation_as (codes "redo-log") row.dir output row.write_error index arguments row.failure ≡ row.text_is) outputs
these_outputs = (refl, (refl, (refl, (refl, (refl, tt)))))

-- Memory ran out.
abbrev no_memory : List ℕ
no_memory = codes "redo-log: no memory or no thread was left; --senders 1 needs the least, and ulimit -v shows a limit on memory\n"

abbrev memories : List Row
memories =
    explains (codes ".") Memory no_memory ∷
    explains (codes ".") (Index index_fault.OutOfMemory) no_memory ∷
    explains (codes ".") (Run run.OutOfMemory) no_memory ∷
    explains (codes ".") (Run (run.Stream 0 stream.OutOfMemory)) no_memory ∷
    []

these_memories : AllByRecursion (λ row. explanation_as (codes "redo-log") row.dir output row.write_error index arguments row.failure ≡ row.text_is) memories
unfolding digits
these_memories = (refl, (refl, (refl, (refl, tt))))

-- ---- outcomes

this_outcome : outcome_explanation_as (codes "redo-log") (codes ".") output None index arguments (Ok tt) ≡ []
this_outcome = refl

this_failure : outcome_explanation_as (codes "redo-log") (codes ".") output None index arguments (Err Memory) ≡ no_memory
this_failure = refl
