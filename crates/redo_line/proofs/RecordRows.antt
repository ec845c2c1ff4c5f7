-- Examples of lines in the log of the target `all`, computed: the line, whether it is ended, and its entry.
use Rattle.std.proofs.Common.{◌≡◌, ℕ, Bool, true, false, List, [], ◌∷◌, Option, None, Some, pos, negsuc, refl}
use Rattle.std.specs.Prelude.{codes, option_map}
use Rattle.std.specs.List.{AllByRecursion}
use Rattle.redo_line.specs.declared.entry.Entry.{Entry}
use Rattle.redo_line.specs.declared.entry.Entry.TheVariants.{Text, Mention, Done, Closing, Note}
use Rattle.redo_line.specs.declared.entry.How.TheVariants.{Made, Waiting, Locked, Unlocked, Unchanged}
use Rattle.redo_line.specs.Decimal.{number}
use Rattle.redo_name.specs.Names.{reduce_suffix, normal}
use Rattle.redo_line.specs.Parts.{split_once, after_prefix}
use Rattle.redo_name.specs.declared.name.NameFault.TheVariants as name
use Rattle.redo_line.specs.declared.line.LineFault.TheVariants.{BadRecord, OutOfMemory}
use Rattle.redo_line.specs.Line.{line_fault_of_name}
use Rattle.redo_line.specs.Record.{is_kind, is_time, fields_of, record_fields, status_of, timed_parts}
use Rattle.redo_line.specs.Entry.{record_entry, entry_of}

record Row : Type 0 where
  line : List ℕ
  ended : Bool
  entry : Option Entry

abbrev row : List ℕ → Option Entry → Row
row line entry = record { line = line; ended = true; entry = entry }

abbrev unended : List ℕ → Row
unended line = record { line = line; ended = false; entry = Some (Text line) }

abbrev text : List ℕ → Row
text line = row line (Some (Text line))

abbrev bad : List ℕ → Row
bad line = row line None

abbrev rows : List Row
rows =
    text (codes "hello") ∷
    text [] ∷
    text (codes "t ") ∷
    text (codes "x @@REDO:do:7:1@@ a") ∷
    text (codes "@@REDO") ∷
    unended (codes "@@REDO:do:7:1.0000@@ a") ∷
    row (codes "@@REDO:do:7:1.0000@@ a") (Some (Mention 7 Made (codes "a"))) ∷
    row (codes "@@REDO:do:007:1@@ ./a b") (Some (Mention 7 Made (codes "a b"))) ∷
    row (codes "@@REDO:do:0:1@@ a") (Some (Mention 0 Made (codes "a"))) ∷
    row (codes "@@REDO:do:4294967295:1@@ a") (Some (Mention 4294967295 Made (codes "a"))) ∷
    row (codes "@@REDO:waiting:7:1@@ d/x") (Some (Mention 7 Waiting (codes "d/x"))) ∷
    row (codes "@@REDO:locked:7:1@@ x") (Some (Mention 7 Locked (codes "x"))) ∷
    row (codes "@@REDO:unlocked:7:1@@ x") (Some (Mention 7 Unlocked (codes "x"))) ∷
    row (codes "@@REDO:unchanged:7:1@@ x") (Some (Mention 7 Unchanged (codes "x"))) ∷
    row (codes "@@REDO:done:7:1@@ 2 b") (Some (Done 7 (pos 2) (codes "b"))) ∷
    row (codes "@@REDO:done:7:1@@ -11 b") (Some (Done 7 (negsuc 10) (codes "b"))) ∷
    row (codes "@@REDO:done:7:1@@ -12 b") (Some (Done 7 (negsuc 11) (codes "b"))) ∷
    row (codes "@@REDO:done:7:1@@ -0 b") (Some (Done 7 (pos 0) (codes "b"))) ∷
    row (codes "@@REDO:done:7:1@@ 007  b") (Some (Done 7 (pos 7) (codes " b"))) ∷
    row (codes "@@REDO:done:7:1@@ 0 ./all") (Some (Closing 7 (pos 0))) ∷
    row (codes "@@REDO:done:0000001234:1@@ 0 all") (Some (Closing 1234 (pos 0))) ∷
    row (codes "@@REDO:done:0000001230:1@@ 1 b") (Some (Done 1230 (pos 1) (codes "b"))) ∷
    row (codes "@@REDO:x-y_z:4294967295:1.123456789@@ ") (Some (Note 4294967295 (codes "x-y_z") [])) ∷
    row (codes "@@REDO:check:7:12345678901234567890@@ b") (Some (Note 7 (codes "check") (codes "b"))) ∷
    bad (codes "@@REDO:") ∷
    bad (codes "@@REDO:do:7") ∷
    bad (codes "@@REDO::7:1@@ a") ∷
    bad (codes "@@REDO:Do:7:1@@ a") ∷
    bad (codes "@@REDO:do:4294967296:1@@ a") ∷
    bad (codes "@@REDO:do:00000000007:1@@ a") ∷
    bad (codes "@@REDO:do:7:1.@@ a") ∷
    bad (codes "@@REDO:do:7:1.1234567890@@ a") ∷
    bad (codes "@@REDO:check:7:123456789012345678901@@ b") ∷
    bad (codes "@@REDO:do:7:@@ a") ∷
    bad (codes "@@REDO:do:7:1@@a") ∷
    bad (codes "@@REDO:do:7:1@@ ") ∷
    bad (codes "@@REDO:done:7:1@@ 0") ∷
    bad (codes "@@REDO:done:7:1@@ 0 ") ∷
    bad (codes "@@REDO:done:7:1@@ - b") ∷
    bad (codes "@@REDO:done:7:1@@ 1234567890 b") ∷
    []

all_rows : AllByRecursion (λ row. entry_of (codes "all") row.line row.ended ≡ row.entry) rows
unfolding entry_of record_entry fields_of status_of split_once after_prefix number normal reduce_suffix
all_rows = (
  refl,
  (
    refl,
    (
      refl,
      (
        refl,
        (
          refl,
          (
            refl,
            (
              refl,
              (
                refl,
                (
                  refl,
                  (
                    refl,
                    (
                      refl,
                      (
                        refl,
                        (
                          refl,
                          (
                            refl,
                            (
                              refl,
                              (
                                refl,
                                (
                                  refl,
                                  (
                                    refl,
                                    (
                                      refl,
                                      (
                                        refl,
                                        (
                                          refl,
                                          (
                                            refl,
                                            (
                                              refl,
                                              (
                                                refl,
                                                (
                                                  refl,
                                                  (
                                                    refl,
                                                    (
                                                      refl,
                                                      (
                                                        refl,
                                                        (
                                                          refl,
                                                          (
                                                            refl,
                                                            (
                                                              refl,
                                                              (refl, (refl, (refl, (refl, (refl, (refl, (refl, (refl, (refl, tt))))))))),
                                                            ),
                                                          ),
                                                        ),
                                                      ),
                                                    ),
                                                  ),
                                                ),
                                              ),
                                            ),
                                          ),
                                        ),
                                      ),
                                    ),
                                  ),
                                ),
                              ),
                            ),
                          ),
                        ),
                      ),
                    ),
                  ),
                ),
              ),
            ),
          ),
        ),
      ),
    ),
  ),
)

-- In the log of another target, names are relative to its directory.
in_a_directory : entry_of (codes "d/a") (codes "@@REDO:do:7:1@@ ../e//x") true ≡ Some (Mention 7 Made (codes "e/x"))
unfolding entry_of record_entry fields_of status_of split_once after_prefix number normal reduce_suffix
in_a_directory = refl

closes_by_its_resolved_name : entry_of (codes "d/a") (codes "@@REDO:done:7:1@@ 0 ../d/a") true ≡ Some (Closing 7 (pos 0))
unfolding entry_of record_entry fields_of status_of split_once after_prefix number normal reduce_suffix
closes_by_its_resolved_name = refl

not_by_the_name_as_written : entry_of (codes "d/a") (codes "@@REDO:done:7:1@@ 0 d/a") true ≡ Some (Done 7 (pos 0) (codes "d/d/a"))
unfolding entry_of record_entry fields_of status_of split_once after_prefix number normal reduce_suffix
not_by_the_name_as_written = refl

-- Single parts of a record.
kinds : (is_kind (codes "x-y_z") ≡ true) × (is_kind (codes "xY") ≡ false) × (is_kind [] ≡ false)
kinds = (refl, refl, refl)

times : (is_time (codes "1.5") ≡ true) × (is_time (codes ".5") ≡ false) × (is_time (codes "x.5") ≡ false)
    × (is_time (codes "1.5.5") ≡ false)
unfolding split_once
times = (refl, refl, refl, refl)

statuses : (status_of (codes "-123456789") ≡ Some (negsuc 123456788)) × (status_of (codes "-1234567890") ≡ None)
    × (status_of (codes "--1") ≡ None) × (status_of (codes "123456789") ≡ Some (pos 123456789))
unfolding status_of after_prefix number
statuses = (refl, refl, refl, refl)

-- The fault of a line whose name can't be resolved.
bad_names : (line_fault_of_name name.Empty ≡ BadRecord) × (line_fault_of_name name.OutOfMemory ≡ OutOfMemory)
bad_names = (refl, refl)

-- ---- the kind, the time and the text of a line

record TimedRow : Type 0 where
  line : List ℕ
  parts : Option (List ℕ × List ℕ × List ℕ)

abbrev timed : List ℕ → List ℕ → List ℕ → List ℕ → TimedRow
timed line kind time text = record { line = line; parts = Some (kind, time, text) }

abbrev untimed : List ℕ → TimedRow
untimed line = record { line = line; parts = None }

abbrev timed_lines : List TimedRow
timed_lines =
    timed (codes "@@REDO:do:7:1.25@@ a b") (codes "do") (codes "1.25") (codes "a b") ∷
    timed (codes "@@REDO:done:7:20@@ x") (codes "done") (codes "20") (codes "x") ∷
    timed (codes "@@REDO:n:7:1@@ ") (codes "n") (codes "1") [] ∷
    untimed (codes "do:7:1.25@@ a b") ∷
    untimed (codes "@@REDO:do:7:1.25@@a") ∷
    untimed (codes "@@REDO:do:7:x@@ a") ∷
    untimed (codes " @@REDO:do:7:1@@ a") ∷
    untimed [] ∷
    []

these_timed_lines : AllByRecursion (λ row. option_map timed_parts (record_fields row.line) ≡ row.parts) timed_lines
unfolding record_fields fields_of split_once after_prefix number
these_timed_lines = (refl, (refl, (refl, (refl, (refl, (refl, (refl, (refl, tt))))))))
