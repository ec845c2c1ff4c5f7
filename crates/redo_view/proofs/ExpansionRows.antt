-- Examples of expansions, computed: the logs, the options, the requested targets, and the text. They show facts that no law states:
-- an entry's own text, a mention's line with lock messages, the beginning of a redo line, and which records are mentions.
use Rattle.std.proofs.Common.{◌≡◌, ℕ, Bool, true, false, List, [], ◌∷◌, ◌++◌, pos, negsuc, refl}
use Rattle.std.specs.Prelude.{codes, nat_eq}
use Rattle.std.specs.Fmt.{digits}
use Rattle.std.specs.List.{AllByRecursion, IsDistinct}
use Rattle.std.specs.Cmp.Lexicographic.{pointwise}
use Rattle.redo_line.specs.declared.entry.Entry.{Entry}
use Rattle.redo_line.specs.declared.entry.Entry.TheVariants.{Text, Mention, Done, Closing, Note}
use Rattle.redo_line.specs.declared.entry.How.TheVariants.{Made, Waiting, Locked, Unlocked, Unchanged}
use Rattle.redo_line.specs.Lines.{line_feed}
use Rattle.redo_logs.specs.declared.log_state.LogState.TheVariants.{Ended}
use Rattle.redo_logs.specs.Logs.{Log}
use Rattle.redo_options.specs.declared.options.Options.{Options}
use Rattle.redo_view.specs.Expansion.{is_among, show_log_within, show_log, expand, expansion}
use Rattle.redo_view.specs.Text.{entry_text}

abbrev line : List ℕ → List ℕ
line text = text ++ line_feed ∷ []

abbrev log : List ℕ → List Entry → Log
log target entries = record { target = target; entries = entries; state = Ended }

-- recursive, unchanged, details, debug_locks
abbrev with : Bool → Bool → Bool → Bool → Options
with recursive unchanged details debug_locks = record {
  recursive = recursive;
  unchanged = unchanged;
  details = details;
  debug_locks = debug_locks;
  debug_pids = false;
}

abbrev with_pids : Options → Options
with_pids options = record options { debug_pids = true }

abbrev plain : Options
plain = with false false true false

abbrev deep : Options
deep = with true false true false

record Row : Type 0 where
  logs : List Log
  options : Options
  requested : List (List ℕ)
  text : List ℕ

abbrev shows : List Log → Options → List (List ℕ) → List ℕ → Row
shows logs options requested text = record { logs = logs; options = options; requested = requested; text = text }

abbrev all : List ℕ
all = codes "all"

abbrev a : List ℕ
a = codes "a"

abbrev b : List ℕ
b = codes "b"

abbrev x : List ℕ
x = codes "x"

abbrev rows : List Row
rows =
    shows (log all (Text (codes "hello") ∷ []) ∷ []) plain (all ∷ []) (line (codes "redo  all") ++ line (codes "hello")) ∷
    shows (log all [] ∷ []) plain (all ∷ []) (line (codes "redo  all")) ∷
    -- each log is opened at its first mention, and a cycle ends
    shows (log a (Mention 7 Made b ∷ []) ∷ log b (Mention 7 Made a ∷ Text (codes "t") ∷ []) ∷ []) deep (a ∷ [])
    (line (codes "redo  a") ++ line (codes "redo    b") ++ line (codes "t")) ∷
    shows (log all (Mention 7 Made a ∷ Mention 7 Waiting x ∷ Text (codes "end") ∷ []) ∷ log a (Mention 7 Made x ∷ [])
    ∷ log x (Text (codes "X") ∷ []) ∷ []) (with true false true true) (all ∷ []) (
    line (codes "redo  all") ++ line (codes "redo    a") ++ line (codes "redo      x") ++ line (codes "X")
    ++ line (codes "redo    x (WAITING)") ++ line (codes "end")
    ) ∷
    -- without `recursive`, a mention only names its target; a request opens its log
    shows (log a (Mention 7 Made b ∷ []) ∷ log b (Text (codes "B") ∷ []) ∷ []) plain (a ∷ b ∷ a ∷ [])
    (line (codes "redo  a") ++ line (codes "redo    b") ++ line (codes "redo  b") ++ line (codes "B")) ∷
    shows (log a (Mention 7 Unchanged b ∷ Note 7 (codes "check") b ∷ Text (codes "t") ∷ []) ∷ log b (Text (codes "B") ∷ []) ∷ [])
    (with true false false false) (a ∷ []) (line (codes "redo  a") ++ line (codes "redo    (b)")) ∷
    shows (log a (Mention 7 Unchanged b ∷ Note 7 (codes "check") b ∷ Text (codes "t") ∷ []) ∷ log b (Text (codes "B") ∷ []) ∷ [])
    (with true true false false) (a ∷ []) (line (codes "redo  a") ++ line (codes "redo    b") ++ line (codes "redo    (b)")) ∷
    -- `unchanged` records open logs too if they count as mentions, and have a suffix with `debug_locks`
    shows (log a (Mention 7 Unchanged b ∷ []) ∷ log b (Text (codes "B") ∷ []) ∷ []) (with true true true false) (a ∷ [])
    (line (codes "redo  a") ++ line (codes "redo    b") ++ line (codes "B")) ∷
    shows (log a (Mention 7 Unchanged b ∷ []) ∷ []) (with false true true true) (a ∷ [])
    (line (codes "redo  a") ++ line (codes "redo    b (unchanged)")) ∷
    shows (log a (Mention 7 Unchanged b ∷ []) ∷ []) (with false false true true) (a ∷ []) (line (codes "redo  a")) ∷
    shows (log all (Note 7 (codes "resumed") x ∷ Note 7 (codes "warning") (codes "disk is slow") ∷ Note 7 (codes "check") [] ∷ []) ∷ [])
    (with false false false false) (all ∷ []) (
    line (codes "redo  all") ++ line (codes "redo: x") ++ line (codes "redo: disk is slow") ++ line (codes "redo    ()")
    ) ∷
    shows (log all (Mention 7 Locked x ∷ Mention 7 Unlocked x ∷ Mention 7 Made x ∷ []) ∷ []) plain (all ∷ [])
    (line (codes "redo  all") ++ line (codes "redo    x")) ∷
    shows (log all (Mention 7 Locked x ∷ Mention 7 Unlocked x ∷ Mention 7 Made x ∷ []) ∷ []) (with false false true true) (all ∷ []) (
    line (codes "redo  all") ++ line (codes "redo    x (locked...)") ++ line (codes "redo    x (...unlocked!)") ++ line (codes "redo    x")
    ) ∷
    shows (
    log all (Mention 7 Made (codes "a.o") ∷ Mention 7 Made (codes "b.o") ∷ Done 7 (pos 0) (codes "a.o") ∷ Done 7 (pos 1) (codes "b.o")
    ∷ Text (codes "link") ∷ []) ∷
    log (codes "a.o") (Text (codes "cc a") ∷ []) ∷
    log (codes "b.o") (Text (codes "cc b") ∷ []) ∷
    []
    ) deep (all ∷ []) (
    line (codes "redo  all") ++ line (codes "redo    a.o") ++ line (codes "cc a") ++ line (codes "redo    b.o") ++ line (codes "cc b")
    ++ line (codes "redo    b.o (exit 1)") ++ line (codes "link")
    ) ∷
    shows (log all (Done 7 (pos 0) b ∷ Done 7 (negsuc 10) (codes "c") ∷ Done 7 (pos 7) (codes "d") ∷ []) ∷ []) plain (all ∷ []) (
    line (codes "redo  all") ++ line (codes "redo    c (exit -11)") ++ line (codes "redo    d (exit 7)")
    ) ∷
    shows (log a (Done 7 (pos 0) b ∷ Closing 7 (pos 3) ∷ []) ∷ []) plain (a ∷ []) (line (codes "redo  a")) ∷
    -- each redo line begins with the pid of its record, padded to six bytes, and other lines have no pid
    shows (log all (Mention 7 Made a ∷ Note 4294967295 (codes "check") a ∷ Note 12 (codes "warning") (codes "w") ∷ Text (codes "t") ∷ [])
    ∷ []) (with_pids plain) (all ∷ []) (
    line (codes "-      redo  all") ++ line (codes "7      redo    a") ++ line (codes "4294967295 redo    (a)") ++ line (codes "redo: w")
    ++ line (codes "t")
    ) ∷
    shows (
    log all (Mention 7 Made (codes "a.o") ∷ Mention 7 Made (codes "b.o") ∷ Done 7 (pos 0) (codes "a.o") ∷ Done 7 (pos 1) (codes "b.o")
    ∷ Text (codes "link") ∷ []) ∷
    log (codes "a.o") (Text (codes "cc a") ∷ []) ∷
    log (codes "b.o") (Text (codes "cc b") ∷ []) ∷
    []
    ) (with_pids deep) (all ∷ []) (
    line (codes "-      redo  all") ++ line (codes "7      redo    a.o") ++ line (codes "cc a") ++ line (codes "7      redo    b.o")
    ++ line (codes "cc b") ++ line (codes "7      redo    b.o (exit 1)") ++ line (codes "link")
    ) ∷
    shows (log all (Mention 123456 Waiting x ∷ Mention 1234567 Made x ∷ Done 0 (negsuc 1) x ∷ Closing 9 (pos 0) ∷ [])
    ∷ log x (Mention 41 Made all ∷ Mention 42 Made b ∷ []) ∷ []) (with_pids deep) (all ∷ x ∷ []) (
    line (codes "-      redo  all") ++ line (codes "123456 redo    x") ++ line (codes "42     redo      b")
    ++ line (codes "0      redo    x (exit -2)")
    ) ∷
    shows (log all (Mention 123456 Waiting x ∷ Mention 1234567 Made x ∷ Done 0 (negsuc 1) x ∷ Closing 9 (pos 0) ∷ []) ∷ log x [] ∷ [])
    (with_pids (with false false true true)) (all ∷ x ∷ []) (
    line (codes "-      redo  all") ++ line (codes "123456 redo    x (WAITING)") ++ line (codes "1234567 redo    x")
    ++ line (codes "0      redo    x (exit -2)") ++ line (codes "-      redo  x")
    ) ∷
    []

these_texts : AllByRecursion (λ row. expansion row.logs row.options row.requested ≡ row.text) rows
unfolding show_log_within show_log digits
these_texts = (
  refl,
  (
    refl,
    (
      refl,
      (
        refl,
        (refl, (refl, (refl, (refl, (refl, (refl, (refl, (refl, (refl, (refl, (refl, (refl, (refl, (refl, (refl, (refl, tt)))))))))))))))),
      ),
    ),
  ),
)

-- A name is among others if all its bytes equal the bytes of one of them.
among : (is_among a (b ∷ a ∷ []) ≡ true) × (is_among a (b ∷ x ∷ []) ≡ false) × (is_among a [] ≡ false) × (is_among a (all ∷ []) ≡ false)
among = (refl, refl, refl, refl)

-- Which targets are named and which logs are opened in the end, each in order.
abbrev in_a_circle : List Log
in_a_circle = log a (Mention 7 Made b ∷ Mention 7 Made x ∷ []) ∷ log b (Mention 7 Made a ∷ []) ∷ []

named_in_order : ((expand in_a_circle deep (a ∷ [])).named ≡ a ∷ b ∷ x ∷ []) × ((expand in_a_circle plain (b ∷ [])).named ≡ b ∷ a ∷ [])
unfolding show_log_within show_log
named_in_order = (refl, refl)

opened_in_order : ((expand in_a_circle deep (b ∷ a ∷ [])).opened ≡ b ∷ a ∷ [])
    × ((expand in_a_circle plain (a ∷ b ∷ a ∷ [])).opened ≡ a ∷ b ∷ [])
unfolding show_log_within show_log
opened_in_order = (refl, refl)

-- No log is opened twice.
opened_once : IsDistinct (pointwise nat_eq) (expand in_a_circle deep (a ∷ b ∷ a ∷ [])).opened
unfolding IsDistinct show_log_within show_log
opened_once = ((refl, tt), (tt, tt))

-- `entry_text` has no text for a mention.
no_text : entry_text plain 1 (Mention 7 Made a) ≡ []
no_text = refl

-- If two logs have the same target, which no table has, the first one is shown.
the_first_of_two : expansion (log a (Text b ∷ []) ∷ log a (Text x ∷ []) ∷ []) plain (a ∷ []) ≡ line (codes "redo  a") ++ line b
unfolding show_log_within show_log
the_first_of_two = refl
