-- Rows of builds: what is new in them since a baseline.
use Rattle.std.proofs.Common.{◌≡◌, ℕ, pos, negsuc, Bool, true, false, List, [], ◌∷◌, ◌++◌, None, refl}
use Rattle.std.specs.Fmt.{digits}
use Rattle.std.specs.Prelude.{codes}
use Rattle.std.specs.List.{AllByRecursion}
use Rattle.redo_line.specs.Decimal.{number}
use Rattle.redo_line.specs.Parts.{after_prefix, split_once}
use Rattle.redo_line.specs.declared.entry.Entry.{Entry}
use Rattle.redo_line.specs.declared.entry.Entry.TheVariants.{Text, Mention, Done, Closing}
use Rattle.redo_line.specs.declared.entry.How.TheVariants.{Made, Unchanged}
use Rattle.redo_logs.specs.Logs.{Log}
use Rattle.redo_logs.specs.declared.log_state.LogState.TheVariants.{Ended}
use Rattle.redo_view.specs.Expansion.{show_log, show_log_within}
use Rattle.redo_html.specs.Symbols.{is_sequence, sequence_len}
use Rattle.redo_diagnostics.specs.Diagnostic.{before_bracket, diagnostic_of, first_place, masked_after, place_of, split_flag}
use Rattle.redo_diagnostics.specs.Plain.{plain_after}
use Rattle.redo_compare.specs.Source.{source_of}
use Rattle.redo_new.specs.News.{build_news, diagnostic_lines, exit_text, new_lines, news_text}

record Row : Type 0 where
  unchanged : Bool
  earlier : List Log
  logs : List Log
  requested : List (List ℕ)
  news : List (List ℕ)

abbrev row : Bool → List Log → List Log → List (List ℕ) → List (List ℕ) → Row
row unchanged earlier logs requested news =
    record { unchanged = unchanged; earlier = earlier; logs = logs; requested = requested; news = news }

abbrev log : List ℕ → List Entry → Log
log target entries = record { target = target; entries = entries; state = Ended }

abbrev all : List ℕ
all = codes "all"

abbrev a : List ℕ
a = codes "a"

abbrev b : List ℕ
b = codes "b"

abbrev c : List ℕ
c = codes "c"

abbrev d : List ℕ
d = codes "d"

abbrev warning : Entry
warning = Text (codes "w.c:3: warning: w")

abbrev error : Entry
error = Text (codes "error: e")

-- `b` failed.
abbrev first : List Log
first =
    log all (Mention 7 Made a ∷ Mention 7 Made b ∷ Mention 7 Made c ∷ Closing 7 (pos 1) ∷ [])
    ∷ log a (warning ∷ Closing 7 (pos 0) ∷ [])
    ∷ log b (error ∷ Closing 7 (pos 1) ∷ [])
    ∷ log c (warning ∷ Closing 7 (pos 0) ∷ [])
    ∷ []

-- `a` and `c` failed, and `d` needed no rebuild.
abbrev second : List Log
second =
    log d (warning ∷ [])
    ∷ log all (Mention 7 Made c ∷ Mention 7 Made b ∷ Mention 7 Unchanged d ∷ Mention 7 Made a ∷ Closing 7 (pos 2) ∷ [])
    ∷ log a (error ∷ warning ∷ Closing 7 (pos 2) ∷ [])
    ∷ log b (Closing 7 (pos 0) ∷ [])
    ∷ log c (Text (codes "note") ∷ warning ∷ warning ∷ Closing 7 (negsuc 8) ∷ [])
    ∷ []

-- The status of `a` is known only from the log of `all`.
abbrev running : List Log
running = log all (Mention 7 Made a ∷ Done 7 (pos 4) a ∷ []) ∷ log a [] ∷ []

abbrev rows : List Row
rows =
    row false first second (all ∷ []) (
    codes "newly failing: c (exit -9)" ∷ codes "newly failing: a (exit 2)"
    ∷ codes "new: c: w.c:3: warning: w" ∷ codes "new: a: error: e"
    ∷ codes "fixed: b" ∷ []) ∷
    row true first second (all ∷ []) (
    codes "newly failing: c (exit -9)" ∷ codes "newly failing: a (exit 2)"
    ∷ codes "new: c: w.c:3: warning: w" ∷ codes "new: d: w.c:3: warning: w" ∷ codes "new: a: error: e"
    ∷ codes "fixed: b" ∷ []) ∷
    row false first second (a ∷ b ∷ []) (codes "newly failing: a (exit 2)" ∷ codes "new: a: error: e" ∷ codes "fixed: b" ∷ []) ∷
    row false first second (b ∷ []) (codes "fixed: b" ∷ []) ∷
    row false second first (all ∷ []) (
    codes "newly failing: b (exit 1)" ∷ codes "new: b: error: e" ∷ codes "fixed: a" ∷ codes "fixed: c" ∷ []) ∷
    row false [] second (all ∷ []) (
    codes "newly failing: c (exit -9)" ∷ codes "newly failing: a (exit 2)"
    ∷ codes "new: c: w.c:3: warning: w" ∷ codes "new: c: w.c:3: warning: w" ∷ codes "new: a: error: e" ∷ codes "new: a: w.c:3: warning: w"
    ∷ []) ∷
    row false first first (all ∷ []) [] ∷
    row true second second (all ∷ []) [] ∷
    row false second [] [] [] ∷
    row false first running (all ∷ []) (codes "newly failing: a (exit 4)" ∷ []) ∷
    row false running running (all ∷ []) [] ∷
    []

these_news : AllByRecursion (λ r. build_news r.unchanged r.earlier r.logs r.requested ≡ r.news) rows
unfolding digits number after_prefix split_once show_log show_log_within is_sequence sequence_len plain_after first_place place_of before_bracket split_flag masked_after diagnostic_of source_of
these_news = (refl, (refl, (refl, (refl, (refl, (refl, (refl, (refl, (refl, (refl, (refl, tt)))))))))))

-- Each fact is a line.
this_text : news_text false first second (b ∷ a ∷ [])
    ≡ codes "newly failing: a (exit 2)" ++ (10 ∷ codes "new: a: error: e" ++ (10 ∷ codes "fixed: b" ++ (10 ∷ [])))
unfolding digits number after_prefix split_once show_log show_log_within is_sequence sequence_len plain_after first_place place_of before_bracket split_flag masked_after diagnostic_of source_of
this_text = refl

these_lines : (diagnostic_lines second 4 ≡ codes "w.c:3: warning: w" ∷ codes "w.c:3: warning: w" ∷ [])
    × (new_lines first second 4 ≡ codes "w.c:3: warning: w" ∷ []) × (new_lines first second 2 ≡ codes "error: e" ∷ [])
    × (new_lines first second 3 ≡ []) × (new_lines first second 5 ≡ [])
unfolding number after_prefix split_once is_sequence sequence_len plain_after first_place place_of before_bracket split_flag masked_after diagnostic_of source_of
these_lines = (refl, refl, refl, refl, refl)

-- A failure whose status isn't known isn't a fact, so that this text is never part of one.
this_exit : exit_text None ≡ []
this_exit = refl
