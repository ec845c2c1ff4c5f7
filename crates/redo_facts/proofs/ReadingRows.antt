-- Rows of streams and the facts of all targets of an index.
use Rattle.std.proofs.Common.{◌≡◌, ℕ, Bool, true, false, List, [], ◌∷◌, ◌++◌, None, refl}
use Rattle.std.specs.Prelude.{codes}
use Rattle.std.specs.List.{flat_map}
use Rattle.redo_device.specs.Feed.{Stream}
use Rattle.redo_line.specs.Decimal.{number}
use Rattle.redo_line.specs.Lines.{ended, split_lines, with_line_feed}
use Rattle.redo_line.specs.Parts.{split_once}
use Rattle.redo_name.specs.Names.{normal, reduce_suffix}
use Rattle.redo_index.specs.declared.index_entry.IndexEntry.{IndexEntry}
use Rattle.redo_facts.specs.Facts.{RecipeFacts}
use Rattle.redo_facts.specs.Reading.{bytes_that_count, facts_of_stream}
use Rattle.redo_facts.specs.Statement.{statement_of}

abbrev stream : List ℕ → Bool → Stream
stream bytes fails = record { bytes = bytes; fails = fails }

abbrev entry : ℕ → List ℕ → IndexEntry
entry number target = record { number = number; target = target; must_close = false }

abbrev index : List IndexEntry
index = entry 9 (codes "b") ∷ entry 7 (codes "a") ∷ []

abbrev command : List ℕ → RecipeFacts
command text = record { has_log = true; directory = None; commands = record { text = text; is_whole = true } ∷ []; usage = None }

abbrev unknown : RecipeFacts
unknown = record { has_log = false; directory = None; commands = []; usage = None }

-- 40 bytes.
abbrev file : List ℕ
file = with_line_feed (codes "7 log a") ++ with_line_feed (codes "9 log b") ++ with_line_feed (codes "9 command x")
    ++ with_line_feed (codes "7 command y")

these_facts : facts_of_stream 40 index (stream file false) ≡ command (codes "x") ∷ command (codes "y") ∷ []
unfolding split_lines ended split_once normal reduce_suffix number statement_of
these_facts = refl

-- A file with a byte more than may be read, and one that can't be read to its end.
too_long : facts_of_stream 39 index (stream file false) ≡ unknown ∷ unknown ∷ []
unfolding split_lines ended split_once normal reduce_suffix number statement_of
too_long = refl

failed : facts_of_stream 40 index (stream file true) ≡ unknown ∷ unknown ∷ []
unfolding split_lines ended split_once normal reduce_suffix number statement_of
failed = refl

-- The last line is unended.
unended : facts_of_stream 52 index (stream (file ++ codes "7 command z") false) ≡ command (codes "x") ∷ command (codes "y") ∷ []
unfolding split_lines ended split_once normal reduce_suffix number statement_of
unended = refl

these_bytes : (bytes_that_count 3 (stream (codes "abc") false) ≡ codes "abc") × (bytes_that_count 2 (stream (codes "abc") false) ≡ [])
    × (bytes_that_count 3 (stream (codes "abc") true) ≡ []) × (bytes_that_count 0 (stream [] false) ≡ [])
these_bytes = (refl, refl, refl, refl)

-- 20 bytes.
abbrev small : List ℕ
small = with_line_feed (codes "7 log a") ++ with_line_feed (codes "7 command x")

abbrev of_a : List IndexEntry
of_a = entry 7 (codes "a") ∷ []

abbrev of_both : List IndexEntry
of_both = entry 7 (codes "a") ∷ entry 8 (codes "b") ∷ []

these_limits : (facts_of_stream 20 of_a (stream small false) ≡ command (codes "x") ∷ [])
    × (facts_of_stream 19 of_a (stream small false) ≡ unknown ∷ []) × (facts_of_stream 0 of_a (stream small false) ≡ unknown ∷ [])
    × (facts_of_stream 0 of_a (stream [] false) ≡ unknown ∷ [])
    × (facts_of_stream 1000 of_both (stream small true) ≡ unknown ∷ unknown ∷ [])
    × (facts_of_stream 1000 of_a (stream [] true) ≡ unknown ∷ []) × (facts_of_stream 1000 [] (stream small false) ≡ [])
unfolding split_lines ended split_once normal reduce_suffix number statement_of
these_limits = (refl, refl, refl, refl, refl, refl, refl)

-- Which targets have a log. Programs don't show this if nothing else is known.
abbrev only_log : RecipeFacts
only_log = record { has_log = true; directory = None; commands = []; usage = None }

abbrev lines : List (List ℕ) → Stream
lines texts = stream (flat_map with_line_feed texts) false

damaged : facts_of_stream 1000 of_both (lines (codes "7 log a" ∷ codes "8 log b" ∷ codes "7 com8 command y" ∷ codes "7 command x" ∷ []))
    ≡ command (codes "x") ∷ only_log ∷ []
unfolding split_lines ended split_once normal reduce_suffix number statement_of
damaged = refl

of_space : facts_of_stream 1000 of_both (lines (
    [] ∷ [] ∷ codes " " ∷ codes "  " ∷ codes "7" ∷ codes "7 " ∷ codes "7  " ∷ codes "7  x" ∷ codes "7 log a" ∷ codes "7 log  "
    ∷ codes "8 log b" ∷ codes "8 command x" ∷ codes "7 command y" ∷ []))
    ≡ unknown ∷ command (codes "x") ∷ []
unfolding split_lines ended split_once normal reduce_suffix number statement_of
of_space = refl

of_others : facts_of_stream 1000 of_a (lines (codes "7 log ../a" ∷ codes "7 command x" ∷ codes "7 log /a" ∷ codes "7 command y" ∷ []))
    ≡ unknown ∷ []
unfolding split_lines ended split_once normal reduce_suffix number statement_of
of_others = refl

-- The target `all` of a capture of make and a sub-make.
of_make : facts_of_stream 1000 (entry 1 (codes "all") ∷ []) (lines (
    codes "1 log all" ∷ codes "2 log a.o" ∷ codes "2 directory /src" ∷ codes "2 command echo compiling" ∷ codes "2 usage 0 0 2216"
    ∷ codes "2 command false 'a b' \"it's\"" ∷ codes "2 usage 1 0 2216" ∷ codes "3 log sub" ∷ codes "3 directory /src"
    ∷ codes "3 command make -C sub -s x" ∷ codes "4 log sub/x" ∷ codes "4 directory sub" ∷ codes "4 command echo one"
    ∷ codes "4 more exit 3" ∷ codes "4 usage 0 0 2320" ∷ codes "3 usage 2 0 2320" ∷ []))
    ≡ only_log ∷ []
unfolding split_lines ended split_once normal reduce_suffix number statement_of
of_make = refl
