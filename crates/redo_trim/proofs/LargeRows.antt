-- Rows of long lines and logs, and properties of any number of logs.
use Rattle.std.proofs.Common.{◌≡◌, ℕ, [], ◌∷◌, ◌++◌, Some, length, map, replicate, refl}
use Rattle.std.specs.Prelude.{codes}
use Rattle.redo_line.specs.declared.entry.Entry.TheVariants.{Text}
use Rattle.redo_view.specs.Event.Event.{EntryShown}
use Rattle.redo_trim.specs.Trim.{after_end, kept, limit_of, line_size, marker_text, no_limit, showing_of, with_bytes, with_opened}
use Rattle.redo_trim.specs.declared.limit.Gauge.{Gauge}
use Rattle.redo_trim.specs.declared.limit.Limit.{Limit}
use Rattle.redo_trim.specs.declared.limit.Showing.TheVariants as showing

abbrev limit : ℕ → ℕ → Limit
limit head tail = record { head = head; tail = tail }

abbrev gauge : ℕ → ℕ → ℕ → Gauge
gauge head tail seen = record { limit = limit head tail; seen = seen }

-- The text that each log has instead of lines that are left out.
marker_is : marker_text ≡ codes "Lines are left out here. The command at the end of this page shows all of them."
marker_is = refl

-- In a log of 100 MB whose head has 1,000 bytes and whose tail begins at 99,997,000: a line of 1 MB and one of 90 MB in the middle are
-- left out, and a line of 1 MB after it.
abbrev long : ℕ → Gauge
long seen = gauge 1000 99997000 seen

long_lines : (showing_of (long 500) 1000000 ≡ showing.Marker) × (showing_of (long 500) 90000000 ≡ showing.Marker)
    × (showing_of (long 1500) 1000000 ≡ showing.Nothing) × (showing_of (long 99996999) 1000000 ≡ showing.Nothing)
    × (showing_of (long 99997000) 1000 ≡ showing.Whole) × (showing_of (long 500) 500 ≡ showing.Whole)
    × (showing_of (long 500) 501 ≡ showing.Marker)
long_lines = (refl, refl, refl, refl, refl, refl, refl)

long_line : line_size (replicate 70000 120) ≡ 70001
long_line = refl

-- Bytes are counted up to 2^64 - 1.
seen : map (λ size. (with_bytes size (gauge 0 0 0xFFFFFFFFFF)).seen) (1 ∷ 0x10000000000 ∷ 0xFFFFFFFFFFFFFFFF ∷ [])
    ≡ 0x10000000000 ∷ 0x1FFFFFFFFFF ∷ 0xFFFFFFFFFFFFFFFF ∷ []
seen = refl

-- The log with the number 5000 has its own limit, and none has a limit past the end of the list.
limits : map (limit_of (replicate 5000 no_limit ++ limit 7 9 ∷ [])) (999 ∷ 4999 ∷ 5000 ∷ 5001 ∷ [])
    ≡ no_limit ∷ no_limit ∷ limit 7 9 ∷ no_limit ∷ []
limits = refl

-- The end of a log ends its gauge, also the last one's.
ends : (after_end [] ≡ []) × (after_end (gauge 1 2 3 ∷ []) ≡ []) × (after_end (gauge 1 2 3 ∷ gauge 4 5 6 ∷ []) ≡ gauge 4 5 6 ∷ [])
ends = (refl, refl, refl)

-- A log may be in 150 others. Each has a gauge.
deep : length (with_opened [] (Some 5) (replicate 150 (gauge 1 2 3))) ≡ 151
deep = refl

-- An empty line in the middle is left out too.
empty_line : kept (long 5000 ∷ []) (EntryShown 1 (Text [])) ≡ []
empty_line = refl
