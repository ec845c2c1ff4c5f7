-- The position of a reader in memory within its reads.
use Rattle.std.specs.Prelude.{ℕ, List, [], ◌∷◌, drop, map}
use Rattle.std.specs.Global.{Vec}

-- The reads, without the first n bytes of the first one.
abbrev pub without_front : ℕ → List (List ℕ) → List (List ℕ)
without_front n [] = []
without_front n (read ∷ reads) = drop n read ∷ reads

-- The reads still to give: the reads from index `at` on, without the first `from` bytes of the one at `at`.
abbrev pub unread : List (List ℕ) → ℕ → ℕ → List (List ℕ)
unread reads at from = without_front from (drop at reads)

-- `unread` of reads as they are stored.
abbrev pub unread_of : List (Vec ℕ) → ℕ → ℕ → List (List ℕ)
unread_of reads at from = unread (map (λ read. read.items) reads) at from
