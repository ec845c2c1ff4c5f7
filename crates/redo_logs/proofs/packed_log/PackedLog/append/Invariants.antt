use Rattle.std.proofs.Common.{◌≡◌, ◌≤◌, ◌^◌, ◌++◌, length, take}
use Rattle.redo_logs.specs.Private.PackedLog.{count_of}
use Rattle.redo_logs.proofs.packed_log.PackedLog.append.Given as goal

-- The first `one-index` `Record`s are appended, and `count` and `entries` are still the old numbers.
abbrev pub invariant-loop-one : goal.invariant-loop-one
invariant-loop-one l = (l.self ≡ l.fn.self ++ take l.one-index l.records) × (l.count ≡ length l.fn.self) × (l.entries ≡ count_of l.fn.self)
    × (l.entries ≤ 2 ^ 62)
