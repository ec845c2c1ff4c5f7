use Rattle.redo_logs.proofs.KeepingAll.{Keeps}
use Rattle.redo_logs.proofs.store.Store.store_all.Given as goal

-- The first `place-index` elements of `places` are stored.
abbrev pub invariant-loop-place : goal.invariant-loop-place
invariant-loop-place l = Keeps l.fn.self l.fn.entries l.names.items l.place-items l.block l.shift l.self l.records.items l.place-index
