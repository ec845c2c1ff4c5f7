use Rattle.std.proofs.Common.{◌≡◌, ℕ, List}
use Rattle.redo_gather.specs.Private.Collecting.{StoresAllTaken}
use Rattle.redo_gather.proofs.collector.LogCollector.take.Given as goal

-- The items taken so far are stored, unless an allocation failed.
abbrev pub invariant-loop : goal.invariant-loop
invariant-loop g l =
    (goal.iterator-loop g).can_next l.iterator' × (goal.iterator-loop g).is_finite l.iterator'
    × (l.self.take_end.mailbox ≡ l.initial.self.take_end.mailbox) × (l.self.take_end.met ≡ l.initial.self.take_end.met)
    × ((names : List (List ℕ)) → StoresAllTaken names l.initial.self.take_end.taken l.initial.self.table l.initial.self.out_of_memory
    → StoresAllTaken names l.self.take_end.taken l.self.table l.self.out_of_memory)
