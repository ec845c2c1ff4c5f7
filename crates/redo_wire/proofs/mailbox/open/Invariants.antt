use Rattle.redo_wire.proofs.mailbox.open.Given as goal

-- The numbers of the type are the arguments.
abbrev pub ghosts-open_sized : goal.ghosts-open_sized
ghosts-open_sized a = record { capacity = a.capacity; senders = a.senders }
