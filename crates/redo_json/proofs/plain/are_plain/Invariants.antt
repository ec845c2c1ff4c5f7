use Rattle.std.proofs.Common.{◌≡◌, take}
use Rattle.std.specs.List.{list_all}
use Rattle.json.specs.Run.{is_plain}
use Rattle.redo_json.specs.Private.Writing.{special_bit_if}
use Rattle.redo_json.proofs.plain.are_plain.Given as goal

-- Whether the bytes so far are all plain.
abbrev pub invariant-loop-byte : goal.invariant-loop-byte
invariant-loop-byte l = l.special ≡ special_bit_if (list_all is_plain (take l.byte-index l.bytes))
