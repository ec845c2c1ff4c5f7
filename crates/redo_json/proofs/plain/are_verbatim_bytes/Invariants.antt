use Rattle.std.proofs.Common.{◌≡◌, true, take}
use Rattle.std.specs.List.{list_all}
use Rattle.redo_json.specs.Private.Writing.{is_verbatim_byte}
use Rattle.redo_json.proofs.plain.are_verbatim_bytes.Given as goal

-- The bytes so far pass.
abbrev pub invariant-loop-byte : goal.invariant-loop-byte
invariant-loop-byte l = list_all is_verbatim_byte (take l.byte-index l.bytes) ≡ true
