use Rattle.std.proofs.Common.{◌≡◌, take}
use Rattle.std.specs.List.{list_all}
use Rattle.redo_json.specs.Private.Writing.{is_verbatim_or_feed, special_bit_if}
use Rattle.redo_json.proofs.plain.are_verbatim_or_feeds.Given as goal

-- Whether the bytes so far all pass.
abbrev pub invariant-loop-byte : goal.invariant-loop-byte
invariant-loop-byte l = l.special ≡ special_bit_if (list_all is_verbatim_or_feed (take l.byte-index l.bytes))
