-- The bytes of the file `names`, or whether it can't be read.
use Rattle.std.specs.Prelude.{◌≡◌, ℕ, List, None, IsSome}
use Rattle.redo_line.specs.Fault.{end_fault}
use Rattle.redo_device.specs.Feed.{Stream}

-- The maximum number of bytes of a log, and of the file `names`.
abbrev pub byte_limit : ℕ
byte_limit = 1073741824

-- Whether these are all bytes of a stream, up to the end of input, and no more than the maximum.
abbrev pub IsCompleteRead : List ℕ → Stream → Type 0
IsCompleteRead bytes stream = (end_fault byte_limit stream ≡ None) × (bytes ≡ stream.bytes)

-- Whether a failed read ends the stream, or it has more bytes than the maximum.
abbrev pub CannotBeRead : Stream → Type 0
CannotBeRead stream = IsSome (end_fault byte_limit stream)
