use Rattle.std.proofs.Common.{rules}
use Rattle.json.specs.Print.{escape_byte}
use Rattle.redo_json.proofs.JoinLemmas.{appended_as}
use Rattle.redo_json.proofs.escape.join_escape.Goals as goal

pub returns-then-letter-gt0 : goal.returns-then-letter-gt0
unfolding escape_byte
returns-then-letter-gt0 c = appended_as _ _ _ _ _ (search rules) c.join_bytes.ensures

pub returns-then-byte-lt32 : goal.returns-then-byte-lt32
unfolding escape_byte
returns-then-byte-lt32 c = appended_as _ _ _ _ _ (search rules) c.join_bytes-then-byte-lt32.ensures

pub returns : goal.returns
unfolding escape_byte
returns c = appended_as _ _ _ _ _ (search rules) c.join_bytes-2.ensures
