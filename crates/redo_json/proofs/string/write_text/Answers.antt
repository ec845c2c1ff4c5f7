use Rattle.std.proofs.Common.{ap, sym}
use Rattle.std.specs.Str.Lossy.{replacement_bytes}
use Rattle.json.specs.Print.{escape}
use Rattle.redo_json.specs.Text.{text_of}
use Rattle.redo_json.proofs.EscapeLemmas.{invalid_escape}
use Rattle.redo_json.proofs.TextLemmas.{text_is_lossy}
use Rattle.redo_json.proofs.WritingLemmas.{begin, failed_part, left_is, wrote_more, wrote_rest}
use Rattle.redo_json.proofs.string.write_text.Goals as goal

pub pieces-init : goal.pieces-init
pieces-init g c = begin _ _ _ (ap escape (sym (text_is_lossy c.args.bytes.now)))

pub returns-in_err-write_escaped : goal.returns-in_err-write_escaped
returns-in_err-write_escaped g c =
    failed_part _ _ _ (escape (text_of c.args.bytes.now)) _ _ _ _ c.from_residual.ensures.0
    (left_is _ _ _ _ _ (invalid_escape _ _ _ c.in-Some.ensures.some) c.pieces.invariant) c.in_err-write_escaped.ensures

pub returns-in_err-push_all : goal.returns-in_err-push_all
returns-in_err-push_all g c =
    failed_part _ _ _ (escape (text_of c.args.bytes.now)) replacement_bytes _ _ _ c.from_residual-in_err-push_all.ensures.0
    (wrote_more _ _ _ _ _ _ (left_is _ _ _ _ _ (invalid_escape _ _ _ c.in-Some.ensures.some) c.pieces.invariant)
    c.in_ok-write_escaped.ensures) c.in_err-push_all.ensures

pub pieces-preserved : goal.pieces-preserved
pieces-preserved g c =
    wrote_more _ _ _ _ replacement_bytes _
    (wrote_more _ _ _ _ _ _ (left_is _ _ _ _ _ (invalid_escape _ _ _ c.in-Some.ensures.some) c.pieces.invariant)
    c.in_ok-write_escaped.ensures) c.in_ok-push_all.ensures

pub returns : goal.returns
returns g c =
    wrote_rest _ _ _ (escape (text_of c.args.bytes.now)) _ _
    (left_is _ _ _ _ _ (ap escape c.in_default.ensures.none) c.pieces.invariant) c.write_escaped-2.ensures
