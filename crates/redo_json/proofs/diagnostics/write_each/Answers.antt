use Rattle.std.proofs.Common.{ap, ℕ, List, true, [], ◌∷◌, ◌++◌, length, refl, sym, ◌∙◌, subst, arith, option_copied}
use Rattle.std.proofs.lemmas.List.{length-append}
use Rattle.std.proofs.lemmas.Result.{err_from_is_err_and}
use Rattle.redo_diagnostics.specs.Counts.{stored, times_of}
use Rattle.redo_outline.specs.Facts.{entries_at, texts_of}
use Rattle.redo_diagnostics.specs.Diagnostic.{DiagnosticValue}
use Rattle.redo_json.specs.Diagnostics.{diagnostics_of, flagged, numbered_from}
use Rattle.redo_json.specs.Private.LogLines.{AreOfKind}
use Rattle.redo_json.specs.Private.Parts.{diagnostics_text}
use Rattle.redo_json.proofs.CandidateLemmas.{at_candidates, fewer_candidates, kind_left}
use Rattle.redo_json.proofs.DiagnosingLemmas.{begins, finds, found_is, none_is, nth_is, skips}
use Rattle.redo_json.proofs.FormLemmas.{ran_out}
use Rattle.redo_json.proofs.PendingLemmas.{ends}
use Rattle.redo_json.proofs.SimpleLineLemmas.{verbatim_by_line}
use Rattle.redo_json.proofs.WritingLemmas.{left_is}
use Rattle.redo_json.proofs.diagnostics.write_each.Goals as goal

pub each-init : goal.each-init
each-init g c = (
  begins _ (option_copied c.args.flags) (texts_of (entries_at c.args.number c.args.table.now)) _ _ _ c.new-lines.ensures.left
      c.new-lines.ensures.done c.clear.ensures c.clear-2.ensures.items,
  subst (AreOfKind c.args.kind) (sym c.new-lines.ensures.left) c.requires,
)

pub is_simple-is_known-requires : goal.is_simple-is_known-requires
is_simple-is_known-requires g c =
    let found = c.in-Some.ensures.some in
    (subst (AreOfKind c.args.kind) found.first (kind_left _ _ found.skipped c.args.kind c.each.invariant.1)).0

pub read_line-requires : goal.read_line-requires
read_line-requires g c = c.is_simple-is_known.ensures

pub returns-in_err-diagnostic : goal.returns-in_err-diagnostic
returns-in_err-diagnostic g c =
    let given = err_from_is_err_and c.from_residual.result c.from_residual.ensures.1 in
    rw (given.1, given.2) (ran_out _ _ _ _ c.each.invariant.0.wrote)

pub write_diagnostic-requires-clause-of_line : goal.write_diagnostic-requires-clause-of_line
write_diagnostic-requires-clause-of_line g c =
    (c.in-Some.line.now, (found_is _ _ c.in-Some-2.key (sym c.in_ok-diagnostic.ensures ∙ c.in-Some-2.is)).0)

pub write_diagnostic-requires-clause-key : goal.write_diagnostic-requires-clause-key
write_diagnostic-requires-clause-key g c =
    (found_is _ c.in-Some-2.diagnostic c.in-Some-2.key (sym c.in_ok-diagnostic.ensures ∙ c.in-Some-2.is)).1

pub write_diagnostic-requires-clause-known : goal.write_diagnostic-requires-clause-known
write_diagnostic-requires-clause-known g c = λ is.
    verbatim_by_line c.in-Some.line.now c.in-Some-2.diagnostic
    (found_is _ _ c.in-Some-2.key (sym c.in_ok-diagnostic.ensures ∙ c.in-Some-2.is)).0 (c.is_simple-is_known.ensures is)

pub returns-in_err-write_diagnostic : goal.returns-in_err-write_diagnostic
returns-in_err-write_diagnostic g c =
    let whole = diagnostics_text true (flagged (option_copied c.args.flags) (diagnostics_of (texts_of (entries_at c.args.number
    c.args.table.now)))) in
    let is = (found_is _ _ c.in-Some-2.key (sym c.in_ok-diagnostic.ensures ∙ c.in-Some-2.is)).0 in
    let found = c.in-Some.ensures.some in
    let lines = found.candidates in
    let so_far = at_candidates _ _ _ _ _ _ lines _ _ found.skipped c.each.invariant.0 in
    let done = found.done in
    let room = c.in-Some.ensures.no_overflow in
    let key = c.in-Some-2.diagnostic.key in
    let nth = nth_is key so_far.keys lines.done (stored (times_of key so_far.keys)) so_far.few (omega (arith, done, room)) refl in
    let given = err_from_is_err_and c.from_residual-in_err-write_diagnostic.result c.from_residual-in_err-write_diagnostic.ensures.1 in
    rw (given.1, given.2) (c.in_err-write_diagnostic.ensures.wrote so_far.keys so_far.counted (g.W.Sink.written c.args.out.now) whole _
    (left_is _ _ _ _ _ (ap (λ (l : List ℕ). c.each.buffer.items ++ l)
    (finds c.each.is_first (option_copied c.each.left) lines c.next_candidate.new.lines c.in-Some.line.now found.first
    done so_far.keys
    c.in-Some-2.diagnostic c.in-Some.position (stored (times_of key so_far.keys)) _ _ is found.position_is nth
    c.next_flag-new.ensures.first c.next_flag-new.ensures.others)) so_far.wrote))

pub each-smaller : goal.each-smaller
each-smaller g c =
    let found = c.in-Some.ensures.some in
    let few = fewer_candidates _ _ found.skipped in
    let size = ap length found.first in
    omega (arith, few, size)

pub each-preserved : goal.each-preserved
each-preserved g c =
    let found = c.in-Some.ensures.some in (
      skips c.each.is_first (option_copied c.each.left) found.candidates c.next_candidate.new.lines c.in-Some.line.now found.first
          found.done _ _ _ _ _ (none_is _ (sym c.in_ok-diagnostic.ensures ∙ c.in_default-2.is))
          (at_candidates _ _ _ _ _ _ found.candidates _ _ found.skipped c.each.invariant.0),
      (subst (AreOfKind c.args.kind) found.first (kind_left _ _ found.skipped c.args.kind c.each.invariant.1)).1,
    )

pub each-preserved-in-Some-2 : goal.each-preserved-in-Some-2
each-preserved-in-Some-2 g c =
    let others : AreOfKind c.args.kind c.next_candidate.new.lines.left =
    (let found = c.in-Some.ensures.some in
    (subst (AreOfKind c.args.kind) found.first (kind_left _ _ found.skipped c.args.kind c.each.invariant.1)).1) in
    let is = (found_is _ _ c.in-Some-2.key (sym c.in_ok-diagnostic.ensures ∙ c.in-Some-2.is)).0 in
    let found = c.in-Some.ensures.some in
    let lines = found.candidates in
    let so_far = at_candidates _ _ _ _ _ _ lines _ _ found.skipped c.each.invariant.0 in
    let done = found.done in
    let room = c.in-Some.ensures.no_overflow in
    let few = so_far.few in
    let key = c.in-Some-2.diagnostic.key in
    let nth = nth_is key so_far.keys lines.done (stored (times_of key so_far.keys)) so_far.few (omega (arith, done, room)) refl in (
      record {
        keys = so_far.keys ++ key ∷ [];
        counted = c.in_ok-write_diagnostic.ensures.counted so_far.keys so_far.counted;
        few = omega (arith, few, done, length-append so_far.keys (key ∷ []));
        wrote = c.in_ok-write_diagnostic.ensures.wrote so_far.keys so_far.counted (g.W.Sink.written c.args.out.now) _ _
            (left_is _ _ _ _ _ (ap (λ (l : List ℕ). c.each.buffer.items ++ l)
            (finds c.each.is_first (option_copied c.each.left) lines c.next_candidate.new.lines c.in-Some.line.now found.first done
            so_far.keys c.in-Some-2.diagnostic c.in-Some.position (stored (times_of key so_far.keys)) _ _ is found.position_is nth
            c.next_flag-new.ensures.first c.next_flag-new.ensures.others)) so_far.wrote);
      },
      others,
    )

pub returns : goal.returns
returns g c =
    let whole = diagnostics_text true (flagged (option_copied c.args.flags) (diagnostics_of (texts_of (entries_at c.args.number
    c.args.table.now)))) in
    let so_far = c.each.invariant.0 in
    ends _ _ whole _ _
    (c.flush.ensures.wrote (g.W.Sink.written c.args.out.now) whole []
    (left_is _ _ _ _ _
    (ap (λ (found : List (ℕ × DiagnosticValue)).
    c.each.buffer.items ++ diagnostics_text c.each.is_first (flagged (option_copied c.each.left) (numbered_from so_far.keys found)))
    c.in_default.ensures.none)
    so_far.wrote))
    c.flush.ensures.empty
