use Rattle.std.proofs.Common.{◌≡◌, ◌∙◌, ◌≤◌, arith, refl, codes, sym, subst}
use Rattle.std.specs.Str.Parse.{ParsesUnsigned, ExplainsUnsignedError, HasUnsignedDigitsIfOk}
use Rattle.clap.specs.Matches.{found_of}
use Rattle.clap.specs.Walk.{rows_of}
use Rattle.redo_args.specs.Job.{number_or}
use Rattle.redo_args.proofs.Getters.{flag_is, given_text_is, text_is, u32_is, words_are}
use Rattle.redo_args.specs.Private.HtmlMatches.{IsPageJob}
use Rattle.redo_args.proofs.HtmlGetters.{unsigned_is}
use Rattle.redo_args.proofs.html.job.job_from_matches.Goals as goal

senders : (c : goal.In_ok-bytes_of) → let n = number_or 4 (codes "senders") (rows_of (found_of c.args.matches.now)) in
    (c.unwrap_or-senders.result ≡ n) × (1 ≤ n) × (n ≤ 64)
senders c =
    u32_is (found_of c.args.matches.now) (codes "senders") 64 4 c.get_one-2.result c.unwrap_or-senders.result c.unwrap_or-senders.ensures
    (omega arith) (omega arith) (omega arith) c.requires.senders_are c.get_one-2.ensures.none c.get_one-2.ensures.value

max_bytes : (c : goal.In_ok-bytes_of)
    → c.unwrap_or-max_bytes.result ≡ number_or 16000000 (codes "max-bytes") (rows_of (found_of c.args.matches.now))
max_bytes c =
    c.unwrap_or-max_bytes.ensures
    ∙ unsigned_is _ (λ text read. ParsesUnsigned 64 10 text read × ExplainsUnsignedError 10 text read × HasUnsignedDigitsIfOk text read)
    (found_of c.args.matches.now)
    (codes "max-bytes") 16000000 c.get_one.result
    (λ text read g. g.0) c.requires.max_bytes_are c.get_one.ensures.none c.get_one.ensures.value

pub returns : goal.returns
returns c =
    let found = found_of c.args.matches.now in
    let dir = c.in_ok-from_str.ensures.ok
    ∙ text_is found (codes "dir") c.get_str.result c.unwrap_or-dir.result _ c.unwrap_or-dir.ensures c.get_str.ensures in
    let baseline = c.in_ok-copy_of.ensures
    ∙ given_text_is found (codes "baseline") c.get_str-baseline.result c.get_str-baseline.ensures in
    let output = c.in_ok-copy_of-2.ensures ∙ given_text_is found (codes "output") c.get_str-output.result c.get_str-output.ensures in
    let title = c.in_ok-copy_of-3.ensures ∙ given_text_is found (codes "title") c.get_str-title.result c.get_str-title.ensures in
    let unchanged = flag_is found (codes "unchanged") c.get_flag-unchanged.result c.requires.unchanged_is c.get_flag-unchanged.ensures.none
    c.get_flag-unchanged.ensures.value c.get_flag-unchanged.ensures.other in
    let debug_locks = flag_is found (codes "debug_locks") c.get_flag-debug_locks.result c.requires.debug_locks_are
    c.get_flag-debug_locks.ensures.none c.get_flag-debug_locks.ensures.value c.get_flag-debug_locks.ensures.other in
    let targets = c.in_ok-bytes_of.ensures
    ∙ words_are found (codes "target") c.get_strs.result c.unwrap_or-targets.result _ c.unwrap_or-targets.ensures c.get_strs.ensures in
    rw (dir, baseline, output, title, unchanged, debug_locks, max_bytes c, (senders c).0, targets) refl

pub invariant_of-result : goal.invariant_of-result
invariant_of-result c = subst IsPageJob (sym (returns c)) (record {
  senders_are = ((senders c).1, (senders c).2);
  some_target = c.requires.some_target;
})
