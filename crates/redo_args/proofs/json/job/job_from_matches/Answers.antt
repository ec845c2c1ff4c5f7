use Rattle.std.proofs.Common.{◌≡◌, ◌∙◌, ◌≤◌, arith, refl, codes, sym, subst}
use Rattle.clap.specs.Matches.{found_of}
use Rattle.clap.specs.Walk.{rows_of}
use Rattle.redo_args.specs.Job.{number_or}
use Rattle.redo_args.proofs.Getters.{flag_is, given_text_is, text_is, u32_is, words_are}
use Rattle.redo_args.specs.Private.JsonMatches.{IsJsonJob}
use Rattle.redo_args.proofs.json.job.job_from_matches.Goals as goal

senders : (c : goal.In_ok-bytes_of) → let n = number_or 4 (codes "senders") (rows_of (found_of c.args.matches.now)) in
    (c.unwrap_or-senders.result ≡ n) × (1 ≤ n) × (n ≤ 64)
senders c =
    u32_is (found_of c.args.matches.now) (codes "senders") 64 4 c.get_one.result c.unwrap_or-senders.result c.unwrap_or-senders.ensures
    (omega arith) (omega arith) (omega arith) c.requires.senders_are c.get_one.ensures.none c.get_one.ensures.value

pub returns : goal.returns
returns c =
    let found = found_of c.args.matches.now in
    let dir = c.in_ok-from_str.ensures.ok
    ∙ text_is found (codes "dir") c.get_str.result c.unwrap_or-dir.result _ c.unwrap_or-dir.ensures c.get_str.ensures in
    let baseline = c.in_ok-copy_of.ensures
    ∙ given_text_is found (codes "baseline") c.get_str-baseline.result c.get_str-baseline.ensures in
    let output = c.in_ok-copy_of-2.ensures ∙ given_text_is found (codes "output") c.get_str-output.result c.get_str-output.ensures in
    let unchanged = flag_is found (codes "unchanged") c.get_flag-unchanged.result c.requires.unchanged_is c.get_flag-unchanged.ensures.none
    c.get_flag-unchanged.ensures.value c.get_flag-unchanged.ensures.other in
    let every = flag_is found (codes "every") c.get_flag-every.result c.requires.every_is c.get_flag-every.ensures.none
    c.get_flag-every.ensures.value c.get_flag-every.ensures.other in
    let targets = c.in_ok-bytes_of.ensures
    ∙ words_are found (codes "target") c.get_strs.result c.unwrap_or-targets.result _ c.unwrap_or-targets.ensures c.get_strs.ensures in
    rw (dir, baseline, output, unchanged, every, (senders c).0, targets) refl

pub invariant_of-result : goal.invariant_of-result
invariant_of-result c = subst IsJsonJob (sym (returns c)) (record {
  senders_are = ((senders c).1, (senders c).2);
  some_target = c.requires.some_target;
})
