use Rattle.std.proofs.Common.{◌≡◌, ◌∙◌, ◌≤◌, arith, refl, codes, sym, subst}
use Rattle.clap.specs.Matches.{found_of}
use Rattle.clap.specs.Walk.{rows_of}
use Rattle.redo_args.specs.Job.{number_or}
use Rattle.redo_args.specs.Private.Matches.{IsJob}
use Rattle.redo_args.proofs.Getters.{targets_are, text_is, u32_is}
use Rattle.redo_args.proofs.job.job_from_matches.Goals as goal

senders : (c : goal.In_ok-bytes_of) → let n = number_or 4 (codes "senders") (rows_of (found_of c.args.matches.now)) in
    (c.unwrap_or-senders.result ≡ n) × (1 ≤ n) × (n ≤ 64)
senders c =
    u32_is (found_of c.args.matches.now) (codes "senders") 64 4 c.get_one.result c.unwrap_or-senders.result c.unwrap_or-senders.ensures
    (omega arith) (omega arith) (omega arith) c.requires.senders_are c.get_one.ensures.none c.get_one.ensures.value

capacity : (c : goal.In_ok-bytes_of) → let n = number_or 64 (codes "capacity") (rows_of (found_of c.args.matches.now)) in
    (c.unwrap_or-capacity.result ≡ n) × (1 ≤ n) × (n ≤ 65536)
capacity c =
    u32_is (found_of c.args.matches.now) (codes "capacity") 65536 64 c.get_one-2.result c.unwrap_or-capacity.result
    c.unwrap_or-capacity.ensures (omega arith) (omega arith) (omega arith)
    c.requires.capacity_is c.get_one-2.ensures.none c.get_one-2.ensures.value

pub returns : goal.returns
returns c =
    let found = found_of c.args.matches.now in
    let dir = c.in_ok-from_str.ensures.ok
    ∙ text_is found (codes "dir") c.get_str.result c.unwrap_or-dir.result _ c.unwrap_or-dir.ensures c.get_str.ensures in
    let targets = c.in_ok-bytes_of.ensures
    ∙ targets_are found c.get_strs.result c.unwrap_or-targets.result _ c.unwrap_or-targets.ensures refl c.get_strs.ensures in
    rw (c.options_of-options.ensures, (senders c).0, (capacity c).0, dir, targets) refl

pub invariant_of-result : goal.invariant_of-result
invariant_of-result c = subst IsJob (sym (returns c)) (record {
  senders_are = ((senders c).1, (senders c).2);
  capacity_is = ((capacity c).1, (capacity c).2);
  some_target = c.requires.some_target;
})
