use Rattle.std.proofs.Common.{codes, refl}
use Rattle.clap.specs.Matches.{found_of}
use Rattle.redo_args.proofs.Getters.{flag_is}
use Rattle.redo_args.proofs.job.options_of.Goals as goal

pub returns : goal.returns
returns c =
    let found = found_of c.args.matches.now in
    let recursive = flag_is found (codes "recursive") c.get_flag.result c.requires.recursive_is c.get_flag.ensures.none
    c.get_flag.ensures.value c.get_flag.ensures.other in
    let unchanged = flag_is found (codes "unchanged") c.get_flag-2.result c.requires.unchanged_is c.get_flag-2.ensures.none
    c.get_flag-2.ensures.value c.get_flag-2.ensures.other in
    let details = flag_is found (codes "details") c.get_flag-3.result c.requires.details_are c.get_flag-3.ensures.none
    c.get_flag-3.ensures.value c.get_flag-3.ensures.other in
    let debug_locks = flag_is found (codes "debug_locks") c.get_flag-4.result c.requires.debug_locks_are c.get_flag-4.ensures.none
    c.get_flag-4.ensures.value c.get_flag-4.ensures.other in
    let debug_pids = flag_is found (codes "debug_pids") c.get_flag-5.result c.requires.debug_pids_are c.get_flag-5.ensures.none
    c.get_flag-5.ensures.value c.get_flag-5.ensures.other in
    rw (recursive, unchanged, details, debug_locks, debug_pids) refl
