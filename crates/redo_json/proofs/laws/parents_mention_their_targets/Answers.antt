use Rattle.redo_outline.specs.Contents.{contents_of}
use Rattle.redo_outline.specs.Facts.{target_status}
use Rattle.redo_json.specs.Build.{build_events, options_of}
use Rattle.redo_json.proofs.ParentLaws.{are_needed, are_requested, have_last_parents}
use Rattle.redo_json.proofs.ParentLemmas.{are_right}
use Rattle.redo_json.proofs.laws.parents_mention_their_targets.Goals as goal

pub returns-clause-last : goal.returns-clause-last
returns-clause-last c = λ request logs requested.
    have_last_parents request logs requested (target_status logs (build_events request logs requested))
    (contents_of (build_events request logs requested))
    (are_right request logs requested (c.show_log_equation.ensures.holds logs (options_of request))
    (c.named_once.ensures.entries logs (options_of request)) (c.entries_match_log.ensures.without_log logs))

pub returns-clause-needed : goal.returns-clause-needed
returns-clause-needed c = λ request logs requested.
    are_needed request logs requested (target_status logs (build_events request logs requested))
    (contents_of (build_events request logs requested))
    (are_right request logs requested (c.show_log_equation.ensures.holds logs (options_of request))
    (c.named_once.ensures.entries logs (options_of request)) (c.entries_match_log.ensures.without_log logs))

pub returns-clause-requested : goal.returns-clause-requested
returns-clause-requested c = λ request logs requested.
    are_requested request logs requested (target_status logs (build_events request logs requested))
    (contents_of (build_events request logs requested))
    (are_right request logs requested (c.show_log_equation.ensures.holds logs (options_of request))
    (c.named_once.ensures.entries logs (options_of request)) (c.entries_match_log.ensures.without_log logs))
