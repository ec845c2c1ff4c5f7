use Rattle.std.proofs.Common.{None, inl, List, nat_eq, sym, ap, ◌∙◌, subst}
use Rattle.std.specs.Cmp.Lexicographic.{pointwise}
use Rattle.std.specs.List.{IsDistinct, flat_map}
use Rattle.redo_outline.specs.Contents.{contents_of}
use Rattle.redo_outline.specs.Facts.{target_status}
use Rattle.redo_view.specs.Event.{Event}
use Rattle.redo_view.specs.Laws.{opened_name}
use Rattle.redo_view.specs.Expansion.{is_among}
use Rattle.redo_json.specs.Build.{build_events, options_of}
use Rattle.redo_json.specs.Every.{every_target}
use Rattle.redo_json.proofs.EveryLemmas.{all_known, among_every}
use Rattle.redo_json.proofs.OpeningLemmas.{contents_named, targets_are}
use Rattle.redo_json.proofs.laws.each_log_has_one_object.Goals as goal

pub returns-clause-opened : goal.returns-clause-opened
returns-clause-opened c = λ request logs requested known.
    targets_are request logs (target_status logs (build_events request logs requested)) 0 None
    (contents_of (build_events request logs requested)) (contents_named logs (options_of request) requested)
    ∙ ap (λ (events : List Event). flat_map opened_name events) (c.events_are_in_contents.ensures logs (options_of request) requested known)
    ∙ c.each_log_once.ensures.events logs (options_of request) requested known

pub returns-clause-once : goal.returns-clause-once
returns-clause-once c = λ request logs requested known.
    subst (IsDistinct (pointwise nat_eq)) (sym (returns-clause-opened c request logs requested known))
    (c.each_log_once.ensures.no_duplicates logs (options_of request) requested)

pub returns-clause-every : goal.returns-clause-every
returns-clause-every c = λ request logs requested target known listed.
    ap (is_among target) (returns-clause-opened c request logs (every_target logs requested) (all_known logs requested known))
    ∙ c.each_log_once.ensures.all_reachable logs (options_of request) (every_target logs requested) target
    (inl (among_every logs requested target listed))
