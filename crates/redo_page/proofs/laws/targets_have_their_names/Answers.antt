use Rattle.redo_page.specs.Page.{page_outline}
use Rattle.redo_page.proofs.PageNames.{page_names, page_targets}
use Rattle.redo_page.proofs.PageNumbers.{page_has_names}
use Rattle.redo_page.proofs.ReadLemmas.{part_read, requested_are}
use Rattle.redo_page.proofs.laws.targets_have_their_names.Goals as goal

pub returns-clause-names : goal.returns-clause-names
returns-clause-names c = λ request logs requested.
    let law = c.ranks_have_values_of_targets.ensures in
    page_names request logs requested (record { longest = law.longest; alone = law.alone; warned = law.warned; memory = law.memory })

pub returns-clause-targets : goal.returns-clause-targets
returns-clause-targets c = page_targets

pub returns-clause-requested : goal.returns-clause-requested
returns-clause-requested c = λ request logs requested.
    part_read request logs requested (c.page_is_read.ensures.parts request logs requested) _
    (requested_are logs (page_outline request logs requested)) (page_has_names request logs requested)
