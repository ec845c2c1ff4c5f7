use Rattle.redo_gather.proofs.SendingLaws.{are_singles, never_alone, posts_few, posts_its_own, stands_for_each}
use Rattle.redo_gather.proofs.laws.items_for_share.Goals as goal

pub returns-clause-singles : goal.returns-clause-singles
returns-clause-singles c = are_singles

pub returns-clause-each : goal.returns-clause-each
returns-clause-each c = stands_for_each

pub returns-clause-alone : goal.returns-clause-alone
returns-clause-alone c = never_alone

pub returns-clause-own_items : goal.returns-clause-own_items
returns-clause-own_items c = posts_its_own

pub returns-clause-at_most : goal.returns-clause-at_most
returns-clause-at_most c = posts_few
