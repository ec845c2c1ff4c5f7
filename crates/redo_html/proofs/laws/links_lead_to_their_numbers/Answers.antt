use Rattle.std.proofs.Common.{refl}
use Rattle.redo_html.proofs.IdLemmas.{has_own_id}
use Rattle.redo_html.proofs.laws.links_lead_to_their_numbers.Goals as goal

pub returns-clause-target : goal.returns-clause-target
returns-clause-target c = λ number. refl

pub returns-clause-output : goal.returns-clause-output
returns-clause-output c = λ number. refl

pub returns-clause-own_ids : goal.returns-clause-own_ids
returns-clause-own_ids c = has_own_id
