use Rattle.redo_wire.proofs.Steps.{lawful_opens, lawful_posts, lawful_schedule, lawful_takes}
use Rattle.redo_wire.proofs.laws.steps_preserve_validity.Goals as goal

pub returns-clause-opens : goal.returns-clause-opens
returns-clause-opens c = lawful_opens

pub returns-clause-posts : goal.returns-clause-posts
returns-clause-posts c = lawful_posts

pub returns-clause-takes : goal.returns-clause-takes
returns-clause-takes c = lawful_takes

pub returns-clause-schedules : goal.returns-clause-schedules
returns-clause-schedules c capacity senders first states opens =
    lawful_schedule capacity senders first states (lawful_opens capacity senders first opens)
