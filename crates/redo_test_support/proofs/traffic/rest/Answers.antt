use Rattle.redo_test_support.proofs.traffic.rest.Goals as goal

pub rest-requires : goal.rest-requires
rest-requires g c = c.all_met.ensures.0 c.if-not-all_met.false
