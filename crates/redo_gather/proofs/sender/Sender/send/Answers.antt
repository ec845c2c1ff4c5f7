use Rattle.redo_gather.proofs.sender.Sender.send.Goals as goal

pub returns : goal.returns
returns g c =
    let sent = c.send.ensures in
    record { unchanged = sent.unchanged; posted = sent.posted; expected = sent.expected; well_sized = sent.well_sized }
