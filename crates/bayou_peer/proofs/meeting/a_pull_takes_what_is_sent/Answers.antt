use Rattle.bayou_peer.proofs.Sent.{meets}
use Rattle.bayou_peer.proofs.Valid.{one_by_one}
use Rattle.bayou_peer.proofs.meeting.a_pull_takes_what_is_sent.Goals as goal

pub returns : goal.returns
returns g c sent cut start now result each =
    meets (record { list = g.P.Replica.list; takes = g.P.Replica.takes }) sent cut start now result (one_by_one sent each)
