use Rattle.bayou_peer.proofs.Short.{short}
use Rattle.bayou_peer.proofs.Valid.{one_by_one}
use Rattle.bayou_peer.proofs.meeting.an_answer_is_short.Goals as goal

pub returns : goal.returns
returns c sent cut each few = short c.a_write_is_spelled_by_a_body.ensures sent cut (one_by_one sent each) few
