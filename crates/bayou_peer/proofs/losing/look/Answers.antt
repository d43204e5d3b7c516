use Rattle.bayou_peer.proofs.Looked.{frame_ends}
use Rattle.bayou_peer.proofs.losing.look.Goals as goal

pub returns-clause-looks : goal.returns-clause-looks
returns-clause-looks g c =
    let (read, consumes, stops, begins) = c.in_ok-frame.ensures.reads in
    (read, consumes, stops, frame_ends _ _ read _ _ c.tells_loss.result begins c.tells_loss.ensures.lost c.tells_loss.ensures.kept c.tells_loss.ensures.fault)
