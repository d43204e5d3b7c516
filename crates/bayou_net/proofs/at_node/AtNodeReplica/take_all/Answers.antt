use Rattle.bayou_net.proofs.Desks.{all_beside}
use Rattle.bayou_net.proofs.at_node.AtNodeReplica.take_all.Goals as goal

pub returns : goal.returns
returns g c =
    let (left, all, none) = c.take_all.ensures in
    record { took = (left, all_beside g.L.Desks.begun c.args.self.now c.args.writes.items left c.take_all.result all, none) }
