use Rattle.bayou_serve.proofs.Greeted.{proved}
use Rattle.bayou_serve.proofs.greeting.receive_guest.Goals as goal

pub returns : goal.returns
returns g c =
    let (rest, read, written, consumes, let_in) = c.in_ok-guest.ensures in
    proved c.args.own.now.key _ _ let_in.admitted
