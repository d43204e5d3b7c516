use Rattle.std.proofs.Common.{refl}
use Rattle.bayou_net.specs.Replies.{write_reply}
use Rattle.bayou_wire.specs.Stream.{spelling}
use Rattle.bayou_net.proofs.replying.reply_to.Goals as goal

pub returns-in-Write : goal.returns-in-Write
returns-in-Write g c =
    let (answer, wrote, told) = c.of_write.ensures in
    (spelling (write_reply answer), rw c.in-Write.is (answer, wrote, refl), told)
