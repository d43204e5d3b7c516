use Rattle.std.proofs.Common.{length, ap, arith}
use Rattle.bayou_greeting.specs.Laws.Digests.{length-shorts_behind}
use Rattle.bayou_greeting.specs.OriginDigests.{no_writes}
use Rattle.bayou_greeting.proofs.origin_digests.OriginDigests.len.Goals as goal

pub returns : goal.returns
returns c writes are = omega (arith, ap length are.kept, length-shorts_behind no_writes writes, c.len.ensures)
