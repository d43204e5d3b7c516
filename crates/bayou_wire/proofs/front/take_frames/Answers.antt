use Rattle.std.proofs.Common.{arith}
use Rattle.std.proofs.lemmas.Grind.{common_steps}
use Rattle.bayou_wire.proofs.front.take_frames.Goals as goal

pub loop-frames-smaller : goal.loop-frames-smaller
loop-frames-smaller c = grind (arith, common_steps) steps 2000000

pub loop-frames-preserved : goal.loop-frames-preserved
loop-frames-preserved c = grind (arith, common_steps) steps 2000000
