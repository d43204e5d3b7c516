use Rattle.std.proofs.Common.{arith, ap, max, ◌∙◌}
use Rattle.bayou_script.proofs.Counted.{all_tried}
use Rattle.bayou_script.proofs.capacity.capacity_for.Goals as goal

pub returns : goal.returns
returns g c = c.max.ensures ∙ ap (λ n. max n 1) (all_tried g.C.Spoken.line c.args.commands.now.items c.loop-at.at c.loop-at.tried c.loop-at.invariant.so_far (omega arith))
