use Rattle.std.proofs.Common.{◌+◌, ◌∙◌, ap, arith, max}
use Rattle.std.proofs.lemmas.Grind.{common_steps}
use Rattle.bayou_connect.specs.declared.plan.ServerPlace.{ServerPlace}
use Rattle.bayou_connect.proofs.Least.{least_more}
use Rattle.bayou_connect.proofs.plan.least_count.Goals as goal

pub loop-place-preserved : goal.loop-place-preserved
loop-place-preserved c = record {
  within = grind (arith, common_steps);
  least = least_more c.loop-place.least c.max-least.result c.loop-place.place-index c.args.places.now c.place-item.result (omega arith) c.loop-place.invariant.least (c.max-least.ensures ∙ ap (λ (place : ServerPlace). max c.loop-place.least (place.id.index + 1)) c.place-item.is);
}
