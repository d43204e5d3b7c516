-- those that were told so far
use Rattle.std.proofs.Common.{◌≡◌, map, take}
use Rattle.bayou_web_state.specs.declared.seen.Own.{Own}
use Rattle.bayou_web_state.proofs.seen.StoreSeen.own_now.Given as goal

abbrev pub invariant-loop-write : goal.invariant-loop-write
invariant-loop-write l = (map (λ (one : Own). one.write) l.now.items ≡ take l.write-index l.own) × (l.self ≡ l.fn.self)
