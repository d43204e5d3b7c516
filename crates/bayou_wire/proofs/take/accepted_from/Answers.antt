use Rattle.std.proofs.Common.{◌≡◌, false, true, refl, sym}
use Rattle.bayou_wire.specs.Laws.Inner.Readers.{accepted_of-given, accepted_of-none}
use Rattle.bayou_wire.proofs.take.accepted_from.Goals as goal

pub returns : goal.returns
returns c = sym (accepted_of-given _ _ _ _ refl c.in-Some.ensures.value.0 refl)

pub returns-in_default : goal.returns-in_default
returns-in_default c = sym (accepted_of-none _ _ _ (λ h. absurd (let e : false ≡ true = c.in_default.ensures.within.1 h in cc)))
