use Rattle.std.proofs.Common.{◌≡◌, ℕ, List, length, ap, refl, subst, arith}
use Rattle.bayou_machine.specs.Inner.Seated.{AreUnopened}
use Rattle.bayou_machine.specs.Seats.{Seat}
use Rattle.bayou_machine.proofs.Seated.{none_asked, unopened_next}
use Rattle.bayou_machine.proofs.parties.unopened.Goals as goal

pub loop-index-init : goal.loop-index-init
loop-index-init c = record { one_each = ap (λ (l : List Seat). length l) c.in_ok-seats.ensures.items; new = λ who within. absurd (omega (arith, within)) }

pub loop-index-preserved : goal.loop-index-preserved
loop-index-preserved c =
    unopened_next c.loop-index.index c.loop-index.seats.items c.push.new.self.items _ c.default.result c.new.result c.loop-index.invariant refl (none_asked c.default.result c.default.ensures) c.new.ensures c.in_ok-push.ensures.items

pub returns : goal.returns
returns c =
    let all : c.loop-index.index ≡ 32 = omega arith in
    subst (λ (done : ℕ). AreUnopened done c.loop-index.seats.items) all c.loop-index.invariant
