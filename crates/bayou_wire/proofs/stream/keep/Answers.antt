use Rattle.std.proofs.Common.{List, ℕ, Option, ◌∙◌, ◌-◌, ap, arith, drop, length, length-take, subst, sym, take}
use Rattle.bayou_wire.specs.declared.fault.DecodeFault.{DecodeFault}
use Rattle.bayou_wire.specs.Stream.{IsFaultAt, TakesIn}
use Rattle.bayou_wire.specs.Inner.Reading.{IsTaken}
use Rattle.bayou_wire.proofs.Feeding.{keeps-behind, keeps-frames, keeps-fault}
use Rattle.bayou_wire.proofs.stream.keep.Goals as goal

pub returns-in-Some-clause-kept : goal.returns-in-Some-clause-kept
returns-in-Some-clause-kept c =
    let taken = c.args.taken in
    let held = c.args.held.now.items in
    keeps-fault held taken.frames.items taken.left c.in-Some.fault (subst (λ (fault : Option DecodeFault). IsTaken held taken.frames.items taken.left fault) c.in-Some.ensures.1 c.requires) c.in-Some.ensures.0

pub returns-in-None-clause-kept : goal.returns-in-None-clause-kept
returns-in-None-clause-kept c =
    let taken = c.args.taken in
    let held = c.args.held.now.items in
    let front = c.advance.ensures.items ∙ ap (λ n. drop (n - taken.left) held) c.len.ensures.value in
    subst (λ (kept : List ℕ). TakesIn held taken.frames.items kept) (sym (c.truncate.ensures.items ∙ ap (take 8194) front))
    (keeps-frames held taken.frames.items taken.left taken.fault c.requires c.in-None.ensures)

pub returns-in-None-clause-held_back : goal.returns-in-None-clause-held_back
returns-in-None-clause-held_back c = omega (arith, ap length c.truncate.ensures.items, length-take 8194 c.advance.new.self.items)

pub returns-in-None-clause-behind : goal.returns-in-None-clause-behind
returns-in-None-clause-behind c =
    let taken = c.args.taken in
    let held = c.args.held.now.items in
    let front = c.advance.ensures.items ∙ ap (λ n. drop (n - taken.left) held) c.len.ensures.value in
    subst (λ (kept : List ℕ). IsFaultAt kept taken.fault) (sym (c.truncate.ensures.items ∙ ap (take 8194) front))
    (keeps-behind held taken.frames.items taken.left taken.fault c.requires)
