use Rattle.std.proofs.Common.{◌≡◌, ◌<◌, sym, ◌∙◌, arith, length, get_or, set, refl, subst, false, ap}
use Rattle.std.proofs.lemmas.List.{set-get_or, get_or_default, length-map}
use Rattle.std.proofs.lemmas.Option.{slice_get_within}
use Rattle.bayou_world.specs.declared.world_server.WorldServer.TheVariants.{Running}
use Rattle.bayou_world.specs.Inner.WorldServers.{is_stopped}
use Rattle.bayou_world.specs.Inner.Tie.{IsTied, write_of}
use Rattle.bayou_world.specs.Machine.{Machine, Made}
use Rattle.bayou_world.specs.Steps.{IsGiven, TakeStep}
use Rattle.bayou_world.specs.declared.reply.Reply.TheVariants as replies
use Rattle.bayou_world.specs.Faults.{tells_fault}
use Rattle.bayou_world.specs.Inner.Charges.{AreSpent}
use Rattle.bayou_world.proofs.Charging.{none_spent, one_spent}
use Rattle.bayou_world.proofs.Tied.{not_true, runs_there, stands_at}
use Rattle.bayou_world.proofs.TiedItems.{take_tied}
use Rattle.bayou_world.proofs.state.State.take.Goals as goal
use Rattle.bayou_world.proofs.state.State.take.Goals.{then-at-len-via-then-at-len, then-at-len-via-else-at-len+then-item-len}

pub returns-clause-follows : goal.returns-clause-follows
returns-clause-follows c machine good tagged tied =
    let place = c.args.place.index in
    let servers = c.args.self.now.servers.items in
    let world_sessions = c.args.self.now.sessions.items in
    let items = c.args.self.now.items.items in
    let old = c.in-Running.server in
    let write = c.in_ok-write.write in
    let known : place < length servers = omega (arith, c.if-at-len.false, c.from-at.ensures, c.len.ensures) in
    let inside : c.args.item < length items = omega (arith, c.if-item-len.false, c.len-else-at-len.ensures) in
    let stands : get_or servers place (Running old) ≡ Running old =
    stands_at servers place c.from-at.result c.index_mut.result.now (Running old) c.index_mut.ensures.value c.from-at.ensures c.in-Running.is in
    let is : write ≡ get_or items c.args.item write = c.in_ok-write.ensures ∙ c.index.ensures ∙ get_or_default items c.args.item _ write inside in
    subst (λ n. (next : Machine) × TakeStep machine place c.args.item (replies.Took c.take_write.result) next
    × IsTied (set servers n (Running c.take_write.new.server)) world_sessions c.args.self.now.offers.items items c.args.self.now.served.items next) (sym c.from-at.ensures)
    (take_tied servers world_sessions c.args.self.now.offers.items items c.args.self.now.served.items machine good tied place c.args.item old c.take_write.new.server write c.take_write.result known stands
    c.take_write.ensures.honest inside is c.take_write.ensures.takes)

pub returns-then-at-len-clause-spent : goal.returns-then-at-len-clause-spent
returns-then-at-len-clause-spent c = none_spent c.args.self.now.servers.items c.args.place.index

pub returns-in_default-clause-spent : goal.returns-in_default-clause-spent
returns-in_default-clause-spent c =
    let servers = c.args.self.now.servers.items in
    let found = c.index_mut.result.now in
    let kept : set servers c.from-at.result found ≡ servers = ap (set servers c.from-at.result) c.index_mut.ensures.value ∙ set-get_or servers c.from-at.result found in
    subst (AreSpent c.args.place.index false false servers) (sym kept) (none_spent servers c.args.place.index)

pub returns-clause-spent : goal.returns-clause-spent
returns-clause-spent c =
    let place = c.args.place.index in
    let servers = c.args.self.now.servers.items in
    let old = c.in-Running.server in
    let known : place < length servers = omega (arith, c.if-at-len.false, c.from-at.ensures, c.len.ensures) in
    let stands : get_or servers place (Running old) ≡ Running old =
    stands_at servers place c.from-at.result c.index_mut.result.now (Running old) c.index_mut.ensures.value c.from-at.ensures c.in-Running.is in
    subst (λ n. AreSpent place (tells_fault (replies.Took c.take_write.result)) false servers (set servers n (Running c.take_write.new.server))) (sym c.from-at.ensures)
    (one_spent servers place (tells_fault (replies.Took c.take_write.result)) false (Running old) (Running c.take_write.new.server) known stands c.take_write.ensures.spends)

pub returns-then-at-len-clause-follows : goal.returns-then-at-len-clause-follows
returns-then-at-len-clause-follows c machine good tagged tied =
    let place = c.args.place.index in
    let servers = c.args.self.now.servers.items in
    let world_sessions = c.args.self.now.sessions.items in
    let offers = c.args.self.now.offers.items in
    let items = c.args.self.now.items.items in
    let served = c.args.self.now.served.items in
    let there : (made : Made) → IsGiven machine place c.args.item made → (place < length servers) × (c.args.item < length items) = λ made given.
    (omega (arith, given.server.there, tied.many), omega (arith, slice_get_within machine.items c.args.item made given.there, ap length tied.items_are, length-map machine.items write_of)) in
    let none : (made : Made) → ¬ IsGiven machine place c.args.item made = λ made given. elim c.then-at-len.branch as (λ _. ⊥) [
      | then-at-len-via-then-at-len w ↦ omega (arith, (there made given).0, w.if-at-len.true, c.from-at.ensures, c.len.ensures)
      | then-at-len-via-else-at-len+then-item-len w ↦ omega (arith, (there made given).1, w.if-item-len.true, w.len-else-at-len.ensures)
    ] in
    (machine, TakeStep.skipped none refl refl, tied)

pub returns-in_default-clause-follows : goal.returns-in_default-clause-follows
returns-in_default-clause-follows c machine good tagged tied =
    let place = c.args.place.index in
    let servers = c.args.self.now.servers.items in
    let world_sessions = c.args.self.now.sessions.items in
    let offers = c.args.self.now.offers.items in
    let items = c.args.self.now.items.items in
    let served = c.args.self.now.served.items in
    let found = c.index_mut.result.now in
    let stands = stands_at servers place c.from-at.result found found c.index_mut.ensures.value c.from-at.ensures refl in
    let kept : set servers c.from-at.result found ≡ servers = ap (set servers c.from-at.result) c.index_mut.ensures.value ∙ set-get_or servers c.from-at.result found in (
      machine,
      TakeStep.skipped (λ made given. not_true (sym (runs_there servers world_sessions offers items served machine tied place found stands given.server) ∙ ap is_stopped c.in_default.is)) refl refl,
      subst (λ list. IsTied list world_sessions offers items served machine) (sym kept) tied,
    )
