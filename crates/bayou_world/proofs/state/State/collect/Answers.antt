use Rattle.std.proofs.Common.{◌≡◌, ◌<◌, ◌≤◌, ◌+◌, ◌++◌, max, sym, ◌∙◌, arith, length, get_or, subst, ap, refl}
use Rattle.std.proofs.lemmas.List.{get_or_default, length-map}
use Rattle.std.proofs.lemmas.Option.{slice_get_within}
use Rattle.bayou_world.specs.declared.world_server.WorldServer.TheVariants.{Running}
use Rattle.bayou_base.specs.declared.limits.TheConstants.{MAX_NUMBER}
use Rattle.bayou_lang.specs.Writes.{count_of}
use Rattle.bayou_world.specs.Inner.WorldServers.{is_stopped}
use Rattle.bayou_world.specs.Inner.Tie.{IsTied}
use Rattle.bayou_world.specs.Machine.{Machine, Offered}
use Rattle.bayou_world.specs.Steps.{CannotCollect, CollectStep}
use Rattle.bayou_world.specs.declared.reply.Reply.TheVariants as replies
use Rattle.bayou_world.proofs.Tied.{not_true, runs_there, stands_at}
use Rattle.bayou_world.proofs.TiedItems.{collect_beyond, collect_flown, collect_lacks, collect_wants}
use Rattle.bayou_world.proofs.state.State.collect.Goals as goal
use Rattle.bayou_world.proofs.state.State.collect.Goals.{then-at-len-via-then-at-len, then-at-len-via-else-at-len+then-offer-len}

pub returns-then-first-max-clause-follows : goal.returns-then-first-max-clause-follows
returns-then-first-max-clause-follows c machine good tagged tied =
    let place = c.args.place.index in
    let servers = c.args.self.now.servers.items in
    let world_sessions = c.args.self.now.sessions.items in
    let offers = c.args.self.now.offers.items in
    let items = c.args.self.now.items.items in
    let server = c.in-Running.server in
    let vector = c.index-offered.result.now in
    let lacking = c.in-Ok.lacking.items in
    let known : place < length servers = omega (arith, c.if-at-len.false, c.from-at.ensures, c.len.ensures) in
    let inside : c.args.offer < length offers = omega (arith, c.if-offer-len.false, c.len-else-at-len.ensures) in
    let stands : get_or servers place (Running server) ≡ Running server =
    stands_at servers place c.from-at.result c.index.result.now (Running server) c.index.ensures c.from-at.ensures c.in-Running.is in
    let is : vector ≡ get_or offers c.args.offer vector = c.index-offered.ensures ∙ get_or_default offers c.args.offer _ vector inside in
    let lacks = collect_lacks servers world_sessions offers items c.args.self.now.served.items machine good tied place c.args.offer server vector lacking known stands inside is c.in-Ok.ensures.value in
    collect_beyond servers world_sessions offers items c.args.self.now.served.items machine tied place c.args.offer lacking lacks
    (omega (arith, c.if-first-max.true, c.len-first.ensures, c.len-number.ensures, c.max.ensures))

pub returns-clause-follows : goal.returns-clause-follows
returns-clause-follows c machine good tagged tied =
    let place = c.args.place.index in
    let servers = c.args.self.now.servers.items in
    let world_sessions = c.args.self.now.sessions.items in
    let offers = c.args.self.now.offers.items in
    let items = c.args.self.now.items.items in
    let server = c.in-Running.server in
    let vector = c.index-offered.result.now in
    let lacking = c.in-Ok.lacking.items in
    let known : place < length servers = omega (arith, c.if-at-len.false, c.from-at.ensures, c.len.ensures) in
    let inside : c.args.offer < length offers = omega (arith, c.if-offer-len.false, c.len-else-at-len.ensures) in
    let stands : get_or servers place (Running server) ≡ Running server =
    stands_at servers place c.from-at.result c.index.result.now (Running server) c.index.ensures c.from-at.ensures c.in-Running.is in
    let is : vector ≡ get_or offers c.args.offer vector = c.index-offered.ensures ∙ get_or_default offers c.args.offer _ vector inside in
    let lacks = collect_lacks servers world_sessions offers items c.args.self.now.served.items machine good tied place c.args.offer server vector lacking known stands inside is c.in-Ok.ensures.value in
    let first : c.len-first.result ≡ length items = omega (arith, c.len-first.ensures) in
    let number : c.len-number.result ≡ length lacking = omega (arith, c.len-number.ensures) in
    let few : length items + max (length lacking) 1 ≤ MAX_NUMBER + 1 = omega (arith, c.if-first-max.false, first, number, c.max.ensures) in
    subst (λ list. (next : Machine) × CollectStep machine place c.args.offer (replies.Flown c.len-first.result c.len-number.result) next
    × IsTied servers world_sessions offers list c.args.self.now.served.items next) (sym c.in_ok-append.ensures.items)
    (subst (λ n. (next : Machine) × CollectStep machine place c.args.offer (replies.Flown n c.len-number.result) next
    × IsTied servers world_sessions offers (items ++ lacking) c.args.self.now.served.items next) (sym first)
    (subst (λ n. (next : Machine) × CollectStep machine place c.args.offer (replies.Flown (length items) n) next
    × IsTied servers world_sessions offers (items ++ lacking) c.args.self.now.served.items next) (sym number)
    (collect_flown servers world_sessions offers items c.args.self.now.served.items machine tied place c.args.offer lacking lacks few)))

pub returns-then-at-len-clause-follows : goal.returns-then-at-len-clause-follows
returns-then-at-len-clause-follows c machine good tagged tied =
    let place = c.args.place.index in
    let servers = c.args.self.now.servers.items in
    let world_sessions = c.args.self.now.sessions.items in
    let offers = c.args.self.now.offers.items in
    let items = c.args.self.now.items.items in
    let served = c.args.self.now.served.items in
    let none : CannotCollect machine place c.args.offer = λ offered lacking may. elim c.then-at-len.branch as (λ _. ⊥) [
      | then-at-len-via-then-at-len w ↦ omega (arith, may.server.there, tied.many, w.if-at-len.true, c.from-at.ensures, c.len.ensures)
      | then-at-len-via-else-at-len+then-offer-len w ↦
          omega (arith, slice_get_within machine.offers c.args.offer _ may.there, ap length tied.offers_are, length-map machine.offers (λ (offer : Offered). count_of offer.database), w.if-offer-len.true, w.len-else-at-len.ensures)
    ] in
    (machine, CollectStep.skipped none refl refl, tied)

pub returns-in_default-clause-follows : goal.returns-in_default-clause-follows
returns-in_default-clause-follows c machine good tagged tied =
    let place = c.args.place.index in
    let servers = c.args.self.now.servers.items in
    let world_sessions = c.args.self.now.sessions.items in
    let offers = c.args.self.now.offers.items in
    let items = c.args.self.now.items.items in
    let served = c.args.self.now.served.items in
    let found = c.index.result.now in
    let stands = stands_at servers place c.from-at.result found found c.index.ensures c.from-at.ensures refl in (
      machine,
      CollectStep.skipped (λ offered lacking may. not_true (sym (runs_there servers world_sessions offers items served machine tied place found stands may.server) ∙ ap is_stopped c.in_default.is)) refl refl,
      tied,
    )

pub returns-in_default-lacking_in-clause-follows : goal.returns-in_default-lacking_in-clause-follows
returns-in_default-lacking_in-clause-follows c machine good tagged tied =
    let place = c.args.place.index in
    let servers = c.args.self.now.servers.items in
    let world_sessions = c.args.self.now.sessions.items in
    let offers = c.args.self.now.offers.items in
    let items = c.args.self.now.items.items in
    let served = c.args.self.now.served.items in
    let server = c.in-Running.server in
    let vector = c.index-offered.result.now in
    let known : place < length servers = omega (arith, c.if-at-len.false, c.from-at.ensures, c.len.ensures) in
    let inside : c.args.offer < length offers = omega (arith, c.if-offer-len.false, c.len-else-at-len.ensures) in
    let stands : get_or servers place (Running server) ≡ Running server =
    stands_at servers place c.from-at.result c.index.result.now (Running server) c.index.ensures c.from-at.ensures c.in-Running.is in
    let is : vector ≡ get_or offers c.args.offer vector = c.index-offered.ensures ∙ get_or_default offers c.args.offer _ vector inside in (
      machine,
      collect_wants servers world_sessions offers items served machine good tied place c.args.offer server vector known stands inside is c.in_default-lacking_in.ensures.wanted,
      tied,
    )
