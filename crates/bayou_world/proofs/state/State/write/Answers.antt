use Rattle.std.proofs.Common.{◌≡◌, ◌<◌, Some, None, ap, sym, ◌∙◌, arith, length, get_or, set, refl, subst, false, ◌≤◌}
use Rattle.std.proofs.lemmas.List.{set-get_or, get_or_default}
use Rattle.bayou_world.specs.declared.world_server.WorldServer.TheVariants.{Running}
use Rattle.bayou_base.specs.declared.limits.TheConstants.{MAX_PLACES}
use Rattle.bayou_world.specs.declared.world_session.WorldSession.{WorldSession}
use Rattle.bayou_world.specs.Inner.WorldServers.{is_stopped}
use Rattle.bayou_world.specs.Inner.Tie.{IsTied, seat}
use Rattle.bayou_world.specs.Machine.{Machine}
use Rattle.bayou_world.specs.Steps.{WriteStep}
use Rattle.bayou_world.specs.declared.reply.Reply.TheVariants as replies
use Rattle.bayou_world.specs.Faults.{tells_fault}
use Rattle.bayou_world.specs.Inner.Charges.{AreSpent}
use Rattle.bayou_world.proofs.Charging.{none_spent, one_spent}
use Rattle.bayou_world.proofs.Tied.{cannot_begin, no_world_session, not_true, runs_there, same_world_session, stands_at}
use Rattle.bayou_world.proofs.TiedWrites.{write_tied}
use Rattle.bayou_world.proofs.state.State.write.Goals as goal
use Rattle.bayou_world.proofs.state.State.write.Goals.{then-seat-len-via-then-seat-len, then-seat-len-via-else-seat-len+then-at-len}

pub returns-clause-follows : goal.returns-clause-follows
returns-clause-follows c machine good tagged tied =
    let who = c.args.who.index in
    let place = c.args.place.index in
    let servers = c.args.self.now.servers.items in
    let world_sessions = c.args.self.now.sessions.items in
    let server = c.in-Running.server in
    let known : place < length servers = omega (arith, c.if-at-len.false, c.from-at.ensures, c.len-else-seat-len.ensures) in
    let inside : who < length world_sessions = omega (arith, c.if-seat-len.false, c.from-seat.ensures, c.len.ensures) in
    let stands : get_or servers place (Running server) ≡ Running server =
    stands_at servers place c.from-at.result c.index_mut-2.result.now (Running server) c.index_mut-2.ensures.value c.from-at.ensures c.in-Running.is in
    let at : seat world_sessions who ≡ Some c.in-Some.session =
    get_or_default world_sessions who None c.index_mut.result.now inside ∙ ap (λ n. get_or world_sessions n c.index_mut.result.now) (sym c.from-seat.ensures) ∙ sym c.index_mut.ensures.value ∙ c.in-Some.is in
    let may = c.if-not-may_begin.ensures.0 refl in
    let answer = c.in_ok-answer.answer in
    let asks = c.in_ok-answer.ensures in
    subst (λ n. (next : Machine) × WriteStep machine who place c.args.program (replies.Wrote answer) next
    × IsTied (set servers n (Running c.write.new.server)) (set world_sessions c.from-seat.result (Some c.write.new.self)) c.args.self.now.offers.items c.args.self.now.items.items c.args.self.now.served.items next) (sym c.from-at.ensures)
    (subst (λ n. (next : Machine) × WriteStep machine who place c.args.program (replies.Wrote answer) next
    × IsTied (set servers place (Running c.write.new.server)) (set world_sessions n (Some c.write.new.self)) c.args.self.now.offers.items c.args.self.now.items.items c.args.self.now.served.items next) (sym c.from-seat.ensures)
    (write_tied c.write_need_is_what_is_asked.ensures servers world_sessions c.args.self.now.offers.items c.args.self.now.items.items c.args.self.now.served.items machine good tagged tied who place c.args.program
    c.in-Some.session c.write.new.self server c.write.new.server answer c.args.who.in_range at may.0 may.1 known stands asks.0 asks.1 asks.2 asks.3))

pub returns-then-seat-len-clause-spent : goal.returns-then-seat-len-clause-spent
returns-then-seat-len-clause-spent c = none_spent c.args.self.now.servers.items c.args.place.index

pub returns-in_default-clause-spent : goal.returns-in_default-clause-spent
returns-in_default-clause-spent c = none_spent c.args.self.now.servers.items c.args.place.index

pub returns-then-not-may_begin-clause-spent : goal.returns-then-not-may_begin-clause-spent
returns-then-not-may_begin-clause-spent c = none_spent c.args.self.now.servers.items c.args.place.index

pub returns-in_default-index_mut-clause-spent : goal.returns-in_default-index_mut-clause-spent
returns-in_default-index_mut-clause-spent c =
    let servers = c.args.self.now.servers.items in
    let found = c.index_mut-2.result.now in
    let kept : set servers c.from-at.result found ≡ servers = ap (set servers c.from-at.result) c.index_mut-2.ensures.value ∙ set-get_or servers c.from-at.result found in
    subst (AreSpent c.args.place.index false false servers) (sym kept) (none_spent servers c.args.place.index)

pub returns-clause-spent : goal.returns-clause-spent
returns-clause-spent c =
    let place = c.args.place.index in
    let servers = c.args.self.now.servers.items in
    let old = c.in-Running.server in
    let known : place < length servers = omega (arith, c.if-at-len.false, c.from-at.ensures, c.len-else-seat-len.ensures) in
    let stands : get_or servers place (Running old) ≡ Running old =
    stands_at servers place c.from-at.result c.index_mut-2.result.now (Running old) c.index_mut-2.ensures.value c.from-at.ensures c.in-Running.is in
    let answer = c.in_ok-answer.answer in
    subst (λ n. AreSpent place (tells_fault (replies.Wrote answer)) false servers (set servers n (Running c.write.new.server))) (sym c.from-at.ensures)
    (one_spent servers place (tells_fault (replies.Wrote answer)) false (Running old) (Running c.write.new.server) known stands c.in_ok-answer.ensures.3.spends)

pub returns-then-seat-len-clause-follows : goal.returns-then-seat-len-clause-follows
returns-then-seat-len-clause-follows c machine good tagged tied =
    let who = c.args.who.index in
    let place = c.args.place.index in
    let servers = c.args.self.now.servers.items in
    let world_sessions = c.args.self.now.sessions.items in
    let offers = c.args.self.now.offers.items in
    let items = c.args.self.now.items.items in
    let served = c.args.self.now.served.items in
    let none : length servers ≤ place = elim c.then-seat-len.branch as (λ _. length servers ≤ place) [
      | then-seat-len-via-then-seat-len w ↦ absurd (omega (arith, w.if-seat-len.true, c.len.ensures, c.from-seat.ensures, tied.seats, c.args.who.in_range))
      | then-seat-len-via-else-seat-len+then-at-len w ↦ omega (arith, w.if-at-len.true, w.len-else-seat-len.ensures, c.from-at.ensures)
    ] in
    (machine, WriteStep.skipped (cannot_begin servers world_sessions offers items served machine tied who place c.args.who.in_range (λ world_session there idle left known running. omega (arith, none, known))) refl refl, tied)

pub returns-in_default-clause-follows : goal.returns-in_default-clause-follows
returns-in_default-clause-follows c machine good tagged tied =
    let who = c.args.who.index in
    let place = c.args.place.index in
    let servers = c.args.self.now.servers.items in
    let world_sessions = c.args.self.now.sessions.items in
    let offers = c.args.self.now.offers.items in
    let items = c.args.self.now.items.items in
    let served = c.args.self.now.served.items in
    let inside : who < length world_sessions = omega (arith, c.if-seat-len.false, c.from-seat.ensures, c.len.ensures) in
    let found = c.index_mut.result.now in
    let at : seat world_sessions who ≡ None =
    get_or_default world_sessions who None found inside ∙ ap (λ n. get_or world_sessions n found) (sym c.from-seat.ensures) ∙ sym c.index_mut.ensures.value ∙ c.in_default.is in
    let kept : set world_sessions c.from-seat.result found ≡ world_sessions = ap (set world_sessions c.from-seat.result) c.index_mut.ensures.value ∙ set-get_or world_sessions c.from-seat.result found in (
      machine,
      WriteStep.skipped (cannot_begin servers world_sessions offers items served machine tied who place c.args.who.in_range (λ world_session there idle left known running. no_world_session world_session (sym there ∙ at))) refl refl,
      subst (λ list. IsTied servers list offers items served machine) (sym kept) tied,
    )

pub returns-then-not-may_begin-clause-follows : goal.returns-then-not-may_begin-clause-follows
returns-then-not-may_begin-clause-follows c machine good tagged tied =
    let who = c.args.who.index in
    let place = c.args.place.index in
    let servers = c.args.self.now.servers.items in
    let world_sessions = c.args.self.now.sessions.items in
    let offers = c.args.self.now.offers.items in
    let items = c.args.self.now.items.items in
    let served = c.args.self.now.served.items in
    let inside : who < length world_sessions = omega (arith, c.if-seat-len.false, c.from-seat.ensures, c.len.ensures) in
    let at : seat world_sessions who ≡ Some c.in-Some.session =
    get_or_default world_sessions who None c.index_mut.result.now inside ∙ ap (λ n. get_or world_sessions n c.index_mut.result.now) (sym c.from-seat.ensures) ∙ sym c.index_mut.ensures.value ∙ c.in-Some.is in
    let seated : set world_sessions c.from-seat.result (Some c.in-Some.session) ≡ world_sessions =
    ap (set world_sessions c.from-seat.result) (sym c.in-Some.is ∙ c.index_mut.ensures.value) ∙ set-get_or world_sessions c.from-seat.result c.index_mut.result.now in (
      machine,
      WriteStep.skipped
          (cannot_begin servers world_sessions offers items served machine tied who place c.args.who.in_range (λ world_session there idle left known running.
          let same = same_world_session world_session c.in-Some.session (sym there ∙ at) in
          not_true (c.if-not-may_begin.ensures.1 (subst (λ (x : WorldSession). x.flight ≡ None) same idle, subst (λ (x : WorldSession). x.session.begun < MAX_PLACES) same left))))
          refl refl,
      subst (λ list. IsTied servers list offers items served machine) (sym seated) tied,
    )

pub returns-in_default-index_mut-clause-follows : goal.returns-in_default-index_mut-clause-follows
returns-in_default-index_mut-clause-follows c machine good tagged tied =
    let who = c.args.who.index in
    let place = c.args.place.index in
    let servers = c.args.self.now.servers.items in
    let world_sessions = c.args.self.now.sessions.items in
    let offers = c.args.self.now.offers.items in
    let items = c.args.self.now.items.items in
    let served = c.args.self.now.served.items in
    let seated : set world_sessions c.from-seat.result (Some c.in-Some.session) ≡ world_sessions =
    ap (set world_sessions c.from-seat.result) (sym c.in-Some.is ∙ c.index_mut.ensures.value) ∙ set-get_or world_sessions c.from-seat.result c.index_mut.result.now in
    let found = c.index_mut-2.result.now in
    let stands = stands_at servers place c.from-at.result found found c.index_mut-2.ensures.value c.from-at.ensures refl in
    let kept : set servers c.from-at.result found ≡ servers = ap (set servers c.from-at.result) c.index_mut-2.ensures.value ∙ set-get_or servers c.from-at.result found in (
      machine,
      WriteStep.skipped
          (cannot_begin servers world_sessions offers items served machine tied who place c.args.who.in_range (λ world_session there idle left known running.
          not_true (sym (runs_there servers world_sessions offers items served machine tied place found stands running) ∙ ap is_stopped c.in_default-index_mut.is)))
          refl refl,
      subst (λ list. IsTied list (set world_sessions c.from-seat.result (Some c.in-Some.session)) offers items served machine) (sym kept)
          (subst (λ list. IsTied servers list offers items served machine) (sym seated) tied),
    )
