use Rattle.std.proofs.Common.{◌≡◌, ℕ, [], ◌∷◌, ◌++◌, inl, Bool, None, Some, Err, sym, ◌∙◌, ap, subst}
use Rattle.std.proofs.lemmas.Result.{err_from_is_err_and}
use Rattle.bayou_journal.specs.Opening.{HasRefused}
use Rattle.bayou_log.specs.Log.{Log}
use Rattle.bayou_tags.specs.Tags.{TagList}
use Rattle.bayou_server.specs.declared.holding.Holding.{Holding}
use Rattle.bayou_server.specs.Inner.Fields.{core_of, server_of}
use Rattle.bayou_server.specs.Inner.Replaying.{AreHeldAnd}
use Rattle.bayou_server.specs.Faults.{reopen_fault}
use Rattle.bayou_server.specs.Server.{Core, IsSoundServer, ServerState, records_of}
use Rattle.bayou_server.specs.Stored.{ReopensJournal, Stores, records_with_doubt}
use Rattle.bayou_server.proofs.Beside.{one_each}
use Rattle.bayou_server.proofs.Recovering.{adopted_core, journal_refuses, opens_with, none_behind, others_refused, the_doubt, up_again}
use Rattle.bayou_server.proofs.Adopting.{own_of_one, several_opens, several_own, several_reopens, several_stored}
use Rattle.bayou_server.proofs.Steps.{sound_adopted}
use Rattle.bayou_server.proofs.server.Server.reopen.Goals as goal

pub returns-in_err-opened-clause-opens : goal.returns-in_err-opened-clause-opens
returns-in_err-opened-clause-opens g c =
    let inside = c.self.inside in
    let p = err_from_is_err_and c.from_residual.result c.from_residual.ensures.1 in
    let old = server_of inside.journal inside.holding inside.id.index in
    let new : ServerState g.row.D.Denot = record { core = old.core; device = c.reopen.new.self.device; last = c.reopen.new.self.last; taking = old.taking } in
    rw (p.1, p.2)
    (subst (λ (s : ServerState g.row.D.Denot). ReopensJournal g.D.Device s (Err (reopen_fault c.in_err-opened.field-0.0)) new) c.self.view_is
    (journal_refuses g.D.Device old new c.in_err-opened.field-0.0
    (subst (λ (s : ℕ). HasRefused g.D.Device s inside.journal.device c.reopen.new.self.device c.in_err-opened.field-0.0) c.self.invariant.0.owner c.in_err-opened.ensures.refused)))

pub returns-in_err-opened-clause-safe : goal.returns-in_err-opened-clause-safe
returns-in_err-opened-clause-safe g c = rw (← c.self.view_is) c.reopen.ensures.safe

pub has_doubt-requires-clause-tags : goal.has_doubt-requires-clause-tags
has_doubt-requires-clause-tags g c =
    let inside = c.self.inside in
    one_each inside.id.index inside.holding.log.receipts inside.holding.tags.tags c.self.invariant.0.sound.tagged

pub returns-in_err-adopts-clause-opens : goal.returns-in_err-adopts-clause-opens
returns-in_err-adopts-clause-opens g c =
    let inside = c.self.inside in
    let p = err_from_is_err_and c.from_residual-in_err-adopts.result c.from_residual-in_err-adopts.ensures.1 in
    let old = server_of inside.journal inside.holding inside.id.index in
    let new : ServerState g.row.D.Denot = record { core = old.core; device = c.reopen.new.self.device; last = c.reopen.new.self.last; taking = old.taking } in
    let (doubt, is) = the_doubt inside.holding.doubt c.is_none.result c.is_none.ensures c.if-is_none.false in
    rw (p.1, p.2)
    (subst (λ (s : ServerState g.row.D.Denot). ReopensJournal g.D.Device s (Err c.in_err-adopts.field-0.0) new) c.self.view_is
    (others_refused g.D.Device old new doubt c.in_ok-opened.opened.bodies c.in_err-adopts.field-0.0
    (one_each inside.id.index inside.holding.log.receipts inside.holding.tags.tags c.self.invariant.0.sound.tagged) (none_behind (core_of inside.holding inside.id.index) inside.holding.doubt inside.holding.together inside.holding.taking.items c.self.invariant.0.doubts c.if-self.false) is
    (opens_with g.D.Device inside.journal.server inside.id.index inside.journal.device c.reopen.new.self.device c.in_ok-opened.opened c.reopen.new.self.last c.self.invariant.0.owner c.in_ok-opened.ensures.opened)
    (c.in_err-adopts.ensures doubt is)))

pub returns-in_err-adopts-clause-safe : goal.returns-in_err-adopts-clause-safe
returns-in_err-adopts-clause-safe g c = rw (← c.self.view_is) c.reopen.ensures.safe

pub returns-then-not-adopts-clause-opens : goal.returns-then-not-adopts-clause-opens
returns-then-not-adopts-clause-opens g c =
    let inside = c.self.inside in
    let core = core_of inside.holding inside.id.index in
    let bodies = c.in_ok-opened.opened.bodies in
    let write = c.in-Some.write in
    let held : Stores core.id bodies (records_of core) =
    subst (λ (b : Bool). AreHeldAnd core write bodies b) c.if-not-adopts.true (c.in_ok-adopts.ensures write (sym c.take.ensures.value ∙ c.in-Some.is)) in
    rw (← c.self.view_is, c.forget.ensures) (
      bodies,
      held,
      opens_with g.D.Device inside.journal.server inside.id.index inside.journal.device c.reopen.new.self.device c.in_ok-opened.opened c.reopen.new.self.last c.self.invariant.0.owner c.in_ok-opened.ensures.opened,
    )

pub returns-then-not-adopts-clause-safe : goal.returns-then-not-adopts-clause-safe
returns-then-not-adopts-clause-safe g c = rw (← c.self.view_is) c.reopen.ensures.safe

pub invariant_of-self-2 : goal.invariant_of-self-2
invariant_of-self-2 g c =
    let inside = c.self.inside in
    let write = c.in-Some.write in
    let is = sym c.take.ensures.value ∙ c.in-Some.is in
    let after : Holding = record { log = c.insert.new.self; tags = c.settle.new.self; doubt = c.take.new.self; taking = inside.holding.taking; together = inside.holding.together } in
    let tags = c.settle.ensures.value ∙ ap (λ n. record inside.holding.tags { tags = inside.holding.tags.tags ++ inside.holding.tags.coming ∷ []; coming = None; room = n }) (sym (ap (λ (t : TagList). t.room) c.settle.ensures.value)) in
    let core = adopted_core inside.holding after inside.id.index write c.take.ensures.after c.insert.ensures tags in (
      up_again inside.journal c.reopen.new.self inside.holding after inside.id.index c.self.invariant.0 c.in_ok-opened.ensures.up (ap (λ (l : Log). l.limit) c.insert.ensures) c.take.ensures.after (none_behind (core_of inside.holding inside.id.index) inside.holding.doubt inside.holding.together inside.holding.taking.items c.self.invariant.0.doubts c.if-self.false) c.if-self.false
          (subst IsSoundServer (sym core) (sound_adopted (core_of inside.holding inside.id.index) write c.self.invariant.0.sound is)),
      ap (λ (log : Log). log.waiting) c.insert.ensures,
    )

pub returns-clause-reopens : goal.returns-clause-reopens
returns-clause-reopens g c =
    let inside = c.self.inside in
    let write = c.in-Some.write in
    let after : Holding = record { log = c.insert.new.self; tags = c.settle.new.self; doubt = c.take.new.self; taking = inside.holding.taking; together = inside.holding.together } in
    let tags = c.settle.ensures.value ∙ ap (λ n. record inside.holding.tags { tags = inside.holding.tags.tags ++ inside.holding.tags.coming ∷ []; coming = None; room = n }) (sym (ap (λ (t : TagList). t.room) c.settle.ensures.value)) in
    let core = adopted_core inside.holding after inside.id.index write c.take.ensures.after c.insert.ensures tags in
    rw (← c.self.view_is) (inl (write, sym c.take.ensures.value ∙ c.in-Some.is, c.wid-wid.ensures, core))

pub returns-clause-own : goal.returns-clause-own
returns-clause-own g c =
    let inside = c.self.inside in
    own_of_one c.args.self.now.core c.args.self.now.taking (Some c.wid-wid.result) _
    (ap (λ (s : ServerState g.row.D.Denot). s.taking) (sym c.self.view_is)
    ∙ none_behind (core_of inside.holding inside.id.index) inside.holding.doubt inside.holding.together inside.holding.taking.items c.self.invariant.0.doubts c.if-self.false) (returns-clause-reopens g c)

pub returns-clause-sound : goal.returns-clause-sound
returns-clause-sound g c = (rw (← c.self.view_is) c.self.invariant.0.sound, (invariant_of-self-2 g c).0.sound)

pub returns-clause-opens : goal.returns-clause-opens
returns-clause-opens g c =
    let inside = c.self.inside in
    let core = core_of inside.holding inside.id.index in
    let write = c.in-Some.write in
    let bodies = c.in_ok-opened.opened.bodies in
    let after : Holding = record { log = c.insert.new.self; tags = c.settle.new.self; doubt = c.take.new.self; taking = inside.holding.taking; together = inside.holding.together } in
    let tags = c.settle.ensures.value ∙ ap (λ n. record inside.holding.tags { tags = inside.holding.tags.tags ++ inside.holding.tags.coming ∷ []; coming = None; room = n }) (sym (ap (λ (t : TagList). t.room) c.settle.ensures.value)) in
    let new = adopted_core inside.holding after inside.id.index write c.take.ensures.after c.insert.ensures tags in
    let held : Stores core.id bodies (records_with_doubt core write) =
    subst (λ (b : Bool). AreHeldAnd core write bodies b) c.if-not-adopts.false (c.in_ok-adopts.ensures write (sym c.take.ensures.value ∙ c.in-Some.is)) in
    rw (← c.self.view_is) (
      bodies,
      subst (λ (k : Core). Stores core.id bodies (records_of k)) (sym new) held,
      opens_with g.D.Device inside.journal.server inside.id.index inside.journal.device c.reopen.new.self.device c.in_ok-opened.opened c.reopen.new.self.last c.self.invariant.0.owner c.in_ok-opened.ensures.opened,
    )

pub returns-clause-safe : goal.returns-clause-safe
returns-clause-safe g c = rw (← c.self.view_is) c.reopen.ensures.safe

pub returns-then-self-clause-reopens : goal.returns-then-self-clause-reopens
returns-then-self-clause-reopens g c =
    let inside = c.self.inside in
    rw (← c.self.view_is)
    (several_reopens inside.id.index inside.holding c.settle_several.new.holding c.in_ok-opened.opened.bodies c.settle_several.result
    (the_doubt inside.holding.doubt c.is_none.result c.is_none.ensures c.if-is_none.false) c.settle_several.ensures)

pub returns-then-self-clause-own : goal.returns-then-self-clause-own
returns-then-self-clause-own g c =
    let inside = c.self.inside in
    rw (← c.self.view_is)
    (several_own inside.id.index inside.holding c.settle_several.new.holding c.in_ok-opened.opened.bodies c.settle_several.result c.self.invariant.0.doubts c.if-self.true c.settle_several.ensures)

pub returns-then-self-clause-opens : goal.returns-then-self-clause-opens
returns-then-self-clause-opens g c =
    let inside = c.self.inside in
    rw (← c.self.view_is)
    (several_opens g.D.Device inside.journal c.reopen.new.self inside.holding c.settle_several.new.holding inside.id.index c.in_ok-opened.opened.bodies c.settle_several.result
    (the_doubt inside.holding.doubt c.is_none.result c.is_none.ensures c.if-is_none.false)
    (opens_with g.D.Device inside.journal.server inside.id.index inside.journal.device c.reopen.new.self.device c.in_ok-opened.opened c.reopen.new.self.last c.self.invariant.0.owner c.in_ok-opened.ensures.opened)
    c.settle_several.ensures)

pub returns-then-self-clause-stored : goal.returns-then-self-clause-stored
returns-then-self-clause-stored g c = λ modelled.
    let inside = c.self.inside in
    several_stored g.D.Device c.an_honest_device_opens_honestly.ensures.whole inside.journal c.reopen.new.self inside.holding c.settle_several.new.holding inside.id.index c.in_ok-opened.opened.bodies
    c.settle_several.result modelled
    (opens_with g.D.Device inside.journal.server inside.id.index inside.journal.device c.reopen.new.self.device c.in_ok-opened.opened c.reopen.new.self.last c.self.invariant.0.owner c.in_ok-opened.ensures.opened)
    c.settle_several.ensures

pub returns-then-self-clause-safe : goal.returns-then-self-clause-safe
returns-then-self-clause-safe g c = rw (← c.self.view_is) c.reopen.ensures.safe
