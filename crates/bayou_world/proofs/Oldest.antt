-- The oldest entry that waits.
use Rattle.std.proofs.Common.{◌≡◌, ℕ, ◌<◌, List, Option, None, Some, set, ap, sym, ◌∙◌, refl, subst}
use Rattle.bayou_base.specs.declared.entry.Entry.{Entry}
use Rattle.bayou_base.specs.declared.limits.TheConstants.{SESSIONS}
use Rattle.bayou_world.specs.declared.world_session.WorldSession.{WorldSession}
use Rattle.bayou_world.specs.declared.state.State.{State}
use Rattle.bayou_world.specs.Inner.WorldBooks.{TakesOldest}
use Rattle.bayou_world.specs.Inner.WorldSessions.{Pops}
use Rattle.bayou_world.specs.Inner.Tie.{IsOf, IsTied, seat}
use Rattle.bayou_world.specs.Machine.{Machine, with_session}
use Rattle.bayou_world.proofs.TiedFlights.{oldest_none, oldest_some}

-- a state with these lists is tied as the lists are
of_lists : (new : State) (machine : Machine) (servers : _) (world_sessions : List (Option WorldSession)) (offers : _) (items : _) (served : _) → new.servers.items ≡ servers → new.sessions.items ≡ world_sessions → new.offers.items ≡ offers
    → new.items.items ≡ items → new.served.items ≡ served → IsTied servers world_sessions offers items served machine → IsOf new machine
of_lists new machine servers world_sessions offers items served same_servers same_world_sessions same_offers same_items same_served tied =
    subst (λ s. IsTied s new.sessions.items new.offers.items new.items.items new.served.items machine) (sym same_servers)
    (subst (λ x. IsTied servers x new.offers.items new.items.items new.served.items machine) (sym same_world_sessions)
    (subst (λ x. IsTied servers world_sessions x new.items.items new.served.items machine) (sym same_offers)
    (subst (λ x. IsTied servers world_sessions offers x new.served.items machine) (sym same_items)
    (subst (λ x. IsTied servers world_sessions offers items x machine) (sym same_served) tied))))

pub takes_oldest : (old new : State) (who place : ℕ) (world_session popped : WorldSession) (entry : Option Entry) → who < SESSIONS → seat old.sessions.items who ≡ Some world_session → place ≡ who → Pops world_session entry popped
    → new.servers.items ≡ old.servers.items → new.sessions.items ≡ set old.sessions.items place (Some popped) → new.offers.items ≡ old.offers.items → new.items.items ≡ old.items.items → new.served.items ≡ old.served.items
    → TakesOldest old who entry new
takes_oldest old new who place world_session popped None inside at here pops servers world_sessions offers items served = λ machine good tied.
    let there = oldest_none old.servers.items old.sessions.items old.offers.items old.items.items old.served.items machine tied who world_session popped inside at pops.items (pops.none refl) pops.session pops.asked pops.flight in (
      there.0,
      of_lists new machine _ _ _ _ _ servers (world_sessions ∙ ap (λ n. set old.sessions.items n (Some popped)) here) offers items served there.1,
    )
takes_oldest old new who place world_session popped (Some entry) inside at here pops servers world_sessions offers items served = λ machine good tied.
    let there = oldest_some old.servers.items old.sessions.items old.offers.items old.items.items old.served.items machine tied who world_session popped entry inside at pops.items pops.session pops.asked pops.flight in
    let session = there.0 in
    let later = there.1 in (
      session,
      later,
      there.2,
      there.3,
      there.4,
      of_lists new (with_session machine who (record session { waiting = later })) _ _ _ _ _ servers (world_sessions ∙ ap (λ n. set old.sessions.items n (Some popped)) here) offers items served there.5,
    )
