-- What servers do among themselves is in the machine's rows.
use Rattle.std.proofs.Common.{◌≡◌, inl, inr, ℕ, ◌+◌, ◌<◌, ◌≤◌, Contains, List, [], ◌∷◌, ◌++◌, Option, None, Some, IsSome, Result, Ok, Err, length, map, max, ap, sym, ◌∙◌, refl, subst}
use Rattle.std.specs.List.{slice_get}
use Rattle.std.specs.Option.{option_and_then}
use Rattle.std.proofs.lemmas.List.{length-map, map-append}
use Rattle.std.proofs.lemmas.Option.{get_or_from_slice_get, slice_get_within}
use Rattle.bayou_base.specs.declared.limits.TheConstants.{MAX_NUMBER}
use Rattle.bayou_base.specs.declared.server.ServerId.{ServerId}
use Rattle.bayou_base.specs.declared.wid.Wid.{Wid}
use Rattle.bayou_lang.specs.declared.write.Write.{Write}
use Rattle.bayou_lang.specs.Writes.{count_of, lacking_of}
use Rattle.bayou_server.specs.declared.answer.Reopened.{Reopened}
use Rattle.bayou_server.specs.declared.fault.ReopenFault.{ReopenFault}
use Rattle.bayou_server.specs.declared.fault.StartFault.{StartFault}
use Rattle.bayou_server.specs.Honest.{AreHonest, IsHonestAnswer, IsHonestRefusal}
use Rattle.bayou_server.specs.Reopens as opened
use Rattle.bayou_server.specs.Server.{Core, record_in_doubt, records_of}
use Rattle.bayou_server.specs.Starts as starting
use Rattle.bayou_world.specs.declared.event.Event.TheVariants as events
use Rattle.bayou_world.specs.declared.reply.Reply.TheVariants as replies
use Rattle.bayou_world.specs.Inner.Good.{IsGoodMachine}
use Rattle.bayou_world.specs.Inner.Tie.{IsServerOf, write_of}
use Rattle.bayou_world.specs.Machine.{Machine, Made, Offered, ServerSets, tag_at, with_server, writes}
use Rattle.bayou_world.specs.Never.{core_at}
use Rattle.bayou_world.specs.Rows.{IsOnlyServer}
use Rattle.bayou_world.specs.Steps.{CollectStep, IsRunning, ReopenStep, RestartStep, Step, stopped_now, up_again, with_write}
use Rattle.bayou_world.proofs.Lists.{changed-other, changed-same}
use Rattle.bayou_world.proofs.Rows.{core_from}
use Rattle.bayou_world.proofs.TiedItems.{are_lacking, lacks, with_pasts}
use Rattle.bayou_world.proofs.TiedServers.{adopted_there, forgotten_there, holds_honestly, refused_there, some_made}
use Rattle.bayou_world.proofs.TiedWrites.{some_doubt}

-- a server is another now, and nothing else
only_server : (old : Machine) (place : ℕ) (after : ServerSets) (core : Core) → IsServerOf old.count old.limit place core after → IsOnlyServer old place core (with_server old place after)
only_server old place after core is = record {
  count = refl;
  limit = refl;
  capacity = refl;
  servers = λ other differs. changed-other old.servers place after other differs;
  sessions = refl;
  offers = refl;
  items = refl;
  served = refl;
  filed = refl;
  core_is = is.is ∙ ap (core_from old.count old.limit place) (sym (changed-same old.servers place after));
}

same_server : (old : Machine) (place : ℕ) (core : Core) → core ≡ core_at old place → IsOnlyServer old place core old
same_server old place core is = record {
  count = refl;
  limit = refl;
  capacity = refl;
  servers = λ other differs. refl;
  sessions = refl;
  offers = refl;
  items = refl;
  served = refl;
  filed = refl;
  core_is = is;
}

pub reopen_row : (last : Machine) (place : ServerId) → IsRunning last place.index → (answer : Result Reopened ReopenFault) (new : Core) → IsHonestAnswer answer → opened.Reopens (core_at last place.index) answer new
    → (next : Machine) × Step last (events.Reopen place) (replies.Reopened answer) next × IsOnlyServer last place.index new next
reopen_row last place running (Ok reopened) new honest does = by reopened.adopted does
  where
    by : (adopted : Option Wid) → opened.Recovers (core_at last place.index) adopted new
        → (next : Machine) × ReopenStep last place.index (replies.Reopened (Ok (record { adopted = adopted }))) next × IsOnlyServer last place.index new next
    by None (down, is) =
        let server = last.servers place.index in (
          with_server last place.index (up_again server),
          ReopenStep.reopened None (up_again server) running (some_doubt server.doubt down) refl refl refl,
          only_server last place.index (up_again server) new
              (forgotten_there last.count last.limit place.index (core_at last place.index) new server (record { is = refl })
              (is ∙ ap (λ (c : Core). record (core_at last place.index) { held = c.held; tags = c.tags; doubt = None; doubt_tag = None }) (sym is)) (ap (λ (c : Core). c.held) is) (ap (λ (c : Core). c.tags) is)),
        )
    by (Some wid) (doubt, doubted, name, is) =
        let server = last.servers place.index in
        let there = some_made server.doubt doubt doubted in
        let after = with_write (up_again server) there.0 in (
          with_server last place.index after,
          ReopenStep.reopened (Some there.0) after running (subst IsSome (sym there.1) refl) (there.1, refl)
              (ap (λ w. replies.Reopened (Ok (record { adopted = Some w }))) (name ∙ ap (λ (w : Write). w.wid) (sym there.2))) refl,
          only_server last place.index after new
              (adopted_there last.count last.limit place.index (core_at last place.index) new server there.0 (record { is = refl })
              (is ∙ ap (λ (c : Core). record (core_at last place.index) { held = c.held; tags = c.tags; doubt = None; doubt_tag = None }) (sym is))
              (ap (λ (c : Core). c.held) is ∙ ap (λ w. writes server.held ++ w ∷ []) (sym there.2))
              (ap (λ (c : Core). c.tags) is ∙ ap (λ (o : Option Made). map (tag_at place.index) server.held ++ option_and_then (tag_at place.index) o ∷ []) there.1)),
        )
reopen_row last place running (Err fault) new honest does =
    let found = refused_there last place.index (core_at last place.index) new fault (record { is = refl }) honest does in
    (last, ReopenStep.refused fault running found.0 refl refl, same_server last place.index new found.1)

pub start_row : (last : Machine) (place : ServerId) → place.index < last.count → (new : Core) → starting.Starts place.index last.count last.limit new
    → AreHonest (records_of (core_at last place.index)) (record_in_doubt (core_at last place.index)) (records_of new)
    → (next : Machine) × Step last (events.Restart place) (replies.Restarted (Ok (length new.held))) next × IsOnlyServer last place.index new next
start_row last place there new starts honest =
    let server = last.servers place.index in
    let core = core_at last place.index in
    elim (holds_honestly last.count last.limit place.index core new server (record { is = refl }) starts.sound honest)
    as (λ _. (next : Machine) × RestartStep last place.index (replies.Restarted (Ok (length new.held))) next × IsOnlyServer last place.index new next) [
      | inl still ↦ (
        with_server last place.index (up_again server),
        RestartStep.restarted None (up_again server) there refl (ap (λ n. replies.Restarted (Ok n)) (ap length still.held ∙ length-map server.held write_of)) refl,
        only_server last place.index (up_again server) new (forgotten_there last.count last.limit place.index core new server (record { is = refl }) starts.is still.held still.tags),
      )
      | inr more ↦ (
        with_server last place.index (with_write (up_again server) more.made),
        RestartStep.restarted (Some more.made) (with_write (up_again server) more.made) there (more.doubt, refl)
            (ap (λ n. replies.Restarted (Ok n)) (ap length (more.held ∙ sym (map-append write_of server.held (more.made ∷ []))) ∙ length-map (server.held ++ more.made ∷ []) write_of)) refl,
        only_server last place.index (with_write (up_again server) more.made) new
            (adopted_there last.count last.limit place.index core new server more.made (record { is = refl }) starts.is more.held more.tags),
      )
    ]

pub refused_row : (last : Machine) (place : ServerId) → place.index < last.count → (fault : StartFault) → IsHonestRefusal fault
    → (next : Machine) × Step last (events.Restart place) (replies.Restarted (Err fault)) next × IsOnlyServer last place.index (core_at last place.index) next
refused_row last place there fault honest =
    let server = last.servers place.index in (
      with_server last place.index (stopped_now server),
      RestartStep.refused fault there honest refl refl,
      only_server last place.index (stopped_now server) (core_at last place.index) (record { is = refl }),
    )

pub collect_row : (last : Machine) → IsGoodMachine last → (place : ServerId) (offer : ℕ) (offered : Offered) → IsRunning last place.index → slice_get last.offers offer ≡ Some offered
    → (lacking : List Made) × (writes lacking ≡ lacking_of (count_of offered.database) (writes (last.servers place.index).held)) × (length last.items + max (length lacking) 1 ≤ MAX_NUMBER + 1
    → Step last (events.Collect place offer) (replies.Flown (length last.items) (length lacking)) (record last { items = last.items ++ lacking }))
collect_row last good place offer offered running there =
    let held = (last.servers place.index).held in
    let counts = count_of offered.database in
    let among : Contains last.offers offered = (offer, slice_get_within last.offers offer offered there, get_or_from_slice_get last.offers offer offered offered there) in
    let made = with_pasts held (lacking_of counts (writes held)) (λ write has. ((lacks (writes held) counts write).0 has).0) in (
      made.0,
      made.1,
      λ few. CollectStep.flown offered.database made.0
          (record { server = running; by = offered.server; there = there; those = are_lacking last good place.index offered among made.0 made.1 made.2; numbered = few }) refl refl,
    )
