-- What befalls servers as they run, befalls those of the machine: a fuse, a reopening, a restart.
use Rattle.std.proofs.Common.{◌≡◌, inl, inr, ◌⊎◌, ℕ, zero, suc, ◌<◌, List, [], ◌∷◌, ◌++◌, Option, None, Some, Result, Ok, Err, IsSome, length, map, get_or, set, ap, sym, ◌∙◌, refl, subst, arith}
use Rattle.std.specs.List.{insert, remove}
use Rattle.std.specs.Option.{option_and_then, option_map}
use Rattle.std.proofs.lemmas.List.{length-map, map-append}
use Rattle.bayou_base.specs.declared.entry.Entry.{Entry}
use Rattle.bayou_base.specs.declared.tag.Tag.{Tag}
use Rattle.bayou_base.specs.declared.wid.Wid.{Wid}
use Rattle.bayou_device.specs.Memory.{Memory}
use Rattle.bayou_lang.specs.declared.write.Write.{Write}
use Rattle.bayou_server.specs.declared.answer.Reopened.{Reopened}
use Rattle.bayou_server.specs.declared.fault.JournalFault.TheVariants.{Device, NotAJournal, OtherServer}
use Rattle.bayou_server.specs.declared.fault.ReopenFault.{ReopenFault}
use Rattle.bayou_server.specs.declared.fault.ReopenFault.TheVariants as reopening
use Rattle.bayou_server.specs.declared.fault.StartFault.{StartFault}
use Rattle.bayou_server.specs.Honest.{AreHonest, IsHonestAnswer}
use Rattle.bayou_server.specs.Reopens as opened
use Rattle.bayou_server.specs.Server.{Core, IsSoundServer, ServerState, in_doubt, record_in_doubt, records, records_of}
use Rattle.bayou_wire.specs.declared.record.Record.{Record}
use Rattle.bayou_world.specs.declared.world_session.WorldSession.{WorldSession}
use Rattle.bayou_world.specs.declared.world_server.WorldServer.{WorldServer}
use Rattle.bayou_world.specs.declared.world_server.WorldServer.TheVariants.{Running}
use Rattle.bayou_world.specs.declared.reply.Reply.TheVariants as replies
use Rattle.bayou_world.specs.Inner.WorldServers.{IsHonestAlone, IsKept, Starts, StaysHonest, core_of, is_stopped}
use Rattle.bayou_world.specs.Inner.Tie.{IsWorldServerOf, IsServerOf, IsTied, write_of}
use Rattle.bayou_world.specs.Machine.{Machine, Made, ServerSets, tag_at, with_server, writes}
use Rattle.bayou_world.specs.Steps.{FuseStep, Recovers, RefusesReopening, ReopenStep, RestartStep, stopped_now, up_again, wid_of, with_write}
use Rattle.bayou_world.proofs.Beside.{kept_tags, kept_writes, one_each}
use Rattle.bayou_world.proofs.Tied.{IsRunningServer, running_server, runs_at, same_place, with_place}
use Rattle.bayou_world.proofs.TiedWrites.{is_server, no_doubt, some_doubt}

-- what is taken out of its place and put back there, changed
pub put_back : (servers : List WorldServer) (place : ℕ) (world_server : WorldServer) → place < length servers → insert (remove servers place) place world_server ≡ set servers place world_server
put_back [] place world_server within = absurd (omega arith)
put_back (first ∷ servers) zero world_server within = refl
put_back (first ∷ servers) (suc place) world_server within = ap (λ (list : List WorldServer). first ∷ list) (put_back servers place world_server (omega arith))

-- the Write in doubt has its past
pub some_made : (doubt : Option Made) (write : Write) → option_map write_of doubt ≡ Some write → (made : Made) × (doubt ≡ Some made) × (made.write ≡ write)
some_made None write is = let both : None ≡ Some write = is in absurd (cc)
some_made (Some made) write is = let both : Some made.write ≡ Some write = is in (made, refl, cc)

-- the servers are what they hold
same_core : (count limit place : ℕ) (core new : Core) (server : ServerSets) → IsServerOf count limit place core server → new ≡ core → IsServerOf count limit place new server
same_core count limit place core new server at same = subst (λ (c : Core). IsServerOf count limit place c server) (sym same) at

-- a server that is up again, with what it holds
up_there : (count limit place : ℕ) (core new : Core) (server after : ServerSets) → IsServerOf count limit place core server → new ≡ record core { held = new.held; tags = new.tags; doubt = None; doubt_tag = None }
    → new.held ≡ writes after.held → new.tags ≡ map (tag_at place) after.held → after.doubt ≡ None → IsServerOf count limit place new after
up_there count limit place core new server after at is held tags none =
    is_server count limit place new after (ap (λ (c : Core). c.id) is ∙ ap (λ (c : Core). c.id) at.is) (ap (λ (c : Core). c.count) is ∙ ap (λ (c : Core). c.count) at.is)
    (ap (λ (c : Core). c.limit) is ∙ ap (λ (c : Core). c.limit) at.is) held tags (ap (λ (c : Core). c.doubt) is ∙ sym (ap (option_map write_of) none))
    (ap (λ (c : Core). c.doubt_tag) is ∙ sym (ap (option_and_then (tag_at place)) none))

pub forgotten_there : (count limit place : ℕ) (core new : Core) (server : ServerSets) → IsServerOf count limit place core server → new ≡ record core { held = new.held; tags = new.tags; doubt = None; doubt_tag = None }
    → new.held ≡ writes server.held → new.tags ≡ map (tag_at place) server.held → IsServerOf count limit place new (up_again server)
forgotten_there count limit place core new server at is held tags = up_there count limit place core new server (up_again server) at is held tags refl

pub adopted_there : (count limit place : ℕ) (core new : Core) (server : ServerSets) (made : Made) → IsServerOf count limit place core server
    → new ≡ record core { held = new.held; tags = new.tags; doubt = None; doubt_tag = None } → new.held ≡ writes server.held ++ made.write ∷ []
    → new.tags ≡ map (tag_at place) server.held ++ tag_at place made ∷ [] → IsServerOf count limit place new (with_write (up_again server) made)
adopted_there count limit place core new server made at is held tags =
    up_there count limit place core new server (with_write (up_again server) made) at is (held ∙ sym (map-append write_of server.held (made ∷ [])))
    (tags ∙ sym (map-append (tag_at place) server.held (made ∷ []))) refl

-- ---- a fuse

pub fuse_tied : (servers : List WorldServer) (world_sessions : List (Option WorldSession)) (offers : List (List ℕ)) (items : List Write) (told : List Entry) (machine : Machine)
    → IsTied servers world_sessions offers items told machine → (place call : ℕ) (old new : WorldServer) → place < length servers → get_or servers place old ≡ old → 0 < call
    → core_of new ≡ core_of old → is_stopped new ≡ is_stopped old → (IsKept old → IsKept new)
    → (next : Machine) × FuseStep machine place call replies.Fused next × IsTied (set servers place new) world_sessions offers items told next
fuse_tied servers world_sessions offers items told machine tied place call old new known stands some same runs keeps =
    let in_count : place < machine.count = omega (arith, known, tied.many) in
    let is = subst (λ (r : WorldServer). IsWorldServerOf machine.count machine.limit place r (machine.servers place)) stands (tied.servers_are place old in_count) in (
      machine,
      FuseStep.fused in_count some refl refl,
      same_place servers world_sessions offers items told machine tied place new in_count (record {
        stopped = is.stopped ∙ sym runs;
        core = same_core machine.count machine.limit place (core_of old) (core_of new) (machine.servers place) is.core same;
        kept = keeps is.kept;
      }),
    )

-- ---- a reopening

-- a server that is up again is so in the machine
record IsUpAgain (machine : Machine) (place : ℕ) (adopted : Option Wid) (new : ServerState Memory) : Type 0 where
  made : Option Made
  server : ServerSets
  down : IsSome (machine.servers place).doubt
  recovers : Recovers (machine.servers place) made server
  name : adopted ≡ option_map wid_of made
  world_server : IsWorldServerOf machine.count machine.limit place (Running new) server

up_again_there : (machine : Machine) (place : ℕ) (old new : ServerState Memory) (adopted : Option Wid) → IsRunningServer machine place old → IsHonestAlone new
    → opened.Recovers old.core adopted new.core → IsUpAgain machine place adopted new
up_again_there machine place old new None here honest (down, is) =
    let server = machine.servers place in record {
      made = None;
      server = up_again server;
      down = some_doubt server.doubt (subst IsSome (ap (λ (c : Core). c.doubt) here.core.is) down);
      recovers = refl;
      name = refl;
      world_server = running_server machine.count machine.limit place new (up_again server) refl
          (forgotten_there machine.count machine.limit place old.core new.core server here.core
          (is ∙ ap (λ (c : Core). record old.core { held = c.held; tags = c.tags; doubt = None; doubt_tag = None }) (sym is)) (ap (λ (c : Core). c.held) is ∙ ap (λ (c : Core). c.held) here.core.is)
          (ap (λ (c : Core). c.tags) is ∙ ap (λ (c : Core). c.tags) here.core.is)) honest;
    }
up_again_there machine place old new (Some wid) here honest (doubt, doubted, name, is) =
    let server = machine.servers place in
    let there = some_made server.doubt doubt (sym (ap (λ (c : Core). c.doubt) here.core.is) ∙ doubted) in
    let held : new.core.held ≡ writes server.held ++ there.0.write ∷ [] =
    ap (λ (c : Core). c.held) is ∙ ap (λ (c : Core). c.held ++ doubt ∷ []) here.core.is ∙ ap (λ w. writes server.held ++ w ∷ []) (sym there.2) in
    let tags : new.core.tags ≡ map (tag_at place) server.held ++ tag_at place there.0 ∷ [] =
    ap (λ (c : Core). c.tags) is ∙ ap (λ (c : Core). c.tags ++ c.doubt_tag ∷ []) here.core.is
    ∙ ap (λ (o : Option Made). map (tag_at place) server.held ++ option_and_then (tag_at place) o ∷ []) there.1 in record {
      made = Some there.0;
      server = with_write (up_again server) there.0;
      down = subst IsSome (sym there.1) refl;
      recovers = (there.1, refl);
      name = ap Some (name ∙ ap (λ (w : Write). w.wid) (sym there.2));
      world_server = running_server machine.count machine.limit place new (with_write (up_again server) there.0) refl
          (adopted_there machine.count machine.limit place old.core new.core server there.0 here.core
          (is ∙ ap (λ (c : Core). record old.core { held = c.held; tags = c.tags; doubt = None; doubt_tag = None }) (sym is)) held tags) honest;
    }

-- why it isn't
pub refused_there : (machine : Machine) (place : ℕ) (old new : Core) (fault : ReopenFault) → IsServerOf machine.count machine.limit place old (machine.servers place) → IsHonestAnswer (Err fault)
    → opened.Reopens old (Err fault) new → RefusesReopening (machine.servers place) fault × (new ≡ old)
refused_there machine place old new reopening.NotDown at honest (up, same) = (no_doubt (machine.servers place).doubt (sym (ap (λ (c : Core). c.doubt) at.is) ∙ up), same)
refused_there machine place old new (reopening.Journal Device) at honest (down, same) = (some_doubt (machine.servers place).doubt (subst IsSome (ap (λ (c : Core). c.doubt) at.is) down), same)
refused_there machine place old new (reopening.Journal NotAJournal) at honest refused = absurd honest
refused_there machine place old new (reopening.Journal OtherServer) at honest refused = absurd honest
refused_there machine place old new reopening.Lost at honest refused = absurd honest
refused_there machine place old new (reopening.BadRecord entry) at honest refused = absurd honest
refused_there machine place old new reopening.OutOfMemory at honest (down, same) = (some_doubt (machine.servers place).doubt (subst IsSome (ap (λ (c : Core). c.doubt) at.is) down), same)

pub reopen_tied : (servers : List WorldServer) (world_sessions : List (Option WorldSession)) (offers : List (List ℕ)) (items : List Write) (told : List Entry) (machine : Machine)
    → IsTied servers world_sessions offers items told machine → (place : ℕ) (old new : ServerState Memory) (answer : Result Reopened ReopenFault) → place < length servers → get_or servers place (Running old) ≡ Running old
    → (IsHonestAlone old → opened.Reopens old.core answer new.core) → (IsHonestAlone old → IsHonestAnswer answer) → StaysHonest old new
    → (next : Machine) × ReopenStep machine place (replies.Reopened answer) next × IsTied (set servers place (Running new)) world_sessions offers items told next
reopen_tied servers world_sessions offers items told machine tied place old new (Ok reopened) known stands reopens answers stays =
    let here = runs_at servers world_sessions offers items told machine tied place old known stands in
    let there = up_again_there machine place old new reopened.adopted here (stays here.honest) (reopens here.honest) in (
      with_server machine place there.server,
      ReopenStep.reopened there.made there.server here.running there.down there.recovers (ap (λ a. replies.Reopened (Ok (record { adopted = a }))) there.name) refl,
      with_place servers world_sessions offers items told machine tied place (Running new) there.server here.running.there there.world_server,
    )
reopen_tied servers world_sessions offers items told machine tied place old new (Err fault) known stands reopens answers stays =
    let here = runs_at servers world_sessions offers items told machine tied place old known stands in
    let refused = refused_there machine place old.core new.core fault here.core (answers here.honest) (reopens here.honest) in (
      machine,
      ReopenStep.refused fault here.running refused.0 refl refl,
      same_place servers world_sessions offers items told machine tied place (Running new) here.running.there
          (running_server machine.count machine.limit place new (machine.servers place) here.running.runs
          (same_core machine.count machine.limit place old.core new.core (machine.servers place) here.core refused.1) (stays here.honest)),
    )

-- ---- a restart

-- what the server keeps of a Write in doubt
abbrev kept_doubt : (place : ℕ) (made : Made) → Record
kept_doubt place made = record { write = made.write; tag = tag_at place made }

in_doubt_there : (place : ℕ) (doubt : Option Made) → in_doubt (option_map write_of doubt) (option_and_then (tag_at place) doubt) ≡ option_map (kept_doubt place) doubt
in_doubt_there place None = refl
in_doubt_there place (Some made) = refl

-- what an honest start holds, with which tags
pub record HoldsStill (place : ℕ) (server : ServerSets) (core : Core) : Type 0 where
  pub held : core.held ≡ writes server.held
  pub tags : core.tags ≡ map (tag_at place) server.held

pub record HoldsMore (place : ℕ) (server : ServerSets) (core : Core) : Type 0 where
  pub made : Made
  pub doubt : server.doubt ≡ Some made
  pub held : core.held ≡ writes server.held ++ made.write ∷ []
  pub tags : core.tags ≡ map (tag_at place) server.held ++ tag_at place made ∷ []

one_of_two : (held : List Record) (doubt : Option Made) (kept : Made → Record) (list : List Record) → AreHonest held (option_map kept doubt) list
    → (list ≡ held) ⊎ ((made : Made) × (doubt ≡ Some made) × (list ≡ held ++ kept made ∷ []))
one_of_two held None kept list is = inl is
one_of_two held (Some made) kept list (inl is) = inl is
one_of_two held (Some made) kept list (inr is) = inr (made, refl, is)

pub holds_honestly : (count limit place : ℕ) (old new : Core) (server : ServerSets) → IsServerOf count limit place old server → IsSoundServer new
    → AreHonest (records_of old) (record_in_doubt old) (records_of new) → HoldsStill place server new ⊎ HoldsMore place server new
holds_honestly count limit place old new server at sound honest =
    let held = writes server.held in
    let tags = map (tag_at place) server.held in
    let was = records held tags in
    let write_in : Record → Write = λ r. r.write in
    let tag_in : Record → Option Tag = λ r. r.tag in
    let same : length tags ≡ length held = length-map server.held (tag_at place) ∙ sym (length-map server.held write_of) in
    let each : length new.tags ≡ length new.held = one_each (λ (w : Write) (t : Option Tag). IsSome t → w.wid.origin.index ≡ new.id) new.held new.tags sound.tagged.own in
    let now : AreHonest was (option_map (kept_doubt place) server.doubt) (records_of new) =
    subst (λ (o : Option Record). AreHonest was o (records_of new)) (in_doubt_there place server.doubt) (subst (λ (c : Core). AreHonest (records_of c) (record_in_doubt c) (records_of new)) at.is honest) in
    elim (one_of_two was server.doubt (kept_doubt place) (records_of new) now) as (λ _. HoldsStill place server new ⊎ HoldsMore place server new) [
      | inl is ↦ inl (record {
        held = sym (kept_writes new.held new.tags each) ∙ ap (map write_in) is ∙ kept_writes held tags same;
        tags = sym (kept_tags new.held new.tags each) ∙ ap (map tag_in) is ∙ kept_tags held tags same;
      })
      | inr more ↦ inr (record {
        made = more.0;
        doubt = more.1;
        held = sym (kept_writes new.held new.tags each) ∙ ap (map write_in) more.2 ∙ map-append write_in was (kept_doubt place more.0 ∷ [])
            ∙ ap (λ (l : List Write). l ++ more.0.write ∷ []) (kept_writes held tags same);
        tags = sym (kept_tags new.held new.tags each) ∙ ap (map tag_in) more.2 ∙ map-append tag_in was (kept_doubt place more.0 ∷ [])
            ∙ ap (λ (l : List (Option Tag)). l ++ tag_at place more.0 ∷ []) (kept_tags held tags same);
      })
    ]

pub restart_tied : (servers : List WorldServer) (world_sessions : List (Option WorldSession)) (offers : List (List ℕ)) (items : List Write) (told : List Entry) (machine : Machine)
    → IsTied servers world_sessions offers items told machine → (place : ℕ) (old new : WorldServer) (answer : Result ℕ StartFault) → place < length servers → get_or servers place old ≡ old
    → (IsKept old → Starts old answer new × IsKept new)
    → (next : Machine) × RestartStep machine place (replies.Restarted answer) next × IsTied (set servers place new) world_sessions offers items told next
restart_tied servers world_sessions offers items told machine tied place old new (Ok holds) known stands starts =
    let server = machine.servers place in
    let in_count : place < machine.count = omega (arith, known, tied.many) in
    let was = subst (λ (r : WorldServer). IsWorldServerOf machine.count machine.limit place r server) stands (tied.servers_are place old in_count) in
    let both = starts was.kept in
    let core_is = both.0.2 in
    elim (holds_honestly machine.count machine.limit place (core_of old) (core_of new) server was.core both.0.3 both.0.4)
    as (λ _. (next : Machine) × RestartStep machine place (replies.Restarted (Ok holds)) next × IsTied (set servers place new) world_sessions offers items told next) [
      | inl still ↦ (
        with_server machine place (up_again server),
        RestartStep.restarted None (up_again server) in_count refl (ap (λ n. replies.Restarted (Ok n)) (both.0.1 ∙ ap length still.held ∙ length-map server.held write_of)) refl,
        with_place servers world_sessions offers items told machine tied place new (up_again server) in_count (record {
          stopped = sym both.0.0;
          core = forgotten_there machine.count machine.limit place (core_of old) (core_of new) server was.core core_is still.held still.tags;
          kept = both.1;
        }),
      )
      | inr more ↦ (
        with_server machine place (with_write (up_again server) more.made),
        RestartStep.restarted (Some more.made) (with_write (up_again server) more.made) in_count (more.doubt, refl)
            (ap (λ n. replies.Restarted (Ok n)) (both.0.1 ∙ ap length (more.held ∙ sym (map-append write_of server.held (more.made ∷ []))) ∙ length-map (server.held ++ more.made ∷ []) write_of)) refl,
        with_place servers world_sessions offers items told machine tied place new (with_write (up_again server) more.made) in_count (record {
          stopped = sym both.0.0;
          core = adopted_there machine.count machine.limit place (core_of old) (core_of new) server more.made was.core core_is more.held more.tags;
          kept = both.1;
        }),
      )
    ]
restart_tied servers world_sessions offers items told machine tied place old new (Err fault) known stands starts =
    let server = machine.servers place in
    let in_count : place < machine.count = omega (arith, known, tied.many) in
    let was = subst (λ (r : WorldServer). IsWorldServerOf machine.count machine.limit place r server) stands (tied.servers_are place old in_count) in
    let both = starts was.kept in (
      with_server machine place (stopped_now server),
      RestartStep.refused fault in_count both.0.1 refl refl,
      with_place servers world_sessions offers items told machine tied place new (stopped_now server) in_count (record {
        stopped = sym both.0.0;
        core = record { is = (same_core machine.count machine.limit place (core_of old) (core_of new) server was.core both.0.2).is };
        kept = both.1;
      }),
    )
