-- The answers of servers are the machine's rows.
use Rattle.std.proofs.Common.{◌≡◌, inl, ℕ, ◌+◌, false, Contains, subst, List, None, Some, Result, Ok, Err, map, ap, sym, ◌∙◌, refl, arith}
use Rattle.std.specs.Option.{option_and_then, option_map}
use Rattle.std.proofs.lemmas.List.{length-map}
use Rattle.bayou_base.specs.declared.answer.Seen.{Seen}
use Rattle.bayou_base.specs.declared.entry.Entry.{Entry}
use Rattle.bayou_base.specs.declared.entry.What.{What}
use Rattle.bayou_base.specs.declared.entry.What.TheVariants as whats
use Rattle.bayou_base.specs.declared.server.ServerId.{ServerId}
use Rattle.bayou_base.specs.declared.session.SessionId.{SessionId}
use Rattle.bayou_server.specs.declared.fault.Behind.{Behind}
use Rattle.bayou_server.specs.Reads.{Reads}
use Rattle.bayou_server.specs.Server.{Core}
use Rattle.bayou_server.specs.Writes as accepts
use Rattle.bayou_server.specs.declared.answer.Written.{Written}
use Rattle.bayou_server.specs.declared.answer.Written.TheVariants as written
use Rattle.bayou_server.specs.declared.fault.WriteFault.{WriteFault}
use Rattle.bayou_server.specs.declared.fault.WriteFault.TheVariants as writing
use Rattle.bayou_base.specs.declared.tag.Tag.{Tag}
use Rattle.bayou_lang.specs.declared.program.Program.{Program}
use Rattle.bayou_lang.specs.declared.write.Write.{Write}
use Rattle.bayou_session.specs.Needs.{Told, read_need, write_need}
use Rattle.bayou_world.specs.declared.event.Event.TheVariants as events
use Rattle.bayou_world.specs.declared.reply.Reply.TheVariants as replies
use Rattle.bayou_world.specs.Agreement.{NeedsAgree, StandsFor}
use Rattle.bayou_world.specs.Machine.{Answered, Asking, Machine, Made, ServerSets, SessionSets, changed, tag_at, with_server, writes}
use Rattle.bayou_world.specs.Never.{core_at}
use Rattle.bayou_world.specs.Rows.{IsAnsweredAt, IsOnlyAt, told_of_program, told_of_read}
use Rattle.bayou_world.specs.Steps.{AgainStep, AskStep, HoldsAsked, MayRepeat, IsEntry, IsReady, IsTagOf, Makes, MayBegin, ReadStep, RefusesWrite, Step, WriteStep, first_asking, refusal, with_answer, with_doubt, with_write}
use Rattle.bayou_world.specs.Inner.Tie.{IsServerOf, write_of}
use Rattle.bayou_world.specs.Tags.{AreTagged, MayAskAgain}
use Rattle.bayou_base.specs.Vector.{Dominates}
use Rattle.bayou_world.specs.Inner.Good.{IsGoodMachine}
use Rattle.bayou_world.proofs.Agreeing.{WriteLaw, covers_write}
use Rattle.bayou_world.proofs.Homes.{home_of_held, stands_behind}
use Rattle.bayou_world.proofs.Beside.{own_tag, tag_kept}
use Rattle.bayou_world.proofs.TiedWrites.{doubted_there, held_more, no_doubt, none_under, one_tag, some_doubt, under_tag}
use Rattle.bayou_world.proofs.Lists.{Contains-map, changed-other, changed-same}

-- an answer in flight changes that session alone
only_there : (old : Machine) (who place : ℕ) (session new : SessionSets) → IsOnlyAt old who place (record old { sessions = changed old.sessions who (Some new) })
only_there old who place session new = record {
  count = refl;
  limit = refl;
  capacity = refl;
  servers = λ other differs. refl;
  sessions = λ other differs. changed-other old.sessions who (Some new) other differs;
  offers = refl;
  items = refl;
  served = refl;
  filed = refl;
}

pub read_row : (last : Machine) (who : SessionId) (place : ServerId) (session : SessionSets) (told : Told) → NeedsAgree last session told → MayBegin last who.index place.index session
    → (key : List ℕ) (answer : Result Seen Behind) → Reads (core_at last place.index) (read_need told) key answer
    → (next : Machine) × Step last (events.Read who place key) (replies.Read answer) next
    × IsAnsweredAt last who.index place.index session None (told_of_read key answer) (core_at last place.index) next
read_row last who place session told agree may key (Ok seen) serves =
    let entry : Entry = record { session = who; place = session.begun + 1; asks = session.asks; server = place; what = whats.Read key seen.vector; in_range = omega arith } in
    let answered : Answered = record { entry = entry; database = writes (last.servers place.index).held; made = None } in
    let new = record session { begun = session.begun + 1; asked = None; flight = Some answered } in (
      with_answer last who.index session None answered,
      ReadStep.served session entry seen may ((agree.read place.index).1 serves.covered) serves.value serves.vector refl
          (record { session_is = refl; place_is = refl; asks_are = refl; server_is = refl; what_is = refl }) refl,
      record {
        answered = answered;
        entry = record { session_is = refl; place_is = refl; asks_are = refl; server_is = refl; what_is = refl };
        flies = changed-same last.sessions who.index (Some new);
        only = only_there last who.index place.index session new;
        runs = may.server.runs;
        core_is = refl;
      },
    )
read_row last who place session told agree may key (Err behind) is =
    let entry : Entry = record { session = who; place = session.begun + 1; asks = session.asks; server = place; what = whats.Refused; in_range = omega arith } in
    let new = record session { begun = session.begun + 1; asked = None; flight = Some (refusal entry) } in (
      with_answer last who.index session None (refusal entry),
      ReadStep.behind session entry may (λ covered. is.not_covered ((agree.read place.index).0 covered))
          (ap (λ v. replies.Read (Err (record { vector = v }))) is.held)
          (record { session_is = refl; place_is = refl; asks_are = refl; server_is = refl; what_is = refl }) refl,
      record {
        answered = refusal entry;
        entry = record { session_is = refl; place_is = refl; asks_are = refl; server_is = refl; what_is = refl };
        flies = changed-same last.sessions who.index (Some new);
        only = only_there last who.index place.index session new;
        runs = may.server.runs;
        core_is = refl;
      },
    )

-- ---- a Write

-- an answer in flight, from a server that is another now
only_both : (old : Machine) (who place : ℕ) (session new : SessionSets) (server : ServerSets)
    → IsOnlyAt old who place (record old { servers = changed old.servers place server; sessions = changed old.sessions who (Some new) })
only_both old who place session new server = record {
  count = refl;
  limit = refl;
  capacity = refl;
  servers = λ other differs. changed-other old.servers place server other differs;
  sessions = λ other differs. changed-other old.sessions who (Some new) other differs;
  offers = refl;
  items = refl;
  served = refl;
  filed = refl;
}

-- the server, as its own rules see it
abbrev pub core_from : (count limit place : ℕ) → ServerSets → Core
core_from count limit place server = record {
  id = place;
  count = count;
  limit = limit;
  held = writes server.held;
  tags = map (tag_at place) server.held;
  doubt = option_map write_of server.doubt;
  doubt_tag = option_and_then (tag_at place) server.doubt;
}

module _ (last : Machine) (who : SessionId) (place : ServerId) (session : SessionSets) (told : Told) (agree : NeedsAgree last session told) (asking : Asking) (at : place.index ≡ asking.server)
    (may : MayBegin last who.index asking.server session) (tag : Tag) (of_tag : IsTagOf who.index asking.number tag) where
  abbrev server : ServerSets
  server = last.servers asking.server

  abbrev core : Core
  core = core_at last asking.server

  abbrev entry_of : What → Entry
  entry_of what = record { session = who; place = session.begun + 1; asks = session.asks; server = place; what = what; in_range = omega arith }

  is_entry : (what : What) → IsEntry who.index asking.server session what (entry_of what)
  is_entry what = record { session_is = refl; place_is = refl; asks_are = refl; server_is = at; what_is = refl }

  -- what comes of the answer
  abbrev Goes : Result Written WriteFault → Core → Type 0
  Goes answer new = (next : Machine) × AskStep last who.index session asking answer next × IsAnsweredAt last who.index asking.server session (Some asking) (told_of_program answer) new next

  ready : accepts.IsReady core (write_need told) → IsReady session server
  ready is = record { up = no_doubt server.doubt is.up; covered = (agree.write asking.server).1 is.covered }

  -- it is refused, and nothing else happened
  refused : (fault : WriteFault) (new : Core) → RefusesWrite last.limit session server fault → new ≡ core → Goes (Err fault) new
  refused fault new refuses same =
      let now = record session { begun = session.begun + 1; asked = Some asking; flight = Some (refusal (entry_of whats.Refused)) } in (
        with_answer last who.index session (Some asking) (refusal (entry_of whats.Refused)),
        AskStep.refused (entry_of whats.Refused) fault refuses refl (is_entry whats.Refused) refl,
        record {
          answered = refusal (entry_of whats.Refused);
          entry = is_entry whats.Refused;
          flies = changed-same last.sessions who.index (Some now);
          only = only_there last who.index asking.server session now;
          runs = may.server.runs;
          core_is = same;
        },
      )

  makes_it : (write : Write) → accepts.Makes core (write_need told) asking.program write
      → Makes last.limit who.index session server asking (record { write = write; past = writes server.held; tag = tag })
  makes_it write makes = record {
    ready = ready makes.ready;
    room = omega (arith, makes.room, length-map server.held write_of);
    next = makes.next;
    past = refl;
    tag = of_tag;
  }

  -- the server is another now
  at_server : (after : ServerSets) (new : Core) → IsServerOf last.count last.limit asking.server new after → new ≡ core_from last.count last.limit asking.server (changed last.servers asking.server after asking.server)
  at_server after new is = is.is ∙ ap (core_from last.count last.limit asking.server) (sym (changed-same last.servers asking.server after))

  still_runs : (after : ServerSets) → after.stopped ≡ server.stopped → (changed last.servers asking.server after asking.server).stopped ≡ false
  still_runs after same = ap (λ (s : ServerSets). s.stopped) (changed-same last.servers asking.server after) ∙ same ∙ may.server.runs

  goes : ((write : Write) → accepts.HoldsUnder core tag write → ⊥) → (answer : Result Written WriteFault) (new : Core) → accepts.Writes core tag (write_need told) asking.program answer new → Goes answer new
  goes none (Ok (written.Known accepted)) new (repeats, same) = absurd (none repeats.write repeats.held)
  goes none (Err writing.TagUsed) new (used, same) = absurd (none used.write used.held)
  goes none (Err writing.Down) new (fresh, down, same) = refused writing.Down new (some_doubt server.doubt down) same
  goes none (Err (writing.Behind vector)) new (fresh, up, behind, same) =
      refused (writing.Behind vector) new (no_doubt server.doubt up, (λ covered. behind.not_covered ((agree.write asking.server).0 covered)), behind.held) same
  goes none (Err writing.LogFull) new (fresh, is, full, same) = refused writing.LogFull new (ready is, sym (length-map server.held write_of) ∙ full) same
  goes none (Err writing.OutOfMemory) new (fresh, is, room, same) = refused writing.OutOfMemory new (ready is, omega (arith, room, length-map server.held write_of)) same
  goes none (Err writing.Journal) new (fresh, doubts) =
      let made : Made = record { write = doubts.made; past = writes server.held; tag = tag } in
      let after = with_doubt server made in
      let now = record session { begun = session.begun + 1; asked = Some asking; flight = Some (refusal (entry_of whats.Refused)) } in (
        with_answer (with_server last asking.server after) who.index session (Some asking) (refusal (entry_of whats.Refused)),
        AskStep.doubted (entry_of whats.Refused) made (makes_it doubts.made doubts.makes) refl (is_entry whats.Refused) refl,
        record {
          answered = refusal (entry_of whats.Refused);
          entry = is_entry whats.Refused;
          flies = changed-same last.sessions who.index (Some now);
          only = only_both last who.index asking.server session now after;
          runs = still_runs after refl;
          core_is = at_server after new
              (doubted_there last.count last.limit asking.server core new server made (Some tag) (own_tag asking.server made doubts.makes.next.origin) (record { is = refl }) doubts.is);
        },
      )
  goes none (Ok (written.New accepted)) new (fresh, accepts_it) =
      let made : Made = record { write = accepts_it.made; past = writes server.held; tag = tag } in
      let after = with_write server made in
      let what = whats.Write accepted.wid accepted.stamp accepted.deps in
      let answered : Answered = record { entry = entry_of what; database = writes server.held; made = Some made } in
      let now = record session { begun = session.begun + 1; asked = Some asking; flight = Some answered } in (
        with_answer (with_server last asking.server after) who.index session (Some asking) answered,
        (AskStep.accepted (entry_of what) made accepted (makes_it accepts_it.made accepts_it.makes)
            (record { wid = accepts_it.tells.wid; stamp = accepts_it.tells.stamp; deps = accepts_it.tells.deps ∙ accepts_it.makes.next.deps }) refl (is_entry what) refl),
        record {
          answered = answered;
          entry = is_entry what;
          flies = changed-same last.sessions who.index (Some now);
          only = only_both last who.index asking.server session now after;
          runs = still_runs after refl;
          core_is = at_server after new
              (held_more last.count last.limit asking.server core new server made (Some tag) (own_tag asking.server made accepts_it.makes.next.origin) (record { is = refl }) accepts_it.is);
        },
      )

pub write_row : (last : Machine) → AreTagged last → (who : SessionId) (place : ServerId) (session : SessionSets) (told : Told) → NeedsAgree last session told → MayBegin last who.index place.index session
    → (tag : Tag) → IsTagOf who.index (session.begun + 1) tag → (program : Program) (answer : Result Written WriteFault) (new : Core) → accepts.Writes (core_at last place.index) tag (write_need told) program answer new
    → (next : Machine) × Step last (events.Write who place program) (replies.Wrote answer) next
    × IsAnsweredAt last who.index place.index session (Some (first_asking place.index session program)) (told_of_program answer) new next
write_row last tagged who place session told agree may tag of_tag program answer new does =
    let found = goes last who place session told agree (first_asking place.index session program) refl may tag of_tag
    (λ write under. none_under last tagged who.index place.index session tag may.there of_tag (core_at last place.index) write (record { is = refl }) under) answer new does in
    (found.0, WriteStep.asked session answer may found.1 refl, found.2)

-- ---- a Write that is asked again

-- where no Write is held under the tag, as the server sees it, none is that was asked for
module _ (law : WriteLaw) (last : Machine) (good : IsGoodMachine last) (tagged : AreTagged last) (who : SessionId) (place : ServerId) (session : SessionSets) (told : Told) (agree : NeedsAgree last session told)
    (stands : StandsFor told session) (asking : Asking) (asked : session.asked ≡ Some asking) (at : place.index ≡ asking.server)
    (may : MayBegin last who.index asking.server session) (tag : Tag) (of_tag : IsTagOf who.index asking.number tag) where
  repeat : MayRepeat last who.index session asking
  repeat = record { asked = asked; begin = may }

  abbrev may_again : MayAskAgain last who.index asking
  may_again = record { session = session; there = may.there; asked = asked }

  none_held : accepts.IsFresh (core_at last asking.server) tag → (made : Made) → ¬ HoldsAsked last who.index asking made
  none_held fresh made holds =
      let own = (tagged.again who.index asking may_again made (inl (asking.server, holds.held)) holds.under).server in
      let same : made.tag ≡ tag = one_tag who.index asking.number made.tag tag holds.under of_tag in
      fresh (subst (Contains (map (tag_at asking.server) (last.servers asking.server).held)) (own_tag asking.server made own ∙ ap (λ (t : Tag). Some t) same)
      (Contains-map (tag_at asking.server) (last.servers asking.server).held made holds.held))

  not_under : accepts.IsFresh (core_at last asking.server) tag → (write : Write) → accepts.HoldsUnder (core_at last asking.server) tag write → ⊥
  not_under fresh write under = fresh (tag_kept (writes (last.servers asking.server).held) (map (tag_at asking.server) (last.servers asking.server).held) (record { write = write; tag = Some tag }) under)

  abbrev GoesAgain : Result Written WriteFault → Core → Type 0
  GoesAgain answer new = (next : Machine) × AgainStep last who.index (replies.AskedAgain place answer) next × IsAnsweredAt last who.index asking.server session (Some asking) (told_of_program answer) new next

  anew : (answer : Result Written WriteFault) (new : Core) → accepts.IsFresh (core_at last asking.server) tag
      → accepts.Writes (core_at last asking.server) tag (write_need told) asking.program answer new → GoesAgain answer new
  anew answer new fresh does =
      let found = goes last who place session told agree asking at may tag of_tag (not_under fresh) answer new does in
      (found.0, AgainStep.asked session asking answer repeat (none_held fresh) found.1 (place, at, refl), found.2)

  again : (answer : Result Written WriteFault) (new : Core) → accepts.Writes (core_at last asking.server) tag (write_need told) asking.program answer new → GoesAgain answer new
  again (Ok (written.Known accepted)) new (repeats, same) =
      let found = under_tag last.count last.limit asking.server (core_at last asking.server) (last.servers asking.server) tag repeats.write (record { is = refl }) repeats.held in
      let made = found.0 in
      let home = home_of_held last.count last.limit last.servers good.servers asking.server made found.1 in
      let behind = stands_behind last.count last.limit last.servers good.servers made home in
      let what = whats.Write accepted.wid accepted.stamp accepted.deps in
      let entry : Entry = record { session = who; place = session.begun + 1; asks = session.asks; server = place; what = what; in_range = omega arith } in
      let answered : Answered = record { entry = entry; database = made.past; made = Some made } in
      let now = record session { begun = session.begun + 1; asked = Some asking; flight = Some answered } in
      let is_entry : IsEntry who.index asking.server session what entry = record { session_is = refl; place_is = refl; asks_are = refl; server_is = at; what_is = refl } in (
        with_answer last who.index session (Some asking) answered,
        AgainStep.known session asking entry made accepted repeat (record { held = found.1; under = subst (IsTagOf who.index asking.number) (sym found.2) of_tag })
            (record {
              wid = repeats.tells.wid ∙ ap (λ (w : Write). w.wid) (sym found.3);
              stamp = repeats.tells.stamp ∙ ap (λ (w : Write). w.stamp) (sym found.3);
              deps = repeats.tells.deps ∙ ap (λ (w : Write). w.deps) (sym found.3) ∙ behind.deps;
            }) (place, at, refl) is_entry refl,
        record {
          answered = answered;
          entry = is_entry;
          flies = changed-same last.sessions who.index (Some now);
          only = only_there last who.index asking.server session now;
          runs = may.server.runs;
          core_is = same;
        },
      )
  again (Err writing.TagUsed) new (used, same) =
      let found = under_tag last.count last.limit asking.server (core_at last asking.server) (last.servers asking.server) tag used.write (record { is = refl }) used.held in
      let made = found.0 in
      let is_for = tagged.again who.index asking may_again made (inl (asking.server, found.1)) (subst (IsTagOf who.index asking.number) (sym found.2) of_tag) in
      let home = home_of_held last.count last.limit last.servers good.servers asking.server made found.1 in
      let behind = stands_behind last.count last.limit last.servers good.servers made home in
      let covers = covers_write law last.count made.past behind.fitting told session stands is_for.covered in
      absurd (used.other (record {
        program_is = ap (λ (w : Write). w.program) (sym found.3) ∙ is_for.program;
        covered = subst (λ (v : List ℕ). Dominates v (write_need told)) (sym behind.deps ∙ ap (λ (w : Write). w.deps) found.3) covers;
      }))
  again (Err writing.Down) new does = anew (Err writing.Down) new does.0 does
  again (Err (writing.Behind vector)) new does = anew (Err (writing.Behind vector)) new does.0 does
  again (Err writing.LogFull) new does = anew (Err writing.LogFull) new does.0 does
  again (Err writing.OutOfMemory) new does = anew (Err writing.OutOfMemory) new does.0 does
  again (Err writing.Journal) new does = anew (Err writing.Journal) new does.0 does
  again (Ok (written.New accepted)) new does = anew (Ok (written.New accepted)) new does.0 does

pub again_row : WriteLaw → (last : Machine) → IsGoodMachine last → AreTagged last → (who : SessionId) (place : ServerId) (session : SessionSets) (told : Told) → NeedsAgree last session told → StandsFor told session
    → (asking : Asking) → session.asked ≡ Some asking → place.index ≡ asking.server → MayBegin last who.index asking.server session → (tag : Tag) → IsTagOf who.index asking.number tag
    → (answer : Result Written WriteFault) (new : Core) → accepts.Writes (core_at last asking.server) tag (write_need told) asking.program answer new
    → (next : Machine) × Step last (events.Again who) (replies.AskedAgain place answer) next
    × IsAnsweredAt last who.index asking.server session (Some asking) (told_of_program answer) new next
again_row law last good tagged who place session told agree stands asking asked at may tag of_tag answer new does =
    again law last good tagged who place session told agree stands asking asked at may tag of_tag answer new does
