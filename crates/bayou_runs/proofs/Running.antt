-- A script, line by line, from its beginning.
use Rattle.std.proofs.Common.{◌≡◌, inl, ℕ, zero, suc, ◌+◌, ◌<◌, ◌≤◌, Bool, true, false, List, [], ◌∷◌, ◌++◌, Result, Ok, Err, Option, None, Some, length, map, max, ap, sym, ◌∙◌, refl, subst, arith, append_assoc}
use Rattle.std.specs.Global.{Vec}
use Rattle.std.specs.List.{slice_get, slice_index_or}
use Rattle.std.specs.Option.{option_map}
use Rattle.std.proofs.lemmas.List.{append-nil, length-map}
use Rattle.bayou_base.specs.declared.asks.Asks.{Asks}
use Rattle.bayou_base.specs.declared.server.ServerId.{ServerId}
use Rattle.bayou_base.specs.declared.session.SessionId.{SessionId}
use Rattle.bayou_base.specs.declared.tag.Tag.{Tag}
use Rattle.bayou_device.specs.Memory.{Memory, empty_device}
use Rattle.bayou_device.specs.MemoryDevice.{memory_device}
use Rattle.bayou_base.specs.declared.entry.Entry.{Entry}
use Rattle.bayou_judge.specs.declared.breach.Breach.{Breach}
use Rattle.bayou_judge.specs.declared.breach.Guarantee.{Guarantee}
use Rattle.bayou_judge.specs.declared.breach.Guarantee.TheVariants as guarantees
use Rattle.bayou_judge.specs.declared.verdict.BadEvidence.{BadEvidence}
use Rattle.bayou_judge.specs.declared.verdict.Surveyed.{Surveyed as SurveyedSession}
use Rattle.bayou_judge.specs.declared.verdict.Verdict.TheVariants.{Clean}
use Rattle.bayou_judge.specs.Answers.{IsSurveyed, Judges, SurveyAnswer, Surveys}
use Rattle.bayou_judge.specs.Breaches.{Holds, IsBreach}
use Rattle.bayou_judge.specs.Guarantees.{Keeps}
use Rattle.bayou_judge.specs.History.{History, history_of}
use Rattle.bayou_lang.specs.declared.write.Write.{Write}
use Rattle.bayou_server.specs.Server.{Core, Holds as HeldThere, ServerState}
use Rattle.bayou_server.specs.Starts.{Starts, StartsOn}
use Rattle.bayou_session.specs.Needs.{new_session as first_told}
use Rattle.bayou_text.specs.Said.{Said, servers, session, write, read, again, drop, log, fuse, lose, reopen, restart, pull, resend, totals, judge, survey, book, phase, entry, held}
use Rattle.bayou_script.specs.Capacity.{operations}
use Rattle.bayou_script.specs.Script.{Plan, is_open}
use Rattle.bayou_answers.specs.declared.answer.Answer.{Answer}
use Rattle.bayou_answers.specs.declared.answer.Answer.TheVariants.{Judged, Surveyed}
use Rattle.bayou_machine.specs.declared.script_server.ScriptServer.{ScriptServer}
use Rattle.bayou_machine.specs.Run.{IsNewRun, ScriptRun, ScriptState, Turn}
use Rattle.bayou_machine.specs.ScriptServer.{held_by}
use Rattle.bayou_machine.specs.Standing.{StandsAt, dumps_of}
use Rattle.bayou_world.specs.declared.event.Event.{Event}
use Rattle.bayou_world.specs.declared.event.Event.TheVariants as events_of
use Rattle.bayou_world.specs.declared.reply.Reply.{Reply}
use Rattle.bayou_world.specs.declared.reply.Reply.TheVariants as replies_of
use Rattle.bayou_world.specs.Agreement.{StandsFor}
use Rattle.bayou_world.specs.Judged.{AreDumpsOf, AreOneHistory, IsJudgedClean}
use Rattle.bayou_world.specs.Machine.{Machine, SessionSets}
use Rattle.bayou_world.specs.Runs.{Run, history_of_machine, new_session}
use Rattle.bayou_world.specs.Steps.{OfferStep}
use Rattle.bayou_runs.specs.Inner.Tie.{HaveRows, IsAt, IsRunningAt, StayHonest, first_of_script}
use Rattle.bayou_runs.specs.Lines.{has_lost}
use Rattle.bayou_runs.specs.Runs.{AreClean, HasWhatItAsked, IsInRange, IsRunOf, RestartsWhole, TellsClean, asks_in, begun}
use Rattle.bayou_runs.proofs.Lists.{get_within, some_of}
use Rattle.bayou_runs.proofs.Orders.{IsPlaced}
use Rattle.bayou_runs.proofs.Plain.{turn_plain}
use Rattle.bayou_runs.proofs.Safe.{holds_beside, safe_started}
use Rattle.bayou_runs.proofs.Turning.{each_line}

-- ---- what the servers hold

dump_there : (list : List ScriptServer) (place : ℕ) (replica : ScriptServer) → slice_get list place ≡ Some replica → slice_index_or (map held_by list) place [] ≡ held_by replica
dump_there [] place replica got = absurd (cc)
dump_there (first ∷ list) zero replica got = ap held_by (some_of first replica got)
dump_there (first ∷ list) (suc place) replica got = dump_there list place replica got

get_some : (list : List ScriptServer) (place : ℕ) → place < length list → (replica : ScriptServer) × (slice_get list place ≡ Some replica)
get_some [] place within = absurd (omega (arith, within))
get_some (first ∷ list) zero within = (first, refl)
get_some (first ∷ list) (suc place) within = get_some list place (omega (arith, within))

pub dumps_are : (plan : Plan) (front rest : List Said) (state : ScriptState) (machine : Machine) → IsAt plan front rest state machine → AreDumpsOf machine (dumps_of state.standing)
dumps_are plan front rest state machine at = record {
  one_each = length-map state.standing.servers held_by ∙ (at.one_each ∙ sym at.count);
  each = λ place within.
      let found = get_some state.standing.servers place (omega (arith, within, at.one_each, at.count)) in
      dump_there state.standing.servers place found.0 found.1 ∙ ap (λ (h : HeldThere). h.held) (holds_beside (has_lost place front) machine place found.0 (at.each place found.0 found.1));
}

-- between two lines no entry waits to be filed
pub nothing_waits : (plan : Plan) (front rest : List Said) (state : ScriptState) (machine : Machine) → IsAt plan front rest state machine → (who : ℕ) (session : SessionSets) → machine.sessions who ≡ Some session → session.waiting ≡ []
nothing_waits plan front rest state machine at who found there = by_open (is_open who front) refl
  where
    of_new : (asks : Option Asks) → option_map new_session asks ≡ Some found → found.waiting ≡ []
    of_new None none = absurd (cc)
    of_new (Some asks) is = ap (λ (s : SessionSets). s.waiting) (sym (some_of (new_session asks) found is))

    by_open : (opened : Bool) → is_open who front ≡ opened → found.waiting ≡ []
    by_open true is =
        let seated = at.opened (record { index = who; in_range = at.known who is }) is in
        let one : seated.session ≡ found = some_of seated.session found (sym seated.there ∙ there) in
        subst (λ (s : SessionSets). s.waiting ≡ []) one seated.is.filed
    by_open false is = of_new (asks_in plan.commands who) (sym (at.unopened who is) ∙ there)

-- ---- what is judged

-- what the laws say of each moment of a run: the judge has one answer, sessions have what they ask for, and the book stands for what they had
pub record IsJudgedSo (plan : Plan) : Type 0 where
  pub clean : (events : List Event) (replies : List Reply) (last : Machine) → Run (first_of_script plan) events replies last → (dumps : List (List Write)) → AreDumpsOf last dumps → IsJudgedClean plan.count last.filed dumps
  pub keeps : (events : List Event) (replies : List Reply) (last : Machine) → Run (first_of_script plan) events replies last
      → (who : ℕ) (wants : Asks) → asks_in plan.commands who ≡ Some wants → Keeps (history_of_machine last) wants who
  pub one : (events : List Event) (replies : List Reply) (last : Machine) → Run (first_of_script plan) events replies last
      → ((who : ℕ) (session : SessionSets) → last.sessions who ≡ Some session → session.waiting ≡ [])
      → (dumps : List (List Write)) → AreDumpsOf last dumps → AreOneHistory (history_of last.filed dumps) (history_of_machine last)
  pub violates : (entries : List Entry) (dumps : List (List Write)) (breach : Breach) → IsBreach (history_of entries dumps) breach → ¬ Holds (history_of entries dumps) breach.guarantee breach.session.index

-- what is kept in one history is in another that is the same
kept_too : (one other : History) → AreOneHistory one other → (wants : Asks) (who : ℕ) → Keeps other wants who → Keeps one wants who
kept_too one other are wants who keeps = record {
  ryw = λ asked first second server write database before wrote saw. keeps.ryw asked first second server write database before ((are.Wrote who first write).0 wrote) ((are.Read who second server database).0 saw);
  mr = λ asked first second place server earlier later before saw then. keeps.mr asked first second place server earlier later before ((are.Read who first place earlier).0 saw) ((are.Read who second server later).0 then);
  wfr = λ asked first second server database write before saw wrote earlier among place found had.
      keeps.wfr asked first second server database write before ((are.Read who first server database).0 saw) ((are.Wrote who second write).0 wrote) earlier among place found ((are.Had place found).0 had);
  mw = λ asked first second earlier later before wrote then place found had.
      keeps.mw asked first second earlier later before ((are.Wrote who first earlier).0 wrote) ((are.Wrote who second later).0 then) place found ((are.Had place found).0 had);
}

-- where a guarantee holds, no breach of it is the least one
none_told : (history : History) → ((breach : Breach) → IsBreach history breach → ¬ Holds history breach.guarantee breach.session.index) → (guarantee : Guarantee) (who : ℕ) → Holds history guarantee who
    → (told : Option Breach) → Surveys history guarantee who told → told ≡ None
none_told history violates guarantee who holds None is = refl
none_told history violates guarantee who holds (Some breach) is =
    absurd (violates breach is.is (subst (λ g. Holds history g breach.session.index) (sym is.guarantee_is) (subst (Holds history guarantee) (sym is.session_is) holds)))

module _ (plan : Plan) (in_range : IsInRange plan) (have : HaveRows plan) (laws : StayHonest) (stands : (id : SessionId) (run : ℕ) (asks : Asks) → StandsFor (first_told id run asks) (new_session asks)) (judged : IsJudgedSo plan) where
  -- a verdict that is asked for
  verdict_clean : (front rest : List Said) (state new : ScriptState) (machine : Machine) (answer : Answer) → IsAt plan front rest state machine → Turn state judge answer new → answer ≡ Judged (Ok Clean)
  verdict_clean front rest state new machine answer at (same, is) =
      let clean = judged.clean at.events at.replies machine at.run (dumps_of state.standing) (dumps_are plan front rest state machine at) is.result in
      let judges = subst (λ n. Judges n state.book.entries (dumps_of state.standing) is.result) at.count_is is.judges in
      is.answered ∙ ap Judged (clean.0 (subst (λ list. Judges plan.count list (dumps_of state.standing) is.result) at.entries judges))

  -- a survey
  survey_clean : (front rest : List Said) (state new : ScriptState) (machine : Machine) (answer : Answer) → IsAt plan front rest state machine → Turn state survey answer new → TellsClean (asks_in plan.commands) survey answer
  survey_clean front rest state new machine answer at (same, is) =
      by_result is.result is.answered (subst (λ list. SurveyAnswer plan.count list (dumps_of state.standing) is.result) at.entries (subst (λ n. SurveyAnswer n state.book.entries (dumps_of state.standing) is.result) at.count_is is.surveys))
    where
      dumps : List (List Write)
      dumps = dumps_of state.standing

      history : History
      history = history_of machine.filed dumps

      are_dumps : AreDumpsOf machine dumps
      are_dumps = dumps_are plan front rest state machine at

      unbroken : (surveyed : SurveyedSession) → IsSurveyed history surveyed → HasWhatItAsked (asks_in plan.commands) surveyed
      unbroken surveyed is_surveyed wants asks =
          let who = surveyed.session.index in
          let kept = kept_too history (history_of_machine machine) (judged.one at.events at.replies machine at.run (nothing_waits plan front rest state machine at) dumps are_dumps) wants who
          (judged.keeps at.events at.replies machine at.run who wants asks) in
          let told = none_told history (judged.violates machine.filed dumps) in
          record {
            ryw = λ asked. told guarantees.ReadYourWrites who (kept.ryw asked) surveyed.ryw is_surveyed.ryw;
            mr = λ asked. told guarantees.MonotonicReads who (kept.mr asked) surveyed.mr is_surveyed.mr;
            wfr = λ asked. told guarantees.WritesFollowReads who (kept.wfr asked) surveyed.wfr is_surveyed.wfr;
            mw = λ asked. told guarantees.MonotonicWrites who (kept.mw asked) surveyed.mw is_surveyed.mw;
          }

      by_result : (result : Result (Vec SurveyedSession) BadEvidence) → answer ≡ Surveyed result → SurveyAnswer plan.count machine.filed dumps result → TellsClean (asks_in plan.commands) survey answer
      by_result (Ok list) told (evidence, survey_is) = (list, told, λ at_place default within. unbroken _ (survey_is.each at_place default within))
      by_result (Err bad) told refuses = let none : Err bad ≡ Ok Clean = (judged.clean at.events at.replies machine at.run dumps are_dumps (Err bad)).0 refuses in absurd (cc)

  tells_clean : (front : List Said) (said : Said) (rest : List Said) (state new : ScriptState) (machine : Machine) (answer : Answer) → IsAt plan front rest state machine → Turn state said answer new → TellsClean (asks_in plan.commands) said answer
  tells_clean front (servers count limit) rest state new machine answer at turn = turn_plain (servers count limit) state new answer refl turn
  tells_clean front (session who asks) rest state new machine answer at turn = turn_plain (session who asks) state new answer refl turn
  tells_clean front (write who place program) rest state new machine answer at turn = turn_plain (write who place program) state new answer refl turn
  tells_clean front (read who place key) rest state new machine answer at turn = turn_plain (read who place key) state new answer refl turn
  tells_clean front (again who) rest state new machine answer at turn = turn_plain (again who) state new answer refl turn
  tells_clean front (drop who) rest state new machine answer at turn = turn_plain (drop who) state new answer refl turn
  tells_clean front (log place) rest state new machine answer at turn = turn_plain (log place) state new answer refl turn
  tells_clean front (fuse place calls kept) rest state new machine answer at turn = turn_plain (fuse place calls kept) state new answer refl turn
  tells_clean front (lose place bytes) rest state new machine answer at turn = turn_plain (lose place bytes) state new answer refl turn
  tells_clean front (reopen place) rest state new machine answer at turn = turn_plain (reopen place) state new answer refl turn
  tells_clean front (restart place) rest state new machine answer at turn = turn_plain (restart place) state new answer refl turn
  tells_clean front (pull to source cut) rest state new machine answer at turn = turn_plain (pull to source cut) state new answer refl turn
  tells_clean front (resend to source) rest state new machine answer at turn = turn_plain (resend to source) state new answer refl turn
  tells_clean front totals rest state new machine answer at turn = turn_plain totals state new answer refl turn
  tells_clean front judge rest state new machine answer at turn = verdict_clean front rest state new machine answer at turn
  tells_clean front survey rest state new machine answer at turn = survey_clean front rest state new machine answer at turn
  tells_clean front book rest state new machine answer at turn = turn_plain book state new answer refl turn
  tells_clean front phase rest state new machine answer at turn = turn_plain phase state new answer refl turn
  tells_clean front (entry told counts) rest state new machine answer at turn = turn_plain (entry told counts) state new answer refl turn
  tells_clean front (held place item counts) rest state new machine answer at turn = turn_plain (held place item counts) state new answer refl turn

  pub record IsRunTo (front todo rest : List Said) (old : Machine) (answers : List Answer) (state : ScriptState) : Type 0 where
    pub last : Machine
    pub run : IsRunOf front old todo answers last
    pub at : IsAt plan (front ++ todo) rest state last
    pub clean : AreClean (asks_in plan.commands) todo answers

  pub lines_told : (most : Option ℕ) → ((front : List Said) (said : Said) (after : List Said) → plan.commands ≡ front ++ said ∷ after → IsPlaced (servers plan.count most ∷ front) said)
      → (front todo rest : List Said) (state last : ScriptState) (old : Machine) (answers : List Answer) → IsAt plan front (todo ++ rest) state old → RestartsWhole (front ++ todo) → ScriptRun state todo answers last → IsRunTo front todo rest old answers last
  lines_told most order front [] rest state last old [] at whole run = record {
    last = old;
    run = refl;
    at = subst (λ list. IsAt plan list rest last old) (sym (append-nil front)) (subst (λ s. IsAt plan front rest s old) (sym run) at);
    clean = tt;
  }
  lines_told most order front [] rest state last old (answer ∷ answers) at whole run = absurd run
  lines_told most order front (said ∷ todo) rest state last old [] at whole run = absurd run
  lines_told most order front (said ∷ todo) rest state last old (answer ∷ answers) at whole (mid, turn, run) =
      let one = each_line plan in_range have laws stands front said (todo ++ rest) plan.count most state mid old answer at (order front said (todo ++ rest) at.split)
      (λ place is. whole front todo place (ap (λ s. front ++ s ∷ todo) is)) turn in
      let others = lines_told most order (front ++ said ∷ []) todo rest mid last one.last answers one.at (subst RestartsWhole (sym (append_assoc front (said ∷ []) todo)) whole) run in
      record {
        last = others.last;
        run = (one.last, one.turn, others.run);
        at = subst (λ list. IsAt plan list rest last others.last) (append_assoc front (said ∷ []) todo) others.at;
        clean = (tells_clean front said (said ∷ (todo ++ rest)) state mid old answer at turn, others.clean);
      }

-- ---- as a script begins

-- a server that starts on an empty device holds nothing
abbrev pub StartsEmpty : Type 0
StartsEmpty = (id count limit dropped : ℕ) (device : Memory) (server : ServerState Memory) → memory_device.is_modelled → memory_device.content device ≡ [] → Starts id count limit server.core → StartsOn memory_device device server dropped
    → (server.core.held ≡ []) × (server.core.tags ≡ []) × (dropped ≡ 0)

abbrev core_of : (id count limit : ℕ) → List Write → List (Option Tag) → Core
core_of id count limit list tags = record { id = id; count = count; limit = limit; held = list; tags = tags; doubt = None; doubt_tag = None }

pub begins : (plan : Plan) → IsInRange plan → StartsEmpty → StayHonest → (state : ScriptState) → IsNewRun plan state → IsAt plan [] plan.commands state (begun plan)
begins plan in_range empty laws state new = record {
  split = refl;
  events = events_of.Offer first ∷ [];
  replies = replies_of.Kept 0 ∷ [];
  run = (begun plan, OfferStep.kept (record { there = in_range.some; runs = refl }) (omega arith) refl refl, refl);
  count = refl;
  limit = refl;
  count_is = new.standing.count_is;
  limit_is = new.standing.limit_is;
  one_each = new.standing.one_each;
  each = λ place replica stands. inl (starts place replica stands);
  one_seat_each = new.standing.one_seat_each;
  known = λ who is. absurd (cc);
  opened = λ who is. absurd (cc);
  unopened = λ who none. refl;
  entries = new.none_filed;
  room = room_for (operations plan.commands);
  offer = refl;
  offers_few = omega arith;
  items_few = omega arith;
}
  where
    first : ServerId
    first = record { index = 0; in_range = omega (arith, in_range.some, in_range.count) }

    room_for : (number : ℕ) → 0 + number ≤ max number 1
    room_for number = omega arith

    starts : (place : ℕ) (replica : ScriptServer) → StandsAt state.standing place replica → IsRunningAt false (begun plan) place replica
    starts place replica stands =
        let within : place < plan.count = omega (arith, get_within state.standing.servers place replica stands, new.standing.one_each) in
        let started = new.standing.started place within in
        let same : started.0 ≡ replica = some_of started.0 replica (sym started.1 ∙ stands) in
        let begins = started.2 in
        let server = begins.0 in
        let holds = empty place plan.count plan.limit begins.1 empty_device server tt refl begins.3.starts begins.3.opens in
        record {
          server = server;
          is = sym same ∙ begins.2;
          core_is = begins.3.starts.is ∙ (ap (λ list. core_of place plan.count plan.limit list server.core.tags) holds.0 ∙ ap (λ tags. core_of place plan.count plan.limit [] tags) holds.1);
          safe = safe_started laws false plan.count plan.limit place empty_device server begins.1 begins.3;
          runs = refl;
        }
