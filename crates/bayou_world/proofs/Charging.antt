-- What calls of servers do to the fuses and to the counts of their devices.
use Rattle.std.proofs.Common.{◌≡◌, ◌≢◌, inl, inr, ℕ, ◌+◌, ◌<◌, ◌≤◌, ◌==◌, Bool, true, false, cond, List, [], ◌∷◌, ◌++◌, Result, Ok, Err, length, length-append, get_or, set, take, ap, sym, ◌∙◌, refl, subst, arith, zero, suc}
use Rattle.std.proofs.lemmas.Bool.{cases_lt}
use Rattle.std.proofs.lemmas.Bool.Decides.{nat_tests}
use Rattle.std.proofs.lemmas.List.{get_or-set_other, get_or-set_same, get_or_default, length-set, take-append-le, take_all, take_more}
use Rattle.bayou_device.specs.Device.{Rose, greatest_count}
use Rattle.bayou_device.specs.Memory.{LeadsTo, Memory, with_fuse}
use Rattle.bayou_device.specs.MemoryDevice.{memory_device}
use Rattle.bayou_server.specs.declared.answer.Reopened.{Reopened}
use Rattle.bayou_server.specs.declared.answer.Took.{Took}
use Rattle.bayou_server.specs.declared.answer.Took.TheVariants.{New, Had}
use Rattle.bayou_server.specs.declared.answer.Written.{Written}
use Rattle.bayou_server.specs.declared.answer.Written.TheVariants as written
use Rattle.bayou_server.specs.declared.fault.JournalFault.TheVariants.{Device, NotAJournal, OtherServer}
use Rattle.bayou_server.specs.declared.fault.ReopenFault.{ReopenFault}
use Rattle.bayou_server.specs.declared.fault.ReopenFault.TheVariants as reopening
use Rattle.bayou_server.specs.declared.fault.StartFault.{StartFault}
use Rattle.bayou_server.specs.declared.fault.StartFault.TheVariants as starting
use Rattle.bayou_server.specs.declared.fault.TakeFault.{TakeFault}
use Rattle.bayou_server.specs.declared.fault.TakeFault.TheVariants as taking
use Rattle.bayou_server.specs.declared.fault.WriteFault.{WriteFault}
use Rattle.bayou_server.specs.declared.fault.WriteFault.TheVariants as writing
use Rattle.bayou_server.specs.Server.{ServerState}
use Rattle.bayou_server.specs.Starts.{FailsToStart}
use Rattle.bayou_server.specs.Stored.{ReopensJournal, StoresTaken, StoresWrite}
use Rattle.bayou_world.specs.declared.event.Event.{Event}
use Rattle.bayou_world.specs.declared.world_server.WorldServer.{WorldServer}
use Rattle.bayou_world.specs.declared.reply.Reply.{Reply}
use Rattle.bayou_world.specs.declared.reply.Reply.TheVariants as replies
use Rattle.bayou_world.specs.Faults.{AreFused, has_doubt, is_of, number_at, tells_fault, tells_fuse}
use Rattle.bayou_world.specs.Inner.Charges.{AreAmple, AreCharged, AreSpent, IsCharged, SetsFuse, Spends, SpendsAt, Waits, one_if}
use Rattle.bayou_world.specs.Inner.WorldServers.{device_of}

-- ---- of one device

pub same_spends : (device : Memory) → Spends false false device device
same_spends device = record { lacks = omega arith; failures = λ less. omega arith; fuses = omega arith }

-- no call failed
pub steady : (most : ℕ) (old new : Memory) → LeadsTo most old new → new.failures ≡ old.failures → Spends false false old new
steady most old new calls same = record {
  lacks = calls.no_less_lacks;
  failures = λ less. omega (arith, same);
  fuses = omega (arith, calls.one_each);
}

-- one did
pub rises : (most : ℕ) (old new : Memory) → LeadsTo most old new → Rose old.failures new.failures → Spends true false old new
rises most old new calls rose = record {
  lacks = calls.no_less_lacks;
  failures = λ less. omega (arith, rose, less);
  fuses = omega (arith, calls.one_each);
}

-- the device is the same
as_it_was : (old new : Memory) → new ≡ old → Spends false false old new
as_it_was old new same = subst (Spends false false old) (sym same) (same_spends old)

pub wrote_spends : (answer : Result Written WriteFault) (old new : ServerState Memory) → LeadsTo 2 old.device new.device → StoresWrite memory_device old answer new
    → Spends (has_doubt answer) false old.device new.device
wrote_spends (Ok (written.New accepted)) old new calls stores = steady 2 old.device new.device calls stores.counts
wrote_spends (Ok (written.Known accepted)) old new calls same = as_it_was old.device new.device same.device
wrote_spends (Err writing.TagUsed) old new calls same = as_it_was old.device new.device same.device
wrote_spends (Err writing.Down) old new calls same = as_it_was old.device new.device same.device
wrote_spends (Err (writing.Behind vector)) old new calls same = as_it_was old.device new.device same.device
wrote_spends (Err writing.LogFull) old new calls same = as_it_was old.device new.device same.device
wrote_spends (Err writing.OutOfMemory) old new calls same = as_it_was old.device new.device same.device
wrote_spends (Err writing.Journal) old new calls fails = rises 2 old.device new.device calls fails.rose

pub took_spends : (answer : Result Took TakeFault) (old new : ServerState Memory) → LeadsTo 2 old.device new.device → StoresTaken memory_device old answer new
    → Spends (tells_fault (replies.Took answer)) false old.device new.device
took_spends (Ok New) old new calls stores = steady 2 old.device new.device calls stores.counts
took_spends (Ok Had) old new calls same = as_it_was old.device new.device same.device
took_spends (Err taking.Conflict) old new calls same = as_it_was old.device new.device same.device
took_spends (Err taking.Down) old new calls same = as_it_was old.device new.device same.device
took_spends (Err taking.OwnLost) old new calls same = as_it_was old.device new.device same.device
took_spends (Err taking.Gap) old new calls same = as_it_was old.device new.device same.device
took_spends (Err taking.BadStamp) old new calls same = as_it_was old.device new.device same.device
took_spends (Err taking.LogFull) old new calls same = as_it_was old.device new.device same.device
took_spends (Err taking.OutOfMemory) old new calls same = as_it_was old.device new.device same.device
took_spends (Err taking.Journal) old new calls fails = rises 2 old.device new.device calls fails.rose

pub reopened_spends : (answer : Result Reopened ReopenFault) (old new : ServerState Memory) → LeadsTo 4 old.device new.device → ReopensJournal memory_device old answer new
    → Spends (tells_fault (replies.Reopened answer)) false old.device new.device
reopened_spends (Ok reopened) old new calls (bodies, stores, opens) = steady 4 old.device new.device calls opens.opened.counts
reopened_spends (Err reopening.NotDown) old new calls same = as_it_was old.device new.device same.device
reopened_spends (Err (reopening.Journal Device)) old new calls (rose, left) = rises 4 old.device new.device calls rose
reopened_spends (Err (reopening.Journal NotAJournal)) old new calls (unchanged, foreign) = steady 4 old.device new.device calls unchanged.counts
reopened_spends (Err (reopening.Journal OtherServer)) old new calls (unchanged, another) = steady 4 old.device new.device calls unchanged.counts
reopened_spends (Err reopening.Lost) old new calls (bodies, opens, lost) = steady 4 old.device new.device calls opens.opened.counts
reopened_spends (Err (reopening.BadRecord at)) old new calls (doubt, is, (bodies, opens, other, fronts)) = steady 4 old.device new.device calls opens.opened.counts
reopened_spends (Err reopening.OutOfMemory) old new calls (inl unchanged) = steady 4 old.device new.device calls unchanged.counts
reopened_spends (Err reopening.OutOfMemory) old new calls (inr (bodies, opens)) = steady 4 old.device new.device calls opens.opened.counts

pub start_spends : (id count limit : ℕ) (old left : Memory) (fault : StartFault) → LeadsTo 4 old left → FailsToStart memory_device id count limit old left fault
    → Spends (tells_fault (replies.Restarted (Err fault))) false old left
start_spends id count limit old left (starting.Journal Device) calls (rose, leaves) = rises 4 old left calls rose
start_spends id count limit old left (starting.Journal NotAJournal) calls (unchanged, foreign) = steady 4 old left calls unchanged.counts
start_spends id count limit old left (starting.Journal OtherServer) calls (unchanged, another) = steady 4 old left calls unchanged.counts
start_spends id count limit old left (starting.BadRecord at) calls stops = steady 4 old left calls stops.opened.opened.counts
start_spends id count limit old left (starting.Gap at) calls stops = steady 4 old left calls stops.opened.opened.counts
start_spends id count limit old left starting.LogFull calls stops = steady 4 old left calls stops.opened.opened.counts
start_spends id count limit old left starting.OutOfMemory calls (inl unchanged) = steady 4 old left calls unchanged.counts
start_spends id count limit old left starting.OutOfMemory calls (inr (bodies, last, opens)) = steady 4 old left calls opens.opened.counts

-- ---- of all servers

pub none_spent : (servers : List WorldServer) (place : ℕ) → AreSpent place false false servers servers
none_spent servers place = record {
  many = refl;
  each = λ other d within. elim (other == place) as (λ t. Spends (cond t false false) (cond t false false) (device_of (get_or servers other d)) (device_of (get_or servers other d))) [
    | true ↦ same_spends (device_of (get_or servers other d))
    | false ↦ same_spends (device_of (get_or servers other d))
  ];
}

pub one_spent : (servers : List WorldServer) (place : ℕ) (fault fused : Bool) (old new : WorldServer) → place < length servers → get_or servers place old ≡ old → Spends fault fused (device_of old) (device_of new)
    → AreSpent place fault fused servers (set servers place new)
one_spent servers place fault fused old new known stands spends = record {
  many = length-set servers place new;
  each = λ other d within. elim (other == place)
      as (λ t. (other == place) ≡ t → Spends (cond t fault false) (cond t fused false) (device_of (get_or servers other d)) (device_of (get_or (set servers place new) other d))) [
        | true ↦ λ is.
            let same : other ≡ place = grind (arith, nat_tests) in
            let here : get_or servers other d ≡ old = ap (λ n. get_or servers n d) same ∙ get_or_default servers place d old known ∙ stands in
            let there : get_or (set servers place new) other d ≡ new = ap (λ n. get_or (set servers place new) n d) same ∙ get_or-set_same servers place new d known in
            subst (λ r. Spends fault fused (device_of r) (device_of (get_or (set servers place new) other d))) (sym here)
            (subst (λ r. Spends fault fused (device_of old) (device_of r)) (sym there) spends)
        | false ↦ λ isnt.
            let differs : other ≢ place = λ same. let is : (other == place) ≡ true = grind (arith, nat_tests) in let both : true ≡ false = sym is ∙ isnt in absurd (cc) in
            let there : get_or (set servers place new) other d ≡ get_or servers other d = get_or-set_other servers place other new d differs in
            subst (λ r. Spends false false (device_of (get_or servers other d)) (device_of r)) (sym there) (same_spends (device_of (get_or servers other d)))
      ] refl;
}

-- a server's fuse, put in its place
pub waits_there : (servers : List WorldServer) (place call kept : ℕ) (reply : Reply) (old new : WorldServer) → place < length servers → get_or servers place old ≡ old
    → device_of new ≡ with_fuse call kept (device_of old) → Waits place call kept reply servers (set servers place new)
waits_there servers place call kept reply old new known stands is set_now d =
    let there : get_or (set servers place new) place d ≡ new = get_or-set_same servers place new d known in
    let here : get_or servers place d ≡ old = get_or_default servers place d old known ∙ stands in
    ap device_of there ∙ is ∙ ap (λ r. with_fuse call kept (device_of r)) (sym here)

-- an event of one server
pub spent_as : (event : Event) (place : ℕ) (reply : Reply) (old new : List WorldServer) → ((other : ℕ) → is_of other event reply ≡ (other == place)) → AreSpent place (tells_fault reply) (tells_fuse reply) old new
    → SetsFuse event reply old new → SpendsAt event reply old new
spent_as event place reply old new is spent sets = record {
  many = spent.many;
  each = λ other d within.
      subst (λ t. Spends (cond t (tells_fault reply) false) (cond t (tells_fuse reply) false) (device_of (get_or old other d)) (device_of (get_or new other d))) (sym (is other)) (spent.each other d within);
  fuse = sets;
}

-- an event that is of no server alone
pub beside_spent : (event : Event) (reply : Reply) (old new : List WorldServer) → ((place : ℕ) → is_of place event reply ≡ false) → new ≡ old → SetsFuse event reply old old
    → SpendsAt event reply old new
beside_spent event reply old new none same sets = subst (SpendsAt event reply old) (sym same) (record {
  many = refl;
  each = λ other d within.
      subst (λ t. Spends (cond t (tells_fault reply) false) (cond t (tells_fuse reply) false) (device_of (get_or old other d)) (device_of (get_or old other d))) (sym (none other))
      (same_spends (device_of (get_or old other d)));
  fuse = sets;
})

-- ---- of a run

-- how often one event and its reply tell so
abbrev tell : (Reply → Bool) → ℕ → Event → Reply → ℕ
tell tells place event reply = cond (is_of place event reply) (cond (tells reply) 1 0) 0

number_more : (tells : Reply → Bool) (place : ℕ) (events : List Event) (told : List Reply) (event : Event) (reply : Reply) → length events ≡ length told
    → number_at tells place (events ++ event ∷ []) (told ++ reply ∷ []) ≡ number_at tells place events told + tell tells place event reply
number_more tells place [] [] event reply same = omega arith
number_more tells place [] (first ∷ told) event reply same = absurd (omega (arith, same))
number_more tells place (one ∷ events) [] event reply same = absurd (omega (arith, same))
number_more tells place (one ∷ events) (first ∷ told) event reply same =
    let rest = number_more tells place events told event reply (omega (arith, same)) in omega (arith, rest)

one_most : (a b : Bool) → cond a (cond b 1 0) 0 ≤ 1
one_most true true = omega arith
one_most true false = omega arith
one_most false b = omega arith

number_most : (tells : Reply → Bool) (place : ℕ) (events : List Event) (told : List Reply) → number_at tells place events told ≤ length told
number_most tells place [] told = omega arith
number_most tells place (one ∷ events) [] = omega arith
number_most tells place (one ∷ events) (first ∷ told) =
    omega (arith, one_most (is_of place one first) (tells first), number_most tells place events told)

as_one : (a b : Bool) → one_if (cond a b false) ≡ cond a (cond b 1 0) 0
as_one true true = refl
as_one true false = refl
as_one false b = refl

pub charged_more : (many : ℕ) (events : List Event) (told : List Reply) (event : Event) (reply : Reply) (old new : List WorldServer) → length told < greatest_count
    → AreCharged many events told old → SpendsAt event reply old new → AreCharged many (events ++ event ∷ []) (told ++ reply ∷ []) new
charged_more many events told event reply old new few charged spent = record {
  as_many = omega (arith, same, length-append events (event ∷ []), length-append told (reply ∷ []));
  length_is = spent.many ∙ charged.length_is;
  now = λ place d within. now_at place d within;
  before = λ place at d within.
      let spends = spent.each place d (omega (arith, within, charged.length_is)) in
      elim (cases_lt (length events) at) as (λ _. number_at tells_fault place (take at (events ++ event ∷ [])) (take at (told ++ reply ∷ []))
      ≤ number_at tells_fuse place (take at (events ++ event ∷ [])) (take at (told ++ reply ∷ [])) + (device_of (get_or new place d)).lacks) [
        | inl past ↦
            let whole : take at (events ++ event ∷ []) ≡ events ++ event ∷ [] = take_all at (events ++ event ∷ []) (omega (arith, past, length-append events (event ∷ []))) in
            let all : take at (told ++ reply ∷ []) ≡ told ++ reply ∷ [] = take_all at (told ++ reply ∷ []) (omega (arith, past, same, length-append told (reply ∷ []))) in
            let here = now_at place d within in
            subst (λ list. number_at tells_fault place list (take at (told ++ reply ∷ [])) ≤ number_at tells_fuse place list (take at (told ++ reply ∷ [])) + (device_of (get_or new place d)).lacks) (sym whole)
            (subst (λ list. number_at tells_fault place (events ++ event ∷ []) list ≤ number_at tells_fuse place (events ++ event ∷ []) list + (device_of (get_or new place d)).lacks) (sym all)
            (omega (arith, here.failures, here.fuses)))
        | inr early ↦
            let front : take at (events ++ event ∷ []) ≡ take at events = take-append-le at events (event ∷ []) (omega (arith, early)) in
            let first : take at (told ++ reply ∷ []) ≡ take at told = take-append-le at told (reply ∷ []) (omega (arith, early, same)) in
            subst (λ list. number_at tells_fault place list (take at (told ++ reply ∷ [])) ≤ number_at tells_fuse place list (take at (told ++ reply ∷ [])) + (device_of (get_or new place d)).lacks) (sym front)
            (subst (λ list. number_at tells_fault place (take at events) list ≤ number_at tells_fuse place (take at events) list + (device_of (get_or new place d)).lacks) (sym first)
            (omega (arith, charged.before place at d within, spends.lacks)))
      ];
}
  where
    same : length events ≡ length told
    same = charged.as_many

    now_at : (place : ℕ) (d : WorldServer) → place < many
        → IsCharged (number_at tells_fault place (events ++ event ∷ []) (told ++ reply ∷ [])) (number_at tells_fuse place (events ++ event ∷ []) (told ++ reply ∷ [])) (device_of (get_or new place d))
    now_at place d within =
        let was = charged.now place d within in
        let spends = spent.each place d (omega (arith, within, charged.length_is)) in
        let fault = as_one (is_of place event reply) (tells_fault reply) in
        let fused = as_one (is_of place event reply) (tells_fuse reply) in
        let faults = number_more tells_fault place events told event reply same in
        let fuses = number_more tells_fuse place events told event reply same in
        let most = number_most tells_fault place events told in
        let rose = spends.failures (omega (arith, was.failures, most, few)) in
        record {
          failures = omega (arith, rose, was.failures, fault, faults);
          fuses = omega (arith, spends.fuses, was.fuses, fused, fuses);
        }

pub charged_step : (many : ℕ) (events : List Event) (at : ℕ) (told : List Reply) (event : Event) (reply : Reply) (old new : List WorldServer) → at < length events → event ≡ get_or events at event
    → length told < greatest_count → AreCharged many (take at events) told old → SpendsAt event reply old new → AreCharged many (take (at + 1) events) (told ++ reply ∷ []) new
charged_step many events at told event reply old new inside is few charged spent =
    let longer : take (at + 1) events ≡ take at events ++ event ∷ [] = take_more events at event inside ∙ ap (λ e. take at events ++ e ∷ []) (sym is) in
    subst (λ list. AreCharged many list (told ++ reply ∷ []) new) (sym longer) (charged_more many (take at events) told event reply old new few charged spent)

pub fused : (many : ℕ) (events : List Event) (told : List Reply) (servers : List WorldServer) → AreCharged many events told servers → AreAmple servers → AreFused many events told
fused many events [] servers charged ample = λ place at within. none_told place at
  where
    none_told : (place at : ℕ) → number_at tells_fault place (take at events) (take at []) ≤ number_at tells_fuse place (take at events) (take at [])
    none_told place zero = omega arith
    none_told place (suc at) = omega (arith, number_most tells_fault place (take (suc at) events) [])
fused many events (reply ∷ told) servers charged ample = λ place at within. at_place servers place at within charged ample
  where
    at_place : (list : List WorldServer) (place at : ℕ) → place < many → AreCharged many events (reply ∷ told) list → AreAmple list
        → number_at tells_fault place (take at events) (take at (reply ∷ told)) ≤ number_at tells_fuse place (take at events) (take at (reply ∷ told))
    at_place [] place at inside is none = absurd (omega (arith, inside, is.length_is))
    at_place (d ∷ list) place at inside is none =
        omega (arith, is.before place at d inside, none place d (omega (arith, inside, is.length_is)))
