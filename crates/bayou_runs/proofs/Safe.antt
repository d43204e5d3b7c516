-- A server of a script stays honest over each call, and stands beside the machine's where that is the same.
use Rattle.std.proofs.Common.{◌≡◌, inl, inr, ℕ, Bool, true, false, ◌||◌, List, [], ◌∷◌, ◌++◌, Result, Ok, Err, Option, None, ap, sym, ◌∙◌, refl, subst}
use Rattle.std.proofs.lemmas.List.Folds.{list_any-append}
use Rattle.bayou_base.specs.declared.tag.Tag.{Tag}
use Rattle.bayou_base.specs.declared.wid.Wid.{Wid}
use Rattle.bayou_device.specs.Memory.{Memory, kept_bytes}
use Rattle.bayou_device.specs.MemoryDevice.{memory_device}
use Rattle.bayou_journal.specs.Honest as journals
use Rattle.bayou_journal.specs.Opening.{KeepsChains}
use Rattle.bayou_lang.specs.declared.program.Program.{Program}
use Rattle.bayou_lang.specs.declared.write.Write.{Write}
use Rattle.bayou_server.specs.declared.answer.Reopened.{Reopened}
use Rattle.bayou_server.specs.declared.answer.Took.{Took}
use Rattle.bayou_server.specs.declared.answer.Written.{Written}
use Rattle.bayou_server.specs.declared.fault.ReopenFault.{ReopenFault}
use Rattle.bayou_server.specs.declared.fault.TakeFault.{TakeFault}
use Rattle.bayou_server.specs.declared.fault.WriteFault.{WriteFault}
use Rattle.bayou_server.specs.Honest.{IsHonestServerDevice, list_of}
use Rattle.bayou_server.specs.Reopens.{Recovers, RecoversAll, Reopens, ReopensAll}
use Rattle.bayou_server.specs.Server.{Core, IsSoundServer, holds_of, record_in_doubt, records_of, with_device}
use Rattle.bayou_server.specs.Stored.{ReopensJournal, StoresWrite}
use Rattle.bayou_server.specs.TakesAll.{TakesAt}
use Rattle.bayou_server.specs.Writes.{Writes}
use Rattle.bayou_text.specs.Said.{Said}
use Rattle.bayou_wire.specs.declared.record.Record.{Record}
use Rattle.bayou_machine.specs.declared.script_server.ScriptServer.{ScriptServer}
use Rattle.bayou_machine.specs.declared.script_server.ScriptServer.TheVariants.{Running, Stopped}
use Rattle.bayou_machine.specs.ScriptServer.{IsStarted, Serving, device_of, held_at_last, on_device}
use Rattle.bayou_world.specs.Machine.{Machine, ServerSets}
use Rattle.bayou_world.specs.Never.{core_at}
use Rattle.bayou_runs.specs.Inner.Tie.{HasHonestDevice, IsBeside, IsSafe, StayHonest}
use Rattle.bayou_runs.specs.Lines.{has_lost, loses}
use Rattle.bayou_runs.proofs.Lists.{none_behind}

-- ---- a call

module _ (laws : StayHonest) where
  pub safe_written : (lost : Bool) (old new : Serving) → IsSafe lost old → (tag : Tag) (need : List ℕ) (program : Program) (result : Result Written WriteFault) → Writes old.core tag need program result new.core
      → StoresWrite memory_device old result new → IsSoundServer new.core → KeepsChains (kept_bytes old.device) (kept_bytes new.device) → new.taking ≡ old.taking → IsSafe lost new
  safe_written lost old new safe tag need program result writes stores sound chains others = record {
    sound = sound;
    alone = others ∙ safe.alone;
    honest = λ none. laws.written tag need program result old new safe.sound sound (safe.honest none) writes stores chains;
  }

  pub safe_taken : (lost : Bool) (old new : Serving) → IsSafe lost old → (given : Write) (answer : Result Took TakeFault) → TakesAt memory_device old given answer new → IsSafe lost new
  safe_taken lost old new safe given answer does = record {
    sound = does.sound.1;
    alone = does.others ∙ safe.alone;
    honest = λ none. laws.taken given answer old new safe.sound does.sound.1 (safe.honest none) does.takes does.stores (does.safe tt);
  }

  -- where one Write is in doubt at the most, no more than that is adopted
  only_one : (old : Core) (taking : List Write) (adopted : Option Wid) (new : Core) → taking ≡ [] → RecoversAll old taking adopted new → Recovers old adopted new
  only_one old taking adopted new none (inl one) = one
  only_one old taking adopted new none (inr several) = none_behind several.front several.behind several.last (sym none ∙ several.split)

  pub reopens_one : (old new : Serving) (result : Result Reopened ReopenFault) → old.taking ≡ [] → ReopensAll old.core old.taking result new.core → Reopens old.core result new.core
  reopens_one old new (Ok reopened) none reopens = only_one old.core old.taking reopened.adopted new.core none reopens
  reopens_one old new (Err fault) none reopens = reopens

  pub safe_reopened : (lost : Bool) (old new : Serving) → IsSafe lost old → (result : Result Reopened ReopenFault) → ReopensAll old.core old.taking result new.core → ReopensJournal memory_device old result new
      → IsSoundServer new.core → KeepsChains (kept_bytes old.device) (kept_bytes new.device) → new.taking ≡ [] → IsSafe lost new
  safe_reopened lost old new safe result reopens journal sound chains alone = record {
    sound = sound;
    alone = alone;
    honest = λ none. laws.reopened result old new safe.sound (safe.honest none) (reopens_one old new result safe.alone reopens) journal chains;
  }

  pub safe_started : (lost : Bool) (count limit place : ℕ) (device : Memory) (server : Serving) (dropped : ℕ) → IsStarted count limit place device server dropped → IsSafe lost server
  safe_started lost count limit place device server dropped is = record {
    sound = is.starts.sound;
    alone = is.others;
    honest = λ none. laws.started place count limit dropped device server is.starts is.opens;
  }

  -- its device has the same bytes, and keeps the same
  pub safe_moved : (lost : Bool) (server : Serving) (other : Memory) → other.bytes ≡ server.device.bytes → kept_bytes other ≡ kept_bytes server.device → IsSafe lost server → IsSafe lost (with_device server other)
  safe_moved lost server other bytes kept safe = record {
    sound = safe.sound;
    alone = safe.alone;
    honest = λ none. laws.moved server other bytes kept (safe.honest none);
  }

-- its device lost bytes
pub safe_lost : (lost : Bool) (server : Serving) (other : Memory) → IsSafe lost server → IsSafe true (with_device server other)
safe_lost lost server other safe = record { sound = safe.sound; alone = safe.alone; honest = λ none. absurd (cc) }

-- a device that has the same bytes and keeps the same is as honest
pub honest_moved : (id : ℕ) (list : List Record) (doubt : Option Record) (device other : Memory) → other.bytes ≡ device.bytes → kept_bytes other ≡ kept_bytes device
    → IsHonestServerDevice memory_device id list doubt device → IsHonestServerDevice memory_device id list doubt other
honest_moved id list doubt device other bytes kept is = record {
  bodies = is.bodies;
  body = is.body;
  stores = is.stores;
  stores_doubt = is.stores_doubt;
  honest = record {
    kept = keeps is.honest.kept;
    recoverable = subst (journals.IsRecoverable id is.bodies (list_of is.body)) (sym bytes) is.honest.recoverable;
  };
}
  where
    keeps : journals.KeepsBodies memory_device id is.bodies device → journals.KeepsBodies memory_device id is.bodies other
    keeps (inl none) = inl none
    keeps (inr begins) = inr (subst (journals.BeginsWithBodies id is.bodies) (sym kept) begins)

-- ---- beside the machine's server

abbrev core_with : (place count limit : ℕ) → ServerSets → Core
core_with place count limit server = core_at (record { count = count; limit = limit; capacity = 0; servers = λ _. server; sessions = λ _. None; offers = []; items = []; served = []; filed = [] }) place

-- a server that is the same has the same core
pub same_core : (old new : Machine) (place : ℕ) → new.count ≡ old.count → new.limit ≡ old.limit → new.servers place ≡ old.servers place → core_at new place ≡ core_at old place
same_core old new place count limit server = ap (λ n. core_with place n new.limit (new.servers place)) count
    ∙ ap (λ n. core_with place old.count n (new.servers place)) limit ∙ ap (core_with place old.count old.limit) server

pub runs_beside : (lost : Bool) (machine : Machine) (place : ℕ) (replica : ScriptServer) → IsBeside lost machine place replica → (machine.servers place).stopped ≡ false
runs_beside lost machine place replica (inl is) = is.runs
runs_beside lost machine place replica (inr is) = is.runs

pub holds_beside : (lost : Bool) (machine : Machine) (place : ℕ) (replica : ScriptServer) → IsBeside lost machine place replica → held_at_last replica ≡ holds_of (core_at machine place)
holds_beside lost machine place replica (inl is) = ap held_at_last is.is ∙ ap holds_of is.core_is
holds_beside lost machine place replica (inr is) = ap held_at_last is.is ∙ is.last_is

-- it stands beside each machine whose server has the same core, and runs
pub beside_core : (lost : Bool) (old new : Machine) (place : ℕ) (replica : ScriptServer) → core_at new place ≡ core_at old place → (new.servers place).stopped ≡ false → IsBeside lost old place replica → IsBeside lost new place replica
beside_core lost old new place replica same runs (inl is) = inl (record { server = is.server; is = is.is; core_is = is.core_is ∙ sym same; safe = is.safe; runs = runs })
beside_core lost old new place replica same runs (inr is) = inr (record {
  left = is.left;
  is = is.is;
  last_is = is.last_is ∙ ap holds_of (sym same);
  sound = subst IsSoundServer (sym same) is.sound;
  honest = λ none. subst (λ (c : Core). IsHonestServerDevice memory_device place (records_of c) (record_in_doubt c) is.left.device) (sym same) (is.honest none);
  runs = runs;
})

-- a server that is the same stands as before
pub beside_still : (lost : Bool) (old new : Machine) (place : ℕ) (replica : ScriptServer) → new.count ≡ old.count → new.limit ≡ old.limit → new.servers place ≡ old.servers place → IsBeside lost old place replica → IsBeside lost new place replica
beside_still lost old new place replica count limit server is =
    beside_core lost old new place replica (same_core old new place count limit server) (ap (λ (s : ServerSets). s.stopped) server ∙ runs_beside lost old place replica is) is

-- what is so where bytes may have been lost is so where they weren't
safe_later : (lost now : Bool) (server : Serving) → (now ≡ false → lost ≡ false) → IsSafe lost server → IsSafe now server
safe_later lost now server none is = record { sound = is.sound; alone = is.alone; honest = λ whole. is.honest (none whole) }

pub beside_later : (lost now : Bool) (machine : Machine) (place : ℕ) (replica : ScriptServer) → (now ≡ false → lost ≡ false) → IsBeside lost machine place replica → IsBeside now machine place replica
beside_later lost now machine place replica none (inl is) = inl (record { server = is.server; is = is.is; core_is = is.core_is; safe = safe_later lost now is.server none is.safe; runs = is.runs })
beside_later lost now machine place replica none (inr is) = inr (record { left = is.left; is = is.is; last_is = is.last_is; sound = is.sound; honest = λ whole. is.honest (none whole); runs = is.runs })

-- ---- lost bytes

first_false : (a b : Bool) → (a || b) ≡ false → a ≡ false
first_false true b is = absurd (cc)
first_false false b is = refl

-- where a device lost no bytes by these lines, it lost none by those before the last
pub lost_before : (place : ℕ) (front : List Said) (said : Said) → has_lost place (front ++ said ∷ []) ≡ false → has_lost place front ≡ false
lost_before place front said none = first_false (has_lost place front) (has_lost place (said ∷ [])) (sym (list_any-append (loses place) front (said ∷ [])) ∙ none)

-- the same, behind one line more
pub beside_on : (front : List Said) (said : Said) (machine : Machine) (place : ℕ) (replica : ScriptServer) → IsBeside (has_lost place front) machine place replica → IsBeside (has_lost place (front ++ said ∷ [])) machine place replica
beside_on front said machine place replica is = beside_later (has_lost place front) (has_lost place (front ++ said ∷ [])) machine place replica (lost_before place front said) is

-- ---- what stands beside the machine's server

-- a server that runs is the one that was found
pub running_of : (lost : Bool) (machine : Machine) (place : ℕ) (replica : ScriptServer) → IsBeside lost machine place replica → (server : Serving) → replica ≡ Running server → (server.core ≡ core_at machine place) × IsSafe lost server
running_of lost machine place replica (inl found) server is =
    let both : Running server ≡ Running found.server = sym is ∙ found.is in
    let one : server ≡ found.server = cc in
    (ap (λ (s : Serving). s.core) one ∙ found.core_is, subst (IsSafe lost) (sym one) found.safe)
running_of lost machine place replica (inr found) server is = let both : Running server ≡ Stopped found.left = sym is ∙ found.is in absurd (cc)

pub sound_beside : (lost : Bool) (machine : Machine) (place : ℕ) (replica : ScriptServer) → IsBeside lost machine place replica → IsSoundServer (core_at machine place)
sound_beside lost machine place replica (inl is) = subst IsSoundServer is.core_is is.safe.sound
sound_beside lost machine place replica (inr is) = is.sound

module _ (laws : StayHonest) where
  pub device_beside : (lost : Bool) (machine : Machine) (place : ℕ) (replica : ScriptServer) → IsBeside lost machine place replica → lost ≡ false → HasHonestDevice machine place (device_of replica)
  device_beside lost machine place replica (inl is) none =
      let server = is.server in
      let honest = laws.device server (is.safe.honest none) in
      subst (λ (r : ScriptServer). HasHonestDevice machine place (device_of r)) (sym is.is)
      (subst (λ (c : Core). IsHonestServerDevice memory_device c.id (records_of c) (record_in_doubt c) server.device) is.core_is honest)
  device_beside lost machine place replica (inr is) none = subst (λ (r : ScriptServer). HasHonestDevice machine place (device_of r)) (sym is.is) (is.honest none)

  -- its device is another, which has the same bytes and keeps the same
  pub moved_beside : (lost : Bool) (machine : Machine) (place : ℕ) (replica : ScriptServer) (device : Memory) → device.bytes ≡ (device_of replica).bytes → kept_bytes device ≡ kept_bytes (device_of replica)
      → IsBeside lost machine place replica → IsBeside lost machine place (on_device replica device)
  moved_beside lost machine place replica device bytes kept (inl is) = inl (record {
    server = with_device is.server device;
    is = ap (λ (r : ScriptServer). on_device r device) is.is;
    core_is = is.core_is;
    safe = safe_moved laws lost is.server device (bytes ∙ ap (λ (r : ScriptServer). (device_of r).bytes) is.is) (kept ∙ ap (λ (r : ScriptServer). kept_bytes (device_of r)) is.is) is.safe;
    runs = is.runs;
  })
  moved_beside lost machine place replica device bytes kept (inr is) = inr (record {
    left = record is.left { device = device };
    is = ap (λ (r : ScriptServer). on_device r device) is.is;
    last_is = is.last_is;
    sound = is.sound;
    honest = λ none. honest_moved place (records_of (core_at machine place)) (record_in_doubt (core_at machine place)) is.left.device device
        (bytes ∙ ap (λ (r : ScriptServer). (device_of r).bytes) is.is) (kept ∙ ap (λ (r : ScriptServer). kept_bytes (device_of r)) is.is) (is.honest none);
    runs = is.runs;
  })

-- its device lost bytes
pub lost_beside : (lost : Bool) (machine : Machine) (place : ℕ) (replica : ScriptServer) (device : Memory) → IsBeside lost machine place replica → IsBeside true machine place (on_device replica device)
lost_beside lost machine place replica device (inl is) = inl (record {
  server = with_device is.server device;
  is = ap (λ (r : ScriptServer). on_device r device) is.is;
  core_is = is.core_is;
  safe = safe_lost lost is.server device is.safe;
  runs = is.runs;
})
lost_beside lost machine place replica device (inr is) = inr (record {
  left = record is.left { device = device };
  is = ap (λ (r : ScriptServer). on_device r device) is.is;
  last_is = is.last_is;
  sound = is.sound;
  honest = λ none. absurd (cc);
  runs = is.runs;
})
