-- What is found where a device crashed as several Writes were being stored together.
use Rattle.std.proofs.Common.{◌≡◌, inl, inr, ℕ, List, [], ◌∷◌, ◌++◌, Option, None, Some, refl, sym, ◌∙◌, ap, subst}
use Rattle.bayou_base.specs.declared.tag.Tag.{Tag}
use Rattle.bayou_device.specs.declared.device.Device.{Ghosts}
use Rattle.bayou_journal.specs.Honest as journals
use Rattle.bayou_journal.specs.Honest.{IsHonest, IsPassing}
use Rattle.bayou_journal.specs.Versions.{Body}
use Rattle.bayou_lang.specs.declared.write.Write.{Write}
use Rattle.bayou_server.specs.declared.fault.StartFault.{StartFault}
use Rattle.bayou_server.specs.declared.fault.StartFault.TheVariants as starting
use Rattle.bayou_server.specs.Faults.{open_fault}
use Rattle.bayou_server.specs.Honest.{AreBetween, HasCrashedAmid, IsHonestAmid, IsHonestRefusal, KeepsWrites, MayTakeAll}
use Rattle.bayou_server.specs.Server.{AreTags, Core, IsSoundServer, MayHold, records, records_of, untagged, with_taken}
use Rattle.bayou_server.specs.Starts.{FailsToStart, StopsAtEntry}
use Rattle.bayou_server.specs.Stored.{IsBodyOf, OpensWith, Stores}
use Rattle.bayou_wire.specs.declared.record.Record.{Record}
use Rattle.bayou_server.proofs.Beside.{one_each, records-push}
use Rattle.bayou_server.proofs.Bodies.{both_more}
use Rattle.bayou_server.proofs.Crashing.{CrashedHonestly}
use Rattle.bayou_server.proofs.Deciding.{OneRecord, none_refused}
use Rattle.bayou_server.proofs.Honesty.{OpensHonestly, Passes, refusal_of}

-- what was found are the bodies of Writes that the server may hold between two of the Takes
pub record Among (core : Core) (taking : List Write) (found : List Body) : Type 0 where
  pub writes : List Write
  pub tags : List (Option Tag)
  pub stores : Stores core.id found (records writes tags)
  pub holds : MayHold core.id core.count core.limit writes
  pub tagged : AreTags core.id writes tags
  pub between : AreBetween core.held taking writes

pub among : (core : Core) (bodies more : List Body) (taking : List Write) (found : List Body) → MayTakeAll core taking → Stores core.id bodies (records_of core) → Stores core.id more (untagged taking)
    → IsHonest bodies more found → Among core taking found
among core bodies [] [] found sound stores others same = record {
  writes = core.held;
  tags = core.tags;
  stores = subst (λ (b : List Body). Stores core.id b (records_of core)) (sym same) stores;
  holds = sound.holds;
  tagged = sound.tagged;
  between = refl;
}
among core bodies [] (write ∷ taking) found sound stores others same = absurd others
among core bodies (body ∷ more) [] found sound stores others same = absurd others
among core bodies (body ∷ more) (write ∷ taking) found sound stores others (inl same) = record {
  writes = core.held;
  tags = core.tags;
  stores = subst (λ (b : List Body). Stores core.id b (records_of core)) (sym same) stores;
  holds = sound.0.holds;
  tagged = sound.0.tagged;
  between = inl refl;
}
among core bodies (body ∷ more) (write ∷ taking) found sound stores others (inr on) =
    let here : Stores core.id (bodies ++ body ∷ []) (records_of (with_taken core write)) =
    subst (Stores core.id (bodies ++ body ∷ [])) (sym (records-push core.held core.tags write None (one_each core.id core.held core.tags sound.0.tagged)))
    (both_more (IsBodyOf core.id) bodies (records_of core) body (record { write = write; tag = None }) stores others.0) in
    let next = among (with_taken core write) (bodies ++ body ∷ []) more taking found sound.1 here others.1 on in
    record {
      writes = next.writes;
      tags = next.tags;
      stores = next.stores;
      holds = next.holds;
      tagged = next.tagged;
      between = inr next.between;
    }

pub among_device : {D : Type 0} (d : Ghosts D) → OpensHonestly d → (core : Core) (taking : List Write) (device left : D) (bodies : List Body) (last : List ℕ) → d.is_modelled → MayTakeAll core taking
    → IsHonestAmid d core.id (records_of core) (untagged taking) device → OpensWith d core.id device left bodies last → Among core taking bodies
among_device d law core taking device left bodies last modelled sound one opens =
    among core one.bodies one.more taking bodies sound one.stores one.stores_more
    (law core.id one.bodies one.more device left (record { bodies = bodies; dropped = opens.dropped }) last modelled one.honest opens.opened)

pub crashed_amid : {D : Type 0} (d : Ghosts D) → CrashedHonestly d → (id : ℕ) (held taking : List Record) (before device : D) → KeepsWrites d id held before → HasCrashedAmid d id held taking before device
    → IsHonestAmid d id held taking device
crashed_amid d law id held taking before device keeps crash =
    let told = crash keeps.bodies keeps.stores in
    record {
      bodies = keeps.bodies;
      more = told.0;
      stores = keeps.stores;
      stores_more = told.1;
      honest = law id keeps.bodies told.0 before device keeps.keeps told.2;
    }

pub refused_amid : {D : Type 0} (d : Ghosts D) → OpensHonestly d → Passes d → OneRecord → (core : Core) (taking : List Write) (device left : D) (fault : StartFault) → d.is_modelled → MayTakeAll core taking
    → IsHonestAmid d core.id (records_of core) (untagged taking) device → FailsToStart d core.id core.count core.limit device left fault → IsHonestRefusal fault
refused_amid {D} d law passes none core taking device left fault modelled sound one told = by fault told
  where
    at_entry : (fault : StartFault) → StopsAtEntry d core.id core.count core.limit device left fault → ⊥
    at_entry fault stops =
        let whole = among_device d law core taking device left stops.bodies stops.last modelled sound one stops.opened in
        none_refused none core.id core.count core.limit whole.writes whole.tags stops.bodies fault whole.holds whole.tagged whole.stores stops.refused

    by : (fault : StartFault) → FailsToStart d core.id core.count core.limit device left fault → IsHonestRefusal fault
    by (starting.Journal fault) told = refusal_of fault (passes core.id one.bodies one.more device left (open_fault fault) modelled one.honest told)
    by (starting.BadRecord at) told = at_entry (starting.BadRecord at) told
    by (starting.Gap at) told = at_entry (starting.Gap at) told
    by starting.LogFull told = at_entry starting.LogFull told
    by starting.OutOfMemory told = tt
