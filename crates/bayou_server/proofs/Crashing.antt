-- That what a server holds is kept by each call, and what a crash leaves of that.
use Rattle.std.proofs.Common.{◌≡◌, inl, inr, ℕ, List, [], Option, None, Some, Result, Ok, Err, sym, ◌∙◌, ap, subst}
use Rattle.std.specs.Prelude.{IsSome}
use Rattle.bayou_base.specs.declared.tag.Tag.{Tag}
use Rattle.bayou_device.specs.declared.device.Device.{Ghosts}
use Rattle.bayou_journal.specs.Honest as journals
use Rattle.bayou_journal.specs.Honest.{BeginsWithBodies}
use Rattle.bayou_journal.specs.Opening.{KeepsChains}
use Rattle.bayou_journal.specs.Versions.{Body}
use Rattle.bayou_lang.specs.declared.program.Program.{Program}
use Rattle.bayou_lang.specs.declared.write.Write.{Write}
use Rattle.bayou_wire.specs.declared.record.Record.{Record}
use Rattle.bayou_server.specs.declared.answer.Reopened.{Reopened}
use Rattle.bayou_server.specs.declared.answer.Took.{Took}
use Rattle.bayou_server.specs.declared.answer.Took.TheVariants.{New, Had}
use Rattle.bayou_server.specs.declared.answer.Written.{Written}
use Rattle.bayou_server.specs.declared.answer.Written.TheVariants as written_as
use Rattle.bayou_server.specs.declared.fault.ReopenFault.{ReopenFault}
use Rattle.bayou_server.specs.declared.fault.ReopenFault.TheVariants as reopening
use Rattle.bayou_server.specs.declared.fault.TakeFault.{TakeFault}
use Rattle.bayou_server.specs.declared.fault.TakeFault.TheVariants as taking
use Rattle.bayou_server.specs.declared.fault.WriteFault.{WriteFault}
use Rattle.bayou_server.specs.declared.fault.WriteFault.TheVariants as writing
use Rattle.bayou_server.specs.Honest.{HasCrashed, IsHonestServerDevice, IsHonestServer, IsKept, IsKeptServer, IsLeft, KeepsWrites, list_of}
use Rattle.bayou_server.specs.Reopens.{Reopens}
use Rattle.bayou_server.specs.Server.{Core, IsSoundServer, ServerState, record_in_doubt, records_of}
use Rattle.bayou_server.specs.Stored.{HasFailed, IsUntouched, ReopensJournal, StoresTaken, StoresWrite}
use Rattle.bayou_server.specs.Takes.{Takes}
use Rattle.bayou_server.specs.Writes.{Writes}
use Rattle.bayou_server.proofs.Honesty.{AppendAdds, BodyOfRecord, OpensWhole, WholeIsHonest, added, none_in_doubt, recovered, some_in_doubt, whole_opened}

-- what the journal's laws say of a crash, and of what is kept
abbrev pub CrashedHonestly : {D : Type 0} → Ghosts D → Type 0
CrashedHonestly {D} d = (server : ℕ) (bodies : List Body) (doubts : List Body) (old new : D) → journals.KeepsBodies d server bodies old
    → journals.HasCrashed d server bodies doubts old new → journals.IsHonestDevice d server bodies doubts new

abbrev pub KeptAgain : Type 0
KeptAgain = (server : ℕ) (bodies : List Body) (before after : List ℕ) → BeginsWithBodies server bodies before → KeepsChains before after → BeginsWithBodies server bodies after

-- ---- what is kept

kept_of_left : {D : Type 0} (d : Ghosts D) (id : ℕ) (held : List Record) (doubt : Option Record) (last : List ℕ) (device : D) → IsLeft d id held doubt last device → IsKept d id held doubt last device
kept_of_left d id held None last device left = left
kept_of_left d id held (Some doubt) last device left = record { bodies = left.bodies; stores = left.stores; keeps = left.honest.kept }

pub device_keeps : {D : Type 0} (d : Ghosts D) (id : ℕ) (held : List Record) (doubt : Option Record) (device : D) → IsHonestServerDevice d id held doubt device → KeepsWrites d id held device
device_keeps d id held doubt device honest = record { bodies = honest.bodies; stores = honest.stores; keeps = honest.honest.kept }

pub honest_keeps : {D : Type 0} (d : Ghosts D) (server : ServerState D) → IsHonestServer d server → IsKeptServer d server
honest_keeps d server left = kept_of_left d server.core.id (records_of server.core) (record_in_doubt server.core) server.last server.device left

pub writes_of : {D : Type 0} (d : Ghosts D) → WholeIsHonest d → (id : ℕ) (held : List Record) (doubt : Option Record) (last : List ℕ) (device : D) → IsKept d id held doubt last device → KeepsWrites d id held device
writes_of d law id held None last device kept = record { bodies = kept.bodies; stores = kept.stores; keeps = (law id kept.bodies [] last device kept.whole).kept }
writes_of d law id held (Some doubt) last device kept = kept

down_kept : {D : Type 0} (d : Ghosts D) (id : ℕ) (held : List Record) (doubt : Option Record) (last : List ℕ) (device : D) → IsSome doubt → KeepsWrites d id held device → IsKept d id held doubt last device
down_kept d id held None last device down keeps = absurd cc
down_kept d id held (Some doubt) last device down keeps = keeps

pub again : {D : Type 0} (d : Ghosts D) → KeptAgain → (id : ℕ) (held : List Record) (old new : D) → KeepsWrites d id held old → KeepsChains (d.kept old) (d.kept new) → KeepsWrites d id held new
again {D} d law id held old new was keeps = record { bodies = was.bodies; stores = was.stores; keeps = by was.keeps }
  where
    by : journals.KeepsBodies d id was.bodies old → journals.KeepsBodies d id was.bodies new
    by (inl none) = inl none
    by (inr begins) = inr (law id was.bodies (d.kept old) (d.kept new) begins keeps)

-- ---- each call

settles : {D : Type 0} (d : Ghosts D) (new : ServerState D) {id : ℕ} {held : List Record} {doubt : Option Record} → new.core.id ≡ id → records_of new.core ≡ held → record_in_doubt new.core ≡ doubt
    → IsKept d id held doubt new.last new.device → IsKeptServer d new
settles d new {id} {held} {doubt} same_id same_held same_doubt kept =
    subst (λ (n : ℕ). IsKept d n (records_of new.core) (record_in_doubt new.core) new.last new.device) (sym same_id)
    (subst (λ (l : List Record). IsKept d id l (record_in_doubt new.core) new.last new.device) (sym same_held)
    (subst (λ (o : Option Record). IsKept d id held o new.last new.device) (sym same_doubt) kept))

as_it_was : {D : Type 0} (d : Ghosts D) (old new : ServerState D) → new.core ≡ old.core → IsUntouched old new → IsKeptServer d old → IsKeptServer d new
as_it_was {D} d old new same_core same was =
    settles d new (ap (λ (c : Core). c.id) same_core) (ap records_of same_core) (ap record_in_doubt same_core)
    (subst (λ (l : List ℕ). IsKept d old.core.id (records_of old.core) (record_in_doubt old.core) l new.device) (sym same.last)
    (subst (λ (x : D). IsKept d old.core.id (records_of old.core) (record_in_doubt old.core) old.last x) (sym same.device) was))

honest_up : {D : Type 0} (d : Ghosts D) (old : ServerState D) → old.core.doubt ≡ None → IsKeptServer d old → IsHonestServer d old
honest_up d old up was =
    let none = none_in_doubt old.core up in
    subst (λ (o : Option Record). IsLeft d old.core.id (records_of old.core) o old.last old.device) (sym none)
    (subst (λ (o : Option Record). IsKept d old.core.id (records_of old.core) o old.last old.device) none was)

comes_in_doubt : {D : Type 0} (d : Ghosts D) → WholeIsHonest d → KeptAgain → (old new : ServerState D) → new.core.id ≡ old.core.id → records_of new.core ≡ records_of old.core → HasFailed d old new
    → KeepsChains (d.kept old.device) (d.kept new.device) → IsKeptServer d old → IsKeptServer d new
comes_in_doubt d wholes law old new same_id same_held has keeps was =
    settles d new same_id same_held has.doubt
    (again d law old.core.id (records_of old.core) old.device new.device (writes_of d wholes old.core.id (records_of old.core) (record_in_doubt old.core) old.last old.device was) keeps)

pub written : {D : Type 0} (d : Ghosts D) → WholeIsHonest d → AppendAdds d → BodyOfRecord → KeptAgain → (tag : Tag) (need : List ℕ) (program : Program) (result : Result Written WriteFault) (old new : ServerState D) → d.is_modelled → IsSoundServer old.core
    → IsKeptServer d old → Writes old.core tag need program result new.core → StoresWrite d old result new → KeepsChains (d.kept old.device) (d.kept new.device) → IsKeptServer d new
written d wholes adds laws law tag need program (Ok (written_as.New accepted)) old new modelled sound was writes stores keeps =
    honest_keeps d new (added d adds laws old new modelled sound writes.1.makes.ready.up (ap (λ (c : Core). c.id) writes.1.is) (ap (λ (c : Core). c.doubt) writes.1.is ∙ writes.1.makes.ready.up) stores (honest_up d old writes.1.makes.ready.up was))
written d wholes adds laws law tag need program (Ok (written_as.Known accepted)) old new modelled sound was writes stores keeps = as_it_was d old new writes.1 stores was
written d wholes adds laws law tag need program (Err writing.TagUsed) old new modelled sound was writes stores keeps = as_it_was d old new writes.1 stores was
written d wholes adds laws law tag need program (Err writing.Down) old new modelled sound was writes stores keeps = as_it_was d old new writes.2 stores was
written d wholes adds laws law tag need program (Err (writing.Behind vector)) old new modelled sound was writes stores keeps = as_it_was d old new writes.3 stores was
written d wholes adds laws law tag need program (Err writing.LogFull) old new modelled sound was writes stores keeps = as_it_was d old new writes.3 stores was
written d wholes adds laws law tag need program (Err writing.OutOfMemory) old new modelled sound was writes stores keeps = as_it_was d old new writes.3 stores was
written d wholes adds laws law tag need program (Err writing.Journal) old new modelled sound was writes stores keeps = comes_in_doubt d wholes law old new (ap (λ (c : Core). c.id) writes.1.is) (ap records_of writes.1.is) stores keeps was

pub taken : {D : Type 0} (d : Ghosts D) → WholeIsHonest d → AppendAdds d → BodyOfRecord → KeptAgain → (given : Write) (result : Result Took TakeFault) (old new : ServerState D) → d.is_modelled → IsSoundServer old.core
    → IsKeptServer d old → Takes old.core given result new.core → StoresTaken d old result new → KeepsChains (d.kept old.device) (d.kept new.device) → IsKeptServer d new
taken d wholes adds laws law given (Ok New) old new modelled sound was takes stores keeps =
    honest_keeps d new (added d adds laws old new modelled sound takes.0.fit.foreign.up (ap (λ (c : Core). c.id) takes.2) (ap (λ (c : Core). c.doubt) takes.2 ∙ takes.0.fit.foreign.up) stores (honest_up d old takes.0.fit.foreign.up was))
taken d wholes adds laws law given (Ok Had) old new modelled sound was takes stores keeps = as_it_was d old new takes.1 stores was
taken d wholes adds laws law given (Err taking.Conflict) old new modelled sound was takes stores keeps = as_it_was d old new takes.1 stores was
taken d wholes adds laws law given (Err taking.Down) old new modelled sound was takes stores keeps = as_it_was d old new takes.2 stores was
taken d wholes adds laws law given (Err taking.OwnLost) old new modelled sound was takes stores keeps = as_it_was d old new takes.3 stores was
taken d wholes adds laws law given (Err taking.Gap) old new modelled sound was takes stores keeps = as_it_was d old new takes.2 stores was
taken d wholes adds laws law given (Err taking.BadStamp) old new modelled sound was takes stores keeps = as_it_was d old new takes.3 stores was
taken d wholes adds laws law given (Err taking.LogFull) old new modelled sound was takes stores keeps = as_it_was d old new takes.2 stores was
taken d wholes adds laws law given (Err taking.OutOfMemory) old new modelled sound was takes stores keeps = as_it_was d old new takes.1 stores was
taken d wholes adds laws law given (Err taking.Journal) old new modelled sound was takes stores keeps = comes_in_doubt d wholes law old new (ap (λ (c : Core). c.id) takes.2) (ap records_of takes.2) stores keeps was

pub reopened : {D : Type 0} (d : Ghosts D) → WholeIsHonest d → OpensWhole d → KeptAgain → (result : Result Reopened ReopenFault) (old new : ServerState D) → d.is_modelled → IsSoundServer old.core
    → IsKeptServer d old → Reopens old.core result new.core → ReopensJournal d old result new → KeepsChains (d.kept old.device) (d.kept new.device) → IsKeptServer d new
reopened {D} d wholes opened law result old new modelled sound was reopens told keeps = by result reopens told
  where
    down_still : IsSome old.core.doubt → new.core ≡ old.core → IsKeptServer d new
    down_still down same =
        settles d new (ap (λ (c : Core). c.id) same) (ap records_of same) (ap record_in_doubt same)
        (down_kept d old.core.id (records_of old.core) (record_in_doubt old.core) new.last new.device (some_in_doubt old.core down)
        (again d law old.core.id (records_of old.core) old.device new.device (writes_of d wholes old.core.id (records_of old.core) (record_in_doubt old.core) old.last old.device was) keeps))

    by : (result : Result Reopened ReopenFault) → Reopens old.core result new.core → ReopensJournal d old result new → IsKeptServer d new
    by (Ok answer) steps (bodies, stores, opens) =
        honest_keeps d new (recovered d old new answer.adopted steps (whole_opened d opened old.core.id (records_of new.core) old.device new.device bodies new.last modelled stores opens))
    by (Err reopening.NotDown) steps told = as_it_was d old new steps.1 told was
    by (Err (reopening.Journal fault)) steps told = down_still steps.0 steps.1
    by (Err reopening.Lost) steps told = down_still steps.0 steps.1
    by (Err (reopening.BadRecord at)) steps told = down_still steps.0 steps.2
    by (Err reopening.OutOfMemory) steps told = down_still steps.0 steps.1

-- ---- a crash

pub crashed : {D : Type 0} (d : Ghosts D) → CrashedHonestly d → (id : ℕ) (held : List Record) (doubt : Option Record) (before device : D) → KeepsWrites d id held before
    → HasCrashed d id held doubt before device → IsHonestServerDevice d id held doubt device
crashed d law id held doubt before device keeps crash =
    let told = crash keeps.bodies keeps.stores in
    record {
      bodies = keeps.bodies;
      body = told.0;
      stores = keeps.stores;
      stores_doubt = told.1;
      honest = law id keeps.bodies (list_of told.0) before device keeps.keeps told.2;
    }
