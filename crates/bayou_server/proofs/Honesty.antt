-- That a server over an honest device stays over one, and is recovered honestly.
use Rattle.std.proofs.Common.{◌≡◌, inl, inr, ℕ, List, [], ◌∷◌, ◌++◌, Option, None, Some, Result, Ok, Err, length, refl, sym, ◌∙◌, ap, subst, arith, length-append}
use Rattle.std.specs.Prelude.{IsSome}
use Rattle.std.proofs.lemmas.List.{append-nil}
use Rattle.bayou_base.specs.declared.tag.Tag.{Tag}
use Rattle.bayou_base.specs.declared.wid.Wid.{Wid}
use Rattle.bayou_device.specs.declared.device.Device.{Ghosts}
use Rattle.bayou_journal.specs.Chain.{IsBody, entry, link}
use Rattle.bayou_journal.specs.Honest as journals
use Rattle.bayou_journal.specs.Honest.{IsHonest, IsPassing, added_body}
use Rattle.bayou_journal.specs.Opened.{Found}
use Rattle.bayou_journal.specs.Opening.{FailsToAdd, HasOpened, HasRefused, KeepsChains}
use Rattle.bayou_journal.specs.declared.fault.OpenFault.{OpenFault}
use Rattle.bayou_journal.specs.declared.fault.OpenFault.TheVariants as opening
use Rattle.bayou_journal.specs.Versions.{Body}
use Rattle.bayou_lang.specs.declared.program.Program.{Program}
use Rattle.bayou_lang.specs.declared.write.Write.{Write}
use Rattle.bayou_server.specs.declared.answer.Reopened.{Reopened}
use Rattle.bayou_server.specs.declared.answer.Took.{Took}
use Rattle.bayou_server.specs.declared.answer.Took.TheVariants.{New, Had}
use Rattle.bayou_server.specs.declared.answer.Written.{Written}
use Rattle.bayou_server.specs.declared.answer.Written.TheVariants as written_as
use Rattle.bayou_server.specs.declared.fault.JournalFault.{JournalFault}
use Rattle.bayou_server.specs.declared.fault.JournalFault.TheVariants.{Device, NotAJournal, OtherServer}
use Rattle.bayou_server.specs.declared.fault.ReopenFault.{ReopenFault}
use Rattle.bayou_server.specs.declared.fault.ReopenFault.TheVariants as reopening
use Rattle.bayou_server.specs.declared.fault.StartFault.{StartFault}
use Rattle.bayou_server.specs.declared.fault.StartFault.TheVariants as starting
use Rattle.bayou_server.specs.declared.fault.TakeFault.{TakeFault}
use Rattle.bayou_server.specs.declared.fault.TakeFault.TheVariants as taking
use Rattle.bayou_server.specs.declared.fault.WriteFault.{WriteFault}
use Rattle.bayou_server.specs.declared.fault.WriteFault.TheVariants as writing
use Rattle.bayou_server.specs.Faults.{open_fault}
use Rattle.bayou_server.specs.Honest.{AreHonest, IsHonestAnswer, IsHonestServerDevice, IsHonestRefusal, IsHonestServer, IsLeft, IsWholeDevice, StoresDoubt, list_of}
use Rattle.bayou_server.specs.Reopens.{Recovers, Reopens}
use Rattle.bayou_server.specs.Server.{AreTags, Core, IsSoundServer, MayHold, ServerState, in_doubt, record_in_doubt, records, records_of}
use Rattle.bayou_server.specs.Starts.{FailsToStart, StopsAtEntry}
use Rattle.bayou_server.specs.Stored.{BeginsWithHeld, HasAdded, HasFailed, HasOther, IsUntouched, OpensWith, ReopensJournal, IsBodyOf, Stores, StoresTaken, StoresWrite}
use Rattle.bayou_server.specs.Takes.{Takes}
use Rattle.bayou_server.specs.Writes.{Writes}
use Rattle.bayou_wire.specs.declared.record.Record.{Record}
use Rattle.bayou_server.proofs.Bodies.{both_more}
use Rattle.bayou_server.proofs.Deciding.{OneRecord, none_refused}
use Rattle.bayou_server.proofs.Beside.{one_each, one_of_each, records-push}
use Rattle.bayou_server.proofs.Steps.{sound_adopted}

-- ---- what the journal's laws say

abbrev pub WholeIsHonest : {D : Type 0} → Ghosts D → Type 0
WholeIsHonest {D} d = (server : ℕ) (bodies : List Body) (doubts : List Body) (last : List ℕ) (device : D) → journals.IsWhole d server bodies last device → journals.IsHonestDevice d server bodies doubts device

abbrev pub AppendAdds : {D : Type 0} → Ghosts D → Type 0
AppendAdds {D} d = (server : ℕ) (bodies : List Body) (last body : List ℕ) (old new : D) → journals.IsWhole d server bodies last old → IsBody body
    → d.content new ≡ d.content old ++ entry last body → d.kept new ≡ d.content new → journals.IsWhole d server (bodies ++ added_body body ∷ []) (link last body) new

abbrev pub AppendFails : {D : Type 0} → Ghosts D → Type 0
AppendFails {D} d = (server : ℕ) (bodies : List Body) (last body : List ℕ) (old new : D) → journals.OnlyTears d → IsBody body → journals.IsWhole d server bodies last old
    → FailsToAdd d.may_leave (entry last body) (d.content old) (d.content new) → KeepsChains (d.kept old) (d.kept new) → journals.IsHonestDevice d server bodies (added_body body ∷ []) new

abbrev pub OpensWhole : {D : Type 0} → Ghosts D → Type 0
OpensWhole {D} d = (server : ℕ) (old new : D) (found : Found) (last : List ℕ) → d.is_modelled → HasOpened d server old new found last → journals.IsWhole d server found.bodies last new

abbrev pub OpensHonestly : {D : Type 0} → Ghosts D → Type 0
OpensHonestly {D} d = (server : ℕ) (bodies : List Body) (doubts : List Body) (old new : D) (found : Found) (last : List ℕ) → d.is_modelled
    → journals.IsHonestDevice d server bodies doubts old → HasOpened d server old new found last → IsHonest bodies doubts found.bodies

abbrev pub HonestAgain : {D : Type 0} → Ghosts D → Type 0
HonestAgain {D} d = (server : ℕ) (bodies : List Body) (doubts : List Body) (old new : D) (found : Found) (last : List ℕ) → d.is_modelled
    → journals.IsHonestDevice d server bodies doubts old → HasOpened d server old new found last → KeepsChains (d.kept old) (d.kept new) → journals.IsHonestDevice d server bodies doubts new

abbrev pub Passes : {D : Type 0} → Ghosts D → Type 0
Passes {D} d = (server : ℕ) (bodies : List Body) (doubts : List Body) (old new : D) (fault : OpenFault) → d.is_modelled
    → journals.IsHonestDevice d server bodies doubts old → HasRefused d server old new fault → IsPassing fault

abbrev pub RefusedHonestly : {D : Type 0} → Ghosts D → Type 0
RefusedHonestly {D} d = (server : ℕ) (bodies : List Body) (doubts : List Body) (old new : D) (fault : OpenFault) → journals.OnlyTears d
    → journals.IsHonestDevice d server bodies doubts old → HasRefused d server old new fault → KeepsChains (d.kept old) (d.kept new) → journals.IsHonestDevice d server bodies doubts new

-- and what a server's law says of what stands for a record
abbrev pub BodyOfRecord : Type 0
BodyOfRecord = (id : ℕ) (body : Body) (stored : Record) → IsBodyOf id body stored → IsBody body.bytes

-- ---- servers that are up and down

pub honest_of : {D : Type 0} (d : Ghosts D) → WholeIsHonest d → (id : ℕ) (held : List Record) (doubt : Option Record) (last : List ℕ) (device : D) → IsLeft d id held doubt last device → IsHonestServerDevice d id held doubt device
honest_of d law id held None last device left = record {
  bodies = left.bodies;
  body = None;
  stores = left.stores;
  stores_doubt = tt;
  honest = law id left.bodies [] last device left.whole;
}
honest_of d law id held (Some doubt) last device left = left

left_of : {D : Type 0} (d : Ghosts D) (id : ℕ) (held : List Record) (doubt : Option Record) (last : List ℕ) (device : D) → IsSome doubt → IsHonestServerDevice d id held doubt device → IsLeft d id held doubt last device
left_of d id held None last device down honest = absurd cc
left_of d id held (Some doubt) last device down honest = honest

-- what is left is a server's that holds so much
pub settles : {D : Type 0} (d : Ghosts D) (new : ServerState D) {id : ℕ} {held : List Record} {doubt : Option Record} → new.core.id ≡ id → records_of new.core ≡ held → record_in_doubt new.core ≡ doubt
    → IsLeft d id held doubt new.last new.device → IsHonestServer d new
settles d new {id} {held} {doubt} same_id same_held same_doubt left =
    subst (λ (n : ℕ). IsLeft d n (records_of new.core) (record_in_doubt new.core) new.last new.device) (sym same_id)
    (subst (λ (l : List Record). IsLeft d id l (record_in_doubt new.core) new.last new.device) (sym same_held)
    (subst (λ (o : Option Record). IsLeft d id held o new.last new.device) (sym same_doubt) left))

as_it_was : {D : Type 0} (d : Ghosts D) (old new : ServerState D) → new.core ≡ old.core → IsUntouched old new → IsHonestServer d old → IsHonestServer d new
as_it_was {D} d old new same_core same was =
    settles d new (ap (λ (c : Core). c.id) same_core) (ap records_of same_core) (ap record_in_doubt same_core)
    (subst (λ (l : List ℕ). IsLeft d old.core.id (records_of old.core) (record_in_doubt old.core) l new.device) (sym same.last)
    (subst (λ (x : D). IsLeft d old.core.id (records_of old.core) (record_in_doubt old.core) old.last x) (sym same.device) was))

-- nothing is in doubt
pub none_in_doubt : (core : Core) → core.doubt ≡ None → record_in_doubt core ≡ None
none_in_doubt core up = ap (λ (o : Option Write). in_doubt o core.doubt_tag) up

-- something is
pub some_in_doubt : (core : Core) → IsSome core.doubt → IsSome (record_in_doubt core)
some_in_doubt core down = by core.doubt down
  where
    by : (doubt : Option Write) → IsSome doubt → IsSome (in_doubt doubt core.doubt_tag)
    by None some = absurd cc
    by (Some write) some = refl

whole_of : {D : Type 0} (d : Ghosts D) (old : ServerState D) → old.core.doubt ≡ None → IsHonestServer d old → IsWholeDevice d old.core.id (records_of old.core) old.last old.device
whole_of d old up was = subst (λ (o : Option Record). IsLeft d old.core.id (records_of old.core) o old.last old.device) (none_in_doubt old.core up) was

-- ---- one Write more, or one in doubt

pub added : {D : Type 0} (d : Ghosts D) → AppendAdds d → BodyOfRecord → (old new : ServerState D) → d.is_modelled → IsSoundServer old.core → old.core.doubt ≡ None
    → new.core.id ≡ old.core.id → new.core.doubt ≡ None → HasAdded d old new → IsHonestServer d old → IsHonestServer d new
added {D} d law laws old new modelled sound up same_id still has was =
    settles d new same_id held_is (none_in_doubt new.core still) left
  where
    whole : IsWholeDevice d old.core.id (records_of old.core) old.last old.device
    whole = whole_of d old up was

    body : List ℕ
    body = has.entry_of.body

    held_is : records_of new.core ≡ records_of old.core ++ has.stored ∷ []
    held_is = ap (λ (w : List Write). records w new.core.tags) has.held ∙ ap (λ (t : List (Option Tag)). records (old.core.held ++ has.stored.write ∷ []) t) has.tags
        ∙ records-push old.core.held old.core.tags has.stored.write has.stored.tag (one_each old.core.id old.core.held old.core.tags sound.tagged)

    now : journals.IsWhole d old.core.id (whole.bodies ++ added_body body ∷ []) (link old.last body) new.device
    now = law old.core.id whole.bodies old.last body old.device new.device whole.whole (laws old.core.id (added_body body) has.stored has.entry_of.stands)
        (has.behind modelled ∙ ap (λ (l : List ℕ). d.content old.device ++ l) has.entry_of.is) has.synced

    left : IsWholeDevice d old.core.id (records_of old.core ++ has.stored ∷ []) new.last new.device
    left = record {
      bodies = whole.bodies ++ added_body body ∷ [];
      stores = both_more (IsBodyOf old.core.id) whole.bodies (records_of old.core) (added_body body) has.stored whole.stores has.entry_of.stands;
      whole = subst (λ (l : List ℕ). journals.IsWhole d old.core.id (whole.bodies ++ added_body body ∷ []) l new.device) (sym has.ends) now;
    }

failed : {D : Type 0} (d : Ghosts D) → AppendFails d → BodyOfRecord → (old new : ServerState D) → journals.OnlyTears d → old.core.doubt ≡ None
    → new.core.id ≡ old.core.id → records_of new.core ≡ records_of old.core → HasFailed d old new → KeepsChains (d.kept old.device) (d.kept new.device) → IsHonestServer d old → IsHonestServer d new
failed {D} d law laws old new tears up same_id same_held has keeps was = settles d new same_id same_held has.doubt left
  where
    whole : IsWholeDevice d old.core.id (records_of old.core) old.last old.device
    whole = whole_of d old up was

    body : List ℕ
    body = has.entry_of.body

    tears_it : FailsToAdd d.may_leave (entry old.last body) (d.content old.device) (d.content new.device)
    tears_it = subst (λ (p : List ℕ). FailsToAdd d.may_leave p (d.content old.device) (d.content new.device)) has.entry_of.is (has.left tears.modelled)

    left : IsHonestServerDevice d old.core.id (records_of old.core) (Some has.stored) new.device
    left = record {
      bodies = whole.bodies;
      body = Some (added_body body);
      stores = whole.stores;
      stores_doubt = has.entry_of.stands;
      honest = law old.core.id whole.bodies old.last body old.device new.device tears (laws old.core.id (added_body body) has.stored has.entry_of.stands) whole.whole tears_it keeps;
    }

pub written : {D : Type 0} (d : Ghosts D) → AppendAdds d → AppendFails d → BodyOfRecord → (tag : Tag) (need : List ℕ) (program : Program) (result : Result Written WriteFault) (old new : ServerState D) → journals.OnlyTears d
    → IsSoundServer old.core → IsSoundServer new.core → IsHonestServer d old → Writes old.core tag need program result new.core → StoresWrite d old result new → KeepsChains (d.kept old.device) (d.kept new.device)
    → IsHonestServer d new
written d adds law laws tag need program (Ok (written_as.New accepted)) old new tears sound next was writes stores keeps =
    added d adds laws old new tears.modelled sound writes.1.makes.ready.up (ap (λ (c : Core). c.id) writes.1.is) (ap (λ (c : Core). c.doubt) writes.1.is ∙ writes.1.makes.ready.up) stores was
written d adds law laws tag need program (Ok (written_as.Known accepted)) old new tears sound next was writes stores keeps = as_it_was d old new writes.1 stores was
written d adds law laws tag need program (Err writing.TagUsed) old new tears sound next was writes stores keeps = as_it_was d old new writes.1 stores was
written d adds law laws tag need program (Err writing.Down) old new tears sound next was writes stores keeps = as_it_was d old new writes.2 stores was
written d adds law laws tag need program (Err (writing.Behind vector)) old new tears sound next was writes stores keeps = as_it_was d old new writes.3 stores was
written d adds law laws tag need program (Err writing.LogFull) old new tears sound next was writes stores keeps = as_it_was d old new writes.3 stores was
written d adds law laws tag need program (Err writing.OutOfMemory) old new tears sound next was writes stores keeps = as_it_was d old new writes.3 stores was
written d adds law laws tag need program (Err writing.Journal) old new tears sound next was writes stores keeps =
    failed d law laws old new tears writes.1.makes.ready.up (ap (λ (c : Core). c.id) writes.1.is) (ap records_of writes.1.is) stores keeps was

pub taken : {D : Type 0} (d : Ghosts D) → AppendAdds d → AppendFails d → BodyOfRecord → (given : Write) (result : Result Took TakeFault) (old new : ServerState D) → journals.OnlyTears d
    → IsSoundServer old.core → IsSoundServer new.core → IsHonestServer d old → Takes old.core given result new.core → StoresTaken d old result new → KeepsChains (d.kept old.device) (d.kept new.device)
    → IsHonestServer d new
taken d adds law laws given (Ok New) old new tears sound next was takes stores keeps =
    added d adds laws old new tears.modelled sound takes.0.fit.foreign.up (ap (λ (c : Core). c.id) takes.2) (ap (λ (c : Core). c.doubt) takes.2 ∙ takes.0.fit.foreign.up) stores was
taken d adds law laws given (Ok Had) old new tears sound next was takes stores keeps = as_it_was d old new takes.1 stores was
taken d adds law laws given (Err taking.Conflict) old new tears sound next was takes stores keeps = as_it_was d old new takes.1 stores was
taken d adds law laws given (Err taking.Down) old new tears sound next was takes stores keeps = as_it_was d old new takes.2 stores was
taken d adds law laws given (Err taking.OwnLost) old new tears sound next was takes stores keeps = as_it_was d old new takes.3 stores was
taken d adds law laws given (Err taking.Gap) old new tears sound next was takes stores keeps = as_it_was d old new takes.2 stores was
taken d adds law laws given (Err taking.BadStamp) old new tears sound next was takes stores keeps = as_it_was d old new takes.3 stores was
taken d adds law laws given (Err taking.LogFull) old new tears sound next was takes stores keeps = as_it_was d old new takes.2 stores was
taken d adds law laws given (Err taking.OutOfMemory) old new tears sound next was takes stores keeps = as_it_was d old new takes.1 stores was
taken d adds law laws given (Err taking.Journal) old new tears sound next was takes stores keeps =
    failed d law laws old new tears takes.0.fit.foreign.up (ap (λ (c : Core). c.id) takes.2) (ap records_of takes.2) stores keeps was

-- ---- a device that is opened again

begins : (id : ℕ) (bodies : List Body) (body : Option Body) (held : List Record) (found : List Body) → Stores id bodies held → IsHonest bodies (list_of body) found → BeginsWithHeld id held found
begins id bodies None held found stores same = record { front = bodies; more = []; stores = stores; split = same ∙ sym (append-nil bodies) }
begins id bodies (Some body) held found stores (inl same) = record { front = bodies; more = []; stores = stores; split = same ∙ sym (append-nil bodies) }
begins id bodies (Some body) held found stores (inr same) = record { front = bodies; more = body ∷ []; stores = stores; split = same }

nothing_other : (core : Core) (bodies : List Body) (body : Option Body) (doubt : Write) (found : List Body) → AreTags core.id core.held core.tags → Stores core.id bodies (records_of core)
    → StoresDoubt core.id body (Some (record { write = doubt; tag = core.doubt_tag })) → IsHonest bodies (list_of body) found → HasOther core doubt found → ⊥
nothing_other core bodies None doubt found tagged stores both honest other = both
nothing_other core bodies (Some body) doubt found tagged stores both (inl same) other = other.not_held (subst (λ (b : List Body). Stores core.id b (records_of core)) (sym same) stores)
nothing_other core bodies (Some body) doubt found tagged stores both (inr same) other =
    other.not_adopted (subst (Stores core.id found) (sym (records-push core.held core.tags doubt core.doubt_tag (one_each core.id core.held core.tags tagged)))
    (subst (λ (b : List Body). Stores core.id b (records_of core ++ record { write = doubt; tag = core.doubt_tag } ∷ [])) (sym same)
    (both_more (IsBodyOf core.id) bodies (records_of core) body (record { write = doubt; tag = core.doubt_tag }) stores both)))

found_in : {D : Type 0} (d : Ghosts D) → OpensHonestly d → {id : ℕ} {held : List Record} {doubt : Option Record} (old new : D) (bodies : List Body) (last : List ℕ) → d.is_modelled → (one : IsHonestServerDevice d id held doubt old)
    → OpensWith d id old new bodies last → IsHonest one.bodies (list_of one.body) bodies
found_in d law {id} old new bodies last modelled one opens = law id one.bodies (list_of one.body) old new (record { bodies = bodies; dropped = opens.dropped }) last modelled one.honest opens.opened

again : {D : Type 0} (d : Ghosts D) → HonestAgain d → {id : ℕ} {held : List Record} {doubt : Option Record} (old new : D) (bodies : List Body) (last : List ℕ) → d.is_modelled → IsHonestServerDevice d id held doubt old
    → OpensWith d id old new bodies last → KeepsChains (d.kept old) (d.kept new) → IsHonestServerDevice d id held doubt new
again d law {id} old new bodies last modelled one opens keeps = record {
  bodies = one.bodies;
  body = one.body;
  stores = one.stores;
  stores_doubt = one.stores_doubt;
  honest = law id one.bodies (list_of one.body) old new (record { bodies = bodies; dropped = opens.dropped }) last modelled one.honest opens.opened keeps;
}

refused : {D : Type 0} (d : Ghosts D) → RefusedHonestly d → {id : ℕ} {held : List Record} {doubt : Option Record} (old new : D) (fault : OpenFault) → journals.OnlyTears d → IsHonestServerDevice d id held doubt old
    → HasRefused d id old new fault → KeepsChains (d.kept old) (d.kept new) → IsHonestServerDevice d id held doubt new
refused d law {id} old new fault tears one told keeps = record {
  bodies = one.bodies;
  body = one.body;
  stores = one.stores;
  stores_doubt = one.stores_doubt;
  honest = law id one.bodies (list_of one.body) old new fault tears one.honest told keeps;
}

-- ---- reopenings

pub recovers : (adopted : Option Wid) (old new : Core) → Recovers old adopted new → AreHonest old.held old.doubt new.held
recovers None old new (down, is) = by old.doubt
  where
    by : (doubt : Option Write) → AreHonest old.held doubt new.held
    by None = ap (λ (core : Core). core.held) is
    by (Some doubt) = inl (ap (λ (core : Core). core.held) is)
recovers (Some wid) old new (doubt, was, name, is) = subst (λ (o : Option Write). AreHonest old.held o new.held) (sym was) (inr (ap (λ (core : Core). core.held) is))

pub recovers_records : (adopts : Option Wid) (old new : Core) → IsSoundServer old → Recovers old adopts new → AreHonest (records_of old) (record_in_doubt old) (records_of new)
recovers_records None old new sound (down, is) = by (record_in_doubt old)
  where
    by : (doubt : Option Record) → AreHonest (records_of old) doubt (records_of new)
    by None = ap records_of is
    by (Some doubt) = inl (ap records_of is)
recovers_records (Some wid) old new sound (doubt, was, name, is) =
    subst (λ (o : Option Write). AreHonest (records_of old) (in_doubt o old.doubt_tag) (records_of new)) (sym was) (inr (ap records_of is ∙ records-push old.held old.tags doubt old.doubt_tag (one_each old.id old.held old.tags sound.tagged)))

-- honest records have honest Writes
pub honest_writes : (old new : Core) → length old.tags ≡ length old.held → length new.tags ≡ length new.held → AreHonest (records_of old) (record_in_doubt old) (records_of new)
    → AreHonest old.held old.doubt new.held
honest_writes old new same also honest = by old.doubt honest
  where
    by : (doubt : Option Write) → AreHonest (records_of old) (in_doubt doubt old.doubt_tag) (records_of new) → AreHonest old.held doubt new.held
    by None is = (one_of_each new.held old.held new.tags old.tags also same is).0
    by (Some write) (inl is) = inl (one_of_each new.held old.held new.tags old.tags also same is).0
    by (Some write) (inr is) = inr (one_of_each new.held (old.held ++ write ∷ []) new.tags (old.tags ++ old.doubt_tag ∷ []) also
        (omega (arith, same, length-append old.held (write ∷ []), length-append old.tags (old.doubt_tag ∷ [])))
        (is ∙ sym (records-push old.held old.tags write old.doubt_tag same))).0

pub answers : {D : Type 0} (d : Ghosts D) → WholeIsHonest d → OpensHonestly d → Passes d → (result : Result Reopened ReopenFault) (old new : ServerState D) → d.is_modelled → IsSoundServer old.core
    → IsHonestServer d old → Reopens old.core result new.core → ReopensJournal d old result new → IsHonestAnswer result
answers {D} d wholes law passes result old new modelled sound was reopens told = by result told
  where
    one : IsHonestServerDevice d old.core.id (records_of old.core) (record_in_doubt old.core) old.device
    one = honest_of d wholes old.core.id (records_of old.core) (record_in_doubt old.core) old.last old.device was

    passing : (fault : OpenFault) → HasRefused d old.core.id old.device new.device fault → IsPassing fault
    passing fault refusal = passes old.core.id one.bodies (list_of one.body) old.device new.device fault modelled one.honest refusal

    by : (result : Result Reopened ReopenFault) → ReopensJournal d old result new → IsHonestAnswer result
    by (Ok reopened) told = tt
    by (Err reopening.NotDown) told = tt
    by (Err (reopening.Journal Device)) told = tt
    by (Err reopening.OutOfMemory) told = tt
    by (Err (reopening.Journal NotAJournal)) told = passing opening.NotAJournal told
    by (Err (reopening.Journal OtherServer)) told = passing opening.OtherServer told
    by (Err reopening.Lost) (bodies, opens, lost) =
        lost (begins old.core.id one.bodies one.body (records_of old.core) bodies one.stores (found_in d law old.device new.device bodies new.last modelled one opens))
    by (Err (reopening.BadRecord at)) (doubt, is, (bodies, opens, other, none)) =
        nothing_other old.core one.bodies one.body doubt bodies sound.tagged one.stores
        (subst (λ (o : Option Write). StoresDoubt old.core.id one.body (in_doubt o old.core.doubt_tag)) is one.stores_doubt)
        (found_in d law old.device new.device bodies new.last modelled one opens) other

-- the device that an opening left
pub whole_opened : {D : Type 0} (d : Ghosts D) → OpensWhole d → (id : ℕ) (held : List Record) (old new : D) (bodies : List Body) (last : List ℕ) → d.is_modelled → Stores id bodies held
    → OpensWith d id old new bodies last → IsWholeDevice d id held last new
whole_opened d law id held old new bodies last modelled stores opens = record {
  bodies = bodies;
  stores = stores;
  whole = law id old new (record { bodies = bodies; dropped = opens.dropped }) last modelled opens.opened;
}

-- the server that is up again
pub recovered : {D : Type 0} (d : Ghosts D) (old new : ServerState D) (adopts : Option Wid) → Recovers old.core adopts new.core → IsWholeDevice d old.core.id (records_of new.core) new.last new.device → IsHonestServer d new
recovered d old new None (down, is) whole =
    settles d new (ap (λ (c : Core). c.id) is) refl (none_in_doubt new.core (ap (λ (c : Core). c.doubt) is)) whole
recovered d old new (Some wid) (doubt, was, name, is) whole =
    settles d new (ap (λ (c : Core). c.id) is) refl (none_in_doubt new.core (ap (λ (c : Core). c.doubt) is)) whole

pub reopened_left : {D : Type 0} (d : Ghosts D) → WholeIsHonest d → OpensWhole d → HonestAgain d → RefusedHonestly d → (result : Result Reopened ReopenFault) (old new : ServerState D) → journals.OnlyTears d
    → IsSoundServer old.core → IsHonestServer d old → Reopens old.core result new.core → ReopensJournal d old result new → KeepsChains (d.kept old.device) (d.kept new.device) → IsHonestServer d new
reopened_left {D} d wholes law agains refuses result old new tears sound was reopens told keeps = by result reopens told
  where
    one : IsHonestServerDevice d old.core.id (records_of old.core) (record_in_doubt old.core) old.device
    one = honest_of d wholes old.core.id (records_of old.core) (record_in_doubt old.core) old.last old.device was

    down_still : IsSome old.core.doubt → new.core ≡ old.core → IsHonestServerDevice d old.core.id (records_of old.core) (record_in_doubt old.core) new.device → IsHonestServer d new
    down_still down same honest = settles d new (ap (λ (c : Core). c.id) same) (ap records_of same) (ap record_in_doubt same)
        (left_of d old.core.id (records_of old.core) (record_in_doubt old.core) new.last new.device (some_in_doubt old.core down) honest)

    opened : (bodies : List Body) → OpensWith d old.core.id old.device new.device bodies new.last → IsHonestServerDevice d old.core.id (records_of old.core) (record_in_doubt old.core) new.device
    opened bodies opens = again d agains old.device new.device bodies new.last tears.modelled one opens keeps

    by : (result : Result Reopened ReopenFault) → Reopens old.core result new.core → ReopensJournal d old result new → IsHonestServer d new
    by (Ok reopened) steps (bodies, stores, opens) =
        recovered d old new reopened.adopted steps (whole_opened d law old.core.id (records_of new.core) old.device new.device bodies new.last tears.modelled stores opens)
    by (Err reopening.NotDown) steps told = as_it_was d old new steps.1 told was
    by (Err (reopening.Journal fault)) steps told = down_still steps.0 steps.1 (refused d refuses old.device new.device (open_fault fault) tears one told keeps)
    by (Err reopening.Lost) steps (bodies, opens, lost) = down_still steps.0 steps.1 (opened bodies opens)
    by (Err (reopening.BadRecord at)) steps (doubt, is, (bodies, opens, other, none)) = down_still steps.0 steps.2 (opened bodies opens)
    by (Err reopening.OutOfMemory) steps (inl told) = down_still steps.0 steps.1 (refused d refuses old.device new.device opening.OutOfMemory tears one told keeps)
    by (Err reopening.OutOfMemory) steps (inr (bodies, opens)) = down_still steps.0 steps.1 (opened bodies opens)

-- ---- starts

-- what was found are the bodies of Writes that the server may hold, with their tags, and that are honest
pub record Whole (core : Core) (found : List Body) : Type 0 where
  pub writes : List Write
  pub tags : List (Option Tag)
  pub stores : Stores core.id found (records writes tags)
  pub holds : MayHold core.id core.count core.limit writes
  pub tagged : AreTags core.id writes tags
  pub honest : AreHonest (records_of core) (record_in_doubt core) (records writes tags)

whole_list : (core : Core) (bodies : List Body) (body : Option Body) (found : List Body) → IsSoundServer core → Stores core.id bodies (records_of core) → StoresDoubt core.id body (record_in_doubt core)
    → IsHonest bodies (list_of body) found → Whole core found
whole_list core bodies body found sound stores both honest = by body core.doubt refl both honest
  where
    held : (found ≡ bodies) → AreHonest (records_of core) (record_in_doubt core) (records_of core) → Whole core found
    held same are = record {
      writes = core.held;
      tags = core.tags;
      stores = subst (λ (b : List Body). Stores core.id b (records_of core)) (sym same) stores;
      holds = sound.holds;
      tagged = sound.tagged;
      honest = are;
    }

    adopts : (b : Body) (doubt : Write) → core.doubt ≡ Some doubt → IsBodyOf core.id b (record { write = doubt; tag = core.doubt_tag }) → found ≡ bodies ++ b ∷ [] → Whole core found
    adopts b doubt is stands same =
        let next = sound_adopted core doubt sound is in
        let more = records-push core.held core.tags doubt core.doubt_tag (one_each core.id core.held core.tags sound.tagged) in
        record {
          writes = core.held ++ doubt ∷ [];
          tags = core.tags ++ core.doubt_tag ∷ [];
          stores = subst (λ (f : List Body). Stores core.id f (records (core.held ++ doubt ∷ []) (core.tags ++ core.doubt_tag ∷ []))) (sym same)
              (subst (λ (l : List Record). Stores core.id (bodies ++ b ∷ []) l) (sym more)
              (both_more (IsBodyOf core.id) bodies (records_of core) b (record { write = doubt; tag = core.doubt_tag }) stores stands));
          holds = next.holds;
          tagged = next.tagged;
          honest = subst (λ (o : Option Write). AreHonest (records_of core) (in_doubt o core.doubt_tag) (records (core.held ++ doubt ∷ []) (core.tags ++ core.doubt_tag ∷ []))) (sym is) (inr more);
        }

    by : (body : Option Body) (doubt : Option Write) → core.doubt ≡ doubt → StoresDoubt core.id body (in_doubt doubt core.doubt_tag) → IsHonest bodies (list_of body) found → Whole core found
    by None None is both same = held same (subst (λ (o : Option Write). AreHonest (records_of core) (in_doubt o core.doubt_tag) (records_of core)) (sym is) refl)
    by (Some b) (Some doubt) is both (inl same) = held same (subst (λ (o : Option Write). AreHonest (records_of core) (in_doubt o core.doubt_tag) (records_of core)) (sym is) (inl refl))
    by (Some b) (Some doubt) is both (inr same) = adopts b doubt is both same
    by None (Some doubt) is both same = absurd both
    by (Some b) None is both same = absurd both

pub whole_of_device : {D : Type 0} (d : Ghosts D) → OpensHonestly d → (core : Core) (device left : D) (bodies : List Body) (last : List ℕ) → d.is_modelled → IsSoundServer core
    → IsHonestServerDevice d core.id (records_of core) (record_in_doubt core) device → OpensWith d core.id device left bodies last → Whole core bodies
whole_of_device d law core device left bodies last modelled sound one opens =
    whole_list core one.bodies one.body bodies sound one.stores one.stores_doubt (found_in d law device left bodies last modelled one opens)

pub refusal_of : (fault : JournalFault) → IsPassing (open_fault fault) → IsHonestRefusal (starting.Journal fault)
refusal_of Device passing = tt
refusal_of NotAJournal passing = passing
refusal_of OtherServer passing = passing

pub start_refused : {D : Type 0} (d : Ghosts D) → OpensHonestly d → Passes d → OneRecord → (core : Core) (device left : D) (fault : StartFault) → d.is_modelled → IsSoundServer core
    → IsHonestServerDevice d core.id (records_of core) (record_in_doubt core) device → FailsToStart d core.id core.count core.limit device left fault → IsHonestRefusal fault
start_refused {D} d law passes none core device left fault modelled sound one told = by fault told
  where
    at_entry : (fault : StartFault) → StopsAtEntry d core.id core.count core.limit device left fault → ⊥
    at_entry fault stops =
        let whole = whole_of_device d law core device left stops.bodies stops.last modelled sound one stops.opened in
        none_refused none core.id core.count core.limit whole.writes whole.tags stops.bodies fault whole.holds whole.tagged whole.stores stops.refused

    by : (fault : StartFault) → FailsToStart d core.id core.count core.limit device left fault → IsHonestRefusal fault
    by (starting.Journal fault) told = refusal_of fault (passes core.id one.bodies (list_of one.body) device left (open_fault fault) modelled one.honest told)
    by (starting.BadRecord at) told = at_entry (starting.BadRecord at) told
    by (starting.Gap at) told = at_entry (starting.Gap at) told
    by starting.LogFull told = at_entry starting.LogFull told
    by starting.OutOfMemory told = tt

pub start_left : {D : Type 0} (d : Ghosts D) → HonestAgain d → RefusedHonestly d → (core : Core) (device left : D) (fault : StartFault) → journals.OnlyTears d → IsSoundServer core
    → IsHonestServerDevice d core.id (records_of core) (record_in_doubt core) device → FailsToStart d core.id core.count core.limit device left fault → KeepsChains (d.kept device) (d.kept left)
    → IsHonestServerDevice d core.id (records_of core) (record_in_doubt core) left
start_left {D} d agains refuses core device left fault tears sound one told keeps = by fault told
  where
    opened : (bodies : List Body) (last : List ℕ) → OpensWith d core.id device left bodies last → IsHonestServerDevice d core.id (records_of core) (record_in_doubt core) left
    opened bodies last opens = again d agains device left bodies last tears.modelled one opens keeps

    by : (fault : StartFault) → FailsToStart d core.id core.count core.limit device left fault → IsHonestServerDevice d core.id (records_of core) (record_in_doubt core) left
    by (starting.Journal fault) told = refused d refuses device left (open_fault fault) tears one told keeps
    by (starting.BadRecord at) told = opened told.bodies told.last told.opened
    by (starting.Gap at) told = opened told.bodies told.last told.opened
    by starting.LogFull told = opened told.bodies told.last told.opened
    by starting.OutOfMemory (inl told) = refused d refuses device left opening.OutOfMemory tears one told keeps
    by starting.OutOfMemory (inr (bodies, last, opens)) = opened bodies last opens
