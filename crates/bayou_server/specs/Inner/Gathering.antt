-- How a server gathers Writes that it takes together, and how it takes them back, which its callers don't see.
use Rattle.std.specs.Prelude.{◌≡◌, ℕ, ◌+◌, ◌-◌, ◌<◌, ◌≤◌, true, List, [], ◌∷◌, ◌++◌, Option, None, Some, Result, Ok, Err, length, map, replicate}
use Rattle.std.specs.Global.{Vec}
use Rattle.std.specs.VecDeque.{deque_capacity}
use Rattle.bayou_base.specs.declared.wid.Wid.{Wid}
use Rattle.bayou_journal.specs.Chain.{AreBodies, IsBody}
use Rattle.bayou_journal.specs.Honest.{added_body}
use Rattle.bayou_journal.specs.declared.format.TheConstants.{DIGEST_BYTES, LENGTH_BYTES}
use Rattle.bayou_lang.specs.declared.write.Write.{Write}
use Rattle.bayou_lang.specs.Ranges.{IsWrite}
use Rattle.bayou_log.specs.Log.{IsReserved}
use Rattle.bayou_wire.specs.Records.{SpellsRecord}
use Rattle.bayou_wire.specs.declared.record.Form.TheVariants.{Wide}
use Rattle.bayou_server.specs.declared.answer.Took.{Took}
use Rattle.bayou_server.specs.declared.answer.Took.TheVariants.{New, Had}
use Rattle.bayou_server.specs.declared.answer.TookAll.{TookAll}
use Rattle.bayou_server.specs.declared.fault.TakeFault.{TakeFault}
use Rattle.bayou_server.specs.declared.holding.Holding.{Holding}
use Rattle.bayou_server.specs.Inner.Fields.{core_of}
use Rattle.bayou_server.specs.Server.{Core, untagged}
use Rattle.bayou_server.specs.Several.{AreTakable}
use Rattle.bayou_server.specs.Stored.{IsBodyOf, Stores}
use Rattle.bayou_server.specs.Takes.{IsTakable, Takes}

-- the bytes of each
abbrev pub bytes_of : List (Vec ℕ) → List (List ℕ)
bytes_of bodies = map (λ body. body.items) bodies

-- nothing but rooms has changed, none of which is less
pub record IsRoomier (old new : Holding) : Type 0 where
  pub log : new.log ≡ record old.log { room = new.log.room }
  pub tags : new.tags ≡ record old.tags { room = new.tags.room }
  pub doubt : new.doubt ≡ old.doubt
  pub taking : new.taking.items ≡ old.taking.items
  pub together : new.together ≡ old.together
  pub places : deque_capacity old.taking ≤ deque_capacity new.taking

-- The first of the Writes may be taken, there is room for so many of them to be in doubt, and its entry, of this body, has no more bytes than so many.
pub record IsReady (id : ℕ) (old : Holding) (given : List Write) (many room : ℕ) (body : List ℕ) (new : Holding) : Type 0 where
  pub write : Write
  pub rest : List Write
  pub split : given ≡ write ∷ rest
  pub takable : IsTakable (core_of old id) write
  pub spelling : SpellsRecord Wide body (record { write = write; tag = None })
  pub is : IsBody body
  pub size : LENGTH_BYTES + length body + DIGEST_BYTES ≤ room
  pub reserved : IsReserved new.log.room write
  pub place : 0 < new.tags.room
  pub places : many ≤ deque_capacity new.taking

-- The first of the Writes that were given is held, as if its entry were stored, the body of which stands after the others.
pub record IsGathered (id : ℕ) (old : Holding) (given left : List Write) (before after : List (List ℕ)) (size : ℕ) (new : Holding) : Type 0 where
  pub write : Write
  pub split : given ≡ write ∷ left
  pub takable : IsTakable (core_of old id) write
  pub spelled : IsWrite write
  pub body : List ℕ
  pub stands : IsBodyOf id (added_body body) (record { write = write; tag = None })
  pub is : IsBody body
  pub bodies : after ≡ before ++ body ∷ []
  pub sized : size ≡ LENGTH_BYTES + length body + DIGEST_BYTES
  pub log : new.log ≡ record old.log { receipts = old.log.receipts ++ write ∷ []; room = new.log.room; waiting = old.log.waiting + 1 }
  pub tags : new.tags ≡ record old.tags { tags = old.tags.tags ++ None ∷ []; room = new.tags.room }
  pub doubt : new.doubt ≡ old.doubt
  pub taking : new.taking.items ≡ old.taking.items
  pub together : new.together ≡ old.together
  pub place : length after ≤ deque_capacity new.taking

-- The first of the Writes that were given are held, as if their entries were stored, the bodies of which are these; and there is room to put them all in
-- doubt.
pub record AreGathered (id : ℕ) (old : Holding) (given left : List Write) (bodies : List (List ℕ)) (new : Holding) : Type 0 where
  pub writes : List Write
  pub split : given ≡ writes ++ left
  pub takable : AreTakable (core_of old id) writes
  pub stand : Stores id (map added_body bodies) (untagged writes)
  pub are : AreBodies bodies
  pub many : length bodies ≡ length writes
  pub log : new.log ≡ record old.log { receipts = old.log.receipts ++ writes; room = new.log.room; waiting = old.log.waiting + length writes }
  pub tags : new.tags ≡ record old.tags { tags = old.tags.tags ++ replicate (length writes) None; room = new.tags.room }
  pub doubt : new.doubt ≡ old.doubt
  pub taking : new.taking.items ≡ old.taking.items
  pub together : new.together ≡ old.together
  pub places : length writes ≤ deque_capacity new.taking

-- what is reported of several Writes of which this is the only one that was answered
abbrev pub told_one : Wid → Result Took TakeFault → TookAll
told_one wid (Ok New) = record { taken = 1; had = 0; refused = None }
told_one wid (Ok Had) = record { taken = 0; had = 1; refused = None }
told_one wid (Err fault) = record { taken = 0; had = 0; refused = Some (record { wid = wid; fault = fault }) }

-- there was none to be answered
pub record IsNoneLeft (given left : List Write) (told : TookAll) : Type 0 where
  pub split : given ≡ []
  pub none : left ≡ []
  pub tells : told ≡ record { taken = 0; had = 0; refused = None }

-- or the first was answered, which left the server as it is
pub record IsToldAlone (core : Core) (given left : List Write) (told : TookAll) : Type 0 where
  pub write : Write
  pub split : given ≡ write ∷ left
  pub answer : Result Took TakeFault
  pub takes : Takes core write answer core
  pub tells : told ≡ told_one write.wid answer

-- The last of the Writes, which waited, so many of them, are held no more, and are in doubt.
pub record AreTakenBack (old : Holding) (number : ℕ) (new : Holding) : Type 0 where
  pub first : Write
  pub doubt : new.doubt ≡ Some first
  pub together : new.together ≡ true
  pub held : old.log.receipts ≡ new.log.receipts ++ first ∷ new.taking.items
  pub many : length (first ∷ new.taking.items) ≡ number
  pub log : new.log ≡ record old.log { receipts = new.log.receipts; room = new.log.room; waiting = old.log.waiting - number }
  pub untagged : old.tags.tags ≡ new.tags.tags ++ replicate number None
  pub tags : new.tags ≡ record old.tags { tags = new.tags.tags; room = new.tags.room }
