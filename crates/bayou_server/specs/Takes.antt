-- What a server answers to a Write that another server accepted (anti-entropy, Petersen et al. 1997), and what it then holds.
use Rattle.std.specs.Prelude.{◌≡◌, ◌≢◌, ◌<◌, List, [], ◌∷◌, ◌++◌, None, Some, Result, Ok, Err, All, Contains, length}
use Rattle.bayou_lang.specs.declared.write.Write.{Write}
use Rattle.bayou_lang.specs.Writes.{Fits, HasNoGap, IsWellStamped}
use Rattle.bayou_lang.specs.Ranges.{IsWrite}
use Rattle.bayou_server.specs.declared.answer.Took.{Took}
use Rattle.bayou_server.specs.declared.answer.Took.TheVariants.{New, Had}
use Rattle.bayou_server.specs.declared.fault.TakeFault.{TakeFault}
use Rattle.bayou_server.specs.declared.fault.TakeFault.TheVariants.{Conflict, Down, OwnLost, Gap, BadStamp, LogFull, OutOfMemory, Journal}
use Rattle.bayou_server.specs.Server.{Core, IsDown, IsUp}

-- no Write of its name is held
abbrev pub IsMissing : List Write → Write → Type 0
IsMissing held given = All (λ write. write.wid ≢ given.wid) held

-- another Write of its name is held
pub record HasAnother (held : List Write) (given : Write) : Type 0 where
  pub other : Write
  pub among : Contains held other
  pub name : other.wid ≡ given.wid
  pub differs : other ≢ given

-- the server is up, and the Write is new to it, and another server's
pub record ComesFromAnother (core : Core) (given : Write) : Type 0 where
  pub missing : IsMissing core.held given
  pub up : IsUp core
  pub foreign : given.wid.origin.index ≢ core.id

-- and it fits what is held
pub record IsFit (core : Core) (given : Write) : Type 0 where
  pub foreign : ComesFromAnother core given
  pub fits : Fits core.count core.held given

-- and there is room for it
pub record IsTakable (core : Core) (given : Write) : Type 0 where
  pub fit : IsFit core given
  pub room : length core.held < core.limit

-- A given Write, the answer and what it leaves. The answers stand in their order: each says that those before it don't hold. A Write
-- that is taken is held after the others, with no tag. Where a device call failed, the server is down with that Write in doubt, and holds what it
-- held. After every other answer it is as it was.
abbrev pub Takes : (old : Core) → (given : Write) → Result Took TakeFault → (new : Core) → Type 0
Takes old given (Ok Had) new = Contains old.held given × (new ≡ old)
Takes old given (Err Conflict) new = HasAnother old.held given × (new ≡ old)
Takes old given (Err Down) new = IsMissing old.held given × IsDown old × (new ≡ old)
Takes old given (Err OwnLost) new = IsMissing old.held given × IsUp old × (given.wid.origin.index ≡ old.id) × (new ≡ old)
Takes old given (Err Gap) new = ComesFromAnother old given × (¬ HasNoGap old.count old.held given) × (new ≡ old)
Takes old given (Err BadStamp) new = ComesFromAnother old given × HasNoGap old.count old.held given × (¬ IsWellStamped old.held given) × (new ≡ old)
Takes old given (Err LogFull) new = IsFit old given × (length old.held ≡ old.limit) × (new ≡ old)
Takes old given (Err OutOfMemory) new = IsTakable old given × (new ≡ old)
Takes old given (Err Journal) new = IsTakable old given × IsWrite given × (new ≡ record old { doubt = Some given; doubt_tag = None })
Takes old given (Ok New) new = IsTakable old given × IsWrite given × (new ≡ record old { held = old.held ++ given ∷ []; tags = old.tags ++ None ∷ [] })
