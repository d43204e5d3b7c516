-- How a server that is down is brought up again, and what it then holds: this project's own.
use Rattle.std.specs.Prelude.{◌≡◌, ◌⊎◌, ◌==◌, ℕ, List, [], ◌∷◌, ◌++◌, Option, None, Some, Result, Ok, Err, length, if◌then◌else◌}
use Rattle.bayou_base.specs.declared.wid.Wid.{Wid}
use Rattle.bayou_lang.specs.declared.write.Write.{Write}
use Rattle.bayou_server.specs.declared.answer.Reopened.{Reopened}
use Rattle.bayou_server.specs.declared.fault.ReopenFault.{ReopenFault}
use Rattle.bayou_server.specs.declared.fault.ReopenFault.TheVariants.{NotDown, Journal, Lost, BadRecord, OutOfMemory}
use Rattle.bayou_server.specs.Server.{Core, IsDown, IsUp, with_all}

-- The server is up again, with an honest list: the Writes that were held, and the Write in doubt is forgotten; or those and the
-- Write in doubt, which is adopted with its tag, be it the server's own or another's.
abbrev pub Recovers : (old : Core) → Option Wid → (new : Core) → Type 0
Recovers old None new = IsDown old × (new ≡ record old { doubt = None; doubt_tag = None })
Recovers old (Some wid) new = (doubt : Write) × (old.doubt ≡ Some doubt) × (wid ≡ doubt.wid)
    × (new ≡ record old { held = old.held ++ doubt ∷ []; tags = old.tags ++ old.doubt_tag ∷ []; doubt = None; doubt_tag = None })

-- A reopening and its answer. A refusal leaves the server down, with what it held and the Write in doubt.
abbrev pub Reopens : (old : Core) → Result Reopened ReopenFault → (new : Core) → Type 0
Reopens old (Ok reopened) new = Recovers old reopened.adopted new
Reopens old (Err NotDown) new = IsUp old × (new ≡ old)
Reopens old (Err (Journal fault)) new = IsDown old × (new ≡ old)
Reopens old (Err Lost) new = IsDown old × (new ≡ old)
Reopens old (Err (BadRecord at)) new = IsDown old × (at ≡ length old.held) × (new ≡ old)
Reopens old (Err OutOfMemory) new = IsDown old × (new ≡ old)

-- Where several Writes are in doubt, the one of the core and after it others, each another server's: the first is adopted, and of the others
-- those up to one of them, which is reported. The rest are forgotten.
pub record AdoptsSeveral (old : Core) (taking : List Write) (adopted : Option Wid) (new : Core) : Type 0 where
  pub doubt : Write
  pub is : old.doubt ≡ Some doubt
  pub front : List Write
  pub last : Write
  pub behind : List Write
  pub split : taking ≡ front ++ last ∷ behind
  pub tells : adopted ≡ Some last.wid
  pub holds : new ≡ with_all (record old { held = old.held ++ doubt ∷ []; tags = old.tags ++ old.doubt_tag ∷ []; doubt = None; doubt_tag = None }) (front ++ last ∷ [])

-- The server is up again, with an honest list: the Writes that were held, and a front of those in doubt.
abbrev pub RecoversAll : (old : Core) → (taking : List Write) → Option Wid → (new : Core) → Type 0
RecoversAll old taking adopted new = Recovers old adopted new ⊎ AdoptsSeveral old taking adopted new

-- a reopening and its answer, where after the Write in doubt others are
abbrev pub ReopensAll : (old : Core) → (taking : List Write) → Result Reopened ReopenFault → (new : Core) → Type 0
ReopensAll old taking (Ok reopened) new = RecoversAll old taking reopened.adopted new
ReopensAll old taking (Err fault) new = Reopens old (Err fault) new

-- the same, whichever others are in doubt
abbrev pub ReopensSome : (old : Core) → Result Reopened ReopenFault → (new : Core) → Type 0
ReopensSome old answer new = (taking : List Write) × ReopensAll old taking answer new

-- how the number of the server's own Writes grows by what is adopted: by one where that is its own, and not where it is another
-- server's
abbrev pub own_adopted : (server : ℕ) → Option Wid → ℕ
own_adopted server None = 0
own_adopted server (Some wid) = if wid.origin.index == server then 1 else 0
