-- How a server makes a Write, which its callers don't see.
use Rattle.std.specs.Prelude.{◌<◌, ℕ, List, Option, None, Some, Result, Err, length}
use Rattle.bayou_base.specs.declared.tag.Tag.{Tag}
use Rattle.bayou_lang.specs.declared.program.Program.{Program}
use Rattle.bayou_server.specs.declared.answer.Written.{Written}
use Rattle.bayou_server.specs.declared.fault.WriteFault.{WriteFault}
use Rattle.bayou_server.specs.Server.{Core}
use Rattle.bayou_server.specs.Writes.{IsFresh, IsReady, Writes}

-- the server may make a Write for the session
abbrev pub MayMake : Core → (need : List ℕ) → Type 0
MayMake core need = IsReady core need × (length core.held < core.limit)

-- why no Write is made under a tag under which none is held; or that one may be made
abbrev pub IsRefusal : Core → Tag → (need : List ℕ) → Option WriteFault → Type 0
IsRefusal core tag need None = MayMake core need
IsRefusal core tag need (Some fault) = (program : Program) → Writes core tag need program (Err fault) core

-- what is answered of the Write that is held under the tag, or that none is
abbrev pub IsTold : Core → Tag → (need : List ℕ) → Program → Option (Result Written WriteFault) → Type 0
IsTold core tag need program None = IsFresh core tag
IsTold core tag need program (Some answer) = Writes core tag need program answer core

-- the answer that leaves the server as it is; or that a Write may be made under the tag
abbrev pub IsAnswered : Core → Tag → (need : List ℕ) → Program → Option (Result Written WriteFault) → Type 0
IsAnswered core tag need program None = IsFresh core tag × MayMake core need
IsAnswered core tag need program (Some answer) = Writes core tag need program answer core
