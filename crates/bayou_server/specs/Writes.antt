-- What a server answers to a program that it is to make a Write of (Terry et al. 1995), and what it then holds. A Write may be asked again
-- under its tag, which is this project's own.
use Rattle.std.specs.Prelude.{◌≡◌, ◌<◌, ℕ, List, [], ◌∷◌, ◌++◌, None, Some, Contains, Result, Ok, Err, length}
use Rattle.bayou_base.specs.declared.answer.Accepted.{Accepted}
use Rattle.bayou_base.specs.declared.tag.Tag.{Tag}
use Rattle.bayou_base.specs.Vector.{Dominates}
use Rattle.bayou_lang.specs.declared.program.Program.{Program}
use Rattle.bayou_lang.specs.declared.write.Write.{Write}
use Rattle.bayou_lang.specs.Writes.{IsNextWrite, count_of}
use Rattle.bayou_lang.specs.Ranges.{IsWrite}
use Rattle.bayou_wire.specs.declared.record.Record.{Record}
use Rattle.bayou_server.specs.declared.answer.Written.{Written}
use Rattle.bayou_server.specs.declared.answer.Written.TheVariants.{New, Known}
use Rattle.bayou_server.specs.declared.fault.WriteFault.{WriteFault}
use Rattle.bayou_server.specs.declared.fault.WriteFault.TheVariants.{TagUsed, Down, Behind, LogFull, OutOfMemory, Journal}
use Rattle.bayou_server.specs.Reads.{IsBehind}
use Rattle.bayou_server.specs.Server.{Core, IsDown, IsUp, records_of}

-- what is reported of a Write: its name and its stamp, and what its server held before it
pub record Tells (write : Write) (accepted : Accepted) : Type 0 where
  pub wid : accepted.wid ≡ write.wid
  pub stamp : accepted.stamp ≡ write.stamp
  pub deps : accepted.deps ≡ write.deps

-- the Write is held, and the tag is its own
abbrev pub HoldsUnder : Core → Tag → Write → Type 0
HoldsUnder core tag write = Contains (records_of core) (record { write = write; tag = Some tag })

-- no Write is held under the tag
abbrev pub IsFresh : Core → Tag → Type 0
IsFresh core tag = ¬ Contains core.tags (Some tag)

-- the Write is of the program, and its server held all that the session needs before it
pub record IsOfAsking (need : List ℕ) (program : Program) (write : Write) : Type 0 where
  pub program_is : write.program ≡ program
  pub covered : Dominates write.deps need

-- A Write is held under the tag, and it is what is asked for: it was lost, and is asked again. The answer tells what it was given.
pub record Repeats (core : Core) (tag : Tag) (need : List ℕ) (program : Program) (accepted : Accepted) : Type 0 where
  pub write : Write
  pub held : HoldsUnder core tag write
  pub asked : IsOfAsking need program write
  pub tells : Tells write accepted

-- a Write is held under the tag, and something else is asked for
pub record HasUsed (core : Core) (tag : Tag) (need : List ℕ) (program : Program) : Type 0 where
  pub write : Write
  pub held : HoldsUnder core tag write
  pub other : ¬ IsOfAsking need program write

-- the server is up, and holds all that the session needs
pub record IsReady (core : Core) (need : List ℕ) : Type 0 where
  pub up : IsUp core
  pub covered : Dominates (count_of core.held) need

-- the Write is the server's next, and there is room for it
pub record Makes (core : Core) (need : List ℕ) (program : Program) (made : Write) : Type 0 where
  pub ready : IsReady core need
  pub room : length core.held < core.limit
  pub next : IsNextWrite core.held core.id program made
  pub spelled : IsWrite made

-- The Write is accepted: the answer tells what it was given, and it is held after the others, with its tag.
pub record Accepts (old : Core) (tag : Tag) (need : List ℕ) (program : Program) (accepted : Accepted) (new : Core) : Type 0 where
  pub made : Write
  pub makes : Makes old need program made
  pub tells : Tells made accepted
  pub is : new ≡ record old { held = old.held ++ made ∷ []; tags = old.tags ++ Some tag ∷ [] }

-- A device call failed as the Write's entry was stored: the server is down with the Write in doubt, and its tag, and holds what it held.
pub record Doubts (old : Core) (tag : Tag) (need : List ℕ) (program : Program) (new : Core) : Type 0 where
  pub made : Write
  pub makes : Makes old need program made
  pub is : new ≡ record old { doubt = Some made; doubt_tag = Some tag }

-- A program, the tag of its asking, the answer and what it leaves. Whether a Write is held under the tag is asked first, also while the
-- server is down. The refusals stand in their order: each says that those before it don't hold.
abbrev pub Writes : (old : Core) → Tag → (need : List ℕ) → Program → Result Written WriteFault → (new : Core) → Type 0
Writes old tag need program (Ok (Known accepted)) new = Repeats old tag need program accepted × (new ≡ old)
Writes old tag need program (Err TagUsed) new = HasUsed old tag need program × (new ≡ old)
Writes old tag need program (Err Down) new = IsFresh old tag × IsDown old × (new ≡ old)
Writes old tag need program (Err (Behind vector)) new = IsFresh old tag × IsUp old × IsBehind old need vector × (new ≡ old)
Writes old tag need program (Err LogFull) new = IsFresh old tag × IsReady old need × (length old.held ≡ old.limit) × (new ≡ old)
Writes old tag need program (Err OutOfMemory) new = IsFresh old tag × IsReady old need × (length old.held < old.limit) × (new ≡ old)
Writes old tag need program (Err Journal) new = IsFresh old tag × Doubts old tag need program new
Writes old tag need program (Ok (New accepted)) new = IsFresh old tag × Accepts old tag need program accepted new

-- how many Writes of its own the server holds more
abbrev pub own_made : Result Written WriteFault → ℕ
own_made (Ok (New accepted)) = 1
own_made (Ok (Known accepted)) = 0
own_made (Err fault) = 0
