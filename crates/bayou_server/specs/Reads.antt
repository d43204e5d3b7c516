-- What a server answers to a read. It compares the need with what it holds as it serves (Terry et al. 1994).
use Rattle.std.specs.Prelude.{◌≡◌, ℕ, List, Result, Ok, Err}
use Rattle.bayou_base.specs.declared.answer.Seen.{Seen}
use Rattle.bayou_base.specs.Vector.{Dominates}
use Rattle.bayou_lang.specs.Database.{value_at}
use Rattle.bayou_lang.specs.Writes.{count_of}
use Rattle.bayou_log.specs.Replay.{replay}
use Rattle.bayou_server.specs.declared.fault.Behind.{Behind}
use Rattle.bayou_server.specs.Server.{Core}

-- the read is served: what the key has in the database of the Writes held, and what was held
pub record Serves (core : Core) (need key : List ℕ) (seen : Seen) : Type 0 where
  pub covered : Dominates (count_of core.held) need
  pub value : seen.value ≡ value_at (replay core.held) key
  pub vector : seen.vector ≡ count_of core.held

-- the server doesn't hold all that the session needs, and tells what it holds
pub record IsBehind (core : Core) (need : List ℕ) (vector : List ℕ) : Type 0 where
  pub not_covered : ¬ Dominates (count_of core.held) need
  pub held : vector ≡ count_of core.held

-- a read and its answer; the server is as it was
abbrev pub Reads : Core → (need key : List ℕ) → Result Seen Behind → Type 0
Reads core need key (Ok seen) = Serves core need key seen
Reads core need key (Err behind) = IsBehind core need behind.vector
