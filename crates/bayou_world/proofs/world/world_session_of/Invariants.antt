-- none of the sessions so far has the number
use Rattle.std.proofs.Common.{◌≡◌, drop}
use Rattle.bayou_world.specs.Runs.{asks_of}
use Rattle.bayou_world.proofs.world.world_session_of.Given as goal

abbrev pub invariant-loop-session : goal.invariant-loop-session
invariant-loop-session l = asks_of l.sessions l.who ≡ asks_of (drop l.session-index l.sessions) l.who
