-- what the openings that are left do is what all of them do, and no session is lost
use Rattle.std.proofs.Common.{◌≡◌, drop, vec_len}
use Rattle.bayou_fleet.specs.Opening.{OpensEach}
use Rattle.bayou_fleet.proofs.together.open_all.Given as goal

abbrev pub invariant-loop-opening : goal.invariant-loop-opening
invariant-loop-opening g l = record {
  opened : (new : _) → OpensEach l.network.run (drop l.opening-index l.openings) l.sessions.items new → OpensEach l.network.run l.openings l.fn.sessions.items new;
  number : vec_len l.sessions ≡ vec_len l.fn.sessions;
}
