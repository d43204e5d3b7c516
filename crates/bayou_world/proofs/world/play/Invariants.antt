-- what was run so far, and what it cost
use Rattle.std.proofs.Common.{[], length, take}
use Rattle.bayou_world.specs.Inner.Beginning.{SoFar}
use Rattle.bayou_world.specs.Inner.WorldBooks.{IsBookOf}
use Rattle.bayou_world.specs.Inner.Charges.{AreCharged}
use Rattle.bayou_world.specs.Inner.Good.{IsGoodMachine}
use Rattle.bayou_world.specs.Inner.Tie.{IsOf}
use Rattle.bayou_world.specs.Machine.{Machine}
use Rattle.bayou_world.specs.Tags.{AreTagged}
use Rattle.bayou_world.proofs.world.play.Given as goal

abbrev pub invariant-loop-event : goal.invariant-loop-event
invariant-loop-event g l = record {
  so_far : (first : Machine) → IsGoodMachine first → AreTagged first → IsOf l.fn.state first → IsBookOf l.fn.book first → SoFar first (take l.event-index l.events) l.replies.items l.state l.book;
  charged : AreCharged (length l.fn.state.servers.items) [] [] l.fn.state.servers.items → AreCharged (length l.fn.state.servers.items) (take l.event-index l.events) l.replies.items l.state.servers.items;
}
