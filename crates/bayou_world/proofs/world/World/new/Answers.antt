use Rattle.std.proofs.Common.{◌+◌, List, sym, subst}
use Rattle.bayou_world.specs.declared.world_server.WorldServer.{WorldServer}
use Rattle.bayou_world.specs.Inner.Beginning.{AreStarted}
use Rattle.bayou_world.proofs.Restarting.{started_more}
use Rattle.bayou_world.proofs.world.World.new.Goals as goal

pub loop-index-preserved : goal.loop-index-preserved
loop-index-preserved c =
    subst (λ (list : List WorldServer). AreStarted (c.loop-index.index + 1) c.args.count c.args.limit list) (sym c.in_ok-push.ensures.items)
    (started_more c.loop-index.index c.args.count c.args.limit c.loop-index.servers.items c.in_ok-begin.field-0 c.loop-index.invariant c.in_ok-begin.ensures.fresh c.in_ok-begin.ensures.unused)
