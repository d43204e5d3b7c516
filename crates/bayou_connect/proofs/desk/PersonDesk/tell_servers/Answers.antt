use Rattle.std.proofs.Common.{arith, ◌∙◌, ◌+◌, ◌≤◌, List, drop, get_or, length, subst, sym}
use Rattle.bayou_base.specs.declared.server.ServerId.{ServerId}
use Rattle.bayou_connect.specs.Wishing.{TellServers, TellsServer}
use Rattle.bayou_connect.proofs.Around.{tells_none, tells_on}
use Rattle.bayou_connect.proofs.Claimed.{next_of, none_left}
use Rattle.bayou_streams.specs.Account.{account}
use Rattle.bayou_connect.proofs.desk.PersonDesk.tell_servers.Goals as goal

pub loop-server-preserved : goal.loop-server-preserved
loop-server-preserved g c =
    let servers = c.deref-server-items.result.now in
    let old = c.loop-server.self in
    let told = c.tell_server.new.self in
    let before = account g.W.Write.contents c.loop-server.output in
    let line = account g.W.Write.contents c.tell_server.new.output in
    let at = c.loop-server.server-index in
    λ new after rest. c.loop-server.invariant new after
    (subst (λ (ss : List ServerId). TellServers ss old new before after) (sym (next_of servers at c.server-item.result c.loop-server-test.true))
    (tells_on (get_or servers at c.server-item.result) (drop (at + 1) servers) old told new before line after
    (subst (λ (s : ServerId). TellsServer s old told before line) c.server-item.is c.in_ok-tell_server.ensures) rest))

pub returns : goal.returns
returns g c =
    let servers = c.deref-server-items.result.now in
    let desk = c.loop-server.self in
    let line = account g.W.Write.contents c.loop-server.output in
    let over : length servers ≤ c.loop-server.server-index = omega (arith, c.loop-server-test.false) in
    subst (λ (ss : List ServerId). TellServers ss c.args.self.now desk (account g.W.Write.contents c.args.output.now) line) (c.deref-server-items.ensures.value ∙ c.in_ok-servers.ensures)
    (c.loop-server.invariant desk line
    (subst (λ (ss : List ServerId). TellServers ss desk desk line line) (sym (none_left servers c.loop-server.server-index over)) (tells_none desk line)))
