use Rattle.std.proofs.Common.{length, sym, subst}
use Rattle.bayou_world.specs.Faults.{AreFused}
use Rattle.bayou_world.specs.RunHistories.{IsRunHistory}
use Rattle.bayou_world.specs.Inner.Beginning.{IsLeft}
use Rattle.bayou_world.proofs.Charging.{fused}
use Rattle.bayou_world.proofs.Played.{history_is, if_ok}
use Rattle.bayou_world.proofs.Restarting.{charged_first}
use Rattle.bayou_world.proofs.world.run_with.Goals as goal

pub returns-clause-history : goal.returns-clause-history
returns-clause-history g c =
    let state = c.play_in_book.new.state in
    let booked = c.in_ok-replies.ensures.booked in
    if_ok (IsLeft state.servers.items state.served.items c.in_ok-replies.replies.items c.in_ok-replies.totals) (IsRunHistory c.args.world c.args.events.now)
    (λ history left. history_is c.args.world c.in_ok-state.state state booked.empty booked.full c.args.events.now c.in_ok-replies.replies.items c.in_ok-replies.totals history
    c.in_ok-state.ensures booked.begins booked.so_far left booked.counted) c.leave.result c.leave.ensures

pub returns-clause-fused : goal.returns-clause-fused
returns-clause-fused g c =
    let first = c.in_ok-state.ensures.started in
    let servers = c.in_ok-state.state.servers.items in
    let state = c.play_in_book.new.state in
    let charged = c.in_ok-replies.ensures.charged (charged_first c.args.world.count c.args.world.limit servers first) in
    if_ok (IsLeft state.servers.items state.served.items c.in_ok-replies.replies.items c.in_ok-replies.totals) (λ history. AreFused c.args.world.count c.args.events.now history.replies.items)
    (λ history left. subst (λ n. AreFused n c.args.events.now history.replies.items) first.many
    (subst (λ list. AreFused (length servers) c.args.events.now list) (sym left.replies)
    (fused (length servers) c.args.events.now c.in_ok-replies.replies.items state.servers.items charged left.ample))) c.leave.result c.leave.ensures
