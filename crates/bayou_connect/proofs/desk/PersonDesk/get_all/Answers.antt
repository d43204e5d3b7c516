use Rattle.std.proofs.Common.{arith, ◌+◌, ◌≤◌, List, ℕ, drop, get_or, length, subst, sym}
use Rattle.bayou_connect.specs.Wishing.{GetsKey, GetsKeys}
use Rattle.bayou_connect.proofs.Claimed.{gets_none, gets_on, next_of, none_left}
use Rattle.bayou_streams.specs.Account.{account}
use Rattle.bayou_connect.proofs.desk.PersonDesk.get_all.Goals as goal

pub loop-key-preserved : goal.loop-key-preserved
loop-key-preserved g c =
    let keys = c.args.keys.now in
    let old = c.loop-key.self in
    let got = c.get_one.new.self in
    let before = account g.W.Write.contents c.loop-key.output in
    let line = account g.W.Write.contents c.get_one.new.output in
    let at = c.loop-key.key-index in
    λ new after rest. c.loop-key.invariant new after
    (subst (λ (ks : List (List ℕ)). GetsKeys ks old new before after) (sym (next_of keys at c.key-item.result c.loop-key-test.true))
    (gets_on (get_or keys at c.key-item.result) (drop (at + 1) keys) old got new before line after
    (subst (λ (k : List ℕ). GetsKey k old got before line) c.key-item.is c.in_ok-get_one.ensures) rest))

pub returns : goal.returns
returns g c =
    let desk = c.loop-key.self in
    let line = account g.W.Write.contents c.loop-key.output in
    let over : length c.args.keys.now ≤ c.loop-key.key-index = omega (arith, c.loop-key-test.false) in
    c.loop-key.invariant desk line
    (subst (λ (ks : List (List ℕ)). GetsKeys ks desk desk line line) (sym (none_left c.args.keys.now c.loop-key.key-index over)) (gets_none desk line))
