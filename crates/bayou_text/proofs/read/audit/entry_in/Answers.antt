use Rattle.std.proofs.Common.{arith, rules}
use Rattle.bayou_text.specs.Audit.{entry_in}
use Rattle.bayou_text.specs.Laws.Inner.Lists.{item_then, none_then}
use Rattle.bayou_text.proofs.read.audit.entry_in.Goals as goal

pub returns-in_ok-tried_in-in-len5 : goal.returns-in_ok-tried_in-in-len5
unfolding entry_in
returns-in_ok-tried_in-in-len5 c =
    let parts = c.args.parts.now in
    let members = item_then parts _ 0 c.session-item.result (omega arith) c.session-item.is
    (item_then parts _ 1 c.place-item.result (omega arith) c.place-item.is
    (item_then parts _ 2 c.asks-item.result (omega arith) c.asks-item.is
    (item_then parts _ 3 c.server-item.result (omega arith) c.server-item.is
    (item_then parts _ 4 c.word-item.result (omega arith) c.word-item.is
    (none_then parts 5 (omega arith)))))) in
    rw (members, ← c.in_ok-tried_in-in-len5.ensures) c.refused_in.ensures

pub returns-in_ok-tried_in-in-len7 : goal.returns-in_ok-tried_in-in-len7
unfolding entry_in
returns-in_ok-tried_in-in-len7 c =
    let parts = c.args.parts.now in
    let members = item_then parts _ 0 c.session-item-then-parts-lt8.result (omega arith) c.session-item-then-parts-lt8.is
    (item_then parts _ 1 c.place-item-then-parts-lt8.result (omega arith) c.place-item-then-parts-lt8.is
    (item_then parts _ 2 c.asks-item-then-parts-lt8.result (omega arith) c.asks-item-then-parts-lt8.is
    (item_then parts _ 3 c.server-item-then-parts-lt8.result (omega arith) c.server-item-then-parts-lt8.is
    (item_then parts _ 4 c.word-item-then-parts-lt8.result (omega arith) c.word-item-then-parts-lt8.is
    (item_then parts _ 5 c.key-item.result (omega arith) c.key-item.is
    (item_then parts _ 6 c.vector-item.result (omega arith) c.vector-item.is
    (none_then parts 7 (omega arith)))))))) in
    rw (members, ← c.in_ok-tried_in-in-len7.ensures) c.served_in.ensures

pub returns-in_ok-tried_in-in-len8 : goal.returns-in_ok-tried_in-in-len8
unfolding entry_in
returns-in_ok-tried_in-in-len8 c =
    let parts = c.args.parts.now in
    let members = item_then parts _ 0 c.session-item-then-parts-lt9.result (omega arith) c.session-item-then-parts-lt9.is
    (item_then parts _ 1 c.place-item-then-parts-lt9.result (omega arith) c.place-item-then-parts-lt9.is
    (item_then parts _ 2 c.asks-item-then-parts-lt9.result (omega arith) c.asks-item-then-parts-lt9.is
    (item_then parts _ 3 c.server-item-then-parts-lt9.result (omega arith) c.server-item-then-parts-lt9.is
    (item_then parts _ 4 c.word-item-then-parts-lt9.result (omega arith) c.word-item-then-parts-lt9.is
    (item_then parts _ 5 c.seq-item.result (omega arith) c.seq-item.is
    (item_then parts _ 6 c.clock-item.result (omega arith) c.clock-item.is
    (item_then parts _ 7 c.deps-item.result (omega arith) c.deps-item.is
    (none_then parts 8 (omega arith))))))))) in
    rw (members, ← c.in_ok-tried_in-in-len8.ensures) c.accepted_in.ensures

pub returns-in_err-tried_in-in-len8 : goal.returns-in_err-tried_in-in-len8
unfolding entry_in
returns-in_err-tried_in-in-len8 c =
    let parts = c.args.parts.now in
    let members = item_then parts _ 0 c.session-item-then-parts-lt9.result (omega arith) c.session-item-then-parts-lt9.is
    (item_then parts _ 1 c.place-item-then-parts-lt9.result (omega arith) c.place-item-then-parts-lt9.is
    (item_then parts _ 2 c.asks-item-then-parts-lt9.result (omega arith) c.asks-item-then-parts-lt9.is
    (item_then parts _ 3 c.server-item-then-parts-lt9.result (omega arith) c.server-item-then-parts-lt9.is
    (item_then parts _ 4 c.word-item-then-parts-lt9.result (omega arith) c.word-item-then-parts-lt9.is
    (item_then parts _ 5 c.seq-item.result (omega arith) c.seq-item.is
    (item_then parts _ 6 c.clock-item.result (omega arith) c.clock-item.is
    (item_then parts _ 7 c.deps-item.result (omega arith) c.deps-item.is
    (none_then parts 8 (omega arith))))))))) in
    rw (members, ← c.in_err-tried_in-in-len8.ensures) (search rules)
