use Rattle.std.proofs.Common.{arith, ◌++◌, inl, refl}
use Rattle.std.proofs.lemmas.Result.{err_from_is_err_and}
use Rattle.bayou_peer.proofs.Received.{few_items, received_more, received_rest}
use Rattle.bayou_peer.proofs.pulling.take_piece.Goals as goal

pub returns-in_err-front-clause-goes : goal.returns-in_err-front-clause-goes
returns-in_err-front-clause-goes g c start read held partial waits before =
    let piece = c.args.piece.now in
    let refused = c.in_err-front.ensures.refused in
    let p = err_from_is_err_and c.from_residual.result c.from_residual.ensures.1 in
    rw (p.1, p.2, refused) (held ++ piece, received_more _ start _ read held piece _ _ before, refl)

pub take_came-requires : goal.take_came-requires
take_came-requires g c =
    let (held, partial, waits, few) = c.requires.few in
    let items = c.in_ok-front.field-0.front.items.items in
    let gathers = c.in_ok-front.ensures.comes held partial waits in
    let sixteenth = few_items held c.args.piece.now gathers.comes.rest gathers.came gathers.front.rest items c.args.pulled.now.taken c.args.pulled.now.had _ gathers.comes.whole gathers.front.split few in
    record {
      few = omega (arith, sixteenth);
      other = c.in_ok-front.ensures.other;
    }

pub returns-in_err-take_came-clause-goes : goal.returns-in_err-take_came-clause-goes
returns-in_err-take_came-clause-goes g c start read held partial waits before =
    let piece = c.args.piece.now in
    let gathers = c.in_ok-front.ensures.comes held partial waits in
    let comes = gathers.comes in
    let stands = received_rest _ start _ _ _ _ _ _ comes.whole (received_more _ start _ read held piece _ _ before) in
    let went = c.in_err-take_came.ensures.goes start (read ++ piece) comes.rest gathers.came comes.each gathers.front stands in
    let p = err_from_is_err_and c.from_residual-in_err-take_came.result c.from_residual-in_err-take_came.ensures.1 in
    rw (p.1, p.2) went

pub returns-then-branch-clause-goes : goal.returns-then-branch-clause-goes
returns-then-branch-clause-goes g c start read held partial waits before =
    let piece = c.args.piece.now in
    let gathers = c.in_ok-front.ensures.comes held partial waits in
    let comes = gathers.comes in
    let stands = received_rest _ start _ _ _ _ _ _ comes.whole (received_more _ start _ read held piece _ _ before) in
    let went = c.in_ok-take_came.ensures.goes start (read ++ piece) comes.rest gathers.came comes.each gathers.front stands in
    rw c.if-branch.true at went

pub returns-then-is_bad-clause-goes : goal.returns-then-is_bad-clause-goes
returns-then-is_bad-clause-goes g c start read held partial waits before =
    let piece = c.args.piece.now in
    let gathers = c.in_ok-front.ensures.comes held partial waits in
    let comes = gathers.comes in
    let stands = received_rest _ start _ _ _ _ _ _ comes.whole (received_more _ start _ read held piece _ _ before) in
    let went = c.in_ok-take_came.ensures.goes start (read ++ piece) comes.rest gathers.came comes.each gathers.front stands in
    let received = rw c.if-branch.false at went in
    rw c.from.ensures (comes.rest, inl (comes.bad c.if-is_bad.true), received, refl)

pub returns-clause-goes : goal.returns-clause-goes
returns-clause-goes g c start read held partial waits before =
    let piece = c.args.piece.now in
    let gathers = c.in_ok-front.ensures.comes held partial waits in
    let comes = gathers.comes in
    let stands = received_rest _ start _ _ _ _ _ _ comes.whole (received_more _ start _ read held piece _ _ before) in
    let went = c.in_ok-take_came.ensures.goes start (read ++ piece) comes.rest gathers.came comes.each gathers.front stands in
    let received = rw c.if-branch.false at went in
    let (less, now) = comes.waits c.if-is_bad.false in
    record { held = comes.rest; partial = less; waits = now; received = received }
