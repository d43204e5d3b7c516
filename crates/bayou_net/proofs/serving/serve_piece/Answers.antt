use Rattle.std.proofs.Common.{arith, ◌++◌, inl}
use Rattle.std.proofs.lemmas.Result.{err_from_is_err_and}
use Rattle.bayou_net.proofs.Done.{ends_wanting, few_requests, served_more, served_rest}
use Rattle.bayou_frames.specs.Framing.{Comes}
use Rattle.bayou_net.proofs.serving.serve_piece.Goals as goal

pub returns-in_err-came-clause-goes : goal.returns-in_err-came-clause-goes
returns-in_err-came-clause-goes g c start read held before partial waits prior =
    let piece = c.args.piece.now in
    let refused = c.in_err-came.ensures.refused in
    let p = err_from_is_err_and c.from_residual.result c.from_residual.ensures.1 in
    rw (p.1, p.2, refused.0) (ends_wanting _ start _ (read ++ piece) (held ++ piece) _ _ _ (served_more _ start _ read held piece _ _ _ prior))

pub serve_came-requires : goal.serve_came-requires
serve_came-requires g c =
    let (held, partial, waits, few) = c.requires.few in
    let comes : Comes held c.args.piece.now c.deref.result.now c.in_ok-came.came.is_bad c.feed_piece.new.frames = rw c.deref.ensures.value (c.in_ok-came.ensures.comes held partial waits) in
    let third = few_requests held c.args.piece.now comes.rest c.deref.result.now c.args.number.now _ comes.whole few in
    record { few = omega (arith, third) }

pub returns-in_err-serve_came-clause-goes : goal.returns-in_err-serve_came-clause-goes
returns-in_err-serve_came-clause-goes g c start read held before partial waits prior =
    let piece = c.args.piece.now in
    let comes : Comes held piece c.deref.result.now c.in_ok-came.came.is_bad c.feed_piece.new.frames = rw c.deref.ensures.value (c.in_ok-came.ensures.comes held partial waits) in
    let stands = served_rest _ start _ _ _ _ _ _ _ comes.whole (served_more _ start _ read held piece _ _ _ prior) in
    let went = c.in_err-serve_came.ensures.goes start (read ++ piece) comes.rest before comes.each stands in
    let p = err_from_is_err_and c.from_residual-in_err-serve_came.result c.from_residual-in_err-serve_came.ensures.1 in
    rw (p.1, p.2) went

pub returns-then-came-clause-goes : goal.returns-then-came-clause-goes
returns-then-came-clause-goes g c start read held before partial waits prior =
    let piece = c.args.piece.now in
    let comes : Comes held piece c.deref.result.now c.in_ok-came.came.is_bad c.feed_piece.new.frames = rw c.deref.ensures.value (c.in_ok-came.ensures.comes held partial waits) in
    let stands = served_rest _ start _ _ _ _ _ _ _ comes.whole (served_more _ start _ read held piece _ _ _ prior) in
    let went = c.in_ok-serve_came.ensures.goes start (read ++ piece) comes.rest before comes.each stands in
    (comes.rest, c.serve_came.new.number, inl (comes.bad c.if-came.true), went)

pub returns-clause-goes : goal.returns-clause-goes
returns-clause-goes g c start read held before partial waits prior =
    let piece = c.args.piece.now in
    let comes : Comes held piece c.deref.result.now c.in_ok-came.came.is_bad c.feed_piece.new.frames = rw c.deref.ensures.value (c.in_ok-came.ensures.comes held partial waits) in
    let stands = served_rest _ start _ _ _ _ _ _ _ comes.whole (served_more _ start _ read held piece _ _ _ prior) in
    let went = c.in_ok-serve_came.ensures.goes start (read ++ piece) comes.rest before comes.each stands in
    let (less, now) = comes.waits c.if-came.false in
    record { held = comes.rest; partial = less; waits = now; served = went }
