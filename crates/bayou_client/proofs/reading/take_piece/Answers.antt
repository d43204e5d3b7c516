use Rattle.std.proofs.Common.{◌++◌}
use Rattle.std.proofs.lemmas.Result.{err_from_is_err_and}
use Rattle.bayou_frames.specs.Framing.{Comes}
use Rattle.bayou_client.proofs.Growing.{bad_behind, more, none_yet, not_between, rest_is, whole_at}
use Rattle.bayou_client.proofs.reading.take_piece.Goals as goal

pub returns-in_err-last-clause-takes : goal.returns-in_err-last-clause-takes
returns-in_err-last-clause-takes c read held partial waits before =
    let piece = c.args.piece.now in
    let comes : Comes held piece c.in_ok-came.came.frames.items c.in_ok-came.came.is_bad c.feed_piece.new.frames = c.in_ok-came.ensures.comes held partial waits in
    let stands = rest_is c.args.many (read ++ piece) c.args.writes.now.items _ _ comes.whole (more c.args.many read held piece c.args.writes.now.items before) in
    let went = c.in_err-last.ensures.takes (read ++ piece) comes.rest comes.each stands in
    let p = err_from_is_err_and c.from_residual-in_err-last.result c.from_residual-in_err-last.ensures.1 in
    rw (p.1, p.2) went

pub returns-then-came-clause-takes : goal.returns-then-came-clause-takes
returns-then-came-clause-takes c read held partial waits before =
    let piece = c.args.piece.now in
    let comes : Comes held piece c.in_ok-came.came.frames.items c.in_ok-came.came.is_bad c.feed_piece.new.frames = c.in_ok-came.ensures.comes held partial waits in
    let stands = rest_is c.args.many (read ++ piece) c.args.writes.now.items _ _ comes.whole (more c.args.many read held piece c.args.writes.now.items before) in
    let went = c.in_ok-last.ensures.takes (read ++ piece) comes.rest comes.each stands in
    let bad = comes.bad c.if-came.true in
    bad_behind c.args.many (read ++ piece) comes.rest c.take_came.new.writes.items c.in_ok-last.last bad.0 bad.1 went

pub returns-in_default-clause-takes : goal.returns-in_default-clause-takes
returns-in_default-clause-takes c read held partial waits before =
    let piece = c.args.piece.now in
    let comes : Comes held piece c.in_ok-came.came.frames.items c.in_ok-came.came.is_bad c.feed_piece.new.frames = c.in_ok-came.ensures.comes held partial waits in
    let stands = rest_is c.args.many (read ++ piece) c.args.writes.now.items _ _ comes.whole (more c.args.many read held piece c.args.writes.now.items before) in
    let went = c.in_ok-last.ensures.takes (read ++ piece) comes.rest comes.each stands in
    let less = comes.waits c.if-came.false in
    (comes.rest, less.0, less.1, none_yet c.args.many (read ++ piece) comes.rest c.take_came.new.writes.items c.in_ok-last.last c.in_default.is went)

pub returns-then-not-is_between-clause-takes : goal.returns-then-not-is_between-clause-takes
returns-then-not-is_between-clause-takes c read held partial waits before =
    let piece = c.args.piece.now in
    let comes : Comes held piece c.in_ok-came.came.frames.items c.in_ok-came.came.is_bad c.feed_piece.new.frames = c.in_ok-came.ensures.comes held partial waits in
    let stands = rest_is c.args.many (read ++ piece) c.args.writes.now.items _ _ comes.whole (more c.args.many read held piece c.args.writes.now.items before) in
    let went = c.in_ok-last.ensures.takes (read ++ piece) comes.rest comes.each stands in
    not_between c.args.many (read ++ piece) comes.rest c.feed_piece.new.frames c.take_came.new.writes.items c.in_ok-last.last c.in-Some.last c.in-Some.is (comes.waits c.if-came.false) c.if-not-is_between.ensures went

pub returns-clause-takes : goal.returns-clause-takes
returns-clause-takes c read held partial waits before =
    let piece = c.args.piece.now in
    let comes : Comes held piece c.in_ok-came.came.frames.items c.in_ok-came.came.is_bad c.feed_piece.new.frames = c.in_ok-came.ensures.comes held partial waits in
    let stands = rest_is c.args.many (read ++ piece) c.args.writes.now.items _ _ comes.whole (more c.args.many read held piece c.args.writes.now.items before) in
    let went = c.in_ok-last.ensures.takes (read ++ piece) comes.rest comes.each stands in
    whole_at c.args.many (read ++ piece) comes.rest c.feed_piece.new.frames c.take_came.new.writes.items c.in_ok-last.last c.in-Some.last c.in-Some.is (comes.waits c.if-came.false) (c.is_between.ensures.0 c.if-not-is_between.false) went
