use Rattle.std.proofs.Common.{arith, [], Err, ◌≤◌, ◌++◌, length, take, refl, sym, subst, ◌∙◌, length-take, length-append}
use Rattle.std.proofs.KnownBytes.{Consumes-kept, Consumes-nil, Consumes-trans}
use Rattle.std.specs.Io.KnownBytes.{Consumes, IsAtEnd}
use Rattle.std.proofs.lemmas.Result.{err_from_is_err_and}
use Rattle.bayou_base.specs.declared.limits.TheConstants.{READ_BYTES}
use Rattle.bayou_net.proofs.Done.{ends_anywhere, ends_reading, few_served, served_at, waiting_start}
use Rattle.bayou_net.specs.Serving.{ServeEnds, Steps}
use Rattle.bayou_net.proofs.serving.serve_on.Goals as goal

pub loop-frames-init : goal.loop-frames-init
loop-frames-init g c = record {
  went = ([], Consumes-nil _, waiting_start _ _ _ _ _ c.new-frames.ensures refl, omega arith);
  room = refl;
  fewer = omega arith;
}

pub returns-in_err-count-clause-serves : goal.returns-in_err-count-clause-serves
returns-in_err-count-clause-serves g c =
    let steps : Steps g.row.S.Denot = record { list = g.S.Replica.list; reads = g.S.Served.reads; writes = g.S.Served.writes; reopens = g.S.Served.reopens } in
    let (read, consumed, waiting, room) = c.loop-frames.invariant.went in
    let kept = Consumes-kept _ _ _ _ consumed c.in_err-count.ensures.bytes in
    let p = err_from_is_err_and c.from_residual.result c.from_residual.ensures.1 in
    let is_end = IsAtEnd (g.R.Read.remaining c.read_piece.new.channel.reader) in
    let ended = ends_reading {S = g.row.S.Denot} steps c.args.served.now c.loop-frames.served read _ c.loop-frames.number _ _ is_end c.in_err-count.field-0.0 c.in_err-count.ensures.fault waiting in
    let moved = subst (λ (w : g.row.W.Denot). ServeEnds {S = g.row.S.Denot} steps c.args.served.now c.loop-frames.served read (g.W.Write.contents c.args.channel.now.writer) (g.W.Write.contents w) is_end (Err c.in_err-count.field-0.0))
    (sym c.in_err-count.ensures.other.0) ended in
    (read, kept, rw (p.1, p.2) moved)

pub serve_piece-requires : goal.serve_piece-requires
serve_piece-requires g c =
    let (read, consumed, waiting, room) = c.loop-frames.invariant.went in
    let short : length (take c.in_ok-count.count c.read_piece.new.piece) ≤ READ_BYTES = omega (arith, length-take c.in_ok-count.count c.read_piece.new.piece, c.read_piece.ensures.size, c.loop-frames.invariant.room) in
    let few = few_served _ _ _ read waiting.held c.loop-frames.number _ _ waiting.served in
    record { few = (waiting.held, waiting.partial, waiting.waits, omega (arith, few, short, room, c.in_ok-count.ensures.spent, c.args.channel.now.in_budget)) }

pub loop-frames-preserved : goal.loop-frames-preserved
loop-frames-preserved g c =
    let (read, consumed, waiting, room) = c.loop-frames.invariant.went in
    let more = Consumes-trans _ _ _ _ _ consumed c.in_ok-count.ensures.bytes.0 in
    let some = length-take c.in_ok-count.count c.read_piece.new.piece in
    let at = served_at _ g.W.Write.contents _ _ read waiting.held c.loop-frames.number _ c.loop-frames.channel.writer c.read_piece.new.channel.writer c.read_piece.ensures.other.0 waiting.served in
    let went = c.in_ok-serve_piece.ensures.goes _ read waiting.held _ waiting.partial waiting.waits at in
    record {
      went = (
        read ++ take c.in_ok-count.count c.read_piece.new.piece,
        subst (λ (r : g.row.R.Denot). Consumes (g.R.Read.remaining c.args.channel.now.reader) (g.R.Read.remaining r) (read ++ take c.in_ok-count.count c.read_piece.new.piece)) (sym c.serve_piece.ensures.reader.0) more,
        went,
        omega (arith, room, some, c.read_piece.ensures.size, c.loop-frames.invariant.room, c.in_ok-count.ensures.spent, c.serve_piece.ensures.turns, length-append read (take c.in_ok-count.count c.read_piece.new.piece)),
      );
      room = c.read_piece.ensures.size ∙ c.loop-frames.invariant.room;
      fewer = omega (arith, c.loop-frames.invariant.fewer, c.read_piece.ensures.turns, c.serve_piece.ensures.turns);
    }

pub returns-in_err-serve_piece-clause-serves : goal.returns-in_err-serve_piece-clause-serves
returns-in_err-serve_piece-clause-serves g c =
    let steps : Steps g.row.S.Denot = record { list = g.S.Replica.list; reads = g.S.Served.reads; writes = g.S.Served.writes; reopens = g.S.Served.reopens } in
    let (read, consumed, waiting, room) = c.loop-frames.invariant.went in
    let more = Consumes-trans _ _ _ _ _ consumed c.in_ok-count.ensures.bytes.0 in
    let all = read ++ take c.in_ok-count.count c.read_piece.new.piece in
    let at = served_at _ g.W.Write.contents _ _ read waiting.held c.loop-frames.number _ c.loop-frames.channel.writer c.read_piece.new.channel.writer c.read_piece.ensures.other.0 waiting.served in
    let went = c.in_err-serve_piece.ensures.goes _ read waiting.held _ waiting.partial waiting.waits at in
    let p = err_from_is_err_and c.from_residual-in_err-serve_piece.result c.from_residual-in_err-serve_piece.ensures.1 in
    let ended = ends_anywhere {S = g.row.S.Denot} steps c.args.served.now c.serve_piece.new.served all (g.W.Write.contents c.args.channel.now.writer) (g.W.Write.contents c.serve_piece.new.channel.writer)
    (IsAtEnd (g.R.Read.remaining c.serve_piece.new.channel.reader)) c.in_err-serve_piece.field-0.0 went in (
      all,
      subst (λ (r : g.row.R.Denot). Consumes (g.R.Read.remaining c.args.channel.now.reader) (g.R.Read.remaining r) all) (sym c.serve_piece.ensures.reader.0) more,
      rw (p.1, p.2) ended,
    )
