use Rattle.std.proofs.Common.{◌≡◌, ◌++◌, arith, refl, Err, ap, length, length-append, []}
use Rattle.std.proofs.lemmas.Result.{err_from_is_err_and}
use Rattle.bayou_peer.proofs.Received.{ends_anywhere, few_received, standing_start, stands}
use Rattle.bayou_peer.proofs.Short.{goes_on, none_left, some_left}
use Rattle.bayou_peer.proofs.pulling.take_answer.Goals as goal

pub loop-rest-init : goal.loop-rest-init
loop-rest-init g c = record { went = ([], refl, standing_start _ _ _ _ c.new-frames.ensures refl refl) }

pub take_piece-requires : goal.take_piece-requires
take_piece-requires g c =
    let (read, whole, standing) = c.loop-rest.invariant.went in
    let few = few_received _ _ _ read standing.held c.loop-rest.pulled.taken c.loop-rest.pulled.had standing.received in
    let all = length-append read c.loop-rest.rest.now in
    record {
      few = (
        standing.held,
        standing.partial,
        standing.waits,
        omega (arith, few, all, ap length whole, c.requires.few, c.split_at.ensures.front_len, c.split_at.ensures.back_len),
      );
    }

pub returns-in-Err-clause-ends : goal.returns-in-Err-clause-ends
returns-in-Err-clause-ends g c =
    let (read, whole, standing) = c.loop-rest.invariant.went in
    let went = c.in-Err.ensures.goes _ read standing.held standing.partial standing.waits standing.received in (
      read ++ c.split_at.result.0.now,
      c.split_at.result.1.now,
      goes_on c.args.answer.now read c.loop-rest.rest.now c.min.result c.split_at.result.0.now c.split_at.result.1.now whole c.split_at.ensures.front c.split_at.ensures.back,
      rw c.behind.ensures (ends_anywhere {S = g.row.P.Denot} (record { list = g.P.Replica.list; takes = g.P.Replica.takes }) c.args.replica.now c.take_piece.new.replica (read ++ c.split_at.result.0.now)
          (c.split_at.result.1.now ≡ []) c.take_piece.new.pulled c.in-Err.stop.refused c.in-Err.stop.fault went),
    )

pub returns-in-Ok-true-clause-ends : goal.returns-in-Ok-true-clause-ends
returns-in-Ok-true-clause-ends g c =
    let (read, whole, standing) = c.loop-rest.invariant.went in
    let went = c.in-Ok-true.ensures.goes _ read standing.held standing.partial standing.waits standing.received in (
      read ++ c.split_at.result.0.now,
      c.split_at.result.1.now,
      goes_on c.args.answer.now read c.loop-rest.rest.now c.min.result c.split_at.result.0.now c.split_at.result.1.now whole c.split_at.ensures.front c.split_at.ensures.back,
      rw c.in-Ok-true.field-0-test at went,
    )

pub loop-rest-smaller : goal.loop-rest-smaller
loop-rest-smaller g c =
    let some = some_left c.loop-rest.rest.now (c.is_empty.ensures) c.loop-rest-test.true in
    omega (arith, some, c.min.ensures, c.split_at.ensures.back_len)

pub loop-rest-preserved : goal.loop-rest-preserved
loop-rest-preserved g c =
    let (read, whole, standing) = c.loop-rest.invariant.went in
    let went = c.in-Ok-false.ensures.goes _ read standing.held standing.partial standing.waits standing.received in
    record {
      went = (
        read ++ c.split_at.result.0.now,
        goes_on c.args.answer.now read c.loop-rest.rest.now c.min.result c.split_at.result.0.now c.split_at.result.1.now whole c.split_at.ensures.front c.split_at.ensures.back,
        rw c.in-Ok-false.field-0-test at went,
      );
    }

pub returns-clause-ends : goal.returns-clause-ends
returns-clause-ends g c =
    let (read, whole, standing) = c.loop-rest.invariant.went in
    (read, c.loop-rest.rest.now, whole, rw (c.behind-2.ensures, c.from.ensures) (none_left c.loop-rest.rest.now c.is_empty.ensures c.loop-rest-test.false, stands _ _ _ _ _ _ standing, refl))
