use Rattle.std.proofs.Common.{◌∙◌, ap, arith, vec_items}
use Rattle.std.proofs.Math.Seq.{map-set_same}
use Rattle.bayou_log.specs.Inner.Index.{Rows}
use Rattle.bayou_log.proofs.Rooms.{length_kept, one_more_has}
use Rattle.bayou_log.proofs.index.Index.reserve.Goals as goal

pub returns-in_err-try_reserve-clause-same : goal.returns-in_err-try_reserve-clause-same
returns-in_err-try_reserve-clause-same c =
    map-set_same vec_items c.loop-server.self-inside.places c.loop-server.server c.try_reserve.new.self c.index-self-server.result c.try_reserve.ensures.items
    ∙ c.loop-server.invariant.0 ∙ ap (λ (rows : Rows). rows.rows) c.self.view_is

pub loop-server-preserved : goal.loop-server-preserved
loop-server-preserved c =
    let places = c.loop-server.self-inside.places in
    let at = c.loop-server.server in
    let (same, number, none, before) = c.loop-server.invariant in (
      map-set_same vec_items places at c.try_reserve.new.self c.index-self-server.result c.try_reserve.ensures.items ∙ same,
      length_kept places at c.try_reserve.new.self ∙ number,
      none,
      one_more_has places at c.try_reserve.new.self (omega (arith, c.loop-server-test.true, number)) (omega (arith, c.in_ok-try_reserve.ensures.ok, c.try_reserve.ensures.len)) before,
    )
