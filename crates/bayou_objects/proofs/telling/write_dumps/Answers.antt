use Rattle.std.proofs.Common.{◌∙◌, ap, add-one, arith, get_or}
use Rattle.bayou_judge.specs.History.{lent_lists}
use Rattle.bayou_objects.specs.Objects.{held_json}
use Rattle.bayou_print.specs.Waiting.{stage}
use Rattle.bayou_objects.proofs.Sequence.{dump_at, dumps_more, dumps_part}
use Rattle.bayou_objects.proofs.telling.write_dumps.Goals as goal

pub loop-index-preserved : goal.loop-index-preserved
loop-index-preserved g c =
    let (before, ready) = c.loop-index.invariant in
    let now = stage g.W.Write.contents in
    let at = c.loop-index.index in
    let lists = lent_lists c.args.dumps.now in
    let is = ap (held_json c.args.count at)
    (dump_at c.args.dumps.now at c.index-dumps-from.result (omega (arith, c.loop-index-test.true, c.requires.dumps))
    (c.index-dumps-from.is ∙ ap (λ i. get_or c.args.dumps.now i c.index-dumps-from.result) c.from.ensures)) in (
      rw add-one
          (dumps_more c.args.count lists at (now c.args.output.now c.args.waiting.now) (now c.loop-index.output c.loop-index.waiting)
          (now c.write_each.new.output c.write_each.new.waiting) _ before is c.in_ok-write_each.ensures.whole),
      omega (arith, ready, c.in_ok-write_each.ensures.ready),
    )

pub returns-in_err-write_each-clause-part : goal.returns-in_err-write_each-clause-part
returns-in_err-write_each-clause-part g c =
    let (before, ready) = c.loop-index.invariant in
    let (missing, some) = c.in_err-write_each.ensures.part in
    let now = stage g.W.Write.contents in
    let at = c.loop-index.index in
    dumps_part c.args.count (lent_lists c.args.dumps.now) c.args.count at (now c.args.output.now c.args.waiting.now) (now c.loop-index.output c.loop-index.waiting)
    (now c.write_each.new.output c.write_each.new.waiting) _ missing (omega (arith, c.loop-index-test.true)) before
    (ap (held_json c.args.count at)
    (dump_at c.args.dumps.now at c.index-dumps-from.result (omega (arith, c.loop-index-test.true, c.requires.dumps))
    (c.index-dumps-from.is ∙ ap (λ i. get_or c.args.dumps.now i c.index-dumps-from.result) c.from.ensures))) some
