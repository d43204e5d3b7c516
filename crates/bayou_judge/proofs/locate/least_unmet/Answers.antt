use Rattle.std.proofs.Common.{◌≡◌, ◌++◌, ◌∷◌, [], ◌<◌, length, get_or, take, ap, sym, ◌∙◌, subst, arith}
use Rattle.std.proofs.lemmas.List.{take_more}
use Rattle.bayou_judge.specs.Inner.Needs.{IsLeastUnmet}
use Rattle.bayou_judge.proofs.locate.least_unmet.Goals as goal

pub loop-write-preserved : goal.loop-write-preserved
loop-write-preserved c =
    let dump = c.args.dump.now in
    let k = c.loop-write.write-index in
    let within : k < length dump = omega (arith, c.loop-write-test.true) in
    let more = take_more dump k c.write-item.result within in
    let item : get_or dump k c.write-item.result ≡ c.write-item.result = sym c.write-item.is in
    subst (λ list. IsLeastUnmet list c.args.what.now c.args.demand.now c.with_write-least.result) (sym (more ∙ ap (λ write. take k dump ++ write ∷ []) item))
    (c.with_write-least.ensures (take k dump) c.loop-write.invariant)
