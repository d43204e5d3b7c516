use Rattle.std.proofs.Common.{rules, ◌≡◌, ◌∙◌, ap, max, refl, sym}
use Rattle.bayou_base.specs.Vector.{Covers}
use Rattle.bayou_explain.proofs.Counting.{clock_in, clock_out}
use Rattle.bayou_explain.proofs.Found.{not_told}
use Rattle.bayou_explain.proofs.counted.clock_with.Goals as goal

pub returns-then-covers : goal.returns-then-covers
returns-then-covers c writes is =
    let write = c.args.write.now in
    let covers : Covers c.args.counts.now write.wid.origin.index write.wid.seq = search rules in
    let greater : c.max.result ≡ max c.args.clock write.stamp.clock = search rules in
    greater ∙ ap (λ n. max n write.stamp.clock) is ∙ sym (clock_in c.args.counts.now writes write covers)

pub returns-else-covers : goal.returns-else-covers
returns-else-covers c writes is =
    let write = c.args.write.now in
    let not : ¬ Covers c.args.counts.now write.wid.origin.index write.wid.seq = search rules in
    is ∙ sym (clock_out c.args.counts.now writes write not)
