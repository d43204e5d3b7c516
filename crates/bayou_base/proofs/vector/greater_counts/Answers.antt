use Rattle.std.proofs.Common.{◌≡◌, length, sym, ◌∙◌, arith}
use Rattle.std.proofs.lemmas.Grind.{same_number_lists}
use Rattle.bayou_base.proofs.Counts.{get_or-joined, length-joined}
use Rattle.bayou_base.proofs.vector.greater_counts.Goals as goal

pub returns : goal.returns
returns c =
    let counts = c.args.counts.now in
    let others = c.args.others.now in
    let same : length counts ≡ length others = omega arith in
    same_number_lists _ _ (omega (arith, length-joined counts others same))
    (λ k within. c.loop-server.invariant.so_far k (omega (arith, length-joined counts others same)) ∙ sym (get_or-joined counts others k same))
