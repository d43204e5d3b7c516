use Rattle.std.proofs.Common.{rules, ◌++◌, inl, inr, sym, ap, decimal}
use Rattle.std.specs.Fmt.{HasWritten}
use Rattle.std.proofs.Output.{has_written_append, has_written_of_eq}
use Rattle.bayou_print.proofs.Joined.{counts_more}
use Rattle.bayou_print.proofs.printed.CountsDisplay.fmt.Goals as goal
use Rattle.bayou_print.proofs.printed.CountsDisplay.fmt.Goals.{then-index-gt0, else-index-gt0}

pub loop-index-preserved : goal.loop-index-preserved
loop-index-preserved g c p =
    let more = counts_more c.loop-index.index c.args.self.now.vector.now c.if-index-gt0.separator.now
    (elim c.if-index-gt0.branch [
      | then-index-gt0 w ↦ inl (w.if-index-gt0.true, ap (λ s. s.now) w.separator-is)
      | else-index-gt0 w ↦ inr (w.if-index-gt0.false, ap (λ s. s.now) w.separator-is)
    ]) in
    let text = c.if-index-gt0.separator.now ++ decimal c.get-count.result in
    let written : HasWritten g.W.Write.write_str_gives c.loop-index.f text c.write.new.self =
    let before = c.loop-index.invariant p in search (rules, before.plain) in
    has_written_of_eq _ _ _ _ _ (rw c.get-count.ensures.value (sym more))
    (has_written_append _ _ _ _ _ _ (c.loop-index.invariant p) written)
