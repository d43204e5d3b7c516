use Rattle.std.proofs.Common.{sym, ◌∙◌}
use Rattle.bayou_text.specs.Audit.{accepted_in}
use Rattle.bayou_text.specs.Laws.Inner.Named.{accepted_is}
use Rattle.bayou_text.proofs.read.audit.accepted_in.Goals as goal

pub returns : goal.returns
unfolding accepted_in
returns c =
    rw (sym c.says.ensures ∙ c.if-not-says.false, ← c.in_ok-seq_in.ensures.value, ← c.in_ok-clock_in.ensures.value, ← c.in_ok-deps.ensures)
    (accepted_is c.args.tried _ _ _ _ _ _ _)
