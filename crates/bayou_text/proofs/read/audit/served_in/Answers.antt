use Rattle.std.proofs.Common.{sym, ◌∙◌}
use Rattle.bayou_text.specs.Audit.{served_in}
use Rattle.bayou_text.specs.Laws.Inner.Named.{told_is}
use Rattle.bayou_text.proofs.read.audit.served_in.Goals as goal

pub returns : goal.returns
unfolding served_in
returns c = rw (sym c.says.ensures ∙ c.if-not-says.false, ← c.in_ok-key.ensures, ← c.in_ok-vector.ensures) (told_is c.args.tried _ _ _)
